use Rattle.std.proofs.Common.{subst, ◌∙◌}
use Rattle.lq_terms.specs.Terms.{IsName}
use Rattle.lq_terms.proofs.Growth.{Grows-refl, Grows-trans}
use Rattle.lq_prims.proofs.WrittenLaws.{none_placed, next_placed, all_placed}
use Rattle.lq_prims.proofs.written.places_of.Goals as goal

pub loop-name-init : goal.loop-name-init
loop-name-init c = record { places = none_placed c.args.bank.now c.new-places.result.items c.args.names.now c.new-places.ensures.items; grows = Grows-refl c.args.bank.now }

pub returns-in_err-place-clause-grows : goal.returns-in_err-place-clause-grows
returns-in_err-place-clause-grows c = Grows-trans c.args.bank.now c.loop-name.bank c.name.new.self c.loop-name.invariant.grows c.in_err-place.ensures.grows

pub returns-in_err-push-clause-grows : goal.returns-in_err-push-clause-grows
returns-in_err-push-clause-grows c = Grows-trans c.args.bank.now c.loop-name.bank c.name.new.self c.loop-name.invariant.grows c.in_ok-place.ensures.grows

pub loop-name-preserved : goal.loop-name-preserved
loop-name-preserved c =
    record {
      places = next_placed c.loop-name.bank c.name.new.self c.in_ok-place.ensures.grows c.loop-name.places.items c.push.new.self.items c.args.names.now c.loop-name.name-index c.name-item.result c.in_ok-place.place c.loop-name.invariant.places (subst (IsName c.name.new.self c.in_ok-place.place) (c.as_str.ensures ∙ c.name-item.is) c.in_ok-place.ensures.named) c.in_ok-push.ensures.items c.loop-name-test.true;
      grows = Grows-trans c.args.bank.now c.loop-name.bank c.name.new.self c.loop-name.invariant.grows c.in_ok-place.ensures.grows;
    }

pub returns-clause-places : goal.returns-clause-places
returns-clause-places c = all_placed c.loop-name.bank c.loop-name.places.items c.args.names.now c.loop-name.name-index c.loop-name.invariant.places c.loop-name-test.false

pub returns-clause-grows : goal.returns-clause-grows
returns-clause-grows c = c.loop-name.invariant.grows
