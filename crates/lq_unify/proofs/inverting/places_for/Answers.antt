use Rattle.std.proofs.Common.{◌≡◌, ◌∙◌, rules, ap, sym, arith, [], None}
use Rattle.std.proofs.Common.{subst as along}
use Rattle.lq_trees.specs.Tree.{value_of}
use Rattle.lq_terms.proofs.Growth.{Grows-refl, Grows-trans}
use Rattle.lq_unify.specs.Solutions.{places_of, HasPlaces}
use Rattle.lq_unify.proofs.InvertLaws.{none_behind, places_next}
use Rattle.lq_unify.proofs.inverting.places_for.Goals as goal

pub loop-i-init : goal.loop-i-init
loop-i-init c =
    let e : c.new-places.result.entries ≡ [] = search rules in record {
      within = omega arith;
      grows = Grows-refl c.args.bank.now;
      has = along (HasPlaces c.args.bank.now) (sym e) tt;
      are = λ x. ap (λ es. value_of (places_of c.args.bank.now es) x) e ∙ none_behind c.args.bank.now c.args.context.now c.args.entries.now x (omega arith);
    }

pub loop-i-preserved : goal.loop-i-preserved
loop-i-preserved c = record {
  within = omega (arith, c.loop-i.invariant.within);
  grows = Grows-trans c.args.bank.now c.loop-i.bank c.place.new.bank c.loop-i.invariant.grows c.in_ok-place.ensures.grows;
  has = c.in_ok-place.ensures.has;
  are = λ x. places_next c.args.bank.now c.args.context.now c.args.entries.now c.loop-i.bank c.place.new.bank c.loop-i.invariant.grows c.loop-i.i (record { name = record { place = 0 }; body = None; kind = record { place = 0 } }) (record { place = 0 }) c.loop-i-test.true c.loop-i.invariant.within c.requires.as_many c.requires.context c.requires.entries
      c.loop-i.places.entries c.place.new.places.entries c.loop-i.invariant.are (λ y. c.in_ok-place.ensures.placed y) x;
}
