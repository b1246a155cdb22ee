use Rattle.std.proofs.Common.{◌≡◌, ◌∙◌, [], None, refl, sym, ap, arith, rules}
use Rattle.std.proofs.Common.{subst as along}
use Rattle.lq_unify.specs.Holding.{has_no_place}
use Rattle.lq_unify.specs.Solutions.{places_of, HasPlaces}
use Rattle.lq_elab.proofs.NameLaws.{none_from, places_more, places_have}
use Rattle.lq_elab.proofs.naming.places_in.Goals as goal

pub loop-i-init : goal.loop-i-init
loop-i-init c =
    let e : c.new-places.result.entries ≡ [] = search rules in record {
      within = omega arith;
      has = along (HasPlaces c.args.bank.now) (sym e) tt;
      are = λ x. ap (λ es. has_no_place (places_of c.args.bank.now es) x) e ∙ none_from c.args.bank.now c.args.context.now x;
    }

pub loop-i-preserved : goal.loop-i-preserved
loop-i-preserved c = record {
  within = omega (arith, c.loop-i.invariant.within);
  has = places_have c.args.bank.now c.args.context.now c.requires c.names_apart.ensures _ (λ x y. refl) c.loop-i.places.entries c.insert.new.self.entries c.loop-i.i (record { name = record { place = 0 }; body = None; kind = record { place = 0 } }) c.loop-i-test.true c.loop-i.invariant.within c.loop-i.invariant.has c.in-Ok.ensures.entries;
  are = places_more c.args.bank.now c.args.context.now c.requires c.names_apart.ensures _ (λ x y. refl) c.loop-i.places.entries c.insert.new.self.entries c.loop-i.i (record { name = record { place = 0 }; body = None; kind = record { place = 0 } }) c.loop-i-test.true c.loop-i.invariant.within c.loop-i.invariant.has c.in-Ok.ensures.entries c.loop-i.invariant.are;
}
