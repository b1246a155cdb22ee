use Rattle.std.proofs.Common.{arith, sym}
use Rattle.lq_terms.specs.Terms.{tree_of}
use Rattle.lq_terms.proofs.Growth.{Grows-trans, Grows-refl}
use Rattle.lq_env.proofs.Applying.{places_step, apply-none}
use Rattle.lq_env.proofs.eliminators.apply_places.Goals as goal

pub loop-place-init : goal.loop-place-init
loop-place-init c = record {
  grown = Grows-refl c.args.bank.now;
  whole = record { has = c.requires; is = sym (apply-none (tree_of c.args.bank.now c.args.function)) };
}

pub loop-place-preserved : goal.loop-place-preserved
loop-place-preserved c = record {
  grown = Grows-trans c.args.bank.now c.loop-place.bank c.apply_node.new.bank c.loop-place.invariant.grown c.apply_node.ensures.grows;
  whole = places_step c.loop-place.bank c.apply_node.new.bank c.args.places.now c.loop-place.place-index c.args.inside 0 (tree_of c.args.bank.now c.args.function) c.loop-place.whole c.in_ok-whole.whole c.saturating_sub-index.result c.loop-place-test.true
      (omega (arith, c.saturating_sub-index.ensures, c.saturating_sub.ensures)) c.loop-place.invariant.whole c.in_ok-whole.ensures.made;
}
