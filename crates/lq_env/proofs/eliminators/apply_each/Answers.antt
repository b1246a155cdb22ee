use Rattle.std.proofs.Common.{sym}
use Rattle.lq_terms.specs.Terms.{tree_of}
use Rattle.lq_terms.proofs.Growth.{Grows-trans, Grows-refl}
use Rattle.lq_env.proofs.Applying.{each_fits, each_step, apply-none}
use Rattle.lq_env.proofs.eliminators.apply_each.Goals as goal

pub apply_moved-requires-clause-index : goal.apply_moved-requires-clause-index
apply_moved-requires-clause-index c =
    each_fits c.args.bank.now c.loop-i.bank c.loop-i.invariant.grown c.args.places.now c.args.inside c.args.terms.now c.requires.terms c.loop-i.i c.loop-i-test.true c.requires.places c.requires.few c.requires.within c.requires.small

pub loop-i-preserved : goal.loop-i-preserved
loop-i-preserved c = record {
  grown = Grows-trans c.args.bank.now c.loop-i.bank c.apply_moved.new.bank c.loop-i.invariant.grown c.apply_moved.ensures.grows;
  whole = each_step c.args.bank.now c.loop-i.bank c.loop-i.invariant.grown c.args.places.now c.args.inside c.args.terms.now c.requires.terms c.loop-i.i c.loop-i-test.true c.apply_moved.new.bank _ c.loop-i.whole c.in_ok-whole.whole c.loop-i.invariant.whole c.in_ok-whole.ensures.made;
}

pub loop-i-init : goal.loop-i-init
loop-i-init c = record {
  grown = Grows-refl c.args.bank.now;
  whole = record { has = c.requires.function; is = sym (apply-none (tree_of c.args.bank.now c.args.function)) };
}
