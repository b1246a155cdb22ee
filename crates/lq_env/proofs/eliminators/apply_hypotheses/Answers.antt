use Rattle.std.proofs.Common.{arith, sym, ap, ◌∙◌, get_or}
use Rattle.lq_terms.specs.Contexts.{HasAllOf}
use Rattle.lq_terms.specs.Terms.{tree_of}
use Rattle.lq_terms.proofs.Growth.{Grows-trans, Grows-refl}
use Rattle.lq_env.proofs.Loops.{all_at, no_hypothesis}
use Rattle.lq_env.proofs.Applying.{hypotheses_step, apply-none, variables-none}
use Rattle.lq_calculus.specs.Contraction.{apply}
use Rattle.lq_env.proofs.eliminators.apply_hypotheses.Goals as goal

pub loop-hypothesis-init : goal.loop-hypothesis-init
loop-hypothesis-init c = record {
  grown = Grows-refl c.args.bank.now;
  whole = record { has = c.requires.function; is = sym (ap (apply (tree_of c.args.bank.now c.args.function)) variables-none ∙ apply-none (tree_of c.args.bank.now c.args.function)) };
}

pub apply_node-requires-clause-argument : goal.apply_node-requires-clause-argument
apply_node-requires-clause-argument c =
    let at : HasAllOf c.args.bank.now (get_or c.args.context.now c.loop-hypothesis.hypothesis-index no_hypothesis) =
    all_at (HasAllOf c.args.bank.now) c.args.context.now c.loop-hypothesis.hypothesis-index no_hypothesis c.requires.context c.loop-hypothesis-test.true in
    omega (arith, at.name, c.loop-hypothesis.invariant.grown.names)

pub loop-hypothesis-preserved : goal.loop-hypothesis-preserved
loop-hypothesis-preserved c = record {
  grown = Grows-trans c.args.bank.now c.loop-hypothesis.bank c.apply_node.new.bank c.loop-hypothesis.invariant.grown c.apply_node.ensures.grows;
  whole = hypotheses_step c.args.bank.now c.loop-hypothesis.bank c.apply_node.new.bank c.args.context.now c.loop-hypothesis.hypothesis-index (tree_of c.args.bank.now c.args.function) c.loop-hypothesis.whole c.in_ok-whole.whole c.loop-hypothesis-test.true
      c.requires.context c.loop-hypothesis.invariant.grown c.loop-hypothesis.invariant.whole c.in_ok-whole.ensures.made;
}
