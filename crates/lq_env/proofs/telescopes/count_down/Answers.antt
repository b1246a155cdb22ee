use Rattle.std.proofs.Common.{arith, ap, ◌∙◌, ◌-◌, ◌++◌, map}
use Rattle.lq_terms.specs.Terms.{tree_of}
use Rattle.lq_calculus.specs.Declarations.{count_down}
use Rattle.lq_terms.proofs.Growth.{Grows-trans}
use Rattle.lq_env.proofs.Loops.{count_step, count_done, pushed_terms}
use Rattle.lq_env.proofs.telescopes.count_down.Goals as goal

pub loop-left-preserved : goal.loop-left-preserved
loop-left-preserved c = record {
  few = omega arith;
  grown = Grows-trans c.args.bank.now c.loop-left.bank c.make.new.self c.loop-left.invariant.grown c.make.ensures.grows;
  has = pushed_terms c.loop-left.bank c.make.new.self c.loop-left.variables.items c.push.new.self.items c.in_ok-variable.variable c.make.ensures.grows c.loop-left.invariant.has c.in_ok-variable.ensures.made.has c.in_ok-push.ensures.items;
  trees = ap (λ z. map (tree_of c.make.new.self) z ++ count_down (c.loop-left.left - 1)) c.in_ok-push.ensures.items ∙ count_step c.loop-left.bank c.make.new.self c.loop-left.variables.items c.in_ok-variable.variable (c.loop-left.left - 1) c.loop-left.left (count_down c.args.count) (omega arith) c.make.ensures.grows c.loop-left.invariant.has c.in_ok-variable.ensures.made c.loop-left.invariant.trees;
}

pub returns-clause-trees : goal.returns-clause-trees
returns-clause-trees c = count_done c.loop-left.bank c.loop-left.variables.items c.loop-left.left c.args.count c.loop-left-test.false c.loop-left.invariant.trees
