use Rattle.std.proofs.Common.{sym, ap, arith, ◌∙◌, ◌+◌, drop, map}
use Rattle.std.specs.Prelude.{◌&&◌}
use Rattle.lq_terms.specs.Terms.{tree_of}
use Rattle.lq_terms.specs.Contexts.{context_of}
use Rattle.lq_calculus.specs.Declarations.{are_variables}
use Rattle.lq_env.proofs.FaultLaws.{variables_differ, variables_next, variables_ended}
use Rattle.lq_env.proofs.positivity.are_variables.Goals as goal

pub returns-then-context-terms : goal.returns-then-context-terms
returns-then-context-terms c = variables_differ c.args.bank.now c.args.context.now c.args.terms.now c.if-context-terms.true

pub returns-then-not-is_variable : goal.returns-then-not-is_variable
returns-then-not-is_variable c =
    ap (λ z. z && are_variables (context_of c.args.bank.now (drop (c.loop-i.i + 1) c.args.context.now)) (map (tree_of c.args.bank.now) (drop (c.loop-i.i + 1) c.args.terms.now)))
    (sym c.if-not-is_variable.true ∙ c.is_variable.ensures)
    ∙ sym (variables_next c.args.bank.now c.args.context.now c.args.terms.now c.loop-i.i c.loop-i-test.true (omega (arith, c.loop-i.invariant.many, c.loop-i-test.true))) ∙ c.loop-i.invariant.same

pub loop-i-preserved : goal.loop-i-preserved
loop-i-preserved c = record {
  many = c.loop-i.invariant.many;
  same = ap (λ z. z && are_variables (context_of c.args.bank.now (drop (c.loop-i.i + 1) c.args.context.now)) (map (tree_of c.args.bank.now) (drop (c.loop-i.i + 1) c.args.terms.now)))
      (sym c.if-not-is_variable.false ∙ c.is_variable.ensures)
      ∙ sym (variables_next c.args.bank.now c.args.context.now c.args.terms.now c.loop-i.i c.loop-i-test.true (omega (arith, c.loop-i.invariant.many, c.loop-i-test.true))) ∙ c.loop-i.invariant.same;
}

pub returns : goal.returns
returns c = variables_ended c.args.bank.now c.args.context.now c.args.terms.now c.loop-i.i c.loop-i-test.false c.if-context-terms.false ∙ c.loop-i.invariant.same
