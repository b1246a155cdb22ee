use Rattle.std.proofs.Common.{sym, ◌∙◌, ap, ◌+◌, drop, map}
use Rattle.std.specs.Prelude.{◌||◌}
use Rattle.lq_calculus.specs.Declarations.{any_holds}
use Rattle.lq_terms.specs.Terms.{text_of, tree_of}
use Rattle.lq_env.proofs.SpineLaws.{any_next, any_ended, no_term}
use Rattle.lq_env.proofs.spines.any_holds.Goals as goal

pub returns-then-branch : goal.returns-then-branch
returns-then-branch c =
    let x = text_of c.args.bank.now c.args.name in
    ap (λ z. z || any_holds x (map (tree_of c.args.bank.now) (drop (c.loop-term.term-index + 1) c.args.terms.now))) (sym c.if-branch.true ∙ c.in_ok-holds.ensures)
    ∙ sym (any_next c.args.bank.now x c.args.terms.now c.loop-term.term-index no_term c.loop-term-test.true) ∙ c.loop-term.invariant

pub loop-term-preserved : goal.loop-term-preserved
loop-term-preserved c =
    let x = text_of c.args.bank.now c.args.name in
    ap (λ z. z || any_holds x (map (tree_of c.args.bank.now) (drop (c.loop-term.term-index + 1) c.args.terms.now))) (sym c.if-branch.false ∙ c.in_ok-holds.ensures)
    ∙ sym (any_next c.args.bank.now x c.args.terms.now c.loop-term.term-index no_term c.loop-term-test.true) ∙ c.loop-term.invariant

pub returns : goal.returns
returns c = sym (any_ended c.args.bank.now (text_of c.args.bank.now c.args.name) c.args.terms.now c.loop-term.term-index c.loop-term-test.false) ∙ c.loop-term.invariant
