use Rattle.std.proofs.Common.{rules, ◌≡◌, ◌<◌, ◌∙◌, true, sym, subst, arith, length}
use Rattle.std.specs.Prelude.{is_none}
use Rattle.lq_terms.specs.Terms.{tree_of}
use Rattle.lq_terms.specs.Contexts.{HasContext}
use Rattle.lq_evars.proofs.ValueRead.{there, variable_has}
use Rattle.lq_unify_rows.proofs.Looking.{no_value, seen_value}
use Rattle.lq_unify_rows.proofs.looks.may_get.Goals as goal

pub stands-requires-clause-hypotheses : goal.stands-requires-clause-hypotheses
stands-requires-clause-hypotheses c =
    let inside : c.args.variable < length c.args.store.now.variables = omega (arith, c.if-variable-count.false, c.count.ensures.length) in
    let v = there c.args.store.now.variables c.args.variable inside in
    subst (HasContext c.args.bank.now) (sym (c.hypotheses-context.ensures ∙ c.context.ensures.place v.0 v.1)) (variable_has c.args.bank.now c.args.store.now.variables c.args.variable v.0 c.requires.store.variables v.1).context

pub returns-then-stands : goal.returns-then-stands
returns-then-stands c = λ p.
    let inside : c.args.variable < length c.args.store.now.variables = omega (arith, c.if-variable-count.false, c.count.ensures.length) in
    let none : is_none c.value.result ≡ true = search (rules, c.is_some.ensures, c.if-is_some.false) in
    seen_value c.args.bank.now c.args.store.now c.args.variable c.hypotheses-context.result.now (tree_of c.args.bank.now c.args.body) c.requires.kept inside (λ v e. c.hypotheses-context.ensures ∙ c.context.ensures.place v e)
    (no_value c.args.bank.now c.args.store.now c.args.variable c.value.result none (c.value.ensures.told c.args.bank.now c.requires.kept)) (c.stands.ensures c.if-stands.true) (c.is_free.ensures p)
