use Rattle.std.proofs.Common.{rules, ◌≡◌, ◌<◌, ◌∙◌, sym, ap, arith, length}
use Rattle.lq_unify_rows.proofs.Looking.{takes}
use Rattle.lq_unify_rows.proofs.looks.takes.Goals as goal

pub returns : goal.returns
returns c = λ p.
    let inside : c.args.variable < length c.args.store.now.variables = omega (arith, c.if-variable-count.false, c.count.ensures.length) in
    let many : length c.hypotheses.result.now ≡ c.args.many = search (rules, p) in
    takes c.args.bank.now c.args.store.now c.args.variable c.args.many c.context.result.now inside c.context.ensures.place (sym many ∙ ap length c.hypotheses.ensures)
