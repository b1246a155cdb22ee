use Rattle.std.proofs.Common.{rules, ◌≡◌, true}
use Rattle.std.specs.Prelude.{is_none}
use Rattle.lq_unify_rows.proofs.Looking.{no_value, apart}
use Rattle.lq_unify_rows.proofs.looks.is_open.Goals as goal

pub returns-then-variable-found : goal.returns-then-variable-found
returns-then-variable-found c = λ p.
    let none : is_none c.value.result ≡ true = search (rules, p, c.is_none.ensures) in (
      no_value c.args.bank.now c.args.store.now c.args.found c.value.result none (c.value.ensures.told c.args.bank.now c.requires),
      apart c.args.variable c.args.found (search (rules, c.if-variable-found.true)),
    )
