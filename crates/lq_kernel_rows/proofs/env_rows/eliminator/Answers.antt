use Rattle.std.proofs.Common.{◌∙◌, Some, ap}
use Rattle.lq_env.specs.Families.{family_of}
use Rattle.lq_env.specs.Environments.{IsOwn, entry_of}
use Rattle.lq_kernel_rows.proofs.env_rows.eliminator.Goals as goal

pub returns-in-Ok : goal.returns-in-Ok
returns-in-Ok c =
    let own : IsOwn c.args.bank.now c.args.family = record { has = c.requires.family; apart = c.text-text.ensures.apart } in
    let found = c.in-Some-Family.ensures.told c.args.bank.now c.requires.env own in
    (c.in-Ok.ensures.told c.args.bank.now (family_of c.args.bank.now c.in-Some-Family.field-0-0) c.in-Some-Family.field-0-1 c.requires.env own (c.is_sort.ensures c.if-not-is_sort.false) (found.1 ∙ ap (λ e. Some (entry_of c.args.bank.now e)) c.in-Some-Family.field-0-is)).1.term.has
