use Rattle.std.proofs.Common.{◌∙◌, sym, ap, subst}
use Rattle.std.specs.List.{AllByRecursion}
use Rattle.lq_env.specs.Environments.{IsOwn}
use Rattle.lq_env.specs.Families.{HasConstructor, constructors_of}
use Rattle.lq_texts.specs.Printing.{nth_name}
use Rattle.lq_print.proofs.visiting.constructor_name.Goals as goal

pub nth_name-requires : goal.nth_name-requires
nth_name-requires c =
    let own : IsOwn c.args.bank.now c.args.family = record { has = c.requires.family; apart = λ other h e. c.names_apart.ensures other c.args.family h c.requires.family e } in
    let known = c.in-Some.ensures c.args.bank.now c.requires.env own in
    subst (AllByRecursion (HasConstructor c.args.bank.now)) (sym c.constructors.ensures) known.0

pub returns : goal.returns
returns c =
    let own : IsOwn c.args.bank.now c.args.family = record { has = c.requires.family; apart = λ other h e. c.names_apart.ensures other c.args.family h c.requires.family e } in
    let known = c.in-Some.ensures c.args.bank.now c.requires.env own in
    c.nth_name.ensures ∙ ap (λ cs. nth_name (constructors_of c.args.bank.now cs) c.args.index) c.constructors.ensures ∙ sym (known.1 c.args.index)
