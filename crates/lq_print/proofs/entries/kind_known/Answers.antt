use Rattle.lq_terms.specs.Terms.{text_of, tree_of}
use Rattle.lq_env.specs.Environments.{IsOwn, env_of, kind_of}
use Rattle.lq_print.proofs.EntryLaws.{kind_some, kind_none}
use Rattle.lq_print.proofs.entries.kind_known.Goals as goal

pub returns-in-Some-clause-known : goal.returns-in-Some-clause-known
returns-in-Some-clause-known c =
    let own : IsOwn c.args.bank.now c.args.name = record { has = c.requires.name; apart = λ other h e. c.names_apart.ensures other c.args.name h c.requires.name e } in
    kind_some (text_of c.args.bank.now c.args.name) (kind_of (env_of c.args.bank.now c.args.env.now) (text_of c.args.bank.now c.args.name)) (tree_of c.args.bank.now c.in-Some.kind)
    (c.in-Some.ensures.told c.args.bank.now c.requires.env own).1

pub returns-in-None-clause-known : goal.returns-in-None-clause-known
returns-in-None-clause-known c =
    let own : IsOwn c.args.bank.now c.args.name = record { has = c.requires.name; apart = λ other h e. c.names_apart.ensures other c.args.name h c.requires.name e } in (
      c.requires.name,
      kind_none (text_of c.args.bank.now c.args.name) (kind_of (env_of c.args.bank.now c.args.env.now) (text_of c.args.bank.now c.args.name))
          (c.in-None.ensures.told c.args.bank.now c.requires.env own),
    )
