use Rattle.std.proofs.Common.{◌∙◌, sym, ap}
use Rattle.lq_terms.specs.Terms.{text_of}
use Rattle.lq_env.specs.Environments.{IsOwn, env_of}
use Rattle.lq_env.specs.Families.{family_of}
use Rattle.lq_print.proofs.EntryLaws.{none_eliminated, permitted_known, forbidden_known, constant_looks, arity_looks, constructor_looks, eliminator_looks, family_looks}
use Rattle.lq_print.proofs.entries.eliminator_known.Goals as goal

pub returns-in-Ok-clause-known : goal.returns-in-Ok-clause-known
returns-in-Ok-clause-known c =
    let own : IsOwn c.args.bank.now c.args.family = record { has = c.requires.family; apart = λ other h e. c.names_apart.ensures other c.args.family h c.requires.family e } in
    let is = family_looks c.args.bank.now (env_of c.args.bank.now c.args.env.now) (text_of c.args.bank.now c.args.name) (text_of c.args.bank.now c.args.family) c.args.sort c.in-Family.field-0 c.in-Family.field-1 _ c.in-Family.is (c.in-Some.ensures.told c.args.bank.now c.requires.env own) in
    let told = c.in-Ok.ensures.told c.args.bank.now (family_of c.args.bank.now c.in-Family.field-0) c.in-Family.field-1 c.requires.env own c.requires.sort is in
    permitted_known (env_of c.args.bank.now c.args.env.now) (text_of c.args.bank.now c.args.name) (text_of c.args.bank.now c.args.family) c.args.sort _ _ is told.0 ∙ ap (λ z. Rattle.std.specs.Prelude.Ok (z, Rattle.std.specs.Prelude.None)) (sym told.1.term.is)

pub returns-in-Ok-clause-has : goal.returns-in-Ok-clause-has
returns-in-Ok-clause-has c =
    let own : IsOwn c.args.bank.now c.args.family = record { has = c.requires.family; apart = λ other h e. c.names_apart.ensures other c.args.family h c.requires.family e } in
    let is = family_looks c.args.bank.now (env_of c.args.bank.now c.args.env.now) (text_of c.args.bank.now c.args.name) (text_of c.args.bank.now c.args.family) c.args.sort c.in-Family.field-0 c.in-Family.field-1 _ c.in-Family.is (c.in-Some.ensures.told c.args.bank.now c.requires.env own) in
    let told = c.in-Ok.ensures.told c.args.bank.now (family_of c.args.bank.now c.in-Family.field-0) c.in-Family.field-1 c.requires.env own c.requires.sort is in
    record { kind = told.1.term.has; body = tt }

pub returns-in-Err-clause-known : goal.returns-in-Err-clause-known
returns-in-Err-clause-known c =
    let own : IsOwn c.args.bank.now c.args.family = record { has = c.requires.family; apart = λ other h e. c.names_apart.ensures other c.args.family h c.requires.family e } in
    let is = family_looks c.args.bank.now (env_of c.args.bank.now c.args.env.now) (text_of c.args.bank.now c.args.name) (text_of c.args.bank.now c.args.family) c.args.sort c.in-Family.field-0 c.in-Family.field-1 _ c.in-Family.is (c.in-Some.ensures.told c.args.bank.now c.requires.env own) in
    let told = c.in-Err.ensures.told c.args.bank.now (family_of c.args.bank.now c.in-Family.field-0) c.in-Family.field-1 c.requires.env own c.requires.sort is in
    (c.requires.family, forbidden_known (env_of c.args.bank.now c.args.env.now) (text_of c.args.bank.now c.args.name) (text_of c.args.bank.now c.args.family) c.args.sort _ _ is told.0)

pub returns-in-Constant-clause-known : goal.returns-in-Constant-clause-known
returns-in-Constant-clause-known c =
    let own : IsOwn c.args.bank.now c.args.family = record { has = c.requires.family; apart = λ other h e. c.names_apart.ensures other c.args.family h c.requires.family e } in
    (c.requires.name, constant_looks c.args.bank.now (env_of c.args.bank.now c.args.env.now) (text_of c.args.bank.now c.args.name) (text_of c.args.bank.now c.args.family) c.args.sort _ _ _ _ c.in-Constant.is (c.in-Some.ensures.told c.args.bank.now c.requires.env own))

pub returns-in-Arity-clause-known : goal.returns-in-Arity-clause-known
returns-in-Arity-clause-known c =
    let own : IsOwn c.args.bank.now c.args.family = record { has = c.requires.family; apart = λ other h e. c.names_apart.ensures other c.args.family h c.requires.family e } in
    (c.requires.name, arity_looks c.args.bank.now (env_of c.args.bank.now c.args.env.now) (text_of c.args.bank.now c.args.name) (text_of c.args.bank.now c.args.family) c.args.sort _ _ c.in-Arity.is (c.in-Some.ensures.told c.args.bank.now c.requires.env own))

pub returns-in-Constructor-clause-known : goal.returns-in-Constructor-clause-known
returns-in-Constructor-clause-known c =
    let own : IsOwn c.args.bank.now c.args.family = record { has = c.requires.family; apart = λ other h e. c.names_apart.ensures other c.args.family h c.requires.family e } in
    (c.requires.name, constructor_looks c.args.bank.now (env_of c.args.bank.now c.args.env.now) (text_of c.args.bank.now c.args.name) (text_of c.args.bank.now c.args.family) c.args.sort _ _ _ c.in-Constructor.is (c.in-Some.ensures.told c.args.bank.now c.requires.env own))

pub returns-in-Eliminator-clause-known : goal.returns-in-Eliminator-clause-known
returns-in-Eliminator-clause-known c =
    let own : IsOwn c.args.bank.now c.args.family = record { has = c.requires.family; apart = λ other h e. c.names_apart.ensures other c.args.family h c.requires.family e } in
    (c.requires.name, eliminator_looks c.args.bank.now (env_of c.args.bank.now c.args.env.now) (text_of c.args.bank.now c.args.name) (text_of c.args.bank.now c.args.family) c.args.sort _ _ _ c.in-Eliminator.is (c.in-Some.ensures.told c.args.bank.now c.requires.env own))

pub returns-in-None-clause-known : goal.returns-in-None-clause-known
returns-in-None-clause-known c =
    let own : IsOwn c.args.bank.now c.args.family = record { has = c.requires.family; apart = λ other h e. c.names_apart.ensures other c.args.family h c.requires.family e } in
    (c.requires.name, none_eliminated (env_of c.args.bank.now c.args.env.now) (text_of c.args.bank.now c.args.name) (text_of c.args.bank.now c.args.family) c.args.sort (c.in-None.ensures.told c.args.bank.now c.requires.env own))
