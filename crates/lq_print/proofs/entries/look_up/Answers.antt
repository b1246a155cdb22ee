use Rattle.lq_calculus.specs.Declarations.{lookup}
use Rattle.lq_terms.specs.Terms.{text_of}
use Rattle.lq_env.specs.Environments.{IsOwn, env_of}
use Rattle.lq_print.proofs.EntryLaws.{none_known, knows_same, constant_found, family_found, arity_found, constructor_found, eliminator_found}
use Rattle.lq_print.proofs.entries.look_up.Goals as goal

pub returns-in-Constant-clause-known : goal.returns-in-Constant-clause-known
returns-in-Constant-clause-known c =
    let own : IsOwn c.args.bank.now c.args.name = record { has = c.requires.name; apart = λ other h e. c.names_apart.ensures other c.args.name h c.requires.name e } in
    constant_found c.args.bank.now (env_of c.args.bank.now c.args.env.now) (text_of c.args.bank.now c.args.name) _ _ _ _ c.in-Constant.is (c.in-Some.ensures.told c.args.bank.now c.requires.env own)

pub returns-in-Family-clause-known : goal.returns-in-Family-clause-known
returns-in-Family-clause-known c =
    let own : IsOwn c.args.bank.now c.args.name = record { has = c.requires.name; apart = λ other h e. c.names_apart.ensures other c.args.name h c.requires.name e } in
    knows_same c.args.bank.now c.kind_known.result _ _ (family_found c.args.bank.now (env_of c.args.bank.now c.args.env.now) (text_of c.args.bank.now c.args.name) _ _ _ c.in-Family.is (c.in-Some.ensures.told c.args.bank.now c.requires.env own)) c.kind_known.ensures.known

pub returns-in-Arity-clause-known : goal.returns-in-Arity-clause-known
returns-in-Arity-clause-known c =
    let own : IsOwn c.args.bank.now c.args.name = record { has = c.requires.name; apart = λ other h e. c.names_apart.ensures other c.args.name h c.requires.name e } in
    knows_same c.args.bank.now c.kind_known-in-Arity.result _ _ (arity_found c.args.bank.now (env_of c.args.bank.now c.args.env.now) (text_of c.args.bank.now c.args.name) _ _ c.in-Arity.is (c.in-Some.ensures.told c.args.bank.now c.requires.env own)) c.kind_known-in-Arity.ensures.known

pub returns-in-Constructor-clause-known : goal.returns-in-Constructor-clause-known
returns-in-Constructor-clause-known c =
    let own : IsOwn c.args.bank.now c.args.name = record { has = c.requires.name; apart = λ other h e. c.names_apart.ensures other c.args.name h c.requires.name e } in
    knows_same c.args.bank.now c.kind_known-in-Constructor.result _ _ (constructor_found c.args.bank.now (env_of c.args.bank.now c.args.env.now) (text_of c.args.bank.now c.args.name) _ _ _ c.in-Constructor.is (c.in-Some.ensures.told c.args.bank.now c.requires.env own)) c.kind_known-in-Constructor.ensures.known

pub returns-in-Eliminator-clause-known : goal.returns-in-Eliminator-clause-known
returns-in-Eliminator-clause-known c =
    let own : IsOwn c.args.bank.now c.args.name = record { has = c.requires.name; apart = λ other h e. c.names_apart.ensures other c.args.name h c.requires.name e } in
    knows_same c.args.bank.now c.eliminator_known.result _ _ (eliminator_found c.args.bank.now (env_of c.args.bank.now c.args.env.now) (text_of c.args.bank.now c.args.name) _ _ _ c.in-Eliminator.is (c.in-Some.ensures.told c.args.bank.now c.requires.env own)) c.eliminator_known.ensures.known

pub returns-in-None-clause-known : goal.returns-in-None-clause-known
returns-in-None-clause-known c =
    let own : IsOwn c.args.bank.now c.args.name = record { has = c.requires.name; apart = λ other h e. c.names_apart.ensures other c.args.name h c.requires.name e } in
    (c.requires.name, none_known (env_of c.args.bank.now c.args.env.now) (text_of c.args.bank.now c.args.name) (lookup (env_of c.args.bank.now c.args.env.now) (text_of c.args.bank.now c.args.name)) (c.in-None.ensures.told c.args.bank.now c.requires.env own))
