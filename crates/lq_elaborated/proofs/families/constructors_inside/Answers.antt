use Rattle.std.proofs.Common.{[], ◌∷◌, ◌++◌, subst, sym}
use Rattle.std.specs.Prelude.{map}
use Rattle.lq_ast.specs.PlainCommands.{plain_constructor}
use Rattle.lq_calculus.specs.Declarations.{arity}
use Rattle.lq_causes.specs.Stopping.{Stops}
use Rattle.lq_terms.specs.Contexts.{context_of}
use Rattle.lq_terms.specs.Terms.{text_of, tree_of}
use Rattle.lq_env.specs.Environments.{env_of}
use Rattle.lq_evars.specs.Places.{store_of}
use Rattle.lq_kernel.proofs.Told.{own}
use Rattle.lq_sessions.specs.Declaring.{constructors_work}
use Rattle.lq_elaborated.specs.Families.{FindsConstructors}
use Rattle.lq_elaborated.proofs.OpenLaws.{closed_by, opened_is, opened_plain, opened_stops}
use Rattle.lq_elaborated.proofs.families.constructors_inside.Goals as goal

pub constructors_in-made-requires-clause-env : goal.constructors_in-made-requires-clause-env
constructors_in-made-requires-clause-env g c =
    (c.in-Ok.ensures.told c.args.work.now.bank.now c.requires.env (own c.args.work.now.bank.now c.args.name c.names_apart.ensures c.requires.name) (closed_by c.args.work.now.bank.now c.args.kind c.requires.kind c.requires.bare)).0

pub constructors_in-made-requires-clause-plain : goal.constructors_in-made-requires-clause-plain
constructors_in-made-requires-clause-plain g c =
    opened_plain c.args.work.now.bank.now c.open_family.new.self (env_of c.args.work.now.bank.now c.args.env.now) (text_of c.args.work.now.bank.now c.args.name) (tree_of c.args.work.now.bank.now c.args.kind) c.requires.new c.requires.plain c.requires.bare
    (c.in-Ok.ensures.told c.args.work.now.bank.now c.requires.env (own c.args.work.now.bank.now c.args.name c.names_apart.ensures c.requires.name) (closed_by c.args.work.now.bank.now c.args.kind c.requires.kind c.requires.bare))

pub returns-in-Ok-clause-answer : goal.returns-in-Ok-clause-answer
returns-in-Ok-clause-answer g c =
    subst (λ E. FindsConstructors c.constructors_in-made.new.work.bank.now (store_of c.args.work.now.bank.now c.args.store.now) c.constructors_in-made.new.store c.constructors_in-made.result
    (λ n. constructors_work E n (context_of c.args.work.now.bank.now c.args.context.now) (store_of c.args.work.now.bank.now c.args.store.now) (map plain_constructor c.args.constructors.now)) c.args.work.now.ticks.now.left c.constructors_in-made.new.work.ticks.now.left)
    (opened_is c.args.work.now.bank.now c.open_family.new.self (env_of c.args.work.now.bank.now c.args.env.now) (text_of c.args.work.now.bank.now c.args.name) (tree_of c.args.work.now.bank.now c.args.kind) c.requires.new
    (c.in-Ok.ensures.told c.args.work.now.bank.now c.requires.env (own c.args.work.now.bank.now c.args.name c.names_apart.ensures c.requires.name) (closed_by c.args.work.now.bank.now c.args.kind c.requires.kind c.requires.bare)))
    c.constructors_in-made.ensures.answer

pub returns-in-Err-clause-answer : goal.returns-in-Err-clause-answer
returns-in-Err-clause-answer g c =
    subst (λ z. Stops c.args.work.now.bank.now z (λ n. constructors_work (env_of c.args.work.now.bank.now c.args.env.now ++ (text_of c.args.work.now.bank.now c.args.name, arity (tree_of c.args.work.now.bank.now c.args.kind)) ∷ []) n
    (context_of c.args.work.now.bank.now c.args.context.now) (store_of c.args.work.now.bank.now c.args.store.now) (map plain_constructor c.args.constructors.now)) c.args.work.now.ticks.now.left c.args.work.now.ticks.now.left) (sym c.from.ensures)
    (opened_stops c.args.work.now.bank.now c.open_family.new.self (env_of c.args.work.now.bank.now c.args.env.now) (text_of c.args.work.now.bank.now c.args.name) (tree_of c.args.work.now.bank.now c.args.kind) c.requires.new
    (λ n. constructors_work (env_of c.args.work.now.bank.now c.args.env.now ++ (text_of c.args.work.now.bank.now c.args.name, arity (tree_of c.args.work.now.bank.now c.args.kind)) ∷ []) n
    (context_of c.args.work.now.bank.now c.args.context.now) (store_of c.args.work.now.bank.now c.args.store.now) (map plain_constructor c.args.constructors.now)) c.args.work.now.ticks.now.left c.args.work.now.ticks.now.left c.in-Err.fault
    (c.in-Err.ensures.told c.args.work.now.bank.now c.requires.env (own c.args.work.now.bank.now c.args.name c.names_apart.ensures c.requires.name) (closed_by c.args.work.now.bank.now c.args.kind c.requires.kind c.requires.bare)))
