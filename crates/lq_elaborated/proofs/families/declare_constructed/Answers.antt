use Rattle.std.proofs.Common.{[], ◌∷◌, ◌++◌, sym, subst}
use Rattle.std.specs.Prelude.{map}
use Rattle.std.specs.List.{AllByRecursion}
use Rattle.lq_ast.specs.PlainCommands.{plain_constructor}
use Rattle.lq_calculus.specs.Declarations.{arity}
use Rattle.lq_terms.specs.Contexts.{context_of}
use Rattle.lq_terms.specs.Terms.{text_of, tree_of}
use Rattle.lq_env.specs.Environments.{IsEnv, env_of}
use Rattle.lq_env.specs.Families.{constructors_of}
use Rattle.lq_env.proofs.Grown.{IsEnv-grown}
use Rattle.lq_evars.specs.Places.{store_of}
use Rattle.lq_sessions.specs.Declaring.{constructors_work}
use Rattle.lq_declaring.specs.Constants.{Declares}
use Rattle.lq_declaring.specs.Families.{CanReadIt, family_rest}
use Rattle.lq_elaborated.proofs.FindLaws.{stops_first}
use Rattle.lq_elaborated.proofs.DefineLaws.{declares_rest}
use Rattle.lq_elaborated.proofs.InductiveLaws.{rest_as, rest_derived, rest_extends, rest_kept}
use Rattle.lq_elaborated.proofs.MakingLaws.{readable_more}
use Rattle.lq_elaborated.proofs.families.declare_constructed.Goals as goal

pub declare_inductive-requires-clause-env : goal.declare_inductive-requires-clause-env
declare_inductive-requires-clause-env g c =
    subst (IsEnv c.constructors_inside.new.work.bank.now) (sym c.in-Ok.ensures.kept) (IsEnv-grown c.args.work.now.bank.now c.constructors_inside.new.work.bank.now c.in-Ok.ensures.grows c.args.env.now c.requires.env)

pub declare_inductive-requires-clause-store : goal.declare_inductive-requires-clause-store
declare_inductive-requires-clause-store g c =
    c.in-Ok.ensures.answer.store

pub declare_inductive-requires-clause-stored : goal.declare_inductive-requires-clause-stored
declare_inductive-requires-clause-stored g c =
    c.in-Ok.ensures.answer.grown.store

pub declare_inductive-requires-clause-arity : goal.declare_inductive-requires-clause-arity
declare_inductive-requires-clause-arity g c =
    readable_more c.args.work.now.bank.now c.constructors_inside.new.work.bank.now c.in-Ok.ensures.grows c.args.store.now c.constructors_inside.new.store c.in-Ok.ensures.answer.grown c.args.arity c.requires.arity

pub declare_inductive-requires-clause-constructors : goal.declare_inductive-requires-clause-constructors
declare_inductive-requires-clause-constructors g c =
    subst (AllByRecursion (CanReadIt c.constructors_inside.new.work.bank.now c.constructors_inside.new.store)) (sym c.constructors.ensures) c.in-Ok.ensures.answer.readable

pub returns-in-Ok-clause-answer : goal.returns-in-Ok-clause-answer
returns-in-Ok-clause-answer g c =
    declares_rest c.declare_inductive.new.work.bank.now (λ n. constructors_work ((env_of c.args.work.now.bank.now c.args.env.now) ++ ((text_of c.args.work.now.bank.now c.args.name), arity (tree_of c.args.work.now.bank.now c.args.kind)) ∷ []) n (context_of c.args.work.now.bank.now c.args.context.now) (store_of c.args.work.now.bank.now c.args.store.now) (map plain_constructor c.args.constructors.now)) (λ z. family_rest (env_of c.args.work.now.bank.now c.args.env.now) (text_of c.args.work.now.bank.now c.args.name) c.args.parameters z.0 (tree_of c.args.work.now.bank.now c.args.arity) z.1) c.args.work.now.ticks.now.left ((store_of c.constructors_inside.new.work.bank.now c.constructors_inside.new.store), (constructors_of c.constructors_inside.new.work.bank.now c.in-Ok.made)) c.constructors_inside.new.work.ticks.now.left c.declare_inductive.new.work.ticks.now.left c.declare_inductive.result c.declare_inductive.new.env c.in-Ok.ensures.answer.work
    (rest_as c.args.work.now.bank.now c.constructors_inside.new.work.bank.now c.declare_inductive.new.work.bank.now c.in-Ok.ensures.grows c.args.env.now c.constructors_inside.new.env c.declare_inductive.new.env c.in-Ok.ensures.kept c.requires.env c.declare_inductive.result c.args.name c.requires.name c.args.parameters (store_of c.constructors_inside.new.work.bank.now c.constructors_inside.new.store) c.args.arity c.requires.arity.has (constructors_of c.constructors_inside.new.work.bank.now c.in-Ok.made) c.constructors_inside.new.work.ticks.now.left c.declare_inductive.new.work.ticks.now.left
    (subst (λ z. Declares c.declare_inductive.new.work.bank.now c.declare_inductive.result c.declare_inductive.new.env (family_rest (env_of c.constructors_inside.new.work.bank.now c.constructors_inside.new.env) (text_of c.constructors_inside.new.work.bank.now c.args.name) c.args.parameters (store_of c.constructors_inside.new.work.bank.now c.constructors_inside.new.store) (tree_of c.constructors_inside.new.work.bank.now c.args.arity) (constructors_of c.constructors_inside.new.work.bank.now z)) c.constructors_inside.new.work.ticks.now.left c.declare_inductive.new.work.ticks.now.left) c.constructors.ensures c.declare_inductive.ensures.answer))

pub returns-in-Ok-clause-derived : goal.returns-in-Ok-clause-derived
returns-in-Ok-clause-derived g c =
    rest_derived c.args.work.now.bank.now c.constructors_inside.new.work.bank.now c.declare_inductive.new.work.bank.now c.in-Ok.ensures.grows c.args.env.now c.constructors_inside.new.env c.declare_inductive.new.env c.in-Ok.ensures.kept c.requires.env c.declare_inductive.result c.declare_inductive.ensures.derived

pub returns-in-Ok-clause-extends : goal.returns-in-Ok-clause-extends
returns-in-Ok-clause-extends g c =
    rest_extends c.args.work.now.bank.now c.constructors_inside.new.work.bank.now c.declare_inductive.new.work.bank.now c.in-Ok.ensures.grows c.args.env.now c.constructors_inside.new.env c.declare_inductive.new.env c.in-Ok.ensures.kept c.requires.env c.declare_inductive.result c.declare_inductive.ensures.extends

pub returns-in-Ok-clause-kept : goal.returns-in-Ok-clause-kept
returns-in-Ok-clause-kept g c =
    rest_kept c.args.work.now.bank.now c.constructors_inside.new.work.bank.now c.declare_inductive.new.work.bank.now c.in-Ok.ensures.grows c.args.env.now c.constructors_inside.new.env c.declare_inductive.new.env c.in-Ok.ensures.kept c.requires.env c.declare_inductive.result c.declare_inductive.ensures.kept

pub returns-in-Err-clause-answer : goal.returns-in-Err-clause-answer
returns-in-Err-clause-answer g c =
    stops_first c.constructors_inside.new.work.bank.now (λ n. constructors_work ((env_of c.args.work.now.bank.now c.args.env.now) ++ ((text_of c.args.work.now.bank.now c.args.name), arity (tree_of c.args.work.now.bank.now c.args.kind)) ∷ []) n (context_of c.args.work.now.bank.now c.args.context.now) (store_of c.args.work.now.bank.now c.args.store.now) (map plain_constructor c.args.constructors.now)) (λ z. family_rest (env_of c.args.work.now.bank.now c.args.env.now) (text_of c.args.work.now.bank.now c.args.name) c.args.parameters z.0 (tree_of c.args.work.now.bank.now c.args.arity) z.1) c.args.work.now.ticks.now.left c.constructors_inside.new.work.ticks.now.left c.in-Err.stop c.in-Err.ensures.answer

pub returns-in-Err-clause-env : goal.returns-in-Err-clause-env
returns-in-Err-clause-env g c =
    subst (IsEnv c.constructors_inside.new.work.bank.now) (sym c.in-Err.ensures.kept) (IsEnv-grown c.args.work.now.bank.now c.constructors_inside.new.work.bank.now c.in-Err.ensures.grows c.args.env.now c.requires.env)
