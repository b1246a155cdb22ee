use Rattle.std.proofs.Common.{sym, subst}
use Rattle.std.specs.Prelude.{map}
use Rattle.lq_ast.specs.PlainCommands.{plain_constructor}
use Rattle.lq_terms.specs.Contexts.{context_of}
use Rattle.lq_terms.specs.Terms.{text_of, tree_of}
use Rattle.lq_env.specs.Environments.{env_of}
use Rattle.lq_env.proofs.Grown.{env_of-grown, IsEnv-grown}
use Rattle.lq_evars.specs.Places.{store_of}
use Rattle.lq_evars.proofs.Growing.{HasStore-grown, store_of-grown}
use Rattle.lq_goals.proofs.Seeing.{readable_grown}
use Rattle.lq_goals.proofs.Viewing.{kept_grown}
use Rattle.lq_kernel.proofs.Grown.{has_context}
use Rattle.lq_solving.specs.Claims.{ArePlainDeclarations}
use Rattle.lq_solving.specs.Kept.{IsContext}
use Rattle.lq_elaborated.proofs.DefineLaws.{derived_as}
use Rattle.lq_elaborated.proofs.InductiveLaws.{arity_bare, arity_parameters, behind_as, behind_stops, still_new}
use Rattle.lq_elaborated.proofs.families.declare_behind.Goals as goal

pub declare_constructed-requires-clause-env : goal.declare_constructed-requires-clause-env
declare_constructed-requires-clause-env g c =
    IsEnv-grown c.args.work.now.bank.now c.arity_read.new.bank c.in-Ok.ensures.grows c.args.env.now c.requires.env

pub declare_constructed-requires-clause-plain : goal.declare_constructed-requires-clause-plain
declare_constructed-requires-clause-plain g c =
    subst ArePlainDeclarations (sym (env_of-grown c.args.work.now.bank.now c.arity_read.new.bank c.in-Ok.ensures.grows c.args.env.now c.requires.env)) c.requires.plain

pub declare_constructed-requires-clause-new : goal.declare_constructed-requires-clause-new
declare_constructed-requires-clause-new g c =
    still_new c.args.work.now.bank.now c.arity_read.new.bank c.in-Ok.ensures.grows c.args.env.now c.requires.env c.args.name c.requires.name c.requires.new

pub declare_constructed-requires-clause-arity : goal.declare_constructed-requires-clause-arity
declare_constructed-requires-clause-arity g c =
    readable_grown c.args.work.now.bank.now c.arity_read.new.bank c.in-Ok.ensures.grows c.args.store.now c.requires.store c.args.arity c.requires.arity

pub declare_constructed-requires-clause-kind : goal.declare_constructed-requires-clause-kind
declare_constructed-requires-clause-kind g c =
    c.in-Ok.ensures.answer.read_is.has

pub declare_constructed-requires-clause-bare : goal.declare_constructed-requires-clause-bare
declare_constructed-requires-clause-bare g c =
    arity_bare c.arity_read.new.bank (store_of c.args.work.now.bank.now c.args.store.now) c.requires.stored (tree_of c.args.work.now.bank.now c.args.arity) c.requires.stands c.requires.fits c.args.parameters (c.in-Ok.kind, c.in-Ok.row) c.in-Ok.ensures.answer

pub declare_constructed-requires-clause-store : goal.declare_constructed-requires-clause-store
declare_constructed-requires-clause-store g c =
    HasStore-grown c.args.work.now.bank.now c.arity_read.new.bank c.in-Ok.ensures.grows c.args.store.now c.requires.store

pub declare_constructed-requires-clause-stored : goal.declare_constructed-requires-clause-stored
declare_constructed-requires-clause-stored g c =
    kept_grown c.args.work.now.bank.now c.arity_read.new.bank c.in-Ok.ensures.grows c.args.store.now c.requires.store c.requires.stored

pub declare_constructed-requires-clause-context : goal.declare_constructed-requires-clause-context
declare_constructed-requires-clause-context g c =
    has_context c.arity_read.new.bank c.in-Ok.row.parameters c.in-Ok.ensures.answer.row.parameters

pub declare_constructed-requires-clause-hypotheses : goal.declare_constructed-requires-clause-hypotheses
declare_constructed-requires-clause-hypotheses g c =
    subst (λ z. IsContext z (context_of c.arity_read.new.bank c.in-Ok.row.parameters)) (sym (store_of-grown c.args.work.now.bank.now c.arity_read.new.bank c.in-Ok.ensures.grows c.args.store.now c.requires.store)) (arity_parameters c.arity_read.new.bank (store_of c.args.work.now.bank.now c.args.store.now) c.requires.stored (tree_of c.args.work.now.bank.now c.args.arity) c.requires.stands c.requires.fits c.args.parameters (c.in-Ok.kind, c.in-Ok.row) c.in-Ok.ensures.answer)

pub returns-in-Ok-clause-answer : goal.returns-in-Ok-clause-answer
returns-in-Ok-clause-answer g c =
    behind_as c.args.work.now.bank.now c.arity_read.new.bank c.in-Ok.ensures.grows c.args.env.now c.requires.env c.args.name c.requires.name c.declare_constructed.new.work.bank.now c.declare_constructed.result c.declare_constructed.new.env c.args.parameters c.args.store.now c.requires.store c.args.arity c.requires.arity.has (c.in-Ok.kind, c.in-Ok.row) (map plain_constructor c.args.constructors.now) c.args.work.now.ticks.now.left c.declare_constructed.new.work.ticks.now.left c.in-Ok.ensures.answer c.declare_constructed.ensures.answer

pub returns-in-Ok-clause-derived : goal.returns-in-Ok-clause-derived
returns-in-Ok-clause-derived g c =
    derived_as c.args.work.now.bank.now c.arity_read.new.bank c.in-Ok.ensures.grows c.args.env.now c.requires.env (env_of c.declare_constructed.new.work.bank.now c.declare_constructed.new.env) c.declare_constructed.result c.declare_constructed.ensures.derived

pub returns-in-Err-clause-answer : goal.returns-in-Err-clause-answer
returns-in-Err-clause-answer g c =
    behind_stops (env_of c.args.work.now.bank.now c.args.env.now) (text_of c.args.work.now.bank.now c.args.name) c.args.parameters (store_of c.args.work.now.bank.now c.args.store.now) (tree_of c.args.work.now.bank.now c.args.arity) (map plain_constructor c.args.constructors.now) c.arity_read.new.bank c.in-Err.stop c.args.work.now.ticks.now.left c.args.work.now.ticks.now.left (c.in-Err.ensures.answer c.args.work.now.ticks.now.left)

pub returns-in-Err-clause-env : goal.returns-in-Err-clause-env
returns-in-Err-clause-env g c =
    IsEnv-grown c.args.work.now.bank.now c.arity_read.new.bank c.in-Err.ensures.grows c.args.env.now c.requires.env
