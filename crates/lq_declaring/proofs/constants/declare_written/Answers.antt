use Rattle.std.proofs.Common.{false, [], ◌∷◌, sym, subst}
use Rattle.std.specs.Prelude.{OnOk}
use Rattle.lq_calculus.specs.Checking.{declare_constant}
use Rattle.lq_calculus.specs.Typing.{DerivedEnv}
use Rattle.lq_terms.specs.Terms.{text_of, tree_of}
use Rattle.lq_env.specs.Environments.{env_of}
use Rattle.lq_env.proofs.Grown.{env_of-grown, IsEnv-grown}
use Rattle.lq_solving.specs.Stores.{read}
use Rattle.lq_evars.specs.Places.{store_of}
use Rattle.lq_sessions.specs.Declaring.{constant_work, kernel_work}
use Rattle.lq_causes.specs.Stops.{store_stop}
use Rattle.lq_causes.specs.Stopping.{Stops}
use Rattle.lq_declaring.proofs.ConstantLaws.{stops_unsolved, stops_passed, constant_declared, constant_stops}
use Rattle.lq_declaring.proofs.constants.declare_written.Goals as goal

pub returns-in-Err-clause-answer : goal.returns-in-Err-clause-answer
returns-in-Err-clause-answer g c =
    constant_stops c.args.work.now.bank.now (env_of c.args.work.now.bank.now c.args.env.now) (text_of c.args.work.now.bank.now c.args.name) (store_of c.args.work.now.bank.now c.args.store.now) (tree_of c.args.work.now.bank.now c.args.kind) (tree_of c.args.work.now.bank.now c.args.body) (tree_of c.args.work.now.bank.now c.args.kind ∷ tree_of c.args.work.now.bank.now c.args.body ∷ []) c.args.work.now.ticks.now.left c.in-Err.stop
    (stops_unsolved c.args.work.now.bank.now (store_of c.args.work.now.bank.now c.args.store.now) (tree_of c.args.work.now.bank.now c.args.kind ∷ tree_of c.args.work.now.bank.now c.args.body ∷ []) (λ m. kernel_work (declare_constant (env_of c.args.work.now.bank.now c.args.env.now) m (text_of c.args.work.now.bank.now c.args.name) (read (store_of c.args.work.now.bank.now c.args.store.now) (tree_of c.args.work.now.bank.now c.args.kind)) (read (store_of c.args.work.now.bank.now c.args.store.now) (tree_of c.args.work.now.bank.now c.args.body)) false)) c.args.work.now.ticks.now.left c.in-Err.stop (c.in-Err.ensures c.args.work.now.bank.now c.requires.stored))

pub declared-requires-clause-env : goal.declared-requires-clause-env
declared-requires-clause-env g c = IsEnv-grown c.args.work.now.bank.now c.both_read.new.bank c.in-Ok-both_read.ensures.grows c.args.env.now c.requires.env

pub returns-in-Ok-both_read-clause-answer : goal.returns-in-Ok-both_read-clause-answer
returns-in-Ok-both_read-clause-answer g c =
    constant_declared c.args.work.now.bank.now c.both_read.new.bank c.declared.new.work.bank.now c.in-Ok-both_read.ensures.grows c.args.env.now c.declared.new.env c.requires.env c.args.name c.requires.name (store_of c.args.work.now.bank.now c.args.store.now) (tree_of c.args.work.now.bank.now c.args.kind) (tree_of c.args.work.now.bank.now c.args.body) (tree_of c.args.work.now.bank.now c.args.kind ∷ tree_of c.args.work.now.bank.now c.args.body ∷ []) c.in-Ok-both_read.kind c.in-Ok-both_read.body
    c.declared.result c.args.work.now.ticks.now.left c.declared.new.work.ticks.now.left (c.in-Ok.ensures c.args.work.now.bank.now c.requires.stored) c.in-Ok-both_read.ensures.read.2 c.in-Ok-both_read.ensures.read.0.is c.in-Ok-both_read.ensures.read.1.is
    c.declared.ensures.answer

pub returns-in-Ok-both_read-clause-derived : goal.returns-in-Ok-both_read-clause-derived
returns-in-Ok-both_read-clause-derived g c =
    subst (λ E. OnOk c.declared.result (DerivedEnv E → DerivedEnv (env_of c.declared.new.work.bank.now c.declared.new.env))) (env_of-grown c.args.work.now.bank.now c.both_read.new.bank c.in-Ok-both_read.ensures.grows c.args.env.now c.requires.env) c.declared.ensures.derived

pub returns-in-Err-both_read-clause-answer : goal.returns-in-Err-both_read-clause-answer
returns-in-Err-both_read-clause-answer g c =
    subst (λ z. Stops c.both_read.new.bank z (λ n. constant_work (env_of c.args.work.now.bank.now c.args.env.now) n (text_of c.args.work.now.bank.now c.args.name) (store_of c.args.work.now.bank.now c.args.store.now) (tree_of c.args.work.now.bank.now c.args.kind) (tree_of c.args.work.now.bank.now c.args.body) (tree_of c.args.work.now.bank.now c.args.kind ∷ tree_of c.args.work.now.bank.now c.args.body ∷ [])) c.args.work.now.ticks.now.left c.args.work.now.ticks.now.left) (sym c.from.ensures)
    (constant_stops c.both_read.new.bank (env_of c.args.work.now.bank.now c.args.env.now) (text_of c.args.work.now.bank.now c.args.name) (store_of c.args.work.now.bank.now c.args.store.now) (tree_of c.args.work.now.bank.now c.args.kind) (tree_of c.args.work.now.bank.now c.args.body) (tree_of c.args.work.now.bank.now c.args.kind ∷ tree_of c.args.work.now.bank.now c.args.body ∷ []) c.args.work.now.ticks.now.left (store_stop c.in-Err-both_read.fault)
    (stops_passed c.both_read.new.bank (store_of c.args.work.now.bank.now c.args.store.now) (tree_of c.args.work.now.bank.now c.args.kind ∷ tree_of c.args.work.now.bank.now c.args.body ∷ []) (λ m. kernel_work (declare_constant (env_of c.args.work.now.bank.now c.args.env.now) m (text_of c.args.work.now.bank.now c.args.name) (read (store_of c.args.work.now.bank.now c.args.store.now) (tree_of c.args.work.now.bank.now c.args.kind)) (read (store_of c.args.work.now.bank.now c.args.store.now) (tree_of c.args.work.now.bank.now c.args.body)) false)) c.args.work.now.ticks.now.left (c.in-Ok.ensures c.args.work.now.bank.now c.requires.stored) c.in-Err-both_read.fault c.in-Err-both_read.ensures.read))

pub returns-in-Err-both_read-clause-env : goal.returns-in-Err-both_read-clause-env
returns-in-Err-both_read-clause-env g c = IsEnv-grown c.args.work.now.bank.now c.both_read.new.bank c.in-Err-both_read.ensures.grows c.args.env.now c.requires.env
