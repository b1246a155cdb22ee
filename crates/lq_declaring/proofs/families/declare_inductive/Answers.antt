use Rattle.std.proofs.Common.{◌∙◌, sym, ap, subst, ◌∷◌}
use Rattle.std.specs.Prelude.{OnOk}
use Rattle.lq_trees.specs.Ticks.{◌>>=◌}
use Rattle.lq_calculus.specs.Checking.{declare_family}
use Rattle.lq_calculus.specs.Typing.{DerivedEnv}
use Rattle.lq_terms.specs.Terms.{text_of, tree_of}
use Rattle.lq_env.specs.Environments.{env_of}
use Rattle.lq_env.specs.Families.{constructors_of}
use Rattle.lq_env.proofs.Grown.{env_of-grown, IsEnv-grown}
use Rattle.lq_solving.specs.Stores.{read}
use Rattle.lq_evars.specs.Places.{store_of}
use Rattle.lq_sessions.specs.Declaring.{row_of, kernel_work, read_each, terms_of, family_by}
use Rattle.lq_causes.specs.Stopping.{Stops}
use Rattle.lq_declaring.specs.Families.{family_rest}
use Rattle.lq_declaring.proofs.ConstantLaws.{stops_unsolved, stops_passed}
use Rattle.lq_declaring.proofs.FamilyLaws.{read_grown, few_binders, family_declared, stops_no_row}
use Rattle.lq_declaring.proofs.families.declare_inductive.Goals as goal

pub returns-in-Err-clause-answer : goal.returns-in-Err-clause-answer
returns-in-Err-clause-answer g c =
    stops_unsolved c.args.work.now.bank.now (store_of c.args.work.now.bank.now c.args.store.now) ((tree_of c.args.work.now.bank.now c.args.arity) ∷ terms_of (constructors_of c.args.work.now.bank.now c.args.constructors.now)) (λ n. row_of c.args.parameters (read (store_of c.args.work.now.bank.now c.args.store.now) (tree_of c.args.work.now.bank.now c.args.arity)) >>= λ q. kernel_work (declare_family (env_of c.args.work.now.bank.now c.args.env.now) n (family_by (text_of c.args.work.now.bank.now c.args.name) q (read_each (store_of c.args.work.now.bank.now c.args.store.now) (constructors_of c.args.work.now.bank.now c.args.constructors.now))))) c.args.work.now.ticks.now.left c.in-Err.stop (c.in-Err.ensures c.args.work.now.bank.now c.requires.stored)

pub returns-in-Err-all_read-clause-answer : goal.returns-in-Err-all_read-clause-answer
returns-in-Err-all_read-clause-answer g c =
    subst (λ z. Stops c.all_read.new.bank z (family_rest (env_of c.args.work.now.bank.now c.args.env.now) (text_of c.args.work.now.bank.now c.args.name) c.args.parameters (store_of c.args.work.now.bank.now c.args.store.now) (tree_of c.args.work.now.bank.now c.args.arity) (constructors_of c.args.work.now.bank.now c.args.constructors.now)) c.args.work.now.ticks.now.left c.args.work.now.ticks.now.left) (sym c.from.ensures)
    (stops_passed c.all_read.new.bank (store_of c.args.work.now.bank.now c.args.store.now) ((tree_of c.args.work.now.bank.now c.args.arity) ∷ terms_of (constructors_of c.args.work.now.bank.now c.args.constructors.now)) (λ n. row_of c.args.parameters (read (store_of c.args.work.now.bank.now c.args.store.now) (tree_of c.args.work.now.bank.now c.args.arity)) >>= λ q. kernel_work (declare_family (env_of c.args.work.now.bank.now c.args.env.now) n (family_by (text_of c.args.work.now.bank.now c.args.name) q (read_each (store_of c.args.work.now.bank.now c.args.store.now) (constructors_of c.args.work.now.bank.now c.args.constructors.now))))) c.args.work.now.ticks.now.left (c.in-Ok.ensures c.args.work.now.bank.now c.requires.stored) c.in-Err-all_read.fault c.in-Err-all_read.ensures.read)

pub returns-in-Err-all_read-clause-env : goal.returns-in-Err-all_read-clause-env
returns-in-Err-all_read-clause-env g c = IsEnv-grown c.args.work.now.bank.now c.all_read.new.bank c.in-Err-all_read.ensures.grows c.args.env.now c.requires.env

pub declared-requires-clause-env : goal.declared-requires-clause-env
declared-requires-clause-env g c = IsEnv-grown c.all_read.new.bank c.row_of.new.bank c.in-Ok-row_of.ensures.grows c.args.env.now (IsEnv-grown c.args.work.now.bank.now c.all_read.new.bank c.in-Ok-all_read.ensures.grows c.args.env.now c.requires.env)

pub declared-requires-clause-few : goal.declared-requires-clause-few
declared-requires-clause-few g c = few_binders (store_of c.args.work.now.bank.now c.args.store.now) (tree_of c.args.work.now.bank.now c.args.arity) (terms_of (constructors_of c.args.work.now.bank.now c.args.constructors.now)) (tree_of c.all_read.new.bank c.in-Ok-all_read.read.0) _ c.in-Ok-all_read.ensures.read.2 c.in-Ok-all_read.ensures.read.0.is c.in-Ok-row_of.ensures.few

pub declared-requires-clause-have : goal.declared-requires-clause-have
declared-requires-clause-have g c = (read_grown c.all_read.new.bank c.row_of.new.bank c.in-Ok-row_of.ensures.grows (store_of c.args.work.now.bank.now c.args.store.now) (constructors_of c.args.work.now.bank.now c.args.constructors.now) c.in-Ok-all_read.read.1 c.in-Ok-all_read.ensures.read.1).have

pub declared-requires-clause-within : goal.declared-requires-clause-within
declared-requires-clause-within g c = (read_grown c.all_read.new.bank c.row_of.new.bank c.in-Ok-row_of.ensures.grows (store_of c.args.work.now.bank.now c.args.store.now) (constructors_of c.args.work.now.bank.now c.args.constructors.now) c.in-Ok-all_read.read.1 c.in-Ok-all_read.ensures.read.1).within

pub returns-in-Ok-row_of-clause-answer : goal.returns-in-Ok-row_of-clause-answer
returns-in-Ok-row_of-clause-answer g c =
    family_declared c.args.work.now.bank.now c.all_read.new.bank c.row_of.new.bank c.declared.new.work.bank.now c.in-Ok-all_read.ensures.grows c.in-Ok-row_of.ensures.grows c.args.env.now c.declared.new.env c.requires.env c.args.name c.requires.name c.args.parameters (store_of c.args.work.now.bank.now c.args.store.now) (tree_of c.args.work.now.bank.now c.args.arity) (constructors_of c.args.work.now.bank.now c.args.constructors.now) c.args.work.now.ticks.now.left (c.in-Ok.ensures c.args.work.now.bank.now c.requires.stored) c.in-Ok-all_read.ensures.read.2 c.in-Ok-all_read.read.0 c.in-Ok-all_read.read.1
    c.in-Ok-row_of.row c.declared.result c.declared.new.work.ticks.now.left c.in-Ok-all_read.ensures.read.0.is c.in-Ok-all_read.ensures.read.1 c.in-Ok-row_of.ensures.row.1 c.declared.ensures.answer

pub returns-in-Ok-row_of-clause-derived : goal.returns-in-Ok-row_of-clause-derived
returns-in-Ok-row_of-clause-derived g c =
    subst (λ E. OnOk c.declared.result (DerivedEnv E → DerivedEnv (env_of c.declared.new.work.bank.now c.declared.new.env)))
    (env_of-grown c.all_read.new.bank c.row_of.new.bank c.in-Ok-row_of.ensures.grows c.args.env.now (IsEnv-grown c.args.work.now.bank.now c.all_read.new.bank c.in-Ok-all_read.ensures.grows c.args.env.now c.requires.env) ∙ env_of-grown c.args.work.now.bank.now c.all_read.new.bank c.in-Ok-all_read.ensures.grows c.args.env.now c.requires.env) c.declared.ensures.derived

pub returns-in-Err-row_of-clause-answer : goal.returns-in-Err-row_of-clause-answer
returns-in-Err-row_of-clause-answer g c =
    subst (λ z. Stops c.row_of.new.bank z (family_rest (env_of c.args.work.now.bank.now c.args.env.now) (text_of c.args.work.now.bank.now c.args.name) c.args.parameters (store_of c.args.work.now.bank.now c.args.store.now) (tree_of c.args.work.now.bank.now c.args.arity) (constructors_of c.args.work.now.bank.now c.args.constructors.now)) c.args.work.now.ticks.now.left c.args.work.now.ticks.now.left) (sym c.stop_of.ensures)
    (stops_no_row c.row_of.new.bank (env_of c.args.work.now.bank.now c.args.env.now) (text_of c.args.work.now.bank.now c.args.name) c.args.parameters (store_of c.args.work.now.bank.now c.args.store.now) (tree_of c.args.work.now.bank.now c.args.arity) (constructors_of c.args.work.now.bank.now c.args.constructors.now) c.args.work.now.ticks.now.left (c.in-Ok.ensures c.args.work.now.bank.now c.requires.stored) c.in-Ok-all_read.ensures.read.2 c.in-Err-row_of.fault (row_of c.args.parameters (tree_of c.all_read.new.bank c.in-Ok-all_read.read.0))
    (ap (row_of c.args.parameters) (sym c.in-Ok-all_read.ensures.read.0.is)) c.in-Err-row_of.ensures.row)

pub returns-in-Err-row_of-clause-env : goal.returns-in-Err-row_of-clause-env
returns-in-Err-row_of-clause-env g c =
    IsEnv-grown c.all_read.new.bank c.row_of.new.bank c.in-Err-row_of.ensures.grows c.args.env.now (IsEnv-grown c.args.work.now.bank.now c.all_read.new.bank c.in-Ok-all_read.ensures.grows c.args.env.now c.requires.env)
