use Rattle.std.proofs.Common.{sym, subst, []}
use Rattle.lq_trees.specs.Ticks.{done, ComesTo}
use Rattle.lq_terms.specs.Contexts.{context_of}
use Rattle.lq_terms.specs.Terms.{text_of, tree_of}
use Rattle.lq_env.specs.Environments.{env_of}
use Rattle.lq_env.proofs.Grown.{env_of-grown, IsEnv-grown}
use Rattle.lq_solving.specs.Claims.{ArePlainDeclarations}
use Rattle.lq_evars.specs.Places.{store_of}
use Rattle.lq_elab.specs.Calls.{written_tree}
use Rattle.lq_sessions.specs.Declaring.{type_work}
use Rattle.lq_causes.specs.Stopping.{Stops}
use Rattle.lq_elaborated.specs.Defining.{body_work}
use Rattle.lq_elaborated.specs.Finding.{found_in}
use Rattle.lq_elaborated.proofs.FindLaws.{stops_first}
use Rattle.lq_elaborated.proofs.DefineLaws.{declares_rest, body_as, derived_as}
use Rattle.lq_elaborated.proofs.defining.define_written.Goals as goal

pub against_type-requires-clause-env : goal.against_type-requires-clause-env
against_type-requires-clause-env g c = IsEnv-grown c.args.work.now.bank.now c.type_in.new.work.bank.now c.in-Ok.ensures.grows c.args.env.now c.requires.env

pub against_type-requires-clause-plain : goal.against_type-requires-clause-plain
against_type-requires-clause-plain g c = subst ArePlainDeclarations (sym (env_of-grown c.args.work.now.bank.now c.type_in.new.work.bank.now c.in-Ok.ensures.grows c.args.env.now c.requires.env)) c.requires.plain

pub returns-in-Ok-clause-answer : goal.returns-in-Ok-clause-answer
returns-in-Ok-clause-answer g c =
    declares_rest c.against_type.new.work.bank.now (λ n. type_work (env_of c.args.work.now.bank.now c.args.env.now) n [] (store_of c.args.work.now.bank.now c.args.store.now) (written_tree c.args.kind)) (λ f. body_work (env_of c.args.work.now.bank.now c.args.env.now) (text_of c.args.work.now.bank.now c.args.name) f.store f.term (written_tree c.args.body)) c.args.work.now.ticks.now.left (found_in c.type_in.new.work.bank.now c.type_in.new.store c.in-Ok.found) c.type_in.new.work.ticks.now.left c.against_type.new.work.ticks.now.left c.against_type.result c.against_type.new.env
    (subst (λ h. ComesTo (λ n. type_work (env_of c.args.work.now.bank.now c.args.env.now) n (context_of c.args.work.now.bank.now h) (store_of c.args.work.now.bank.now c.args.store.now) (written_tree c.args.kind)) c.args.work.now.ticks.now.left (done (found_in c.type_in.new.work.bank.now c.type_in.new.store c.in-Ok.found) c.type_in.new.work.ticks.now.left)) c.requires.context c.in-Ok.ensures.answer)
    (body_as c.args.work.now.bank.now c.type_in.new.work.bank.now c.against_type.new.work.bank.now c.in-Ok.ensures.grows c.args.env.now c.against_type.new.env c.requires.env c.args.name c.requires.name (store_of c.type_in.new.work.bank.now c.type_in.new.store) (tree_of c.type_in.new.work.bank.now c.in-Ok.found.term) (written_tree c.args.body)
    c.against_type.result c.type_in.new.work.ticks.now.left c.against_type.new.work.ticks.now.left c.against_type.ensures.answer)

pub returns-in-Ok-clause-derived : goal.returns-in-Ok-clause-derived
returns-in-Ok-clause-derived g c =
    derived_as c.args.work.now.bank.now c.type_in.new.work.bank.now c.in-Ok.ensures.grows c.args.env.now c.requires.env (env_of c.against_type.new.work.bank.now c.against_type.new.env) c.against_type.result c.against_type.ensures.derived

pub returns-in-Err-clause-answer : goal.returns-in-Err-clause-answer
returns-in-Err-clause-answer g c =
    stops_first c.type_in.new.work.bank.now (λ n. type_work (env_of c.args.work.now.bank.now c.args.env.now) n [] (store_of c.args.work.now.bank.now c.args.store.now) (written_tree c.args.kind)) (λ f. body_work (env_of c.args.work.now.bank.now c.args.env.now) (text_of c.args.work.now.bank.now c.args.name) f.store f.term (written_tree c.args.body)) c.args.work.now.ticks.now.left c.type_in.new.work.ticks.now.left c.in-Err.stop
    (subst (λ h. Stops c.type_in.new.work.bank.now c.in-Err.stop (λ n. type_work (env_of c.args.work.now.bank.now c.args.env.now) n (context_of c.args.work.now.bank.now h) (store_of c.args.work.now.bank.now c.args.store.now) (written_tree c.args.kind)) c.args.work.now.ticks.now.left c.type_in.new.work.ticks.now.left) c.requires.context c.in-Err.ensures.answer)

pub returns-in-Err-clause-env : goal.returns-in-Err-clause-env
returns-in-Err-clause-env g c = IsEnv-grown c.args.work.now.bank.now c.type_in.new.work.bank.now c.in-Err.ensures.grows c.args.env.now c.requires.env
