use Rattle.std.proofs.Common.{sym, subst, [], ◌∷◌, Some}
use Rattle.lq_trees.specs.Ticks.{done, ComesTo}
use Rattle.lq_terms.specs.Contexts.{context_of}
use Rattle.lq_terms.specs.Terms.{text_of, tree_of}
use Rattle.lq_env.specs.Environments.{env_of}
use Rattle.lq_env.proofs.Grown.{IsEnv-grown}
use Rattle.lq_evars.specs.Places.{store_of}
use Rattle.lq_elab.specs.Calls.{written_tree}
use Rattle.lq_sessions.specs.Declaring.{term_work, constant_work}
use Rattle.lq_causes.specs.Stopping.{Stops}
use Rattle.lq_elaborated.specs.Finding.{found_in}
use Rattle.lq_elaborated.proofs.FindLaws.{stops_first}
use Rattle.lq_elaborated.proofs.DefineLaws.{declares_rest, constant_as, derived_as}
use Rattle.lq_elaborated.proofs.defining.against_type.Goals as goal

pub declare_written-requires-clause-env : goal.declare_written-requires-clause-env
declare_written-requires-clause-env g c = IsEnv-grown c.args.work.now.bank.now c.term_in.new.work.bank.now c.in-Ok.ensures.grows c.args.env.now c.requires.env

pub returns-in-Ok-clause-answer : goal.returns-in-Ok-clause-answer
returns-in-Ok-clause-answer g c =
    declares_rest c.declare_written.new.work.bank.now (λ n. term_work (env_of c.args.work.now.bank.now c.args.env.now) n [] (store_of c.args.work.now.bank.now c.args.store.now) (written_tree c.args.body) (Some (tree_of c.args.work.now.bank.now c.args.kind))) (λ b n. constant_work (env_of c.args.work.now.bank.now c.args.env.now) n (text_of c.args.work.now.bank.now c.args.name) b.store (tree_of c.args.work.now.bank.now c.args.kind) b.term ((tree_of c.args.work.now.bank.now c.args.kind) ∷ b.term ∷ [])) c.args.work.now.ticks.now.left (found_in c.term_in.new.work.bank.now c.term_in.new.store c.in-Ok.found) c.term_in.new.work.ticks.now.left c.declare_written.new.work.ticks.now.left c.declare_written.result c.declare_written.new.env
    (subst (λ h. ComesTo (λ n. term_work (env_of c.args.work.now.bank.now c.args.env.now) n (context_of c.args.work.now.bank.now h) (store_of c.args.work.now.bank.now c.args.store.now) (written_tree c.args.body) (Some (tree_of c.args.work.now.bank.now c.args.kind))) c.args.work.now.ticks.now.left (done (found_in c.term_in.new.work.bank.now c.term_in.new.store c.in-Ok.found) c.term_in.new.work.ticks.now.left)) c.requires.context c.in-Ok.ensures.answer)
    (constant_as c.args.work.now.bank.now c.term_in.new.work.bank.now c.declare_written.new.work.bank.now c.in-Ok.ensures.grows c.args.env.now c.declare_written.new.env c.requires.env c.args.name c.requires.name (store_of c.term_in.new.work.bank.now c.term_in.new.store) (tree_of c.args.work.now.bank.now c.args.kind) (tree_of c.term_in.new.work.bank.now c.in-Ok.found.term) ((tree_of c.args.work.now.bank.now c.args.kind) ∷ tree_of c.term_in.new.work.bank.now c.in-Ok.found.term ∷ [])
    c.declare_written.result c.term_in.new.work.ticks.now.left c.declare_written.new.work.ticks.now.left (rw (sym (c.in-Ok.ensures.grows.tree c.args.kind c.requires.kind)) c.declare_written.ensures.answer))

pub returns-in-Ok-clause-derived : goal.returns-in-Ok-clause-derived
returns-in-Ok-clause-derived g c =
    derived_as c.args.work.now.bank.now c.term_in.new.work.bank.now c.in-Ok.ensures.grows c.args.env.now c.requires.env (env_of c.declare_written.new.work.bank.now c.declare_written.new.env) c.declare_written.result c.declare_written.ensures.derived

pub returns-in-Err-clause-answer : goal.returns-in-Err-clause-answer
returns-in-Err-clause-answer g c =
    stops_first c.term_in.new.work.bank.now (λ n. term_work (env_of c.args.work.now.bank.now c.args.env.now) n [] (store_of c.args.work.now.bank.now c.args.store.now) (written_tree c.args.body) (Some (tree_of c.args.work.now.bank.now c.args.kind))) (λ b n. constant_work (env_of c.args.work.now.bank.now c.args.env.now) n (text_of c.args.work.now.bank.now c.args.name) b.store (tree_of c.args.work.now.bank.now c.args.kind) b.term ((tree_of c.args.work.now.bank.now c.args.kind) ∷ b.term ∷ [])) c.args.work.now.ticks.now.left c.term_in.new.work.ticks.now.left c.in-Err.stop
    (subst (λ h. Stops c.term_in.new.work.bank.now c.in-Err.stop (λ n. term_work (env_of c.args.work.now.bank.now c.args.env.now) n (context_of c.args.work.now.bank.now h) (store_of c.args.work.now.bank.now c.args.store.now) (written_tree c.args.body) (Some (tree_of c.args.work.now.bank.now c.args.kind))) c.args.work.now.ticks.now.left c.term_in.new.work.ticks.now.left) c.requires.context c.in-Err.ensures.answer)

pub returns-in-Err-clause-env : goal.returns-in-Err-clause-env
returns-in-Err-clause-env g c = IsEnv-grown c.args.work.now.bank.now c.term_in.new.work.bank.now c.in-Err.ensures.grows c.args.env.now c.requires.env
