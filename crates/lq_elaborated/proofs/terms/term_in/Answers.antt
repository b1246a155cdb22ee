use Rattle.std.proofs.Common.{subst, sym}
use Rattle.std.specs.Prelude.{option_map}
use Rattle.lq_trees.specs.Ticks.{done}
use Rattle.lq_terms.specs.Terms.{tree_of}
use Rattle.lq_terms.specs.Contexts.{context_of}
use Rattle.lq_env.specs.Environments.{env_of}
use Rattle.lq_solving.specs.Elaboration.{elaborate_call}
use Rattle.lq_evars.specs.Places.{store_of}
use Rattle.lq_elab.specs.Calls.{written_tree}
use Rattle.lq_sessions.specs.Told.{of_elab}
use Rattle.lq_sessions.specs.Declaring.{plain_site, term_work}
use Rattle.lq_causes.specs.Stopping.{Stops}
use Rattle.lq_causes.proofs.StopLaws.{comes_told}
use Rattle.lq_elaborated.specs.Finding.{found_in}
use Rattle.lq_elaborated.proofs.FaultLaws.{elab_stops}
use Rattle.lq_elaborated.proofs.FindLaws.{typed_of}
use Rattle.lq_elaborated.proofs.terms.term_in.Goals as goal

pub returns-in-Ok-clause-answer : goal.returns-in-Ok-clause-answer
returns-in-Ok-clause-answer g c =
    comes_told of_elab (λ n. elaborate_call (plain_site (env_of c.args.work.now.bank.now c.args.env.now) n (context_of c.args.work.now.bank.now c.args.context.now)) (store_of c.args.work.now.bank.now c.args.store.now) (written_tree c.args.term)
    (option_map (tree_of c.args.work.now.bank.now) c.args.wanted)) c.args.work.now.ticks.now.left (done (found_in c.elaborate.new.work.bank.now c.elaborate.new.store (record { term = c.in-Ok.found.term; kind = c.in-Ok.found.kind })) c.elaborate.new.work.ticks.now.left) c.in-Ok.ensures.answer

pub returns-in-Err-clause-answer : goal.returns-in-Err-clause-answer
returns-in-Err-clause-answer g c =
    subst (λ z. Stops c.elaborate.new.work.bank.now z (λ n. term_work (env_of c.args.work.now.bank.now c.args.env.now) n (context_of c.args.work.now.bank.now c.args.context.now) (store_of c.args.work.now.bank.now c.args.store.now) (written_tree c.args.term)
    (option_map (tree_of c.args.work.now.bank.now) c.args.wanted)) c.args.work.now.ticks.now.left c.elaborate.new.work.ticks.now.left) (sym c.stop_of.ensures)
    (elab_stops c.elaborate.new.work.bank.now c.in-Err.fault (λ n. elaborate_call (plain_site (env_of c.args.work.now.bank.now c.args.env.now) n (context_of c.args.work.now.bank.now c.args.context.now)) (store_of c.args.work.now.bank.now c.args.store.now)
    (written_tree c.args.term) (option_map (tree_of c.args.work.now.bank.now) c.args.wanted)) c.args.work.now.ticks.now.left c.elaborate.new.work.ticks.now.left c.in-Err.ensures.answer)

pub returns-in-Ok-clause-stands : goal.returns-in-Ok-clause-stands
returns-in-Ok-clause-stands g c = typed_of c.elaborate.new.work.bank.now (store_of c.args.work.now.bank.now c.args.store.now) c.elaborate.new.store (context_of c.args.work.now.bank.now c.args.context.now) c.in-Ok.found c.in-Ok.ensures.stands
