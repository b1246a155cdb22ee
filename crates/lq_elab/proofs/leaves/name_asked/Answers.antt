use Rattle.std.proofs.Common.{OnOk}
use Rattle.std.proofs.Common.{subst as along}
use Rattle.std.specs.Prelude.{option_map}
use Rattle.lq_terms.specs.Terms.{text_of, tree_of}
use Rattle.lq_terms.specs.Contexts.{context_of}
use Rattle.lq_solving.specs.Elaboration.{found, name_found}
use Rattle.lq_solving.proofs.ElabKept.{Grown}
use Rattle.lq_solving.proofs.ElabSettled.{at}
use Rattle.lq_evars.specs.Places.{store_of}
use Rattle.lq_evars.proofs.Growing.{store_of-grown}
use Rattle.lq_elab.specs.Waiting.{held_work}
use Rattle.lq_elab.specs.Frames.{spot_of, waits}
use Rattle.lq_elab.specs.States.{site_of}
use Rattle.lq_elab.proofs.StateLaws.{state_grown, wanted_grown}
use Rattle.lq_elab.proofs.AnswerLaws.{refuses_first, refuses_whole}
use Rattle.lq_elab.proofs.LeafLaws.{name_stand, stands_later, leaf_held, fewer_then}
use Rattle.lq_elab.proofs.SettleLaws.{comes_fewer}
use Rattle.lq_elab.proofs.leaves.name_asked.Goals as goal

pub settled-requires-clause-state : goal.settled-requires-clause-state
settled-requires-clause-state g c = state_grown c.args.work.now.bank.now c.meant.new.work.bank.now c.in-Ok.ensures.grows c.args.site.now c.args.store.now c.args.context.now c.args.scope.now c.args.frames.now c.requires.state

pub settled-requires-clause-wanted_stands : goal.settled-requires-clause-wanted_stands
settled-requires-clause-wanted_stands g c = (wanted_grown c.args.work.now.bank.now c.meant.new.work.bank.now c.in-Ok.ensures.grows c.args.site.now c.args.store.now c.args.context.now c.args.scope.now c.args.frames.now c.requires.state c.args.wanted c.requires.wanted c.requires.wanted_stands).1

pub settled-requires-clause-term_stands : goal.settled-requires-clause-term_stands
settled-requires-clause-term_stands g c =
    stands_later c.args.work.now.bank.now c.meant.new.work.bank.now c.in-Ok.ensures.grows c.args.site.now c.args.store.now c.args.context.now c.args.scope.now c.args.frames.now c.requires.state c.in-Ok.found.term (name_stand c.args.work.now.bank.now c.args.site.now c.args.store.now c.args.context.now c.args.scope.now c.args.frames.now c.requires.state (spot_of c.args.work.now.bank.now c.args.context.now c.args.frames.now).binders (text_of c.args.work.now.bank.now c.args.name) (tree_of c.meant.new.work.bank.now c.in-Ok.found.term) (tree_of c.meant.new.work.bank.now c.in-Ok.found.kind) c.args.work.now.ticks.now.left c.meant.new.work.ticks.now.left c.in-Ok.ensures.answer).0

pub settled-requires-clause-kind_stands : goal.settled-requires-clause-kind_stands
settled-requires-clause-kind_stands g c =
    stands_later c.args.work.now.bank.now c.meant.new.work.bank.now c.in-Ok.ensures.grows c.args.site.now c.args.store.now c.args.context.now c.args.scope.now c.args.frames.now c.requires.state c.in-Ok.found.kind (name_stand c.args.work.now.bank.now c.args.site.now c.args.store.now c.args.context.now c.args.scope.now c.args.frames.now c.requires.state (spot_of c.args.work.now.bank.now c.args.context.now c.args.frames.now).binders (text_of c.args.work.now.bank.now c.args.name) (tree_of c.meant.new.work.bank.now c.in-Ok.found.term) (tree_of c.meant.new.work.bank.now c.in-Ok.found.kind) c.args.work.now.ticks.now.left c.meant.new.work.ticks.now.left c.in-Ok.ensures.answer).1

pub returns-in-Ok-clause-goes : goal.returns-in-Ok-clause-goes
returns-in-Ok-clause-goes g c f b h =
    c.settled.ensures.goes f b (leaf_held c.args.work.now.bank.now c.meant.new.work.bank.now c.in-Ok.ensures.grows c.args.site.now c.args.store.now c.args.context.now c.args.scope.now c.args.frames.now c.requires.state c.args.wanted c.requires.wanted (λ n. name_found (at n (site_of c.args.work.now.bank.now c.args.site.now)) (spot_of c.args.work.now.bank.now c.args.context.now c.args.frames.now).binders (context_of c.args.work.now.bank.now c.args.context.now) (store_of c.args.work.now.bank.now c.args.store.now) (text_of c.args.work.now.bank.now c.args.name)) c.in-Ok.found.term c.in-Ok.found.kind f b c.args.work.now.ticks.now.left c.meant.new.work.ticks.now.left h c.in-Ok.ensures.answer)

pub returns-in-Ok-clause-grown : goal.returns-in-Ok-clause-grown
returns-in-Ok-clause-grown g c = along (λ z. OnOk c.settled.result (Grown z (store_of c.settled.new.work.bank.now c.settled.new.store))) (store_of-grown c.args.work.now.bank.now c.meant.new.work.bank.now c.in-Ok.ensures.grows c.args.store.now c.requires.state.store) c.settled.ensures.grown

pub returns-in-Ok-clause-fewer : goal.returns-in-Ok-clause-fewer
returns-in-Ok-clause-fewer g c =
    fewer_then c.settled.result c.settled.new.work.ticks.now.left c.meant.new.work.ticks.now.left c.args.work.now.ticks.now.left c.settled.ensures.fewer
    (comes_fewer (λ n. name_found (at n (site_of c.args.work.now.bank.now c.args.site.now)) (spot_of c.args.work.now.bank.now c.args.context.now c.args.frames.now).binders (context_of c.args.work.now.bank.now c.args.context.now) (store_of c.args.work.now.bank.now c.args.store.now) (text_of c.args.work.now.bank.now c.args.name)) c.args.work.now.ticks.now.left c.meant.new.work.ticks.now.left (found (store_of c.args.work.now.bank.now c.args.store.now) (tree_of c.meant.new.work.bank.now c.in-Ok.found.term) (tree_of c.meant.new.work.bank.now c.in-Ok.found.kind)) c.in-Ok.ensures.answer)

pub returns-in-Err-clause-goes : goal.returns-in-Err-clause-goes
returns-in-Err-clause-goes g c f b h =
    refuses_whole c.meant.new.work.bank.now f _ b c.args.work.now.ticks.now.left c.meant.new.work.ticks.now.left h c.in-Err.fault (refuses_first c.meant.new.work.bank.now (λ n. name_found (at n (site_of c.args.work.now.bank.now c.args.site.now)) (spot_of c.args.work.now.bank.now c.args.context.now c.args.frames.now).binders (context_of c.args.work.now.bank.now c.args.context.now) (store_of c.args.work.now.bank.now c.args.store.now) (text_of c.args.work.now.bank.now c.args.name)) (λ z n. held_work (site_of c.args.work.now.bank.now c.args.site.now) (waits c.args.work.now.bank.now c.args.context.now c.args.frames.now) (spot_of c.args.work.now.bank.now c.args.context.now c.args.frames.now).context (option_map (tree_of c.args.work.now.bank.now) c.args.wanted) z n) c.args.work.now.ticks.now.left c.meant.new.work.ticks.now.left c.in-Err.fault c.in-Err.ensures.answer)
