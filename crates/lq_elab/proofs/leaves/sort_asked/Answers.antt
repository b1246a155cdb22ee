use Rattle.std.proofs.Common.{sym, OnOk}
use Rattle.std.proofs.Common.{subst as along}
use Rattle.std.specs.Prelude.{option_map}
use Rattle.lq_trees.specs.Ticks.{done, ComesTo}
use Rattle.lq_terms.specs.Terms.{tree_of}
use Rattle.lq_terms.specs.Contexts.{context_of}
use Rattle.lq_solving.specs.Kept.{StandsIn}
use Rattle.lq_solving.specs.Elaboration.{found}
use Rattle.lq_solving.proofs.ElabKept.{Grown}
use Rattle.lq_evars.specs.Places.{store_of}
use Rattle.lq_evars.proofs.Growing.{store_of-grown}
use Rattle.lq_elab.specs.Nodes.{sort_found}
use Rattle.lq_elab.specs.Frames.{spot_of, waits}
use Rattle.lq_elab.specs.States.{site_of}
use Rattle.lq_elab.proofs.StateLaws.{state_grown, wanted_grown}
use Rattle.lq_elab.proofs.LeafLaws.{sort_stand, above_stands, stands_later, leaf_held, sort_comes_to, sort_refused}
use Rattle.lq_elab.proofs.leaves.sort_asked.Goals as goal

pub settled-requires-clause-state : goal.settled-requires-clause-state
settled-requires-clause-state g c = state_grown c.args.work.now.bank.now c.with_above.new.bank c.in-Ok.ensures.grows c.args.site.now c.args.store.now c.args.context.now c.args.scope.now c.args.frames.now c.requires.state

pub settled-requires-clause-wanted_stands : goal.settled-requires-clause-wanted_stands
settled-requires-clause-wanted_stands g c = (wanted_grown c.args.work.now.bank.now c.with_above.new.bank c.in-Ok.ensures.grows c.args.site.now c.args.store.now c.args.context.now c.args.scope.now c.args.frames.now c.requires.state c.args.wanted c.requires.wanted c.requires.wanted_stands).1

pub settled-requires-clause-term_stands : goal.settled-requires-clause-term_stands
settled-requires-clause-term_stands g c =
    stands_later c.args.work.now.bank.now c.with_above.new.bank c.in-Ok.ensures.grows c.args.site.now c.args.store.now c.args.context.now c.args.scope.now c.args.frames.now c.requires.state c.in-Ok.found.term (along (StandsIn (store_of c.args.work.now.bank.now c.args.store.now) (context_of c.args.work.now.bank.now c.args.context.now)) (sym c.in-Ok.ensures.term.is) (sort_stand c.args.work.now.bank.now c.args.site.now c.args.store.now c.args.context.now c.args.scope.now c.args.frames.now c.requires.state c.args.sort))

pub settled-requires-clause-kind_stands : goal.settled-requires-clause-kind_stands
settled-requires-clause-kind_stands g c = stands_later c.args.work.now.bank.now c.with_above.new.bank c.in-Ok.ensures.grows c.args.site.now c.args.store.now c.args.context.now c.args.scope.now c.args.frames.now c.requires.state c.in-Ok.found.kind (above_stands c.args.work.now.bank.now c.args.site.now c.args.store.now c.args.context.now c.args.scope.now c.args.frames.now c.requires.state c.args.sort (tree_of c.with_above.new.bank c.in-Ok.found.kind) c.in-Ok.ensures.kind.1)

pub returns-in-Ok-clause-goes : goal.returns-in-Ok-clause-goes
returns-in-Ok-clause-goes g c f b h =
    c.settled.ensures.goes f b (leaf_held c.args.work.now.bank.now c.with_above.new.bank c.in-Ok.ensures.grows c.args.site.now c.args.store.now c.args.context.now c.args.scope.now c.args.frames.now c.requires.state c.args.wanted c.requires.wanted (λ n. sort_found (site_of c.args.work.now.bank.now c.args.site.now) (waits c.args.work.now.bank.now c.args.context.now c.args.frames.now) (spot_of c.args.work.now.bank.now c.args.context.now c.args.frames.now) (store_of c.args.work.now.bank.now c.args.store.now) (option_map (tree_of c.args.work.now.bank.now) c.args.wanted) c.args.sort) c.in-Ok.found.term c.in-Ok.found.kind f b c.args.work.now.ticks.now.left c.args.work.now.ticks.now.left h
    (along (λ z. ComesTo (λ n. sort_found (site_of c.args.work.now.bank.now c.args.site.now) (waits c.args.work.now.bank.now c.args.context.now c.args.frames.now) (spot_of c.args.work.now.bank.now c.args.context.now c.args.frames.now) (store_of c.args.work.now.bank.now c.args.store.now) (option_map (tree_of c.args.work.now.bank.now) c.args.wanted) c.args.sort) c.args.work.now.ticks.now.left (done (found (store_of c.args.work.now.bank.now c.args.store.now) z (tree_of c.with_above.new.bank c.in-Ok.found.kind)) c.args.work.now.ticks.now.left)) (sym c.in-Ok.ensures.term.is) (sort_comes_to (store_of c.args.work.now.bank.now c.args.store.now) c.args.sort (tree_of c.with_above.new.bank c.in-Ok.found.kind) c.args.work.now.ticks.now.left c.in-Ok.ensures.kind.1)))

pub returns-in-Ok-clause-grown : goal.returns-in-Ok-clause-grown
returns-in-Ok-clause-grown g c = along (λ z. OnOk c.settled.result (Grown z (store_of c.settled.new.work.bank.now c.settled.new.store))) (store_of-grown c.args.work.now.bank.now c.with_above.new.bank c.in-Ok.ensures.grows c.args.store.now c.requires.state.store) c.settled.ensures.grown

pub returns-in-Err-clause-goes : goal.returns-in-Err-clause-goes
returns-in-Err-clause-goes g c f b h = sort_refused (site_of c.args.work.now.bank.now c.args.site.now) (waits c.args.work.now.bank.now c.args.context.now c.args.frames.now) (spot_of c.args.work.now.bank.now c.args.context.now c.args.frames.now) (store_of c.args.work.now.bank.now c.args.store.now) (option_map (tree_of c.args.work.now.bank.now) c.args.wanted) c.args.sort f b c.args.work.now.ticks.now.left c.with_above.new.bank c.in-Err.fault c.in-Err.ensures.err h
