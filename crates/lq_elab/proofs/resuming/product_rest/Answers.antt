use Rattle.std.proofs.Common.{◌∷◌, refl, arith}
use Rattle.std.proofs.Common.{subst as along}
use Rattle.std.specs.Prelude.{option_map}
use Rattle.lq_terms.specs.Terms.{text_of, tree_of}
use Rattle.lq_terms.proofs.Growth.{Grows-trans}
use Rattle.lq_evars.specs.Places.{store_of}
use Rattle.lq_elab.specs.declared.entering.Under.{Under}
use Rattle.lq_elab.specs.declared.frames.Part.{Part}
use Rattle.lq_elab.specs.declared.turns.Turn.{Turn}
use Rattle.lq_elab.specs.Answers.{found_of}
use Rattle.lq_elab.specs.Frames.{shorter, spot_of, waits}
use Rattle.lq_elab.specs.States.{site_of, turn_work}
use Rattle.lq_elab.proofs.SettleLaws.{comes_fewer}
use Rattle.lq_elab.proofs.StateLaws.{state_grown, turn_grown}
use Rattle.lq_elab.proofs.PartLaws.{product_rest_refuses, continues_as}
use Rattle.lq_evars.proofs.Growing.{store_of-grown}
use Rattle.lq_typing.specs.Refusals.{Refuses}
use Rattle.lq_solving.specs.Elaboration.{found_sort}
use Rattle.lq_solving.proofs.ElabSettled.{at}
use Rattle.lq_elab.proofs.LeaveLaws.{inner_context}
use Rattle.lq_elab.proofs.EndLaws.{product_stands, product_made_goes}
use Rattle.lq_elab.proofs.resuming.product_rest.Goals as goal

pub sort_of-requires : goal.sort_of-requires
sort_of-requires g c = record {
  env = c.requires.state.site.env;
  plain = c.requires.state.site.plain;
  store = c.requires.state.store;
  kept = c.requires.state.kept;
  context = c.requires.state.context;
  hypotheses = c.requires.state.hypotheses;
  kind = c.requires.found.1;
  stands = c.requires.found.3;
}

pub product_made-requires : goal.product_made-requires
product_made-requires g c =
    let h = state_grown c.args.work.now.bank.now c.sort_of.new.work.bank.now c.in-Ok.ensures.grows c.args.site.now c.args.store.now c.args.context.now c.args.scope.now ((record { part = Part.ProductRest c.args.bound c.args.sort; wanted = c.args.wanted }) ∷ c.args.frames.now) c.requires.state in
    let k = turn_grown c.args.work.now.bank.now c.sort_of.new.work.bank.now c.in-Ok.ensures.grows c.args.site.now c.args.store.now c.args.context.now c.args.scope.now ((record { part = Part.ProductRest c.args.bound c.args.sort; wanted = c.args.wanted }) ∷ c.args.frames.now) c.requires.state (Turn.Found c.args.found) c.requires.found in record { bound = h.frames.0; rest = k.0; within = k.2.within }

pub returned-requires : goal.returned-requires
returned-requires g c = record {
  state = state_grown c.args.work.now.bank.now c.product_made.new.bank (Grows-trans c.args.work.now.bank.now c.sort_of.new.work.bank.now c.product_made.new.bank c.in-Ok.ensures.grows c.in-Ok-product_made.ensures.grows) c.args.site.now c.args.store.now c.args.context.now c.args.scope.now ((record { part = Part.ProductRest c.args.bound c.args.sort; wanted = c.args.wanted }) ∷ c.args.frames.now) c.requires.state;
  made = product_stands c.args.work.now.bank.now c.sort_of.new.work.bank.now c.product_made.new.bank c.in-Ok.ensures.grows c.in-Ok-product_made.ensures.grows c.args.site.now c.args.store.now c.args.context.now c.args.scope.now c.args.frames.now c.args.bound c.args.wanted c.args.found c.in-Ok-product_made.made c.args.sort c.requires.state c.requires.found c.product_sort.result c.in-Ok-product_made.ensures.made;
}

pub returns-in-Err-clause-goes : goal.returns-in-Err-clause-goes
returns-in-Err-clause-goes g c =
    product_rest_refuses (site_of c.args.work.now.bank.now c.args.site.now) (waits c.args.work.now.bank.now (shorter c.args.context.now) c.args.frames.now) (spot_of c.args.work.now.bank.now (shorter c.args.context.now) c.args.frames.now) (option_map (tree_of c.args.work.now.bank.now) c.args.wanted) (found_of c.args.work.now.bank.now c.args.store.now c.args.found) c.args.work.now.ticks.now.left c.sort_of.new.work.ticks.now.left
    (text_of c.args.work.now.bank.now c.args.bound.binder) (text_of c.args.work.now.bank.now c.args.bound.hypothesis) (tree_of c.args.work.now.bank.now c.args.bound.kind) c.args.sort c.sort_of.new.work.bank.now c.in-Err.fault
    (along (λ z. Refuses c.sort_of.new.work.bank.now c.in-Err.fault (λ n. found_sort (at n (site_of c.args.work.now.bank.now c.args.site.now)) z (found_of c.args.work.now.bank.now c.args.store.now c.args.found)) c.args.work.now.ticks.now.left c.sort_of.new.work.ticks.now.left)
    (inner_context c.args.work.now.bank.now c.args.site.now c.args.store.now c.args.context.now c.args.scope.now c.args.frames.now (Under.Product c.args.sort) c.args.bound c.args.wanted c.requires.state)
    (c.in-Err.ensures.answer (site_of c.args.work.now.bank.now c.args.site.now) (tree_of c.args.work.now.bank.now c.args.found.term) refl))

pub returns-in-Ok-product_made-clause-goes : goal.returns-in-Ok-product_made-clause-goes
returns-in-Ok-product_made-clause-goes g c =
    continues_as c.returned.new.work.bank.now c.args.site.now (store_of c.product_made.new.bank c.args.store.now) (store_of c.args.work.now.bank.now c.args.store.now) c.returned.new.store c.returned.new.context c.returned.new.scope c.args.frames.now c.returned.result (turn_work c.args.work.now.bank.now c.args.site.now c.args.store.now c.args.context.now ((record { part = Part.ProductRest c.args.bound c.args.sort; wanted = c.args.wanted }) ∷ c.args.frames.now) (Turn.Found c.args.found)) c.args.work.now.ticks.now.left c.returned.new.work.ticks.now.left _ _
    (store_of-grown c.args.work.now.bank.now c.product_made.new.bank (Grows-trans c.args.work.now.bank.now c.sort_of.new.work.bank.now c.product_made.new.bank c.in-Ok.ensures.grows c.in-Ok-product_made.ensures.grows) c.args.store.now c.requires.state.store) (omega (arith, comes_fewer _ c.args.work.now.ticks.now.left c.sort_of.new.work.ticks.now.left _ (c.in-Ok.ensures.answer (site_of c.args.work.now.bank.now c.args.site.now) (tree_of c.args.work.now.bank.now c.args.found.term) refl)))
    (c.returned.ensures.goes (turn_work c.args.work.now.bank.now c.args.site.now c.args.store.now c.args.context.now ((record { part = Part.ProductRest c.args.bound c.args.sort; wanted = c.args.wanted }) ∷ c.args.frames.now) (Turn.Found c.args.found)) c.args.work.now.ticks.now.left
    (product_made_goes c.args.work.now.bank.now c.sort_of.new.work.bank.now c.product_made.new.bank c.in-Ok.ensures.grows c.in-Ok-product_made.ensures.grows c.args.site.now c.args.store.now c.args.context.now c.args.scope.now c.args.frames.now c.args.bound c.args.wanted c.args.found c.in-Ok-product_made.made c.args.sort c.requires.state c.requires.found c.product_sort.result c.in-Ok-product_made.ensures.made
    c.in-Ok.rest c.product_sort.ensures c.args.work.now.ticks.now.left c.sort_of.new.work.ticks.now.left (c.in-Ok.ensures.answer (site_of c.args.work.now.bank.now c.args.site.now) (tree_of c.args.work.now.bank.now c.args.found.term) refl)))
