use Rattle.std.proofs.Common.{refl, false, Some, None}
use Rattle.std.proofs.Common.{subst as along}
use Rattle.std.specs.Prelude.{option_map}
use Rattle.lq_ast.specs.Plain.{plain}
use Rattle.lq_ast.specs.Syntax.{Domain, Written, Missing}
use Rattle.lq_terms.specs.Terms.{text_of, tree_of}
use Rattle.lq_terms.specs.Contexts.{context_of}
use Rattle.lq_solving.specs.Elaboration.{wanted_product}
use Rattle.lq_solving.proofs.ElabSettled.{at}
use Rattle.lq_evars.specs.Places.{store_of}
use Rattle.lq_elab.specs.Views.{head_domain, row_tree}
use Rattle.lq_elab.specs.Waiting.{Leads}
use Rattle.lq_elab.specs.Nodes.{head_work}
use Rattle.lq_elab.specs.Frames.{pair_of, spot_of, waits}
use Rattle.lq_elab.specs.States.{site_of}
use Rattle.lq_elab.proofs.StateLaws.{state_grown, wanted_grown}
use Rattle.lq_elab.proofs.SettleLaws.{comes_fewer}
use Rattle.lq_elab.proofs.FunctionLaws.{typed_leads, bare_leads, parts_stand, falls_more, head_refuses}
use Rattle.lq_elab.proofs.functions.function_asked.Goals as goal

pub typed_asked-requires-clause-state : goal.typed_asked-requires-clause-state
typed_asked-requires-clause-state g c = state_grown c.args.work.now.bank.now c.wanted_parts.new.work.bank.now c.in-Ok.ensures.grows c.args.site.now c.args.store.now c.args.context.now c.args.scope.now c.args.frames.now c.requires.state

pub typed_asked-requires-clause-wanted_stands : goal.typed_asked-requires-clause-wanted_stands
typed_asked-requires-clause-wanted_stands g c = (wanted_grown c.args.work.now.bank.now c.wanted_parts.new.work.bank.now c.in-Ok.ensures.grows c.args.site.now c.args.store.now c.args.context.now c.args.scope.now c.args.frames.now c.requires.state c.args.wanted c.requires.wanted c.requires.wanted_stands).1

pub typed_asked-requires-clause-parts_stand : goal.typed_asked-requires-clause-parts_stand
typed_asked-requires-clause-parts_stand g c = parts_stand c.args.work.now.bank.now c.wanted_parts.new.work.bank.now c.in-Ok.ensures.grows c.args.site.now c.args.store.now c.args.context.now c.args.scope.now c.args.frames.now c.requires.state (option_map (pair_of c.wanted_parts.new.work.bank.now) c.in-Ok.parts) c.in-Ok.ensures.product_stands

pub bare_asked-requires-clause-state : goal.bare_asked-requires-clause-state
bare_asked-requires-clause-state g c = state_grown c.args.work.now.bank.now c.wanted_parts.new.work.bank.now c.in-Ok.ensures.grows c.args.site.now c.args.store.now c.args.context.now c.args.scope.now c.args.frames.now c.requires.state

pub bare_asked-requires-clause-parts_stand : goal.bare_asked-requires-clause-parts_stand
bare_asked-requires-clause-parts_stand g c = parts_stand c.args.work.now.bank.now c.wanted_parts.new.work.bank.now c.in-Ok.ensures.grows c.args.site.now c.args.store.now c.args.context.now c.args.scope.now c.args.frames.now c.requires.state (option_map (pair_of c.wanted_parts.new.work.bank.now) c.in-Ok.parts) c.in-Ok.ensures.product_stands

pub returns-in-Some-clause-falls : goal.returns-in-Some-clause-falls
returns-in-Some-clause-falls g c =
    falls_more c.typed_asked.result c.args.frames.now c.typed_asked.new.frames c.args.work.now.ticks.now.left c.wanted_parts.new.work.ticks.now.left c.typed_asked.ensures.falls
    (comes_fewer (λ n. wanted_product (at n (site_of c.args.work.now.bank.now c.args.site.now)) (context_of c.args.work.now.bank.now c.args.context.now) (store_of c.args.work.now.bank.now c.args.store.now) (option_map (tree_of c.args.work.now.bank.now) c.args.wanted)) c.args.work.now.ticks.now.left c.wanted_parts.new.work.ticks.now.left (option_map (pair_of c.wanted_parts.new.work.bank.now) c.in-Ok.parts) (c.in-Ok.ensures.answer (site_of c.args.work.now.bank.now c.args.site.now) refl))

pub returns-in-None-clause-falls : goal.returns-in-None-clause-falls
returns-in-None-clause-falls g c =
    falls_more c.bare_asked.result c.args.frames.now c.bare_asked.new.frames c.args.work.now.ticks.now.left c.wanted_parts.new.work.ticks.now.left c.bare_asked.ensures.falls
    (comes_fewer (λ n. wanted_product (at n (site_of c.args.work.now.bank.now c.args.site.now)) (context_of c.args.work.now.bank.now c.args.context.now) (store_of c.args.work.now.bank.now c.args.store.now) (option_map (tree_of c.args.work.now.bank.now) c.args.wanted)) c.args.work.now.ticks.now.left c.wanted_parts.new.work.ticks.now.left (option_map (pair_of c.wanted_parts.new.work.bank.now) c.in-Ok.parts) (c.in-Ok.ensures.answer (site_of c.args.work.now.bank.now c.args.site.now) refl))

pub returns-in-Err-clause-goes : goal.returns-in-Err-clause-goes
returns-in-Err-clause-goes g c f b h =
    head_refuses (site_of c.args.work.now.bank.now c.args.site.now) (waits c.args.work.now.bank.now c.args.context.now c.args.frames.now) (spot_of c.args.work.now.bank.now c.args.context.now c.args.frames.now) (store_of c.args.work.now.bank.now c.args.store.now) (option_map (tree_of c.args.work.now.bank.now) c.args.wanted) (text_of c.args.work.now.bank.now c.args.binder) (row_tree c.args.head.rest) (head_domain c.args.head) c.wanted_parts.new.work.bank.now f b c.args.work.now.ticks.now.left c.wanted_parts.new.work.ticks.now.left c.in-Err.fault h
    (c.in-Err.ensures.answer (site_of c.args.work.now.bank.now c.args.site.now) refl)

pub returns-in-Some-clause-goes : goal.returns-in-Some-clause-goes
returns-in-Some-clause-goes g c f b h = c.typed_asked.ensures.goes f b c.wanted_parts.new.work.ticks.now.left (typed_leads c.args.work.now.bank.now c.wanted_parts.new.work.bank.now c.in-Ok.ensures.grows c.args.site.now c.args.store.now c.args.context.now c.args.scope.now c.args.frames.now c.requires.state c.args.wanted c.requires.wanted c.args.binder c.requires.binder c.in-Ok.parts f b c.args.work.now.ticks.now.left c.wanted_parts.new.work.ticks.now.left (c.in-Ok.ensures.answer (site_of c.args.work.now.bank.now c.args.site.now) refl) c.args.head.rest (plain c.in-Some.kind.now) (along (λ o. Leads f (head_work (site_of c.args.work.now.bank.now c.args.site.now) (waits c.args.work.now.bank.now c.args.context.now c.args.frames.now) (spot_of c.args.work.now.bank.now c.args.context.now c.args.frames.now) (store_of c.args.work.now.bank.now c.args.store.now) (option_map (tree_of c.args.work.now.bank.now) c.args.wanted) false (text_of c.args.work.now.bank.now c.args.binder) (elim o as (λ _. Domain) [ Some A ↦ Written (plain A.now) | None ↦ Missing c.args.head.binder.now.place ]) (row_tree c.args.head.rest)) b c.args.work.now.ticks.now.left) c.in-Some.is h))

pub returns-in-None-clause-goes : goal.returns-in-None-clause-goes
returns-in-None-clause-goes g c f b h = c.bare_asked.ensures.goes (option_map (tree_of c.args.work.now.bank.now) c.args.wanted) f b c.wanted_parts.new.work.ticks.now.left (bare_leads c.args.work.now.bank.now c.wanted_parts.new.work.bank.now c.in-Ok.ensures.grows c.args.site.now c.args.store.now c.args.context.now c.args.scope.now c.args.frames.now c.requires.state c.args.wanted c.requires.wanted c.args.binder c.requires.binder c.in-Ok.parts f b c.args.work.now.ticks.now.left c.wanted_parts.new.work.ticks.now.left (c.in-Ok.ensures.answer (site_of c.args.work.now.bank.now c.args.site.now) refl) c.args.head.binder.now.place (row_tree c.args.head.rest) (along (λ o. Leads f (head_work (site_of c.args.work.now.bank.now c.args.site.now) (waits c.args.work.now.bank.now c.args.context.now c.args.frames.now) (spot_of c.args.work.now.bank.now c.args.context.now c.args.frames.now) (store_of c.args.work.now.bank.now c.args.store.now) (option_map (tree_of c.args.work.now.bank.now) c.args.wanted) false (text_of c.args.work.now.bank.now c.args.binder) (elim o as (λ _. Domain) [ Some A ↦ Written (plain A.now) | None ↦ Missing c.args.head.binder.now.place ]) (row_tree c.args.head.rest)) b c.args.work.now.ticks.now.left) c.in-None.is h))
