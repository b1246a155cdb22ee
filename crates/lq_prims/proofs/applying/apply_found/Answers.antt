use Rattle.std.proofs.Common.{◌≡◌, ◌∙◌, [], ◌∷◌, refl, sym, ap, ap₂, arith, Some, None, Ok}
use Rattle.std.proofs.Common.{subst as along}
use Rattle.lq_trees.specs.Ticks.{gives, done, ComesTo}
use Rattle.lq_terms.specs.Contexts.{context_of}
use Rattle.lq_terms.specs.Terms.{tree_of}
use Rattle.lq_terms.proofs.Growth.{Grows-trans}
use Rattle.lq_env.specs.Environments.{env_of}
use Rattle.lq_env.proofs.Grown.{env_of-grown}
use Rattle.lq_solving.specs.Stores.{read}
use Rattle.lq_solving.specs.Elaboration.{found}
use Rattle.lq_evars.specs.Places.{store_of}
use Rattle.lq_tactics.specs.Rows.{Done, needed, told, cannot_apply}
use Rattle.lq_prims.specs.Applied.{applied_if, applied_work, chosen_work}
use Rattle.lq_prims.specs.Building.{built_done}
use Rattle.lq_prims.specs.Opening.{choice_of, opening_of}
use Rattle.lq_prims.specs.Scenes.{scene_by}
use Rattle.lq_prims.specs.Working.{Does, Refuses}
use Rattle.lq_prims.proofs.SceneLaws.{declared_grown}
use Rattle.lq_prims.proofs.MakingLaws.{same_context, same_store, in_grown, term_grown}
use Rattle.lq_prims.proofs.ApplyLaws.{chosen_as, type_not_read, not_chosen, chosen_then_does, wanted_in, wanted_fits}
use Rattle.lq_prims.proofs.applying.apply_found.Goals as goal

pub returns-in-Err-clause-answer : goal.returns-in-Err-clause-answer
returns-in-Err-clause-answer g c s k vs e =
    let old = c.args.work.now.bank.now in
    type_not_read (env_of old c.args.env.now) s k (context_of old c.args.context.now) (tree_of old c.args.kind) vs c.args.strict (found (store_of old c.args.store.now) (tree_of old c.args.term) (tree_of old c.args.term_kind)) c.args.work.now.ticks.now.left
    c.needed.new.bank c.in-Err.fault (c.in-Err.ensures.answer c.args.work.now.ticks.now.left)

pub chosen_of-requires-clause-declared : goal.chosen_of-requires-clause-declared
chosen_of-requires-clause-declared g c = declared_grown c.args.work.now.bank.now c.needed.new.bank c.in-Ok.ensures.grows c.args.env.now c.requires.declared

pub chosen_of-requires-clause-place : goal.chosen_of-requires-clause-place
chosen_of-requires-clause-place g c = in_grown c.args.work.now.bank.now c.needed.new.bank c.in-Ok.ensures.grows c.args.store.now c.args.context.now c.requires.place

pub chosen_of-requires-clause-kind : goal.chosen_of-requires-clause-kind
chosen_of-requires-clause-kind g c = term_grown c.args.work.now.bank.now c.needed.new.bank c.in-Ok.ensures.grows c.args.store.now c.args.context.now c.requires.place c.args.term_kind c.requires.term_kind

pub chosen_of-requires-clause-wanted : goal.chosen_of-requires-clause-wanted
chosen_of-requires-clause-wanted g c =
    wanted_in c.args.work.now.bank.now c.needed.new.bank c.in-Ok.ensures.grows c.args.store.now c.args.context.now c.requires.place c.args.kind c.requires.kind c.in-Ok.wanted c.in-Ok.ensures.has c.in-Ok.ensures.answer

pub not_applied-requires-clause-store : goal.not_applied-requires-clause-store
not_applied-requires-clause-store g c =
    let old = c.args.work.now.bank.now in
    let new = c.chosen_of.new.work.bank.now in
    (in_grown old new (Grows-trans old c.needed.new.bank new c.in-Ok.ensures.grows c.in-Ok-None.ensures.grows) c.args.store.now c.args.context.now c.requires.place).store

pub not_applied-requires-clause-kept : goal.not_applied-requires-clause-kept
not_applied-requires-clause-kept g c =
    let old = c.args.work.now.bank.now in
    let new = c.chosen_of.new.work.bank.now in
    (in_grown old new (Grows-trans old c.needed.new.bank new c.in-Ok.ensures.grows c.in-Ok-None.ensures.grows) c.args.store.now c.args.context.now c.requires.place).kept

pub not_applied-requires-clause-over : goal.not_applied-requires-clause-over
not_applied-requires-clause-over g c =
    let old = c.args.work.now.bank.now in
    let new = c.chosen_of.new.work.bank.now in
    (term_grown old new (Grows-trans old c.needed.new.bank new c.in-Ok.ensures.grows c.in-Ok-None.ensures.grows) c.args.store.now c.args.context.now c.requires.place c.args.term c.requires.term).stands.over

pub not_applied-requires-clause-fits : goal.not_applied-requires-clause-fits
not_applied-requires-clause-fits g c =
    let mid = c.needed.new.bank in
    let new = c.chosen_of.new.work.bank.now in
    along (λ z. needed z ≡ gives z) (sym (c.in-Ok-None.ensures.grows.tree c.in-Ok.wanted c.in-Ok.ensures.has)) (wanted_fits (read (store_of c.args.work.now.bank.now c.args.store.now) (tree_of c.args.work.now.bank.now c.args.kind)) (tree_of mid c.in-Ok.wanted) c.in-Ok.ensures.answer)

pub returns-in-Ok-Some-clause-answer : goal.returns-in-Ok-Some-clause-answer
unfolding applied_if applied_work
returns-in-Ok-Some-clause-answer g c s k vs e =
    let old = c.args.work.now.bank.now in
    let one = c.needed.new.bank in
    let mid = c.chosen_of.new.work.bank.now in
    let new = c.applied_to.new.work.bank.now in
    let ds = c.args.env.now in
    let hs = c.args.context.now in
    let p = c.args.store.now in
    let E = env_of old ds in
    let h = context_of old hs in
    let T = tree_of old c.args.kind in
    let t = tree_of old c.args.term in
    let U = tree_of one c.in-Ok.wanted in
    let o = opening_of mid c.in-Ok-Some.opening in
    let b = c.args.work.now.ticks.now.left in
    let l = c.chosen_of.new.work.ticks.now.left in
    let left = c.applied_to.new.work.ticks.now.left in
    let f = found (store_of old p) t (tree_of old c.args.term_kind) in
    let first = c.in-Ok.ensures.grows in
    let second = c.in-Ok-Some.ensures.grows in
    let both = Grows-trans old one mid first second in
    let tell = built_done new c.applied_to.new.store in
    chosen_then_does E s k h T vs c.args.strict f b U c.in-Ok.ensures.answer l (Some o)
    (along (λ w. ComesTo (λ n. chosen_work (scene_by E s k h T vs n) U f) b (done (choice_of mid w) l)) c.in-Ok-Some.field-0-is
    (chosen_as (env_of one ds) E s k (context_of one hs) h T vs U (found (store_of one p) t (tree_of one c.args.term_kind)) f mid (choice_of mid) (Ok c.in-Ok-Some.field-0) b l
    (env_of-grown old one first ds c.requires.declared.env) (same_context old one first p hs c.requires.place)
    (ap₂ (λ z A. found z t A) (same_store old one first p hs c.requires.place) (first.tree c.args.term_kind c.requires.term_kind.has)) (c.in-Ok-Some.ensures.answer s k T t vs)))
    new tell c.applied_to.result left
    (along (λ u. Does new tell c.applied_to.result (λ n. applied_work (scene_by E s k h T vs n) c.args.strict s u o) l left) (both.tree c.args.term c.requires.term.has)
    (c.applied_to.ensures.answer (λ n. scene_by E s k h T vs n) (λ n. refl) (λ n. sym (same_context old mid both p hs c.requires.place)) s e))

pub returns-in-Ok-None-clause-answer : goal.returns-in-Ok-None-clause-answer
unfolding applied_if told
returns-in-Ok-None-clause-answer g c s k vs e =
    let old = c.args.work.now.bank.now in
    let one = c.needed.new.bank in
    let mid = c.chosen_of.new.work.bank.now in
    let new = c.not_applied.new.bank in
    let ds = c.args.env.now in
    let hs = c.args.context.now in
    let p = c.args.store.now in
    let E = env_of old ds in
    let h = context_of old hs in
    let T = tree_of old c.args.kind in
    let t = tree_of old c.args.term in
    let U = tree_of one c.in-Ok.wanted in
    let b = c.args.work.now.ticks.now.left in
    let l = c.chosen_of.new.work.ticks.now.left in
    let f = found (store_of old p) t (tree_of old c.args.term_kind) in
    let first = c.in-Ok.ensures.grows in
    let second = c.in-Ok-None.ensures.grows in
    let both = Grows-trans old one mid first second in
    chosen_then_does E s k h T vs c.args.strict f b U c.in-Ok.ensures.answer l None
    (along (λ w. ComesTo (λ n. chosen_work (scene_by E s k h T vs n) U f) b (done (choice_of mid w) l)) c.in-Ok-None.field-0-is
    (chosen_as (env_of one ds) E s k (context_of one hs) h T vs U (found (store_of one p) t (tree_of one c.args.term_kind)) f mid (choice_of mid) (Ok c.in-Ok-None.field-0) b l
    (env_of-grown old one first ds c.requires.declared.env) (same_context old one first p hs c.requires.place)
    (ap₂ (λ z A. found z t A) (same_store old one first p hs c.requires.place) (first.tree c.args.term_kind c.requires.term_kind.has)) (c.in-Ok-None.ensures.answer s k T t vs)))
    {X = Rattle.lq_prims.specs.declared.building.Built.Built} new (built_done new p) (Rattle.std.proofs.Common.Err c.not_applied.result) l
    (along (λ z. Refuses {A = Done} new c.not_applied.result (λ n. told (read z t ∷ U ∷ []) (cannot_apply (read z t) U)) l l) (same_store old mid both p hs c.requires.place)
    (along (λ u. Refuses {A = Done} new c.not_applied.result (λ n. told (read (store_of mid p) u ∷ U ∷ []) (cannot_apply (read (store_of mid p) u) U)) l l) (both.tree c.args.term c.requires.term.has)
    (along (λ u. Refuses {A = Done} new c.not_applied.result (λ n. told (read (store_of mid p) (tree_of mid c.args.term) ∷ u ∷ []) (cannot_apply (read (store_of mid p) (tree_of mid c.args.term)) u)) l l)
    (second.tree c.in-Ok.wanted c.in-Ok.ensures.has) (c.not_applied.ensures.answer l))))

pub returns-in-Err-chosen_of-clause-answer : goal.returns-in-Err-chosen_of-clause-answer
returns-in-Err-chosen_of-clause-answer g c s k vs e =
    let old = c.args.work.now.bank.now in
    let one = c.needed.new.bank in
    let mid = c.chosen_of.new.work.bank.now in
    let ds = c.args.env.now in
    let hs = c.args.context.now in
    let p = c.args.store.now in
    let E = env_of old ds in
    let h = context_of old hs in
    let T = tree_of old c.args.kind in
    let t = tree_of old c.args.term in
    let U = tree_of one c.in-Ok.wanted in
    let b = c.args.work.now.ticks.now.left in
    let l = c.chosen_of.new.work.ticks.now.left in
    let f = found (store_of old p) t (tree_of old c.args.term_kind) in
    let first = c.in-Ok.ensures.grows in
    not_chosen E s k h T vs c.args.strict f b U c.in-Ok.ensures.answer mid c.in-Err-chosen_of.fault l
    (chosen_as (env_of one ds) E s k (context_of one hs) h T vs U (found (store_of one p) t (tree_of one c.args.term_kind)) f mid (choice_of mid) (Rattle.std.proofs.Common.Err c.in-Err-chosen_of.fault) b l
    (env_of-grown old one first ds c.requires.declared.env) (same_context old one first p hs c.requires.place)
    (ap₂ (λ z A. found z t A) (same_store old one first p hs c.requires.place) (first.tree c.args.term_kind c.requires.term_kind.has)) (c.in-Err-chosen_of.ensures.answer s k T t vs))
