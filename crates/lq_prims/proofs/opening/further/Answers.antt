use Rattle.std.proofs.Common.{◌≡◌, ◌∙◌, sym, ap}
use Rattle.std.proofs.Common.{subst as along}
use Rattle.lq_trees.specs.Ticks.{gives}
use Rattle.lq_terms.specs.Contexts.{context_of}
use Rattle.lq_terms.specs.Terms.{tree_of, text_of}
use Rattle.lq_terms.proofs.Growth.{Grows-trans}
use Rattle.lq_env.specs.Environments.{env_of}
use Rattle.lq_tactics.specs.Applying.{premise_more}
use Rattle.lq_prims.specs.Binders.{binder_tree}
use Rattle.lq_prims.specs.Opening.{opening_of}
use Rattle.lq_prims.specs.Scenes.{scene_by}
use Rattle.lq_prims.specs.Working.{Refuses}
use Rattle.lq_prims.proofs.MakingLaws.{same_context, term_grown}
use Rattle.lq_prims.proofs.OpenLaws.{step_refused, step_ends, step_ends_let, step_product, product_refused, premise_same, opening_same, opening_grown, product_good}
use Rattle.lq_prims.proofs.opening.further.Goals as goal

pub premise_more-requires-clause-opening : goal.premise_more-requires-clause-opening
premise_more-requires-clause-opening g c = opening_grown c.args.work.now.bank.now c.head.new.work.bank.now c.in-Ok.ensures.grows c.args.context.now c.args.opening.now c.requires.opening

pub premise_more-requires-clause-good : goal.premise_more-requires-clause-good
premise_more-requires-clause-good g c =
    let old = c.args.work.now.bank.now in
    let mid = c.head.new.work.bank.now in
    let grows = c.in-Ok.ensures.grows in
    let hs = c.args.context.now in
    let o = c.args.opening.now in
    let h = c.requires.opening in
    let E = env_of old c.args.env.now in
    let G = context_of old hs in
    let b = c.args.work.now.ticks.now.left in
    let l = c.head.new.work.ticks.now.left in
    let t = tree_of mid c.in-Ok.form in
    product_good old mid grows c.args.env.now c.requires.declared hs o h t b l c.in-Ok.ensures.answer c.in-Some-Product.name c.in-Some-Product.domain c.in-Some-Product.rest (c.in-Some-Product.ensures.1 ∙ ap (binder_tree mid) c.in-Some-Product.field-0-is)

pub returns-in-Ok-premise_more-clause-answer : goal.returns-in-Ok-premise_more-clause-answer
returns-in-Ok-premise_more-clause-answer g c s k T vs m os ps late q left d =
    let old = c.args.work.now.bank.now in
    let mid = c.head.new.work.bank.now in
    let grows = c.in-Ok.ensures.grows in
    let hs = c.args.context.now in
    let o = c.args.opening.now in
    let h = c.requires.opening in
    let E = env_of old c.args.env.now in
    let G = context_of old hs in
    let b = c.args.work.now.ticks.now.left in
    let l = c.head.new.work.ticks.now.left in
    let t = tree_of mid c.in-Ok.form in
    let x = text_of mid c.in-Some-Product.name in
    let A = tree_of mid c.in-Some-Product.domain in
    let B = tree_of mid c.in-Some-Product.rest in
    let new = c.premise_more.new.bank in
    step_product E s k G T vs (opening_of old o) m os b t l c.in-Ok.ensures.answer x A B (c.in-Some-Product.ensures.1 ∙ ap (binder_tree mid) c.in-Some-Product.field-0-is) (opening_of new c.in-Ok-premise_more.next)
    (λ n. along (λ z. premise_more (scene_by E s k G T vs n) z x A B ≡ gives (opening_of new c.in-Ok-premise_more.next)) (opening_same old mid grows hs o h)
    (c.in-Ok-premise_more.ensures.answer (scene_by E s k G T vs n) (sym (same_context old mid grows o.store hs h.place)))) late (λ u. ps) q left d

pub returns-in-Ok-premise_more-clause-later : goal.returns-in-Ok-premise_more-clause-later
returns-in-Ok-premise_more-clause-later g c t i =
    c.in-Ok-premise_more.ensures.later t (term_grown c.args.work.now.bank.now c.head.new.work.bank.now c.in-Ok.ensures.grows c.args.opening.now.store c.args.context.now c.requires.opening.place t i)

pub returns-in-Ok-premise_more-clause-grows : goal.returns-in-Ok-premise_more-clause-grows
returns-in-Ok-premise_more-clause-grows g c = Grows-trans c.args.work.now.bank.now c.head.new.work.bank.now c.premise_more.new.bank c.in-Ok.ensures.grows c.in-Ok-premise_more.ensures.grows

pub returns-in-Err-premise_more-clause-answer : goal.returns-in-Err-premise_more-clause-answer
returns-in-Err-premise_more-clause-answer g c s k T vs m os =
    let old = c.args.work.now.bank.now in
    let mid = c.head.new.work.bank.now in
    let grows = c.in-Ok.ensures.grows in
    let hs = c.args.context.now in
    let o = c.args.opening.now in
    let h = c.requires.opening in
    let E = env_of old c.args.env.now in
    let G = context_of old hs in
    let b = c.args.work.now.ticks.now.left in
    let l = c.head.new.work.ticks.now.left in
    let t = tree_of mid c.in-Ok.form in
    let x = text_of mid c.in-Some-Product.name in
    let A = tree_of mid c.in-Some-Product.domain in
    let B = tree_of mid c.in-Some-Product.rest in
    let new = c.premise_more.new.bank in
    product_refused E s k G T vs (opening_of old o) m os b t l c.in-Ok.ensures.answer x A B (c.in-Some-Product.ensures.1 ∙ ap (binder_tree mid) c.in-Some-Product.field-0-is) new c.in-Err-premise_more.fault
    (λ a. along (λ z. Refuses new c.in-Err-premise_more.fault (λ n. premise_more (scene_by E s k G T vs 0) z x A B) a a) (opening_same old mid grows hs o h)
    (c.in-Err-premise_more.ensures.answer (scene_by E s k G T vs 0) (sym (same_context old mid grows o.store hs h.place)) a))
    (premise_same E s k G T vs (opening_of old o) x A B)

pub returns-in-Err-premise_more-clause-grows : goal.returns-in-Err-premise_more-clause-grows
returns-in-Err-premise_more-clause-grows g c = Grows-trans c.args.work.now.bank.now c.head.new.work.bank.now c.premise_more.new.bank c.in-Ok.ensures.grows c.in-Err-premise_more.ensures.grows

pub returns-in-Some-Definition-clause-answer : goal.returns-in-Some-Definition-clause-answer
returns-in-Some-Definition-clause-answer g c s k T vs m os =
    let old = c.args.work.now.bank.now in
    let mid = c.head.new.work.bank.now in
    let grows = c.in-Ok.ensures.grows in
    let hs = c.args.context.now in
    let o = c.args.opening.now in
    let h = c.requires.opening in
    let E = env_of old c.args.env.now in
    let G = context_of old hs in
    let b = c.args.work.now.ticks.now.left in
    let l = c.head.new.work.ticks.now.left in
    let t = tree_of mid c.in-Ok.form in
    step_ends_let E s k G T vs (opening_of old o) m os b t l c.in-Ok.ensures.answer mid (text_of mid c.in-Some-Definition._name) (tree_of mid c.in-Some-Definition._value) (tree_of mid c.in-Some-Definition._kind) (tree_of mid c.in-Some-Definition._rest) (c.in-Some-Definition.ensures.1 ∙ ap (binder_tree mid) c.in-Some-Definition.field-0-is)

pub returns-in-None-clause-answer : goal.returns-in-None-clause-answer
returns-in-None-clause-answer g c s k T vs m os =
    let old = c.args.work.now.bank.now in
    let mid = c.head.new.work.bank.now in
    let grows = c.in-Ok.ensures.grows in
    let hs = c.args.context.now in
    let o = c.args.opening.now in
    let h = c.requires.opening in
    let E = env_of old c.args.env.now in
    let G = context_of old hs in
    let b = c.args.work.now.ticks.now.left in
    let l = c.head.new.work.ticks.now.left in
    let t = tree_of mid c.in-Ok.form in
    step_ends E s k G T vs (opening_of old o) m os b t l c.in-Ok.ensures.answer mid c.in-None.ensures

pub returns-in-Err-clause-answer : goal.returns-in-Err-clause-answer
returns-in-Err-clause-answer g c s k T vs m os =
    let old = c.args.work.now.bank.now in
    step_refused (env_of old c.args.env.now) s k (context_of old c.args.context.now) T vs (opening_of old c.args.opening.now) m os c.args.work.now.ticks.now.left c.head.new.work.bank.now c.in-Err.fault c.head.new.work.ticks.now.left c.in-Err.ensures.answer
