use Rattle.std.proofs.Common.{◌≡◌, ◌∙◌, sym, ap, ap₂, arith, length, None, suc}
use Rattle.std.proofs.Common.{subst as along}
use Rattle.lq_trees.specs.Ticks.{gives}
use Rattle.lq_trees.specs.Change.{subst}
use Rattle.lq_terms.specs.Contexts.{context_of}
use Rattle.lq_terms.specs.Terms.{tree_of, text_of}
use Rattle.lq_terms.proofs.Growth.{Grows-refl, Grows-trans}
use Rattle.lq_evars.specs.Places.{store_of}
use Rattle.lq_evars.proofs.Growing.{store_of-grown}
use Rattle.lq_solving.proofs.ElabKept.{Grown}
use Rattle.lq_solving.specs.Stores.{new_variable}
use Rattle.lq_tactics.specs.Rows.{goal_term, store_work}
use Rattle.lq_prims.specs.Making.{HasIn, IsIn}
use Rattle.lq_prims.specs.Opening.{opening_of}
use Rattle.lq_prims.specs.Working.{Refuses}
use Rattle.lq_prims.proofs.MakingLaws.{in_grown, term_grown, term_later}
use Rattle.lq_prims.proofs.OpenLaws.{domain_in, rest_held, rest_within, rest_in, opening_more, more_tree, more_made, more_refused}
use Rattle.lq_prims.proofs.opening.premise_more.Goals as goal

pub premise-requires-clause-kind : goal.premise-requires-clause-kind
premise-requires-clause-kind c =
    along (λ z. HasIn c.args.bank.now z c.args.context.now c.args.domain) (sym c.in-Ok.ensures)
    (domain_in c.args.bank.now c.args.bank.now (Grows-refl c.args.bank.now) c.args.context.now c.args.opening.now c.requires.opening c.args.name c.args.domain c.args.rest c.requires.good c.requires.domain)

pub with_premise-requires-clause-holds : goal.with_premise-requires-clause-holds
with_premise-requires-clause-holds c = rest_held c.args.bank.now c.premise.new.bank c.in-Ok-premise.ensures.grows c.args.context.now c.args.opening.now c.requires.opening c.args.name c.args.domain c.args.rest c.requires.good c.requires.rest

pub with_premise-requires-clause-within : goal.with_premise-requires-clause-within
with_premise-requires-clause-within c = rest_within c.args.bank.now c.premise.new.bank c.in-Ok-premise.ensures.grows c.args.context.now c.args.opening.now c.requires.opening c.args.name c.args.domain c.args.rest c.requires.good c.requires.rest

pub with_premise-requires-clause-closed : goal.with_premise-requires-clause-closed
with_premise-requires-clause-closed c = c.in-Ok-premise.ensures.stands.stands.within

pub returns-in-Ok-with_premise-clause-answer : goal.returns-in-Ok-with_premise-clause-answer
returns-in-Ok-with_premise-clause-answer c f e =
    let old = c.args.bank.now in
    let new = c.premise.new.bank in
    let late = c.with_premise.new.bank in
    let o = c.args.opening.now in
    let p = c.in-Ok-with_premise.next in
    let k = c.in-Ok-premise.made.goal in
    let G = context_of old c.args.context.now in
    let v = goal_term k G in
    let B = tree_of old c.args.rest in
    more_made f (opening_of old o) (text_of old c.args.name) (tree_of old c.args.domain) B (store_of new c.premise.new.store) k G e
    (along (λ z. store_work (new_variable (store_of old z) (record { context = G; kind = tree_of old c.args.domain; name = None })) ≡ gives (store_of new c.premise.new.store, k)) c.in-Ok.ensures c.in-Ok-premise.ensures.answer)
    (opening_of late p)
    (more_tree old late c.args.context.now o p c.args.name k v B (Grows-trans old new late c.in-Ok-premise.ensures.grows c.in-Ok-with_premise.ensures.grows) c.requires.opening c.requires.name c.in-Ok-with_premise.ensures.names
    c.in-Ok-with_premise.ensures.premises (c.in-Ok-with_premise.ensures.rest.is ∙ ap₂ subst c.in-Ok-premise.ensures.term.is (c.in-Ok-premise.ensures.grows.tree c.args.rest c.requires.rest))
    (store_of new c.premise.new.store)
    (sym (ap (store_of late) c.in-Ok-with_premise.ensures.store ∙ store_of-grown new late c.in-Ok-with_premise.ensures.grows c.premise.new.store c.in-Ok-premise.ensures.place.store)))

pub returns-in-Ok-with_premise-clause-has : goal.returns-in-Ok-with_premise-clause-has
returns-in-Ok-with_premise-clause-has c =
    let old = c.args.bank.now in
    let new = c.premise.new.bank in
    let late = c.with_premise.new.bank in
    let o = c.args.opening.now in
    let p = c.in-Ok-with_premise.next in
    let same = sym c.in-Ok-with_premise.ensures.store in
    let number = ap (λ z. length z.variables) c.in-Ok.ensures in
    opening_more old late c.args.context.now o p c.args.name c.in-Ok-premise.made.goal (Grows-trans old new late c.in-Ok-premise.ensures.grows c.in-Ok-with_premise.ensures.grows) c.requires.opening c.requires.name
    (along (λ z. IsIn late z c.args.context.now) same (in_grown new late c.in-Ok-with_premise.ensures.grows c.premise.new.store c.args.context.now c.in-Ok-premise.ensures.place))
    (along (λ z. HasIn late z c.args.context.now p.rest) same
    (rest_in c.args.bank.now c.premise.new.bank c.in-Ok-premise.ensures.grows c.args.context.now c.args.opening.now c.requires.opening c.args.name c.args.domain c.args.rest c.requires.good c.premise.new.store late c.in-Ok-with_premise.ensures.grows c.in-Ok-premise.ensures.place
    (along (λ z. Grown (store_of old z) (store_of new c.premise.new.store)) c.in-Ok.ensures c.in-Ok-premise.ensures.grown) c.in-Ok-premise.made.term c.in-Ok-premise.ensures.stands p.rest c.requires.rest c.in-Ok-with_premise.ensures.rest))
    c.in-Ok-with_premise.ensures.names c.in-Ok-with_premise.ensures.premises (c.in-Ok-premise.ensures.number ∙ number) (ap (λ z. length z.variables) c.in-Ok-with_premise.ensures.store ∙ c.in-Ok-premise.ensures.more ∙ ap suc number)

pub returns-in-Ok-with_premise-clause-later : goal.returns-in-Ok-with_premise-clause-later
returns-in-Ok-with_premise-clause-later c t h =
    let old = c.args.bank.now in
    let new = c.premise.new.bank in
    let late = c.with_premise.new.bank in
    let o = c.args.opening.now in
    let p = c.in-Ok-with_premise.next in
    along (λ z. HasIn late z c.args.context.now t) (sym c.in-Ok-with_premise.ensures.store)
    (term_grown new late c.in-Ok-with_premise.ensures.grows c.premise.new.store c.args.context.now c.in-Ok-premise.ensures.place t
    (term_later old new c.in-Ok-premise.ensures.grows o.store c.args.context.now c.requires.opening.place c.premise.new.store c.in-Ok-premise.ensures.place.store
    (along (λ z. Grown (store_of old z) (store_of new c.premise.new.store)) c.in-Ok.ensures c.in-Ok-premise.ensures.grown) t h))

pub returns-in-Ok-with_premise-clause-more : goal.returns-in-Ok-with_premise-clause-more
returns-in-Ok-with_premise-clause-more c =
    let number = ap (λ z. length z.variables) c.in-Ok.ensures in
    (ap (λ z. length z.variables) c.in-Ok-with_premise.ensures.store ∙ c.in-Ok-premise.ensures.more ∙ ap suc number, omega (arith, number, c.in-Ok-premise.ensures.room))

pub returns-in-Ok-with_premise-clause-grows : goal.returns-in-Ok-with_premise-clause-grows
returns-in-Ok-with_premise-clause-grows c = Grows-trans c.args.bank.now c.premise.new.bank c.with_premise.new.bank c.in-Ok-premise.ensures.grows c.in-Ok-with_premise.ensures.grows

pub returns-in-Err-premise-clause-answer : goal.returns-in-Err-premise-clause-answer
returns-in-Err-premise-clause-answer c f e b =
    let old = c.args.bank.now in
    let G = context_of old c.args.context.now in
    more_refused c.premise.new.bank c.in-Err-premise.fault f (opening_of old c.args.opening.now) (text_of old c.args.name) (tree_of old c.args.domain) (tree_of old c.args.rest) G e b
    (along (λ z. Refuses c.premise.new.bank c.in-Err-premise.fault (λ n. store_work (new_variable (store_of old z) (record { context = G; kind = tree_of old c.args.domain; name = None }))) b b) c.in-Ok.ensures (c.in-Err-premise.ensures.answer b))
