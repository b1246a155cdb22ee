use Rattle.std.proofs.Common.{◌≡◌, sym, None, Ok}
use Rattle.std.proofs.Common.{subst as along}
use Rattle.lq_trees.specs.Ticks.{gives}
use Rattle.lq_terms.specs.Contexts.{context_of}
use Rattle.lq_terms.specs.Terms.{IsTerm, tree_of}
use Rattle.lq_solving.specs.Stores.{new_variable}
use Rattle.lq_solving.proofs.ElabKept.{Grown}
use Rattle.lq_evars.specs.Places.{one_more, store_of}
use Rattle.lq_evars.proofs.Growing.{store_of-grown}
use Rattle.lq_tactics.specs.Rows.{goal_term, store_work}
use Rattle.lq_prims.specs.Working.{Refuses}
use Rattle.lq_prims.proofs.MakingLaws.{in_grown}
use Rattle.lq_prims.proofs.NeedLaws.{make_ok, make_err, variable}
use Rattle.lq_prims.proofs.OpenLaws.{made, made_in, made_stands, made_number, made_more}
use Rattle.lq_prims.proofs.opening.premise.Goals as goal

pub returns-in-Ok-goal_term-clause-answer : goal.returns-in-Ok-goal_term-clause-answer
returns-in-Ok-goal_term-clause-answer c =
    let bank = c.args.bank.now in
    let new = c.goal_term.new.bank in
    let here = made_in bank c.args.store.now c.new_var.new.self c.args.context.now c.args.kind c.in-Ok.goal c.requires.place c.requires.kind (along (λ z. new_variable (store_of bank c.args.store.now) (record { context = context_of bank z; kind = tree_of bank c.args.kind; name = None }) ≡ Ok (store_of bank c.new_var.new.self, c.in-Ok.goal)) c.in_ok-own.ensures (c.in-Ok.ensures.told bank))
    (along (λ z. c.new_var.new.self ≡ one_more c.args.store.now (record { context = z; kind = c.args.kind; name = None })) c.in_ok-own.ensures c.in-Ok.ensures.added) in
    along (λ z. store_work (new_variable (store_of bank c.args.store.now) (variable (context_of bank c.args.context.now) (tree_of bank c.args.kind))) ≡ gives (z, c.in-Ok.goal))
    (sym (store_of-grown bank new c.in-Ok-goal_term.ensures.grows c.new_var.new.self here.store))
    (along (λ z. store_work (new_variable (store_of bank c.args.store.now) (variable (context_of bank z) (tree_of bank c.args.kind))) ≡ gives (store_of bank c.new_var.new.self, c.in-Ok.goal)) c.in_ok-own.ensures
    (make_ok bank c.new_var.new.self c.in-Ok.goal (store_of bank c.args.store.now) (variable (context_of bank c.in_ok-own.own) (tree_of bank c.args.kind)) (c.in-Ok.ensures.told bank)))

pub returns-in-Ok-goal_term-clause-place : goal.returns-in-Ok-goal_term-clause-place
returns-in-Ok-goal_term-clause-place c =
    let bank = c.args.bank.now in
    in_grown bank c.goal_term.new.bank c.in-Ok-goal_term.ensures.grows c.new_var.new.self c.args.context.now
    (made_in bank c.args.store.now c.new_var.new.self c.args.context.now c.args.kind c.in-Ok.goal c.requires.place c.requires.kind (along (λ z. new_variable (store_of bank c.args.store.now) (record { context = context_of bank z; kind = tree_of bank c.args.kind; name = None }) ≡ Ok (store_of bank c.new_var.new.self, c.in-Ok.goal)) c.in_ok-own.ensures (c.in-Ok.ensures.told bank))
    (along (λ z. c.new_var.new.self ≡ one_more c.args.store.now (record { context = z; kind = c.args.kind; name = None })) c.in_ok-own.ensures c.in-Ok.ensures.added))

pub returns-in-Ok-goal_term-clause-grown : goal.returns-in-Ok-goal_term-clause-grown
returns-in-Ok-goal_term-clause-grown c =
    let bank = c.args.bank.now in
    along (Grown (store_of bank c.args.store.now)) (sym (store_of-grown bank c.goal_term.new.bank c.in-Ok-goal_term.ensures.grows c.new_var.new.self (made_in bank c.args.store.now c.new_var.new.self c.args.context.now c.args.kind c.in-Ok.goal c.requires.place c.requires.kind (along (λ z. new_variable (store_of bank c.args.store.now) (record { context = context_of bank z; kind = tree_of bank c.args.kind; name = None }) ≡ Ok (store_of bank c.new_var.new.self, c.in-Ok.goal)) c.in_ok-own.ensures (c.in-Ok.ensures.told bank))
    (along (λ z. c.new_var.new.self ≡ one_more c.args.store.now (record { context = z; kind = c.args.kind; name = None })) c.in_ok-own.ensures c.in-Ok.ensures.added)).store))
    (made bank c.args.store.now c.new_var.new.self c.args.context.now c.args.kind c.in-Ok.goal c.requires.place c.requires.kind (along (λ z. new_variable (store_of bank c.args.store.now) (record { context = context_of bank z; kind = tree_of bank c.args.kind; name = None }) ≡ Ok (store_of bank c.new_var.new.self, c.in-Ok.goal)) c.in_ok-own.ensures (c.in-Ok.ensures.told bank))
    (along (λ z. c.new_var.new.self ≡ one_more c.args.store.now (record { context = z; kind = c.args.kind; name = None })) c.in_ok-own.ensures c.in-Ok.ensures.added)).grown

pub returns-in-Ok-goal_term-clause-stands : goal.returns-in-Ok-goal_term-clause-stands
returns-in-Ok-goal_term-clause-stands c =
    let bank = c.args.bank.now in
    let new = c.goal_term.new.bank in
    let here = (made_in bank c.args.store.now c.new_var.new.self c.args.context.now c.args.kind c.in-Ok.goal c.requires.place c.requires.kind (along (λ z. new_variable (store_of bank c.args.store.now) (record { context = context_of bank z; kind = tree_of bank c.args.kind; name = None }) ≡ Ok (store_of bank c.new_var.new.self, c.in-Ok.goal)) c.in_ok-own.ensures (c.in-Ok.ensures.told bank))
    (along (λ z. c.new_var.new.self ≡ one_more c.args.store.now (record { context = z; kind = c.args.kind; name = None })) c.in_ok-own.ensures c.in-Ok.ensures.added)) in
    let stands = (made bank c.args.store.now c.new_var.new.self c.args.context.now c.args.kind c.in-Ok.goal c.requires.place c.requires.kind (along (λ z. new_variable (store_of bank c.args.store.now) (record { context = context_of bank z; kind = tree_of bank c.args.kind; name = None }) ≡ Ok (store_of bank c.new_var.new.self, c.in-Ok.goal)) c.in_ok-own.ensures (c.in-Ok.ensures.told bank))
    (along (λ z. c.new_var.new.self ≡ one_more c.args.store.now (record { context = z; kind = c.args.kind; name = None })) c.in_ok-own.ensures c.in-Ok.ensures.added)).term in
    made_stands bank new c.in-Ok-goal_term.ensures.grows c.new_var.new.self c.args.context.now here c.in-Ok.goal c.in-Ok-goal_term.term
    (along (λ z. IsTerm new c.in-Ok-goal_term.term (goal_term c.in-Ok.goal (context_of bank z))) c.hypotheses.ensures c.in-Ok-goal_term.ensures.term) stands

pub returns-in-Ok-goal_term-clause-number : goal.returns-in-Ok-goal_term-clause-number
returns-in-Ok-goal_term-clause-number c =
    let bank = c.args.bank.now in
    (made_number bank c.args.store.now c.new_var.new.self c.args.context.now c.args.kind c.in-Ok.goal c.requires.place c.requires.kind (along (λ z. new_variable (store_of bank c.args.store.now) (record { context = context_of bank z; kind = tree_of bank c.args.kind; name = None }) ≡ Ok (store_of bank c.new_var.new.self, c.in-Ok.goal)) c.in_ok-own.ensures (c.in-Ok.ensures.told bank))
    (along (λ z. c.new_var.new.self ≡ one_more c.args.store.now (record { context = z; kind = c.args.kind; name = None })) c.in_ok-own.ensures c.in-Ok.ensures.added)).0

pub returns-in-Ok-goal_term-clause-more : goal.returns-in-Ok-goal_term-clause-more
returns-in-Ok-goal_term-clause-more c =
    let bank = c.args.bank.now in
    made_more bank c.args.store.now c.new_var.new.self c.args.context.now c.args.kind c.in-Ok.goal c.requires.place c.requires.kind (along (λ z. new_variable (store_of bank c.args.store.now) (record { context = context_of bank z; kind = tree_of bank c.args.kind; name = None }) ≡ Ok (store_of bank c.new_var.new.self, c.in-Ok.goal)) c.in_ok-own.ensures (c.in-Ok.ensures.told bank))
    (along (λ z. c.new_var.new.self ≡ one_more c.args.store.now (record { context = z; kind = c.args.kind; name = None })) c.in_ok-own.ensures c.in-Ok.ensures.added)

pub returns-in-Ok-goal_term-clause-room : goal.returns-in-Ok-goal_term-clause-room
returns-in-Ok-goal_term-clause-room c =
    let bank = c.args.bank.now in
    (made_number bank c.args.store.now c.new_var.new.self c.args.context.now c.args.kind c.in-Ok.goal c.requires.place c.requires.kind (along (λ z. new_variable (store_of bank c.args.store.now) (record { context = context_of bank z; kind = tree_of bank c.args.kind; name = None }) ≡ Ok (store_of bank c.new_var.new.self, c.in-Ok.goal)) c.in_ok-own.ensures (c.in-Ok.ensures.told bank))
    (along (λ z. c.new_var.new.self ≡ one_more c.args.store.now (record { context = z; kind = c.args.kind; name = None })) c.in_ok-own.ensures c.in-Ok.ensures.added)).1

pub returns-in-Err-clause-answer : goal.returns-in-Err-clause-answer
returns-in-Err-clause-answer c b =
    let bank = c.args.bank.now in
    along (λ z. Refuses bank c.from.result (λ n. store_work (new_variable (store_of bank c.args.store.now) (variable (context_of bank z) (tree_of bank c.args.kind)))) b b) c.in_ok-own.ensures
    (make_err bank c.new_var.new.self c.in-Err.fault c.from.result (store_of bank c.args.store.now) (variable (context_of bank c.in_ok-own.own) (tree_of bank c.args.kind)) c.from.ensures (c.in-Err.ensures.told bank) b)
