use Rattle.std.proofs.Common.{◌∙◌, sym, ap}
use Rattle.std.proofs.Common.{subst as along}
use Rattle.lq_trees.specs.Ticks.{done, ComesTo}
use Rattle.lq_terms.specs.Contexts.{context_of}
use Rattle.lq_terms.specs.Terms.{IsTerm, tree_of}
use Rattle.lq_evars.specs.Places.{store_of}
use Rattle.lq_evars.proofs.Growing.{store_of-grown, context_grown}
use Rattle.lq_tactics.specs.Rows.{goal_term, new_goal}
use Rattle.lq_tactics.proofs.RowsKept.{IsMade}
use Rattle.lq_prims.specs.Working.{Refuses}
use Rattle.lq_prims.proofs.MakingLaws.{in_grown, in_later, term_grown, term_later}
use Rattle.lq_prims.proofs.new_goals.new_goal_term.Goals as goal

pub returns-in-Ok-goal_term-clause-answer : goal.returns-in-Ok-goal_term-clause-answer
returns-in-Ok-goal_term-clause-answer g c s e =
    let bank = c.args.work.now.bank.now in
    along (λ z. ComesTo (λ n. new_goal (s n) (store_of bank c.args.store.now) (context_of bank c.args.context.now) (tree_of bank c.args.kind)) c.args.work.now.ticks.now.left (done (z, c.in-Ok-new_goal.goal) c.new_goal.new.work.ticks.now.left))
    (sym (store_of-grown c.new_goal.new.work.bank.now c.goal_term.new.bank c.in-Ok-goal_term.ensures.grows c.new_goal.new.store c.in-Ok-new_goal.ensures.has))
    (along (λ z. ComesTo (λ n. new_goal (s n) (store_of bank c.args.store.now) (context_of bank z) (tree_of bank c.args.kind)) c.args.work.now.ticks.now.left
    (done (store_of c.new_goal.new.work.bank.now c.new_goal.new.store, c.in-Ok-new_goal.goal) c.new_goal.new.work.ticks.now.left)) c.in-Ok.ensures (c.in-Ok-new_goal.ensures.answer s e))

pub returns-in-Ok-goal_term-clause-made : goal.returns-in-Ok-goal_term-clause-made
returns-in-Ok-goal_term-clause-made g c =
    let bank = c.args.work.now.bank.now in
    along (λ z. IsMade (store_of bank c.args.store.now) (context_of bank c.args.context.now) (z, c.in-Ok-new_goal.goal))
    (sym (store_of-grown c.new_goal.new.work.bank.now c.goal_term.new.bank c.in-Ok-goal_term.ensures.grows c.new_goal.new.store c.in-Ok-new_goal.ensures.has))
    (along (λ z. IsMade (store_of bank c.args.store.now) (context_of bank z) (store_of c.new_goal.new.work.bank.now c.new_goal.new.store, c.in-Ok-new_goal.goal)) c.in-Ok.ensures c.in-Ok-new_goal.ensures.made)

pub returns-in-Ok-goal_term-clause-term : goal.returns-in-Ok-goal_term-clause-term
returns-in-Ok-goal_term-clause-term g c =
    along (λ z. IsTerm c.goal_term.new.bank c.in-Ok-goal_term.term (goal_term c.in-Ok-new_goal.goal z))
    (ap (context_of c.new_goal.new.work.bank.now) c.hypotheses.ensures ∙ (context_grown c.args.work.now.bank.now c.new_goal.new.work.bank.now c.in-Ok-new_goal.ensures.grows c.args.context.now c.requires.place.has).0)
    c.in-Ok-goal_term.ensures.term

pub returns-in-Ok-goal_term-clause-place : goal.returns-in-Ok-goal_term-clause-place
returns-in-Ok-goal_term-clause-place g c =
    let bank = c.args.work.now.bank.now in
    let mid = c.new_goal.new.work.bank.now in
    let new = c.goal_term.new.bank in
    let s1 = c.new_goal.new.store in
    let made = along (λ z. IsMade (store_of bank c.args.store.now) (context_of bank z) (store_of mid s1, c.in-Ok-new_goal.goal)) c.in-Ok.ensures c.in-Ok-new_goal.ensures.made in
    in_grown mid new c.in-Ok-goal_term.ensures.grows s1 c.args.context.now
    (in_later bank mid c.in-Ok-new_goal.ensures.grows c.args.store.now c.args.context.now c.requires.place s1 c.in-Ok-new_goal.ensures.has made.grown)

pub returns-in-Ok-goal_term-clause-later : goal.returns-in-Ok-goal_term-clause-later
returns-in-Ok-goal_term-clause-later g c t h =
    let bank = c.args.work.now.bank.now in
    let mid = c.new_goal.new.work.bank.now in
    let new = c.goal_term.new.bank in
    let s1 = c.new_goal.new.store in
    let made = along (λ z. IsMade (store_of bank c.args.store.now) (context_of bank z) (store_of mid s1, c.in-Ok-new_goal.goal)) c.in-Ok.ensures c.in-Ok-new_goal.ensures.made in
    term_grown mid new c.in-Ok-goal_term.ensures.grows s1 c.args.context.now
    (in_later bank mid c.in-Ok-new_goal.ensures.grows c.args.store.now c.args.context.now c.requires.place s1 c.in-Ok-new_goal.ensures.has made.grown) t
    (term_later bank mid c.in-Ok-new_goal.ensures.grows c.args.store.now c.args.context.now c.requires.place s1 c.in-Ok-new_goal.ensures.has made.grown t h)

pub returns-in-Err-new_goal-clause-answer : goal.returns-in-Err-new_goal-clause-answer
returns-in-Err-new_goal-clause-answer g c s e =
    let bank = c.args.work.now.bank.now in
    along (λ z. Refuses c.new_goal.new.work.bank.now c.in-Err-new_goal.fault (λ n. new_goal (s n) (store_of bank c.args.store.now) (context_of bank z) (tree_of bank c.args.kind)) c.args.work.now.ticks.now.left c.new_goal.new.work.ticks.now.left)
    c.in-Ok.ensures (c.in-Err-new_goal.ensures.answer s e)
