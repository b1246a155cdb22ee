use Rattle.std.proofs.Common.{◌∙◌, sym, ap, [], ◌∷◌, ◌++◌}
use Rattle.std.proofs.Common.{subst as along}
use Rattle.lq_trees.specs.Tree.Tree.{Rel, Evar}
use Rattle.lq_trees.specs.Ticks.{done, ComesTo}
use Rattle.lq_calculus.specs.Declarations.{variables}
use Rattle.lq_terms.specs.Contexts.{context_of, hypothesis_of}
use Rattle.lq_terms.specs.Terms.{IsTerm, tree_of}
use Rattle.lq_solving.specs.Stores.{instance_list}
use Rattle.lq_evars.specs.Places.{store_of}
use Rattle.lq_evars.proofs.Growing.{HasStore-grown, store_of-grown, context_grown}
use Rattle.lq_tactics.specs.Rows.{new_goal}
use Rattle.lq_prims.specs.Scenes.{behind}
use Rattle.lq_prims.specs.Working.{Refuses}
use Rattle.lq_prims.proofs.BehindLaws.{longer_is, longer_in, kind_longer, goal_behind}
use Rattle.lq_prims.proofs.behind.new_goal_behind.Goals as goal

pub new_goal-requires-clause-context : goal.new_goal-requires-clause-context
new_goal-requires-clause-context g c =
    (longer_in c.args.work.now.bank.now c.args.store.now c.args.context.now c.requires.place c.args.hypothesis c.requires.follows c.in-Ok.longer (c.in-Ok.ensures ∙ ap (λ z. z ++ c.args.hypothesis ∷ []) c.hypotheses.ensures)).has

pub new_goal-requires-clause-hypotheses : goal.new_goal-requires-clause-hypotheses
new_goal-requires-clause-hypotheses g c =
    (longer_in c.args.work.now.bank.now c.args.store.now c.args.context.now c.requires.place c.args.hypothesis c.requires.follows c.in-Ok.longer (c.in-Ok.ensures ∙ ap (λ z. z ++ c.args.hypothesis ∷ []) c.hypotheses.ensures)).stands

pub new_goal-requires-clause-kind : goal.new_goal-requires-clause-kind
new_goal-requires-clause-kind g c =
    (kind_longer c.args.work.now.bank.now c.args.store.now c.args.context.now c.requires.place c.args.hypothesis c.requires.follows c.in-Ok.longer (c.in-Ok.ensures ∙ ap (λ z. z ++ c.args.hypothesis ∷ []) c.hypotheses.ensures)
    c.args.kind c.requires.kind).stands

pub returns-in-Ok-goal_inside-clause-answer : goal.returns-in-Ok-goal_inside-clause-answer
returns-in-Ok-goal_inside-clause-answer g c s e =
    let bank = c.args.work.now.bank.now in
    let mid = c.new_goal.new.work.bank.now in
    let b = c.args.work.now.ticks.now.left in
    let left = c.new_goal.new.work.ticks.now.left in
    let S = store_of bank c.args.store.now in
    let T = tree_of bank c.args.kind in
    let G = behind (context_of bank c.args.context.now) (hypothesis_of bank c.args.hypothesis) in
    along (λ z. ComesTo (λ n. new_goal (s n) S G T) b (done (z, c.in-Ok-new_goal.goal) left))
    (sym (store_of-grown mid c.goal_inside.new.bank c.in-Ok-goal_inside.ensures.grows c.new_goal.new.store c.in-Ok-new_goal.ensures.has))
    (along (λ z. ComesTo (λ n. new_goal (s n) S z T) b (done (store_of mid c.new_goal.new.store, c.in-Ok-new_goal.goal) left))
    (longer_is bank c.args.store.now c.args.context.now c.requires.place c.args.hypothesis c.requires.follows c.in-Ok.longer (c.in-Ok.ensures ∙ ap (λ z. z ++ c.args.hypothesis ∷ []) c.hypotheses.ensures))
    (c.in-Ok-new_goal.ensures.answer s e))

pub returns-in-Ok-goal_inside-clause-term : goal.returns-in-Ok-goal_inside-clause-term
returns-in-Ok-goal_inside-clause-term g c =
    let bank = c.args.work.now.bank.now in
    goal_behind bank c.args.store.now c.args.context.now c.requires.place c.args.hypothesis c.requires.follows c.goal_inside.new.bank c.in-Ok-new_goal.goal c.in-Ok-goal_inside.term
    (along (λ z. IsTerm c.goal_inside.new.bank c.in-Ok-goal_inside.term (Evar c.in-Ok-new_goal.goal (instance_list (variables z ++ Rel 0 ∷ []))))
    (ap (context_of c.new_goal.new.work.bank.now) c.hypotheses-in-Ok-new_goal.ensures ∙ (context_grown bank c.new_goal.new.work.bank.now c.in-Ok-new_goal.ensures.grows c.args.context.now c.requires.place.has).0)
    c.in-Ok-goal_inside.ensures.term)

pub returns-in-Ok-goal_inside-clause-has : goal.returns-in-Ok-goal_inside-clause-has
returns-in-Ok-goal_inside-clause-has g c =
    HasStore-grown c.new_goal.new.work.bank.now c.goal_inside.new.bank c.in-Ok-goal_inside.ensures.grows c.new_goal.new.store c.in-Ok-new_goal.ensures.has

pub returns-in-Err-new_goal-clause-answer : goal.returns-in-Err-new_goal-clause-answer
returns-in-Err-new_goal-clause-answer g c s e =
    let bank = c.args.work.now.bank.now in
    along (λ z. Refuses c.new_goal.new.work.bank.now c.in-Err-new_goal.fault (λ n. new_goal (s n) (store_of bank c.args.store.now) z (tree_of bank c.args.kind)) c.args.work.now.ticks.now.left c.new_goal.new.work.ticks.now.left)
    (longer_is bank c.args.store.now c.args.context.now c.requires.place c.args.hypothesis c.requires.follows c.in-Ok.longer (c.in-Ok.ensures ∙ ap (λ z. z ++ c.args.hypothesis ∷ []) c.hypotheses.ensures))
    (c.in-Err-new_goal.ensures.answer s e)
