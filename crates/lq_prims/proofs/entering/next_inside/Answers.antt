use Rattle.std.proofs.Common.{◌∙◌, ap, ap₂, refl, IfOk, [], ◌∷◌, ◌++◌}
use Rattle.std.proofs.Common.{subst as along}
use Rattle.lq_trees.specs.Tree.{Tree}
use Rattle.lq_trees.specs.Tree.Tree.{Rel, Evar}
use Rattle.lq_calculus.specs.Declarations.{variables}
use Rattle.lq_terms.specs.Terms.{IsTerm}
use Rattle.lq_solving.specs.Stores.{count}
use Rattle.lq_evars.specs.Places.{store_of}
use Rattle.lq_prims.specs.Scenes.{context_at}
use Rattle.lq_prims.proofs.SceneLaws.{goal_context}
use Rattle.lq_prims.proofs.EntryLaws.{variable_is}
use Rattle.lq_prims.proofs.entering.next_inside.Goals as goal

pub entries_under-requires : goal.entries_under-requires
entries_under-requires c = (goal_context c.args.bank.now c.args.store.now c.args.goal c.requires c.hypotheses.result.now (λ v e. c.hypotheses.ensures ∙ c.context.ensures.place v e)).has

pub returns-clause-inside : goal.returns-clause-inside
returns-clause-inside c =
    let bank = c.args.bank.now in
    let k = goal_context bank c.args.store.now c.args.goal c.requires c.hypotheses.result.now (λ v e. c.hypotheses.ensures ∙ c.context.ensures.place v e) in
    along (λ (z : Tree). IfOk c.make.result (λ t. IsTerm c.make.new.self t z))
    (ap₂ (λ i ts. Evar i ts) (c.count.ensures.told bank) refl
    ∙ variable_is c.entries_under.new.bank (count (store_of bank c.args.store.now)) c.in_ok-entries.entries (variables (context_at (store_of bank c.args.store.now) c.args.goal) ++ Rel 0 ∷ [])
    (c.in_ok-entries.ensures.own ∙ ap (λ z. variables z ++ Rel 0 ∷ []) k.is)) c.make.ensures.made
