use Rattle.std.proofs.Common.{ap₂, ◌∙◌, ◌+◌, ◌++◌, ◌∷◌, []}
use Rattle.std.proofs.Common.{subst as along}
use Rattle.lq_trees.specs.Size.{size}
use Rattle.lq_env.specs.Telescopes.{span}
use Rattle.lq_env.specs.Premises.{Overflows}
use Rattle.lq_env.proofs.Loops.{binders_of-grown}
use Rattle.lq_env.proofs.DraftLaws.{draft-grown, binders_push, ok_map, err_map}
use Rattle.lq_env.proofs.generated.add_premise.Goals as goal

pub push_binder-requires-clause-draft : goal.push_binder-requires-clause-draft
push_binder-requires-clause-draft c = draft-grown c.args.bank.now c.premise.new.bank c.args.draft.now c.premise.ensures.grows c.requires.draft

pub returns-in-Ok-clause-binders : goal.returns-in-Ok-clause-binders
returns-in-Ok-clause-binders c =
    let b = c.in-Ok.ensures.answer in
    ok_map c.push_binder.result _ _ c.push_binder.ensures.binders
    (λ p. binders_push c.premise.new.bank c.args.draft.now.binders.items c.push_binder.new.draft.binders.items (record { name = c.args.unnamed; kind = c.in-Ok.kind }) p
    ∙ ap₂ (λ bs b. bs ++ b ∷ []) (binders_of-grown c.args.bank.now c.premise.new.bank c.premise.ensures.grows c.args.draft.now.binders.items c.requires.draft.binders)
    (ap₂ (λ x t. (x, t)) (c.premise.ensures.grows.text c.args.unnamed c.requires.unnamed.has ∙ c.requires.unnamed.is) (b.0.is)))

pub returns-in-Ok-clause-refused : goal.returns-in-Ok-clause-refused
returns-in-Ok-clause-refused c =
    let b = c.in-Ok.ensures.answer in
    err_map c.push_binder.result _ _ c.push_binder.ensures.refused
    (λ e. along (Overflows e)
    (ap₂ (λ bs t. span bs + 1 + size t) (binders_of-grown c.args.bank.now c.premise.new.bank c.premise.ensures.grows c.args.draft.now.binders.items c.requires.draft.binders) (b.0.is)))
