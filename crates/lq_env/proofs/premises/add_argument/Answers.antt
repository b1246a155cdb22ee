use Rattle.std.proofs.Common.{arith, rules, ◌≡◌, sym, ap, ap₂, ◌∙◌, ◌≤◌, ◌++◌, ◌∷◌, [], length}
use Rattle.std.proofs.Common.{subst as along}
use Rattle.lq_trees.specs.Change.{fill}
use Rattle.lq_trees.specs.Size.{size}
use Rattle.lq_trees.specs.Index.{highest, last_index}
use Rattle.lq_terms.specs.Terms.{tree_of}
use Rattle.lq_terms.specs.Changes.{variables_at}
use Rattle.lq_env.specs.Telescopes.{span}
use Rattle.lq_env.proofs.Loops.{binders_of-grown}
use Rattle.lq_env.proofs.PremiseLaws.{size-spread}
use Rattle.lq_env.proofs.PremiseSteps.{overflow_more}
use Rattle.lq_env.proofs.Applying.{moved-highest}
use Rattle.lq_env.proofs.DraftLaws.{few_binders, draft-grown, binders_push}
use Rattle.lq_env.proofs.premises.add_argument.Goals as goal

pub overflow_cast-place : goal.overflow_cast-place
overflow_cast-place c = omega (arith, c.len-place.ensures, few_binders c.args.bank.now c.args.draft.now c.requires.draft)

pub spread-requires-clause-index : goal.spread-requires-clause-index
spread-requires-clause-index c =
    let e : c.len-place.result ≡ length c.args.draft.now.binders.items = search rules in
    along (λ n. highest (fill (variables_at n c.deref.result.now) 0 (tree_of c.args.bank.now c.args.kind)) ≤ last_index) (sym e)
    (along (λ ps. highest (fill (variables_at (length c.args.draft.now.binders.items) ps) 0 (tree_of c.args.bank.now c.args.kind)) ≤ last_index) (sym c.deref.ensures.value)
    (moved-highest (length c.args.draft.now.binders.items) c.args.draft.now.places.items (tree_of c.args.bank.now c.args.kind) c.requires.draft.places (omega (arith, few_binders c.args.bank.now c.args.draft.now c.requires.draft)) c.requires.within c.requires.small))

pub push_binder-requires-clause-draft : goal.push_binder-requires-clause-draft
push_binder-requires-clause-draft c = draft-grown c.args.bank.now c.spread.new.bank c.args.draft.now c.spread.ensures.grows c.requires.draft

pub returns-in-Err-clause-refused : goal.returns-in-Err-clause-refused
returns-in-Err-clause-refused c =
    overflow_more c.in-Err.fault _ _
    (omega (
      arith,
      ap span (binders_of-grown c.args.bank.now c.spread.new.bank c.spread.ensures.grows c.args.draft.now.binders.items c.requires.draft.binders),
      ap size (c.in_ok-kind.ensures.spread.is),
      size-spread c.len-place.result c.deref.result.now 0 (tree_of c.args.bank.now c.args.kind),
    )) c.in-Err.ensures.refused

pub returns-clause-binders : goal.returns-clause-binders
returns-clause-binders c =
    let e : c.len-place.result ≡ length c.args.draft.now.binders.items = search rules in
    binders_push c.spread.new.bank c.args.draft.now.binders.items c.push_binder.new.draft.binders.items _ c.in_default.ensures.binders
    ∙ ap₂ (λ bs b. bs ++ b ∷ []) (binders_of-grown c.args.bank.now c.spread.new.bank c.spread.ensures.grows c.args.draft.now.binders.items c.requires.draft.binders)
    (ap₂ (λ x t. (x, t)) (c.spread.ensures.grows.text c.args.name c.requires.name)
    (c.in_ok-kind.ensures.spread.is ∙ ap₂ (λ n ps. fill (variables_at n ps) 0 (tree_of c.args.bank.now c.args.kind)) e c.deref.ensures.value))
