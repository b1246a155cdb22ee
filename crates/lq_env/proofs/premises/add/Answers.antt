use Rattle.std.proofs.Common.{sym, ap, ◌∙◌, ◌≡◌, ◌≤◌, length, map}
use Rattle.std.proofs.Common.{subst as along}
use Rattle.lq_trees.specs.Size.{size}
use Rattle.lq_trees.specs.Index.{Within}
use Rattle.lq_terms.specs.Terms.{tree_of, text_of}
use Rattle.lq_env.specs.Families.{family_of}
use Rattle.lq_env.specs.Building.{binders_of}
use Rattle.lq_env.specs.Computing.{AreWithin, AreSmall}
use Rattle.lq_env.specs.Premises.{Overflows, with_recursive}
use Rattle.lq_env.specs.Telescopes.{span}
use Rattle.lq_env.proofs.TargetLaws.{own-within, own-small, all_terms, own_found, own_lost}
use Rattle.lq_env.proofs.PremiseSteps.{plain_advances, plain_refuses, own_advances, own_refuses}
use Rattle.lq_env.proofs.DraftLaws.{ok_both, err_map, below_binders, length-binders}
use Rattle.lq_env.proofs.premises.add.Goals as goal

pub returns-in_default-clause-advanced : goal.returns-in_default-clause-advanced
returns-in_default-clause-advanced c =
    let f = family_of c.args.bank.now c.args.family.now in
    let e = own_lost c.args.bank.now f (tree_of c.args.bank.now c.args.kind) c.in_ok-indices.field-0 c.in_default.is c.in_ok-indices.ensures.indices in
    ok_both c.add_argument.result _ _ _ c.add_argument.ensures.binders c.add_argument.ensures.places
    (plain_advances f c.args.number (binders_of c.args.bank.now c.args.draft.now.binders.items) c.args.draft.now.places.items (text_of c.args.bank.now c.args.name) (tree_of c.args.bank.now c.args.kind)
    (below_binders c.args.bank.now c.args.draft.now c.requires.draft) (length c.args.draft.now.binders.items) _ _ e (sym (length-binders c.args.bank.now c.args.draft.now.binders.items)))

pub returns-in_default-clause-refused : goal.returns-in_default-clause-refused
returns-in_default-clause-refused c =
    let f = family_of c.args.bank.now c.args.family.now in
    let e = own_lost c.args.bank.now f (tree_of c.args.bank.now c.args.kind) c.in_ok-indices.field-0 c.in_default.is c.in_ok-indices.ensures.indices in
    err_map c.add_argument.result _ _ c.add_argument.ensures.refused
    (λ x. plain_refuses f c.args.number (binders_of c.args.bank.now c.args.draft.now.binders.items) c.args.draft.now.places.items (text_of c.args.bank.now c.args.name) (tree_of c.args.bank.now c.args.kind)
    (below_binders c.args.bank.now c.args.draft.now c.requires.draft) x e)

pub add_recursive-requires-clause-indices_within : goal.add_recursive-requires-clause-indices_within
add_recursive-requires-clause-indices_within c =
    let f = family_of c.args.bank.now c.args.family.now in
    let e = own_found c.args.bank.now f (tree_of c.args.bank.now c.args.kind) c.in_ok-indices.field-0 c.in-Some.indices c.in-Some.is c.in_ok-indices.ensures.indices in
    along (AreWithin c.args.bank.now (length c.args.draft.now.places.items)) (sym c.deref.ensures.value)
    (all_terms c.args.bank.now (Within (length c.args.draft.now.places.items)) c.in-Some.indices.items
    (own-within f (length c.args.draft.now.places.items) (tree_of c.args.bank.now c.args.kind) (map (tree_of c.args.bank.now) c.in-Some.indices.items) c.requires.within e))

pub add_recursive-requires-clause-indices_small : goal.add_recursive-requires-clause-indices_small
add_recursive-requires-clause-indices_small c =
    let f = family_of c.args.bank.now c.args.family.now in
    let e = own_found c.args.bank.now f (tree_of c.args.bank.now c.args.kind) c.in_ok-indices.field-0 c.in-Some.indices c.in-Some.is c.in_ok-indices.ensures.indices in
    along (AreSmall c.args.bank.now) (sym c.deref.ensures.value)
    (all_terms c.args.bank.now (λ u. size u ≤ 1000000) c.in-Some.indices.items
    (own-small f 1000000 (tree_of c.args.bank.now c.args.kind) (map (tree_of c.args.bank.now) c.in-Some.indices.items) c.requires.small e))

pub returns-clause-advanced : goal.returns-clause-advanced
returns-clause-advanced c =
    let f = family_of c.args.bank.now c.args.family.now in
    let e = own_found c.args.bank.now f (tree_of c.args.bank.now c.args.kind) c.in_ok-indices.field-0 c.in-Some.indices c.in-Some.is c.in_ok-indices.ensures.indices in
    ok_both c.add_recursive.result _ _ _ c.add_recursive.ensures.binders c.add_recursive.ensures.places
    (λ p q. own_advances f c.args.number (binders_of c.args.bank.now c.args.draft.now.binders.items) c.args.draft.now.places.items (text_of c.args.bank.now c.args.name) (tree_of c.args.bank.now c.args.kind)
    (below_binders c.args.bank.now c.args.draft.now c.requires.draft) (length c.args.draft.now.binders.items) (map (tree_of c.args.bank.now) c.in-Some.indices.items) _ _ e c.requires.within
    (sym (length-binders c.args.bank.now c.args.draft.now.binders.items))
    (p ∙ ap (λ ts. with_recursive c.args.number (binders_of c.args.bank.now c.args.draft.now.binders.items) c.args.draft.now.places.items (text_of c.args.bank.now c.args.name) (tree_of c.args.bank.now c.args.kind) (map (tree_of c.args.bank.now) ts)) c.deref.ensures.value) q)

pub returns-clause-refused : goal.returns-clause-refused
returns-clause-refused c =
    let f = family_of c.args.bank.now c.args.family.now in
    let e = own_found c.args.bank.now f (tree_of c.args.bank.now c.args.kind) c.in_ok-indices.field-0 c.in-Some.indices c.in-Some.is c.in_ok-indices.ensures.indices in
    let d : c.deref.result.now ≡ c.in-Some.indices.items = c.deref.ensures.value in
    err_map c.add_recursive.result _ _ c.add_recursive.ensures.refused
    (λ x h. own_refuses f c.args.number (binders_of c.args.bank.now c.args.draft.now.binders.items) c.args.draft.now.places.items (text_of c.args.bank.now c.args.name) (tree_of c.args.bank.now c.args.kind)
    (below_binders c.args.bank.now c.args.draft.now c.requires.draft) x (map (tree_of c.args.bank.now) c.in-Some.indices.items) e c.requires.within
    (along (λ ts. Overflows x (span (with_recursive c.args.number (binders_of c.args.bank.now c.args.draft.now.binders.items) c.args.draft.now.places.items (text_of c.args.bank.now c.args.name) (tree_of c.args.bank.now c.args.kind) (map (tree_of c.args.bank.now) ts)))) d h))
