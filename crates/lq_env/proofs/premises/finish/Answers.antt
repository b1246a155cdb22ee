use Rattle.std.proofs.Common.{arith, rules, sym, ap, ap₂, ◌∙◌, ◌≡◌, ◌≤◌, ◌+◌, length, map}
use Rattle.std.proofs.Common.{subst as along}
use Rattle.std.specs.Prelude.{IfOk}
use Rattle.lq_trees.specs.Tree.{Tree}
use Rattle.lq_trees.specs.Change.{fill}
use Rattle.lq_trees.specs.Size.{size}
use Rattle.lq_trees.specs.Index.{Within}
use Rattle.lq_terms.specs.Terms.{IsTerm, tree_of}
use Rattle.lq_terms.specs.Changes.{variables_at}
use Rattle.lq_calculus.specs.Contraction.{apply}
use Rattle.lq_env.specs.Families.{family_of}
use Rattle.lq_env.specs.Computing.{AreWithin, AreSmall}
use Rattle.lq_env.specs.Premises.{end_by}
use Rattle.lq_env.proofs.Families.{family_of-grown, HasFamily-grown}
use Rattle.lq_env.proofs.TargetLaws.{own-within, own-small, all_terms, own_found, own_lost}
use Rattle.lq_env.proofs.PremiseSteps.{end_made}
use Rattle.lq_env.proofs.DraftLaws.{few_binders}
use Rattle.lq_env.proofs.premises.finish.Goals as goal

pub overflow_cast-inside : goal.overflow_cast-inside
overflow_cast-inside c = let e : c.len-inside.result ≡ length c.args.draft.now.binders.items = search rules in omega (arith, e, few_binders c.args.bank.now c.args.draft.now c.requires.draft)

pub overflow_add-number : goal.overflow_add-number
overflow_add-number c = let e : c.len-inside.result ≡ length c.args.draft.now.binders.items = search rules in omega (arith, e, few_binders c.args.bank.now c.args.draft.now c.requires.draft, c.requires.number)

pub predicate_at-requires-clause-within : goal.predicate_at-requires-clause-within
predicate_at-requires-clause-within c =
    let f = family_of c.args.bank.now c.args.family.now in
    let e = own_found c.args.bank.now f (tree_of c.args.bank.now c.args.rest) c.in_ok-indices.field-0 c.in-Some.indices c.in-Some.is c.in_ok-indices.ensures.indices in
    along (λ ps. AreWithin c.args.bank.now (length ps) c.deref.result.now) (sym c.deref-2.ensures.value)
    (along (AreWithin c.args.bank.now (length c.args.draft.now.places.items)) (sym c.deref.ensures.value)
    (all_terms c.args.bank.now (Within (length c.args.draft.now.places.items)) c.in-Some.indices.items
    (own-within f (length c.args.draft.now.places.items) (tree_of c.args.bank.now c.args.rest) (map (tree_of c.args.bank.now) c.in-Some.indices.items) c.requires.within e)))

pub predicate_at-requires-clause-small : goal.predicate_at-requires-clause-small
predicate_at-requires-clause-small c =
    let f = family_of c.args.bank.now c.args.family.now in
    let e = own_found c.args.bank.now f (tree_of c.args.bank.now c.args.rest) c.in_ok-indices.field-0 c.in-Some.indices c.in-Some.is c.in_ok-indices.ensures.indices in
    along (AreSmall c.args.bank.now) (sym c.deref.ensures.value)
    (all_terms c.args.bank.now (λ u. size u ≤ 1000000) c.in-Some.indices.items
    (own-small f 1000000 (tree_of c.args.bank.now c.args.rest) (map (tree_of c.args.bank.now) c.in-Some.indices.items) c.requires.small e))

pub predicate_at-requires-clause-few : goal.predicate_at-requires-clause-few
predicate_at-requires-clause-few c = let e : c.len-inside.result ≡ length c.args.draft.now.binders.items = search rules in omega (arith, e, few_binders c.args.bank.now c.args.draft.now c.requires.draft)

pub constructed-requires : goal.constructed-requires
constructed-requires c = HasFamily-grown c.args.bank.now c.predicate_at.new.bank c.predicate_at.ensures.grows c.args.family.now c.requires.family

pub returns-in_default-clause-made : goal.returns-in_default-clause-made
returns-in_default-clause-made c =
    let f = family_of c.args.bank.now c.args.family.now in
    let e = own_lost c.args.bank.now f (tree_of c.args.bank.now c.args.rest) c.in_ok-indices.field-0 c.in_default.is c.in_ok-indices.ensures.indices in
    record { has = c.requires.rest; is = sym (ap (end_by f c.args.number (Tree.Rel (c.args.number + length c.args.draft.now.binders.items)) (variables_at (length c.args.draft.now.binders.items) c.args.draft.now.places.items) (tree_of c.args.bank.now c.args.rest)) e) }

pub returns-clause-made : goal.returns-clause-made
returns-clause-made c =
    let f = family_of c.args.bank.now c.args.family.now in
    let l : c.len-inside.result ≡ length c.args.draft.now.binders.items = search rules in
    let e = own_found c.args.bank.now f (tree_of c.args.bank.now c.args.rest) c.in_ok-indices.field-0 c.in-Some.indices c.in-Some.is c.in_ok-indices.ensures.indices in
    along (λ z. IfOk c.make.result (λ t. IsTerm c.make.new.self t z))
    (ap₂ Tree.App
    (c.constructed.ensures.grows.tree c.in_ok-predicate.predicate c.in_ok-predicate.ensures.made.has ∙ c.in_ok-predicate.ensures.made.is
    ∙ ap (λ ts. apply (Tree.Rel (c.args.number + c.len-inside.result)) (map (fill (variables_at c.len-inside.result c.deref-2.result.now) 0) (map (tree_of c.args.bank.now) ts))) c.deref.ensures.value)
    c.in_ok-constructed.ensures.made.is
    ∙ end_made f (family_of c.predicate_at.new.bank c.args.family.now) c.args.number (length c.args.draft.now.binders.items) c.len-inside.result c.args.draft.now.places.items c.deref-2.result.now c.deref-3.result.now (tree_of c.args.bank.now c.args.rest)
    (map (tree_of c.args.bank.now) c.in-Some.indices.items) l c.deref-2.ensures.value c.deref-3.ensures.value (family_of-grown c.args.bank.now c.predicate_at.new.bank c.predicate_at.ensures.grows c.args.family.now c.requires.family) e)
    c.make.ensures.made
