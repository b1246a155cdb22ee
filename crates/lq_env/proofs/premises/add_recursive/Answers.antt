use Rattle.std.proofs.Common.{arith, rules, sym, ap, ap₂, ◌∙◌, ◌≡◌, ◌+◌, length, map}
use Rattle.std.proofs.Common.{subst as along}
use Rattle.lq_trees.specs.Size.{size}
use Rattle.lq_terms.specs.Terms.{Grows, tree_of, text_of}
use Rattle.lq_terms.proofs.Growth.{Grows-trans}
use Rattle.lq_env.specs.Telescopes.{span}
use Rattle.lq_env.specs.Building.{binders_of}
use Rattle.lq_env.specs.Premises.{AreBelow, Overflows, hypothesis_at}
use Rattle.lq_env.proofs.Loops.{binders_of-grown}
use Rattle.lq_env.proofs.PremiseLaws.{below_more}
use Rattle.lq_env.proofs.PremiseSteps.{overflow_more}
use Rattle.lq_env.proofs.DraftLaws.{few_binders, draft-grown, ok_map, err_map, recursive_binders, recursive_span, argument_span}
use Rattle.lq_env.proofs.premises.add_recursive.Goals as goal

pub overflow_cast-inside : goal.overflow_cast-inside
overflow_cast-inside c = let e : c.len.result ≡ length c.args.draft.now.binders.items = search rules in omega (arith, e, few_binders c.args.bank.now c.args.draft.now c.requires.draft)

pub overflow_add-inside : goal.overflow_add-inside
overflow_add-inside c = let e : c.len.result ≡ length c.args.draft.now.binders.items = search rules in omega (arith, e, few_binders c.args.bank.now c.args.draft.now c.requires.draft)

pub hypothesis-requires-clause-places : goal.hypothesis-requires-clause-places
hypothesis-requires-clause-places c =
    let e : c.len.result ≡ length c.args.draft.now.binders.items = search rules in
    along (AreBelow (c.len.result + 1)) (sym c.deref.ensures.value) (below_more (length c.args.draft.now.binders.items) (c.len.result + 1) c.args.draft.now.places.items (omega (arith, e)) c.requires.draft.places)

pub hypothesis-requires-clause-few : goal.hypothesis-requires-clause-few
hypothesis-requires-clause-few c = let e : c.len.result ≡ length c.args.draft.now.binders.items = search rules in omega (arith, e, few_binders c.args.bank.now c.args.draft.now c.requires.draft)

pub add_argument-requires-clause-draft : goal.add_argument-requires-clause-draft
add_argument-requires-clause-draft c =
    draft-grown c.args.bank.now c.name.new.self c.args.draft.now (Grows-trans c.args.bank.now c.hypothesis.new.bank c.name.new.self c.hypothesis.ensures.grows c.name.ensures.grows) c.requires.draft

pub returns-in-Err-clause-refused : goal.returns-in-Err-clause-refused
returns-in-Err-clause-refused c =
    let g : Grows c.args.bank.now c.name.new.self = Grows-trans c.args.bank.now c.hypothesis.new.bank c.name.new.self c.hypothesis.ensures.grows c.name.ensures.grows in
    overflow_more c.in-Err.fault _ _
    (argument_span c.args.number _ (binders_of c.args.bank.now c.args.draft.now.binders.items) c.args.draft.now.places.items (text_of c.args.bank.now c.args.name) (tree_of c.args.bank.now c.args.kind) (map (tree_of c.args.bank.now) c.args.indices.now)
    (ap₂ (λ bs t. span bs + 1 + size t) (binders_of-grown c.args.bank.now c.name.new.self g c.args.draft.now.binders.items c.requires.draft.binders) (g.tree c.args.kind c.requires.kind)))
    c.in-Err.ensures.refused

pub returns-clause-binders : goal.returns-clause-binders
returns-clause-binders c =
    let e : c.len.result ≡ length c.args.draft.now.binders.items = search rules in
    let g : Grows c.args.bank.now c.name.new.self = Grows-trans c.args.bank.now c.hypothesis.new.bank c.name.new.self c.hypothesis.ensures.grows c.name.ensures.grows in
    let h : tree_of c.add_argument.new.bank c.in_ok-hypothesis.hypothesis ≡ hypothesis_at c.args.number (c.len.result + 1) c.deref.result.now (map (tree_of c.args.bank.now) c.args.indices.now) =
    (Grows-trans c.hypothesis.new.bank c.name.new.self c.add_argument.new.bank c.name.ensures.grows c.add_argument.ensures.grows).tree c.in_ok-hypothesis.hypothesis c.in_ok-hypothesis.ensures.made.has ∙ c.in_ok-hypothesis.ensures.made.is in
    ok_map c.push_binder.result _ _ c.push_binder.ensures.binders
    (recursive_binders c.args.bank.now c.name.new.self c.add_argument.new.bank g c.args.draft.now c.add_argument.new.draft c.requires.draft c.args.number (c.len.result + 1) c.args.name c.args.kind c.requires.name c.requires.kind
    c.in_ok-unnamed.unnamed c.in_ok-hypothesis.hypothesis c.deref.result.now (map (tree_of c.args.bank.now) c.args.indices.now) c.deref.ensures.value (ap (λ n. n + 1) e) c.in_default.ensures.binders h
    (c.add_argument.ensures.grows.text c.in_ok-unnamed.unnamed c.in_ok-unnamed.ensures.named.has ∙ c.in_ok-unnamed.ensures.named.is) c.push_binder.new.draft.binders.items)

pub returns-clause-refused : goal.returns-clause-refused
returns-clause-refused c =
    let e : c.len.result ≡ length c.args.draft.now.binders.items = search rules in
    let g : Grows c.args.bank.now c.name.new.self = Grows-trans c.args.bank.now c.hypothesis.new.bank c.name.new.self c.hypothesis.ensures.grows c.name.ensures.grows in
    let h : tree_of c.add_argument.new.bank c.in_ok-hypothesis.hypothesis ≡ hypothesis_at c.args.number (c.len.result + 1) c.deref.result.now (map (tree_of c.args.bank.now) c.args.indices.now) =
    (Grows-trans c.hypothesis.new.bank c.name.new.self c.add_argument.new.bank c.name.ensures.grows c.add_argument.ensures.grows).tree c.in_ok-hypothesis.hypothesis c.in_ok-hypothesis.ensures.made.has ∙ c.in_ok-hypothesis.ensures.made.is in
    err_map c.push_binder.result _ _ c.push_binder.ensures.refused
    (λ f. along (Overflows f)
    (recursive_span c.args.bank.now c.name.new.self c.add_argument.new.bank g c.args.draft.now c.add_argument.new.draft c.requires.draft c.args.number (c.len.result + 1) c.args.name c.args.kind c.requires.name c.requires.kind
    c.in_ok-unnamed.unnamed c.in_ok-hypothesis.hypothesis c.deref.result.now (map (tree_of c.args.bank.now) c.args.indices.now) c.deref.ensures.value (ap (λ n. n + 1) e) c.in_default.ensures.binders h
    (c.add_argument.ensures.grows.text c.in_ok-unnamed.unnamed c.in_ok-unnamed.ensures.named.has ∙ c.in_ok-unnamed.ensures.named.is)))
