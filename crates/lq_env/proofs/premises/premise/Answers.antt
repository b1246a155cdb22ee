use Rattle.std.proofs.Common.{arith, sym, refl, ap, ap₂, ◌∙◌, ◌≡◌, ◌≤◌, ◌+◌, [], ◌∷◌, length}
use Rattle.std.proofs.Common.{subst as along}
use Rattle.std.specs.List.{AllByRecursion}
use Rattle.std.proofs.lemmas.List.{length-append}
use Rattle.lq_trees.specs.Tree.{Tree}
use Rattle.lq_trees.specs.declared.Measure.{Measure}
use Rattle.lq_trees.specs.Size.{size}
use Rattle.lq_trees.specs.Index.{Within}
use Rattle.lq_terms.specs.Terms.{tree_of, text_of}
use Rattle.lq_terms.proofs.Growth.{Grows-trans, Grows-refl}
use Rattle.lq_calculus.specs.Declarations.{premise}
use Rattle.lq_env.specs.Families.{family_of}
use Rattle.lq_env.specs.Telescopes.{telescope}
use Rattle.lq_env.specs.Building.{HasBinder, binders_of}
use Rattle.lq_env.specs.Premises.{so_far}
use Rattle.lq_env.proofs.Families.{family_of-grown, HasFamily-grown}
use Rattle.lq_env.proofs.Loops.{HasBinders-grown, binders_of-grown}
use Rattle.lq_env.proofs.Weights.{size-telescope}
use Rattle.lq_env.proofs.TargetLaws.{prod_parts}
use Rattle.lq_env.proofs.PremiseSteps.{so_far_new, so_far_end, overflow_builds}
use Rattle.lq_env.proofs.DraftLaws.{draft_new, length-binders}
use Rattle.lq_env.proofs.premises.premise.Goals as goal

pub loop-name-init : goal.loop-name-init
loop-name-init c = record {
  grown = Grows-refl c.args.bank.now;
  draft = draft_new c.args.bank.now _ c.new.ensures.items c.new-2.ensures.items refl;
  rest = c.requires.kind;
  within = along (λ ps. Within (length ps) (tree_of c.args.bank.now c.args.kind)) (sym c.new-2.ensures.items) c.requires.within;
  small = c.requires.small;
  same = so_far_new (family_of c.args.bank.now c.args.family.now) c.args.number _ c.new-2.result.items (tree_of c.args.bank.now c.args.kind) (ap (binders_of c.args.bank.now) c.new.ensures.items) c.new-2.ensures.items;
}

pub add-requires-clause-family : goal.add-requires-clause-family
add-requires-clause-family c = HasFamily-grown c.args.bank.now c.loop-name.bank c.loop-name.invariant.grown c.args.family.now c.requires.family

pub add-requires-clause-within : goal.add-requires-clause-within
add-requires-clause-within c =
    let parts = rw c.in-Prod.is at c.node.ensures.parts in
    let p = prod_parts c.args.bank.now c.loop-name.bank c.loop-name.invariant.grown c.node.result.now c.loop-name.rest c.in-Prod.name c.in-Prod.argument c.in-Prod.body c.loop-name.invariant.rest c.node.ensures.tree parts.1 parts.2 c.in-Prod.is in
    along (Within (length c.loop-name.draft.places.items)) (sym (c.loop-name.invariant.grown.tree c.in-Prod.argument p.0)) (along (Within (length c.loop-name.draft.places.items)) (p.2) c.loop-name.invariant.within).0

pub add-requires-clause-small : goal.add-requires-clause-small
add-requires-clause-small c =
    let parts = rw c.in-Prod.is at c.node.ensures.parts in
    let p = prod_parts c.args.bank.now c.loop-name.bank c.loop-name.invariant.grown c.node.result.now c.loop-name.rest c.in-Prod.name c.in-Prod.argument c.in-Prod.body c.loop-name.invariant.rest c.node.ensures.tree parts.1 parts.2 c.in-Prod.is in
    omega (arith, c.loop-name.invariant.small, ap size (p.2), ap size (c.loop-name.invariant.grown.tree c.in-Prod.argument p.0))

pub returns-in-Err-clause-answer : goal.returns-in-Err-clause-answer
returns-in-Err-clause-answer c =
    let parts = rw c.in-Prod.is at c.node.ensures.parts in
    let p = prod_parts c.args.bank.now c.loop-name.bank c.loop-name.invariant.grown c.node.result.now c.loop-name.rest c.in-Prod.name c.in-Prod.argument c.in-Prod.body c.loop-name.invariant.rest c.node.ensures.tree parts.1 parts.2 c.in-Prod.is in
    let B = tree_of c.args.bank.now c.in-Prod.body in
    let bs = binders_of c.loop-name.bank c.loop-name.draft.binders.items in
    let e = c.loop-name.invariant.same ∙ ap (so_far (family_of c.args.bank.now c.args.family.now) c.args.number bs c.loop-name.draft.places.items) (p.2)
    ∙ ap₂ (λ f A. so_far f c.args.number bs c.loop-name.draft.places.items (Tree.Prod (text_of c.loop-name.bank c.in-Prod.name) A B))
    (sym (family_of-grown c.args.bank.now c.loop-name.bank c.loop-name.invariant.grown c.args.family.now c.requires.family)) (sym (c.loop-name.invariant.grown.tree c.in-Prod.argument p.0)) in
    overflow_builds c.add.new.bank c.in-Err.fault _ (premise (family_of c.args.bank.now c.args.family.now) c.args.number (Tree.Rel c.args.number) [] (tree_of c.args.bank.now c.args.kind)) (omega (arith, ap size e)) (c.in-Err.ensures.refused B)

pub loop-name-preserved : goal.loop-name-preserved
loop-name-preserved c =
    let parts = rw c.in-Prod.is at c.node.ensures.parts in
    let p = prod_parts c.args.bank.now c.loop-name.bank c.loop-name.invariant.grown c.node.result.now c.loop-name.rest c.in-Prod.name c.in-Prod.argument c.in-Prod.body c.loop-name.invariant.rest c.node.ensures.tree parts.1 parts.2 c.in-Prod.is in
    let B = tree_of c.args.bank.now c.in-Prod.body in
    let bs = binders_of c.loop-name.bank c.loop-name.draft.binders.items in
    let f = family_of-grown c.args.bank.now c.loop-name.bank c.loop-name.invariant.grown c.args.family.now c.requires.family in
    let longer : length c.loop-name.draft.places.items + 1 ≡ length c.add.new.draft.places.items =
    sym (ap length c.in_default-add.ensures.places ∙ length-append c.loop-name.draft.places.items (length c.loop-name.draft.binders.items ∷ [])) in
    record {
      grown = Grows-trans c.args.bank.now c.loop-name.bank c.add.new.bank c.loop-name.invariant.grown c.add.ensures.grows;
      draft = c.in_default-add.ensures.draft;
      rest = p.1;
      within = along (λ n. Within n B) longer (along (Within (length c.loop-name.draft.places.items)) (p.2) c.loop-name.invariant.within).1;
      small = omega (arith, c.loop-name.invariant.small, ap size (p.2));
      same = c.loop-name.invariant.same ∙ ap (so_far (family_of c.args.bank.now c.args.family.now) c.args.number bs c.loop-name.draft.places.items) (p.2)
          ∙ ap₂ (λ f A. so_far f c.args.number bs c.loop-name.draft.places.items (Tree.Prod (text_of c.loop-name.bank c.in-Prod.name) A B)) (sym f) (sym (c.loop-name.invariant.grown.tree c.in-Prod.argument p.0))
          ∙ c.in_default-add.ensures.advanced B
          ∙ ap (λ f. so_far f c.args.number (binders_of c.add.new.bank c.add.new.draft.binders.items) c.add.new.draft.places.items B) f;
    }

pub finish-requires : goal.finish-requires
finish-requires c = record {
  family = HasFamily-grown c.args.bank.now c.loop-name.bank c.loop-name.invariant.grown c.args.family.now c.requires.family;
  draft = c.loop-name.invariant.draft;
  rest = omega (arith, c.loop-name.invariant.rest, c.loop-name.invariant.grown.nodes);
  within = along (Within (length c.loop-name.draft.places.items)) (sym (c.loop-name.invariant.grown.tree c.loop-name.rest c.loop-name.invariant.rest)) c.loop-name.invariant.within;
  small = along (λ t. size t ≤ 1000000) (sym (c.loop-name.invariant.grown.tree c.loop-name.rest c.loop-name.invariant.rest)) c.loop-name.invariant.small;
  number = c.requires.number;
}

pub returns-then-draft-measure-gt-MOST_NODES : goal.returns-then-draft-measure-gt-MOST_NODES
returns-then-draft-measure-gt-MOST_NODES c =
    let f = family_of-grown c.args.bank.now c.loop-name.bank c.loop-name.invariant.grown c.args.family.now c.requires.family in
    let bs = binders_of c.loop-name.bank c.loop-name.draft.binders.items in
    let e = c.loop-name.invariant.same
    ∙ ap₂ (λ g t. so_far g c.args.number bs c.loop-name.draft.places.items t) (sym f) (sym (c.loop-name.invariant.grown.tree c.loop-name.rest c.loop-name.invariant.rest))
    ∙ so_far_end c.loop-name.bank (family_of c.loop-name.bank c.args.family.now) c.args.number (length c.loop-name.draft.binders.items) bs c.loop-name.draft.places.items c.node.result.now c.loop-name.rest
    (sym (length-binders c.loop-name.bank c.loop-name.draft.binders.items)) c.node.ensures.tree c.in_default.not-Prod
    ∙ ap (telescope bs) (sym (c.in_ok-end.ensures.made.is)) in
    record {
      answer = omega (arith, ap size e, size-telescope bs (tree_of c.finish.new.bank c.in_ok-end.end), c.loop-name.invariant.draft.nodes, ap (λ (m : Measure). m.size) c.measure.ensures, c.if-draft-measure-gt-MOST_NODES.true);
      grows = Grows-trans c.args.bank.now c.loop-name.bank c.finish.new.bank c.loop-name.invariant.grown c.finish.ensures.grows;
    }

pub telescope-requires : goal.telescope-requires
telescope-requires c = record {
  binders = along (λ z. AllByRecursion (HasBinder c.finish.new.bank) z) (sym c.deref.ensures.value)
      (HasBinders-grown c.loop-name.bank c.finish.new.bank c.finish.ensures.grows c.loop-name.draft.binders.items c.loop-name.invariant.draft.binders);
  end = c.in_ok-end.ensures.made.has;
}

pub returns : goal.returns
returns c =
    let f = family_of-grown c.args.bank.now c.loop-name.bank c.loop-name.invariant.grown c.args.family.now c.requires.family in
    let bs = binders_of c.loop-name.bank c.loop-name.draft.binders.items in
    let whole = premise (family_of c.args.bank.now c.args.family.now) c.args.number (Tree.Rel c.args.number) [] (tree_of c.args.bank.now c.args.kind) in
    let e = c.loop-name.invariant.same
    ∙ ap₂ (λ g t. so_far g c.args.number bs c.loop-name.draft.places.items t) (sym f) (sym (c.loop-name.invariant.grown.tree c.loop-name.rest c.loop-name.invariant.rest))
    ∙ so_far_end c.loop-name.bank (family_of c.loop-name.bank c.args.family.now) c.args.number (length c.loop-name.draft.binders.items) bs c.loop-name.draft.places.items c.node.result.now c.loop-name.rest
    (sym (length-binders c.loop-name.bank c.loop-name.draft.binders.items)) c.node.ensures.tree c.in_default.not-Prod
    ∙ ap (telescope bs) (sym (c.in_ok-end.ensures.made.is)) in
    let same : binders_of c.finish.new.bank c.deref.result.now ≡ bs =
    ap (binders_of c.finish.new.bank) c.deref.ensures.value ∙ binders_of-grown c.loop-name.bank c.finish.new.bank c.finish.ensures.grows c.loop-name.draft.binders.items c.loop-name.invariant.draft.binders in
    record {
      answer = (
        record { has = c.in_ok-whole.ensures.made.has; is = c.in_ok-whole.ensures.made.is ∙ ap (λ b. telescope b (tree_of c.finish.new.bank c.in_ok-end.end)) same ∙ sym e },
        omega (arith, ap size e, size-telescope bs (tree_of c.finish.new.bank c.in_ok-end.end), c.loop-name.invariant.draft.nodes, ap (λ (m : Measure). m.size) c.measure.ensures, c.if-draft-measure-gt-MOST_NODES.false),
      );
      grows = Grows-trans c.args.bank.now c.loop-name.bank c.telescope.new.bank c.loop-name.invariant.grown (Grows-trans c.loop-name.bank c.finish.new.bank c.telescope.new.bank c.finish.ensures.grows c.telescope.ensures.grows);
    }
