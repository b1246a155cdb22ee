use Rattle.std.proofs.Common.{arith, sym, ap, ap₂, ◌∙◌, ◌≡◌, ◌<◌, ◌≤◌, ◌+◌, ◌++◌, ◌∷◌, [], length, get_or, take, append_assoc}
use Rattle.std.proofs.Common.{subst as along}
use Rattle.std.proofs.lemmas.List.{length-append}
use Rattle.lq_trees.specs.Tree.{Tree}
use Rattle.lq_trees.specs.Size.{size}
use Rattle.lq_trees.specs.Index.{Within}
use Rattle.lq_terms.specs.Terms.{tree_of}
use Rattle.lq_terms.proofs.Growth.{Grows-trans}
use Rattle.lq_calculus.specs.Declarations.{Family as TreeFamily, premise}
use Rattle.lq_env.specs.Families.{family_of, constructors_of}
use Rattle.lq_env.specs.Telescopes.{Binders, span}
use Rattle.lq_env.specs.Building.{binders_of}
use Rattle.lq_env.specs.Premises.{Overflows, premise_binders}
use Rattle.lq_env.proofs.Families.{family_of-grown}
use Rattle.lq_env.proofs.FaultLaws.{no_constructor}
use Rattle.lq_env.proofs.RuleLaws.{kind_has, kind_stands, kind_small}
use Rattle.lq_env.proofs.PremiseSteps.{overflow_more}
use Rattle.lq_env.proofs.DraftLaws.{few_binders, length-binders}
use Rattle.lq_env.proofs.GeneratedLaws.{premise_more, premise_span}
use Rattle.lq_env.proofs.generated.add_premises.Goals as goal

pub add_premise-requires-clause-within : goal.add_premise-requires-clause-within
add_premise-requires-clause-within c =
    along (Within 0) (sym (c.loop-i.invariant.grown.tree (get_or c.constructors-constructors.result.now c.loop-i.i no_constructor).1 (kind_has c.args.bank.now c.args.family.now c.constructors-constructors.result.now c.constructors-constructors.ensures c.loop-i.i (along (λ z. c.loop-i.i < length z) c.constructors-constructors.ensures c.loop-i-test.true) c.requires.family))) (kind_stands c.args.bank.now c.args.family.now c.constructors-constructors.result.now c.constructors-constructors.ensures c.loop-i.i (along (λ z. c.loop-i.i < length z) c.constructors-constructors.ensures c.loop-i-test.true) c.requires.family).within

pub add_premise-requires-clause-small : goal.add_premise-requires-clause-small
add_premise-requires-clause-small c =
    along (λ t. size t ≤ 1000000) (sym (c.loop-i.invariant.grown.tree (get_or c.constructors-constructors.result.now c.loop-i.i no_constructor).1 (kind_has c.args.bank.now c.args.family.now c.constructors-constructors.result.now c.constructors-constructors.ensures c.loop-i.i (along (λ z. c.loop-i.i < length z) c.constructors-constructors.ensures c.loop-i-test.true) c.requires.family))) (kind_small c.args.bank.now c.args.family.now c.constructors-constructors.result.now c.constructors-constructors.ensures c.loop-i.i (along (λ z. c.loop-i.i < length z) c.constructors-constructors.ensures c.loop-i-test.true) c.requires.stored)

pub add_premise-requires-clause-number : goal.add_premise-requires-clause-number
add_premise-requires-clause-number c = omega (arith, c.loop-i.invariant.many, few_binders c.loop-i.bank c.loop-i.draft c.loop-i.invariant.draft)

pub returns-in-Err-clause-refused : goal.returns-in-Err-clause-refused
returns-in-Err-clause-refused c =
    let f : TreeFamily = family_of c.args.bank.now c.args.family.now in
    let bs : Binders = binders_of c.args.bank.now c.args.draft.now.binders.items in
    let cs = c.constructors-constructors.result.now in
    along (λ z. Overflows c.in-Err.fault (span (bs ++ premise_binders f 0 (constructors_of c.args.bank.now z)))) c.constructors-constructors.ensures
    (overflow_more c.in-Err.fault _ (span (bs ++ premise_binders f 0 (constructors_of c.args.bank.now cs)))
    (premise_span c.args.bank.now f cs c.loop-i.i c.loop-i-test.true bs)
    (along (Overflows c.in-Err.fault)
    (ap₂ (λ b t. span b + 1 + size t) c.loop-i.invariant.binders
    (ap₂ (λ g t. premise g c.loop-i.i (Tree.Rel c.loop-i.i) [] t) (family_of-grown c.args.bank.now c.loop-i.bank c.loop-i.invariant.grown c.args.family.now c.requires.family.has)
    (c.loop-i.invariant.grown.tree (get_or c.constructors-constructors.result.now c.loop-i.i no_constructor).1 (kind_has c.args.bank.now c.args.family.now c.constructors-constructors.result.now c.constructors-constructors.ensures c.loop-i.i (along (λ z. c.loop-i.i < length z) c.constructors-constructors.ensures c.loop-i-test.true) c.requires.family))))
    c.in-Err.ensures.refused))

pub loop-i-preserved : goal.loop-i-preserved
loop-i-preserved c =
    let f : TreeFamily = family_of c.args.bank.now c.args.family.now in
    let bs : Binders = binders_of c.args.bank.now c.args.draft.now.binders.items in
    let cs = c.constructors-constructors.result.now in
    let next = premise f c.loop-i.i (Tree.Rel c.loop-i.i) [] (tree_of c.args.bank.now (get_or c.constructors-constructors.result.now c.loop-i.i no_constructor).1) in
    let pushed : binders_of c.add_premise.new.bank c.add_premise.new.draft.binders.items ≡ binders_of c.loop-i.bank c.loop-i.draft.binders.items ++ ([], next) ∷ [] =
    c.in_default.ensures.binders
    ∙ ap₂ (λ g t. binders_of c.loop-i.bank c.loop-i.draft.binders.items ++ ([], premise g c.loop-i.i (Tree.Rel c.loop-i.i) [] t) ∷ [])
    (family_of-grown c.args.bank.now c.loop-i.bank c.loop-i.invariant.grown c.args.family.now c.requires.family.has) (c.loop-i.invariant.grown.tree (get_or c.constructors-constructors.result.now c.loop-i.i no_constructor).1 (kind_has c.args.bank.now c.args.family.now c.constructors-constructors.result.now c.constructors-constructors.ensures c.loop-i.i (along (λ z. c.loop-i.i < length z) c.constructors-constructors.ensures c.loop-i-test.true) c.requires.family)) in
    record {
      grown = Grows-trans c.args.bank.now c.loop-i.bank c.add_premise.new.bank c.loop-i.invariant.grown c.add_premise.ensures.grows;
      draft = c.in_default.ensures.draft;
      many = omega (
        arith,
        c.loop-i.invariant.many,
        ap length pushed,
        length-append (binders_of c.loop-i.bank c.loop-i.draft.binders.items) (([], next) ∷ []),
        length-binders c.add_premise.new.bank c.add_premise.new.draft.binders.items,
        length-binders c.loop-i.bank c.loop-i.draft.binders.items,
      );
      binders = pushed ∙ ap (λ z. z ++ ([], next) ∷ []) c.loop-i.invariant.binders ∙ append_assoc bs (premise_binders f 0 (constructors_of c.args.bank.now (take c.loop-i.i cs))) (([], next) ∷ [])
          ∙ ap (λ z. bs ++ z) (sym (premise_more c.args.bank.now f cs c.loop-i.i c.loop-i-test.true));
    }
