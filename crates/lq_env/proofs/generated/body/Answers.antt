use Rattle.std.proofs.Common.{arith, sym, ap, ap₂, ◌∷◌, length}
use Rattle.std.proofs.Common.{subst as along}
use Rattle.std.specs.Prelude.{codes}
use Rattle.std.proofs.lemmas.List.{length-map}
use Rattle.lq_trees.specs.Tree.{Tree}
use Rattle.lq_terms.specs.Terms.{tree_of}
use Rattle.lq_calculus.specs.Declarations.{Family as TreeFamily, conclusion}
use Rattle.lq_env.specs.Families.{family_of, constructor_of}
use Rattle.lq_env.specs.Telescopes.{telescope, span}
use Rattle.lq_env.specs.Building.{Builds}
use Rattle.lq_env.specs.Premises.{premise_binders, eliminator_body}
use Rattle.lq_env.proofs.Families.{family_of-grown, IsFamily-grown}
use Rattle.lq_env.proofs.PremiseSteps.{overflow_builds}
use Rattle.lq_env.proofs.DraftLaws.{few_binders, length-binders}
use Rattle.lq_env.proofs.GeneratedLaws.{body-larger, length-premises}
use Rattle.lq_env.proofs.generated.body.Goals as goal

pub returns-in-Err-clause-answer : goal.returns-in-Err-clause-answer
returns-in-Err-clause-answer c =
    let f : TreeFamily = family_of c.args.bank.now c.args.family.now in
    let P = tree_of c.args.bank.now c.args.predicate in
    overflow_builds c.with_premises.new.bank c.in-Err.fault (span ((codes "Q", P) ∷ premise_binders f 0 f.constructors)) (eliminator_body f P) (body-larger f P) c.in-Err.ensures.refused

pub concluded-requires-clause-family : goal.concluded-requires-clause-family
concluded-requires-clause-family c = IsFamily-grown c.args.bank.now c.with_premises.new.bank c.with_premises.ensures.grows c.args.family.now c.requires.family

pub concluded-requires-clause-constructors : goal.concluded-requires-clause-constructors
concluded-requires-clause-constructors c =
    let f : TreeFamily = family_of c.args.bank.now c.args.family.now in
    omega (
      arith,
      few_binders c.with_premises.new.bank c.in-Ok.draft c.in-Ok.ensures.draft,
      length-binders c.with_premises.new.bank c.in-Ok.draft.binders.items,
      ap length c.in-Ok.ensures.binders,
      length-premises f 0 f.constructors,
      length-map c.args.family.now.constructors (constructor_of c.args.bank.now),
    )

pub returns-clause-answer : goal.returns-clause-answer
returns-clause-answer c =
    let f : TreeFamily = family_of c.args.bank.now c.args.family.now in
    along (Builds c.concluded.new.bank c.concluded.result)
    (ap₂ telescope c.in-Ok.ensures.binders
    (ap₂ (λ g n. conclusion g (Tree.Rel n)) (family_of-grown c.args.bank.now c.with_premises.new.bank c.with_premises.ensures.grows c.args.family.now c.requires.family.has)
    (sym (length-map c.args.family.now.constructors (constructor_of c.args.bank.now))))) c.concluded.ensures.answer
