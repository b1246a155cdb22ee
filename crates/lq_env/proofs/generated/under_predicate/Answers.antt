use Rattle.std.proofs.Common.{arith, sym, ap₂}
use Rattle.std.proofs.Common.{subst as along}
use Rattle.std.proofs.lemmas.List.{length-map}
use Rattle.lq_terms.specs.Contexts.{hypothesis_of}
use Rattle.lq_calculus.specs.Declarations.{Family as TreeFamily, predicate_type}
use Rattle.lq_env.specs.Families.{family_of}
use Rattle.lq_env.specs.Building.{Builds}
use Rattle.lq_env.specs.Computing.{AreWithinLimits}
use Rattle.lq_env.specs.Premises.{eliminator_body}
use Rattle.lq_env.proofs.Families.{family_of-grown, IsFamily-grown}
use Rattle.lq_env.proofs.StoredLaws.{passed_on}
use Rattle.lq_env.proofs.GeneratedLaws.{predicate-larger, few_indices}
use Rattle.lq_env.proofs.generated.under_predicate.Goals as goal

pub body-requires-clause-family : goal.body-requires-clause-family
body-requires-clause-family c = IsFamily-grown c.args.bank.now c.predicate.new.bank c.predicate.ensures.grows c.args.family.now c.requires.family

pub body-requires-clause-stored : goal.body-requires-clause-stored
body-requires-clause-stored c = along AreWithinLimits (sym (family_of-grown c.args.bank.now c.predicate.new.bank c.predicate.ensures.grows c.args.family.now c.requires.family.has)) c.requires.stored

pub body-requires-clause-indices : goal.body-requires-clause-indices
body-requires-clause-indices c =
    let b = c.in-Ok.ensures.answer in
    omega (arith, few_indices (family_of c.args.bank.now c.args.family.now) c.args.sort (b.1), length-map c.args.family.now.indices (hypothesis_of c.args.bank.now))

pub returns-in-Ok-clause-answer : goal.returns-in-Ok-clause-answer
returns-in-Ok-clause-answer c =
    let b = c.in-Ok.ensures.answer in
    along (Builds c.body.new.bank c.body.result)
    (ap₂ eliminator_body (family_of-grown c.args.bank.now c.predicate.new.bank c.predicate.ensures.grows c.args.family.now c.requires.family.has) (b.0.is)) c.body.ensures.answer

pub returns-in-Err-clause-answer : goal.returns-in-Err-clause-answer
returns-in-Err-clause-answer c =
    let f : TreeFamily = family_of c.args.bank.now c.args.family.now in
    passed_on c.predicate.new.bank c.predicate.new.bank c.in-Err.fault (predicate_type f c.args.sort) (eliminator_body f (predicate_type f c.args.sort)) (predicate-larger f (predicate_type f c.args.sort)) c.in-Err.ensures.answer
