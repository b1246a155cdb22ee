use Rattle.std.proofs.Common.{sym, ap₂, ◌∙◌, [], Err}
use Rattle.std.proofs.Common.{subst as along}
use Rattle.lq_trees.specs.Index.{Within}
use Rattle.lq_calculus.specs.Declarations.{Family as TreeFamily, predicate_type, products}
use Rattle.lq_env.specs.Families.{family_of, names_behind, Stores}
use Rattle.lq_env.specs.Telescopes.{AreApart}
use Rattle.lq_env.specs.Premises.{eliminator_body}
use Rattle.lq_env.proofs.Families.{context_of-grown, IsFamily-grown}
use Rattle.lq_env.proofs.StoredLaws.{are_apart, refused_by, products_larger}
use Rattle.lq_env.proofs.GeneratedLaws.{predicate-within, body-within, elim_is, closed_constructors}
use Rattle.lq_env.proofs.generated.eliminator_type.Goals as goal

pub under_parameters-requires-clause-family : goal.under_parameters-requires-clause-family
under_parameters-requires-clause-family c = IsFamily-grown c.args.bank.now c.under_predicate.new.bank c.under_predicate.ensures.grows c.args.family.now c.requires.family

pub under_parameters-requires-clause-within : goal.under_parameters-requires-clause-within
under_parameters-requires-clause-within c =
    let f : TreeFamily = family_of c.args.bank.now c.args.family.now in
    let b = c.in-Ok.ensures.answer in
    let apart : AreApart f.indices = are_apart (names_behind [] f.parameters) f.indices c.requires.family.written.indices in
    along (Within 0) (sym (b.0.is)) (body-within f (predicate_type f c.args.sort) (predicate-within f c.args.sort apart) apart (closed_constructors (names_behind [] f.parameters) f.constructors c.requires.family.written.constructors))

pub returns-in-Ok-clause-answer : goal.returns-in-Ok-clause-answer
returns-in-Ok-clause-answer c =
    let f : TreeFamily = family_of c.args.bank.now c.args.family.now in
    let b = c.in-Ok.ensures.answer in
    along (Stores c.under_parameters.new.bank c.under_parameters.result)
    (ap₂ products (context_of-grown c.args.bank.now c.under_predicate.new.bank c.under_predicate.ensures.grows c.args.family.now.parameters c.requires.family.has.parameters) (b.0.is) ∙ elim_is f c.args.sort)
    c.under_parameters.ensures.answer

pub returns-in-Err-clause-answer : goal.returns-in-Err-clause-answer
returns-in-Err-clause-answer c =
    let f : TreeFamily = family_of c.args.bank.now c.args.family.now in
    let body = eliminator_body f (predicate_type f c.args.sort) in
    along (Stores c.under_predicate.new.bank (Err c.in-Err.fault)) (elim_is f c.args.sort)
    (refused_by c.under_predicate.new.bank c.under_predicate.new.bank c.in-Err.fault body (products f.parameters body) (products_larger f.parameters body) c.in-Err.ensures.answer)
