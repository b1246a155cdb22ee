use Rattle.std.proofs.Common.{sym, []}
use Rattle.std.proofs.Common.{subst as along}
use Rattle.lq_trees.specs.Tree.{Tree}
use Rattle.lq_trees.specs.Index.{Within}
use Rattle.lq_terms.specs.Terms.{tree_of}
use Rattle.lq_terms.specs.Contexts.{context_of}
use Rattle.lq_calculus.specs.Declarations.{products, family_type}
use Rattle.lq_env.specs.Families.{names_behind, Stores}
use Rattle.lq_env.proofs.Families.{context_of-grown, IsFamily-grown}
use Rattle.lq_env.proofs.StoredLaws.{are_apart, within-products, refused_by, products_larger}
use Rattle.lq_env.proofs.stored.family_type.Goals as goal

pub under_parameters-requires-clause-family : goal.under_parameters-requires-clause-family
under_parameters-requires-clause-family c = IsFamily-grown c.args.bank.now c.arity.new.bank c.arity.ensures.grows c.args.family.now c.requires

pub under_parameters-requires-clause-end : goal.under_parameters-requires-clause-end
under_parameters-requires-clause-end c = let b = c.in-Ok.ensures.answer in b.0.has

pub under_parameters-requires-clause-within : goal.under_parameters-requires-clause-within
under_parameters-requires-clause-within c = let b = c.in-Ok.ensures.answer in
    along (λ z. Within 0 z) (sym (b.0.is))
    (within-products 0 (context_of c.args.bank.now c.args.family.now.indices) (Tree.Sort c.args.family.now.sort)
    (are_apart (names_behind [] (context_of c.args.bank.now c.args.family.now.parameters)) (context_of c.args.bank.now c.args.family.now.indices) c.requires.written.indices) tt)

pub returns-in-Ok-clause-answer : goal.returns-in-Ok-clause-answer
unfolding family_type
returns-in-Ok-clause-answer c = let b = c.in-Ok.ensures.answer in
    along (λ z. Stores c.under_parameters.new.bank c.under_parameters.result (products (context_of c.args.bank.now c.args.family.now.parameters) z)) (b.0.is)
    (along (λ g. Stores c.under_parameters.new.bank c.under_parameters.result (products g (tree_of c.arity.new.bank c.in-Ok.arity))) (context_of-grown c.args.bank.now c.arity.new.bank c.arity.ensures.grows c.args.family.now.parameters c.requires.has.parameters)
    c.under_parameters.ensures.answer)

pub returns-in-Err-clause-answer : goal.returns-in-Err-clause-answer
unfolding family_type
returns-in-Err-clause-answer c =
    let part = products (context_of c.args.bank.now c.args.family.now.indices) (Tree.Sort c.args.family.now.sort) in
    refused_by c.arity.new.bank c.arity.new.bank c.in-Err.fault part (products (context_of c.args.bank.now c.args.family.now.parameters) part)
    (products_larger (context_of c.args.bank.now c.args.family.now.parameters) part) c.in-Err.ensures.answer
