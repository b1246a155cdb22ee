use Rattle.std.proofs.Common.{sym, ap, ◌∙◌, length, []}
use Rattle.std.proofs.Common.{subst as along}
use Rattle.lq_trees.specs.Tree.{Tree}
use Rattle.lq_terms.specs.Terms.{IsTerm, Grows}
use Rattle.lq_terms.specs.Contexts.{context_of}
use Rattle.lq_terms.proofs.Growth.{Grows-trans}
use Rattle.lq_calculus.specs.Declarations.{products, instance_of, variables}
use Rattle.lq_env.specs.Families.{family_of, names_behind}
use Rattle.lq_env.specs.Telescopes.{AreApart}
use Rattle.lq_env.specs.Building.{Builds}
use Rattle.lq_env.proofs.Families.{context_of-grown}
use Rattle.lq_env.proofs.StoredLaws.{are_apart, closed_under, within-term}
use Rattle.lq_env.proofs.EliminatorLaws.{instance-within, predicate_is}
use Rattle.lq_env.proofs.eliminators.predicate.Goals as goal

pub products-requires-clause-apart : goal.products-requires-clause-apart
products-requires-clause-apart c =
    let g : Grows c.args.bank.now c.into_sort.new.bank = Grows-trans c.args.bank.now c.instance.new.bank c.into_sort.new.bank c.instance.ensures.grows c.into_sort.ensures.grows in
    along (λ hs. AreApart (context_of c.into_sort.new.bank hs)) (sym c.hypotheses.ensures)
    (along AreApart (sym (context_of-grown c.args.bank.now c.into_sort.new.bank g c.args.family.now.indices c.requires.has.indices))
    (are_apart (names_behind [] (context_of c.args.bank.now c.args.family.now.parameters)) (context_of c.args.bank.now c.args.family.now.indices) c.requires.written.indices))

pub products-requires-clause-within : goal.products-requires-clause-within
products-requires-clause-within c =
    let f = family_of c.args.bank.now c.args.family.now in
    within-term c.into_sort.new.bank c.in_ok-end.end (Tree.Prod [] (instance_of f (variables f.indices)) (Tree.Sort c.args.sort))
    (along (λ t. IsTerm c.into_sort.new.bank c.in_ok-end.end (Tree.Prod [] t (Tree.Sort c.args.sort))) c.in_ok-instance.ensures.made.is c.in_ok-end.ensures.made) (instance-within 0 f f.indices, tt)

pub returns-clause-answer : goal.returns-clause-answer
returns-clause-answer c =
    let f = family_of c.args.bank.now c.args.family.now in
    let g : Grows c.args.bank.now c.into_sort.new.bank = Grows-trans c.args.bank.now c.instance.new.bank c.into_sort.new.bank c.instance.ensures.grows c.into_sort.ensures.grows in
    let end = Tree.Prod [] (instance_of f (variables f.indices)) (Tree.Sort c.args.sort) in
    along (Builds c.products.new.bank c.products.result)
    (ap (λ k. products k end) (ap (context_of c.into_sort.new.bank) c.hypotheses.ensures ∙ context_of-grown c.args.bank.now c.into_sort.new.bank g c.args.family.now.indices c.requires.has.indices) ∙ predicate_is f c.args.sort)
    (c.products.ensures.answer end
    (closed_under c.into_sort.new.bank c.in_ok-end.end (length c.hypotheses.result.now) end
    (along (λ t. IsTerm c.into_sort.new.bank c.in_ok-end.end (Tree.Prod [] t (Tree.Sort c.args.sort))) c.in_ok-instance.ensures.made.is c.in_ok-end.ensures.made) (instance-within 0 f f.indices, tt)))
