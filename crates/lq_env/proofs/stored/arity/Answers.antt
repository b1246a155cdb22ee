use Rattle.std.proofs.Common.{sym, ap, ◌∙◌, length, []}
use Rattle.std.proofs.Common.{subst as along}
use Rattle.lq_trees.specs.Tree.{Tree}
use Rattle.lq_terms.specs.Contexts.{context_of}
use Rattle.lq_calculus.specs.Declarations.{products}
use Rattle.lq_env.specs.Families.{names_behind}
use Rattle.lq_env.specs.Telescopes.{AreApart}
use Rattle.lq_env.specs.Building.{Builds}
use Rattle.lq_env.proofs.Families.{context_of-grown}
use Rattle.lq_env.proofs.StoredLaws.{are_apart, closed_under}
use Rattle.lq_env.proofs.stored.arity.Goals as goal

pub products-requires-clause-apart : goal.products-requires-clause-apart
products-requires-clause-apart c =
    along (λ hs. AreApart (context_of c.make.new.self hs)) (sym c.hypotheses.ensures)
    (along AreApart (sym (context_of-grown c.args.bank.now c.make.new.self c.make.ensures.grows c.args.family.now.indices c.requires.has.indices))
    (are_apart (names_behind [] (context_of c.args.bank.now c.args.family.now.parameters)) (context_of c.args.bank.now c.args.family.now.indices) c.requires.written.indices))

pub returns-clause-answer : goal.returns-clause-answer
returns-clause-answer c =
    along (λ g. Builds c.products.new.bank c.products.result (products g (Tree.Sort c.args.family.now.sort)))
    (ap (context_of c.make.new.self) c.hypotheses.ensures ∙ context_of-grown c.args.bank.now c.make.new.self c.make.ensures.grows c.args.family.now.indices c.requires.has.indices)
    (c.products.ensures.answer (Tree.Sort c.args.family.now.sort) (closed_under c.make.new.self c.in_ok-sort.sort (length c.hypotheses.result.now) (Tree.Sort c.args.family.now.sort) c.in_ok-sort.ensures.made tt))
