use Rattle.std.proofs.Common.{arith, sym, ap, ap₂, ◌∙◌, ◌≡◌, ◌+◌, ℕ, length, []}
use Rattle.std.proofs.Common.{subst as along}
use Rattle.std.specs.Prelude.{codes}
use Rattle.lq_trees.specs.Tree.{Tree}
use Rattle.lq_trees.specs.Change.{lift}
use Rattle.lq_trees.specs.Index.{Within}
use Rattle.lq_terms.specs.Terms.{Grows, tree_of}
use Rattle.lq_terms.specs.Contexts.{context_of}
use Rattle.lq_terms.proofs.Growth.{Grows-trans}
use Rattle.lq_calculus.specs.Contraction.{apply}
use Rattle.lq_calculus.specs.Declarations.{products, instance_of, variables}
use Rattle.lq_env.specs.Families.{family_of, names_behind}
use Rattle.lq_env.specs.Telescopes.{AreApart}
use Rattle.lq_env.specs.Building.{Builds, many}
use Rattle.lq_env.proofs.Families.{context_of-grown}
use Rattle.lq_env.proofs.StoredLaws.{are_apart}
use Rattle.lq_env.proofs.EliminatorLaws.{end-within, end-lift, conclusion_is}
use Rattle.lq_env.proofs.eliminators.conclude.Goals as goal

pub products-requires-clause-apart : goal.products-requires-clause-apart
products-requires-clause-apart c =
    let g : Grows c.args.bank.now c.at_scrutinee.new.bank = Grows-trans c.args.bank.now c.instance.new.bank c.at_scrutinee.new.bank c.instance.ensures.grows c.at_scrutinee.ensures.grows in
    along (λ hs. AreApart (context_of c.at_scrutinee.new.bank hs)) (sym c.hypotheses-indices.ensures)
    (along AreApart (sym (context_of-grown c.args.bank.now c.at_scrutinee.new.bank g c.args.family.now.indices c.requires.family.has.indices))
    (are_apart (names_behind [] (context_of c.args.bank.now c.args.family.now.parameters)) (context_of c.args.bank.now c.args.family.now.indices) c.requires.family.written.indices))

pub products-requires-clause-within : goal.products-requires-clause-within
products-requires-clause-within c =
    let f = family_of c.args.bank.now c.args.family.now in
    let q : ℕ = length c.constructors.result.now + 1 + length c.hypotheses-indices.result.now in
    let e : tree_of c.at_scrutinee.new.bank c.in_ok-end.end ≡ Tree.Prod (codes "z") (instance_of f (variables f.indices)) (Tree.App (apply (Tree.Rel q) (variables f.indices)) (Tree.Rel 0)) =
    c.in_ok-end.ensures.made.is ∙ ap₂ (λ a g. Tree.Prod (codes "z") a (Tree.App (apply (Tree.Rel q) (variables g)) (Tree.Rel 0))) c.in_ok-instance.ensures.made.is
    (ap (context_of c.instance.new.bank) c.hypotheses-indices.ensures ∙ context_of-grown c.args.bank.now c.instance.new.bank c.instance.ensures.grows c.args.family.now.indices c.requires.family.has.indices) in
    along (Within many) (sym e) (end-within f q many (omega (arith, ap length c.constructors.ensures, ap length c.hypotheses-indices.ensures, c.requires.constructors, c.requires.indices)))

pub returns-clause-answer : goal.returns-clause-answer
returns-clause-answer c =
    let f = family_of c.args.bank.now c.args.family.now in
    let g : Grows c.args.bank.now c.at_scrutinee.new.bank = Grows-trans c.args.bank.now c.instance.new.bank c.at_scrutinee.new.bank c.instance.ensures.grows c.at_scrutinee.ensures.grows in
    let n : ℕ = length c.args.family.now.constructors in
    let q : ℕ = length c.constructors.result.now + 1 + length c.hypotheses-indices.result.now in
    let e : tree_of c.at_scrutinee.new.bank c.in_ok-end.end ≡ Tree.Prod (codes "z") (instance_of f (variables f.indices)) (Tree.App (apply (Tree.Rel q) (variables f.indices)) (Tree.Rel 0)) =
    c.in_ok-end.ensures.made.is ∙ ap₂ (λ a k. Tree.Prod (codes "z") a (Tree.App (apply (Tree.Rel q) (variables k)) (Tree.Rel 0))) c.in_ok-instance.ensures.made.is
    (ap (context_of c.instance.new.bank) c.hypotheses-indices.ensures ∙ context_of-grown c.args.bank.now c.instance.new.bank c.instance.ensures.grows c.args.family.now.indices c.requires.family.has.indices) in
    let same : q ≡ n + 1 + length c.hypotheses-indices.result.now = ap (λ cs. length cs + 1 + length c.hypotheses-indices.result.now) c.constructors.ensures in
    along (Builds c.products.new.bank c.products.result)
    (ap (λ k. products k (Tree.Prod (codes "z") (instance_of f (variables f.indices)) (Tree.App (apply (lift 1 0 (Tree.Rel n)) (variables f.indices)) (Tree.Rel 0))))
    (ap (context_of c.at_scrutinee.new.bank) c.hypotheses-indices.ensures ∙ context_of-grown c.args.bank.now c.at_scrutinee.new.bank g c.args.family.now.indices c.requires.family.has.indices) ∙ conclusion_is f n)
    (c.products.ensures.answer (Tree.Prod (codes "z") (instance_of f (variables f.indices)) (Tree.App (apply (lift 1 0 (Tree.Rel n)) (variables f.indices)) (Tree.Rel 0)))
    (e ∙ end-lift f n (length c.hypotheses-indices.result.now) q same))
