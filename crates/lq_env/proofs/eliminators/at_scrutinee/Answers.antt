use Rattle.std.proofs.Common.{ap, ap₂, ◌∙◌}
use Rattle.std.proofs.Common.{subst as along}
use Rattle.std.specs.Prelude.{IfOk}
use Rattle.lq_trees.specs.Tree.{Tree}
use Rattle.lq_terms.specs.Terms.{IsTerm, Grows}
use Rattle.lq_terms.proofs.Growth.{Grows-trans}
use Rattle.lq_calculus.specs.Contraction.{apply}
use Rattle.lq_calculus.specs.Declarations.{variables}
use Rattle.lq_env.proofs.Families.{context_of-grown}
use Rattle.lq_env.proofs.EliminatorLaws.{prod_is}
use Rattle.lq_env.proofs.eliminators.at_scrutinee.Goals as goal

pub returns-clause-made : goal.returns-clause-made
returns-clause-made c =
    let g : Grows c.args.bank.now c.name.new.self =
    Grows-trans c.args.bank.now c.make.new.self c.name.new.self c.make.ensures.grows
    (Grows-trans c.make.new.self c.apply_hypotheses.new.bank c.name.new.self c.apply_hypotheses.ensures.grows (Grows-trans c.apply_hypotheses.new.bank c.apply_node.new.bank c.name.new.self c.apply_node.ensures.grows c.name.ensures.grows)) in
    along (λ z. IfOk c.make-2.result (λ t. IsTerm c.make-2.new.self t z))
    (prod_is c.in_ok-name.ensures.named.is (g.tree c.args.domain c.requires.domain)
    (c.name.ensures.grows.tree c.in_ok-body.body c.in_ok-body.ensures.made.has ∙ c.in_ok-body.ensures.made.is
    ∙ ap (λ u. Tree.App u (Tree.Rel 0))
    (c.in_ok-applied.ensures.made.is ∙ ap₂ (λ h g. apply h (variables g)) c.in_ok-head.ensures.made.is (context_of-grown c.args.bank.now c.make.new.self c.make.ensures.grows c.args.context.now c.requires.context))))
    c.make-2.ensures.made
