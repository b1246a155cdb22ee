use Rattle.std.proofs.Common.{ap, ap₂, suc, map, ◌-◌, ◌∙◌}
use Rattle.std.proofs.Common.{subst as along}
use Rattle.std.specs.Prelude.{IfOk}
use Rattle.lq_trees.specs.Tree.{Tree}
use Rattle.lq_terms.specs.Terms.{IsTerm}
use Rattle.lq_terms.specs.Contexts.{context_of}
use Rattle.lq_calculus.specs.Contraction.{apply}
use Rattle.lq_calculus.specs.Declarations.{variables}
use Rattle.lq_env.proofs.Families.{context_of-grown}
use Rattle.lq_env.proofs.premises.constructed.Goals as goal

pub returns-clause-made : goal.returns-clause-made
returns-clause-made c =
    along (λ z. IfOk c.apply_places.result (λ t. IsTerm c.apply_places.new.bank t z))
    (ap (λ h. apply h (map (λ p. Tree.Rel (c.args.inside - suc p)) c.args.places.now))
    (c.in_ok-applied.ensures.made.is
    ∙ ap₂ (λ h g. apply h (variables g)) c.in_ok-head.ensures.made.is (ap (context_of c.make.new.self) c.hypotheses.ensures ∙ context_of-grown c.args.bank.now c.make.new.self c.make.ensures.grows c.args.family.now.parameters c.requires.parameters)))
    c.apply_places.ensures.made
