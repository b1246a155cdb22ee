use Rattle.std.proofs.Common.{ap, ap₂, ◌∙◌}
use Rattle.std.proofs.Common.{subst as along}
use Rattle.std.specs.Prelude.{IfOk}
use Rattle.lq_terms.specs.Terms.{IsTerm}
use Rattle.lq_terms.specs.Contexts.{context_of}
use Rattle.lq_terms.proofs.Growth.{Grows-trans}
use Rattle.lq_calculus.specs.Contraction.{apply}
use Rattle.lq_calculus.specs.Declarations.{variables, instance_of}
use Rattle.lq_env.proofs.Families.{context_of-grown}
use Rattle.lq_env.proofs.eliminators.instance.Goals as goal

pub returns-clause-made : goal.returns-clause-made
unfolding instance_of
returns-clause-made c =
    along (λ z. IfOk c.apply_hypotheses-2.result (λ t. IsTerm c.apply_hypotheses-2.new.bank t z))
    (ap₂ apply
    (c.in_ok-applied.ensures.made.is
    ∙ ap₂ (λ h g. apply h (variables g)) c.in_ok-head.ensures.made.is
    (ap (context_of c.make.new.self) c.hypotheses.ensures ∙ context_of-grown c.args.bank.now c.make.new.self c.make.ensures.grows c.args.family.now.parameters c.requires.parameters))
    (ap variables (ap (context_of c.apply_hypotheses.new.bank) c.hypotheses-2.ensures
    ∙ context_of-grown c.args.bank.now c.apply_hypotheses.new.bank (Grows-trans c.args.bank.now c.make.new.self c.apply_hypotheses.new.bank c.make.ensures.grows c.apply_hypotheses.ensures.grows) c.args.family.now.indices c.requires.indices)))
    c.apply_hypotheses-2.ensures.made
