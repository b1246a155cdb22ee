use Rattle.std.proofs.Common.{ap₂, map}
use Rattle.std.proofs.Common.{subst as along}
use Rattle.std.specs.Prelude.{IfOk}
use Rattle.lq_trees.specs.Change.{fill}
use Rattle.lq_terms.specs.Terms.{IsTerm}
use Rattle.lq_terms.specs.Changes.{variables_at}
use Rattle.lq_calculus.specs.Contraction.{apply}
use Rattle.lq_env.proofs.Loops.{trees-grown}
use Rattle.lq_env.proofs.premises.predicate_at.Goals as goal

pub returns-clause-made : goal.returns-clause-made
returns-clause-made c =
    along (λ z. IfOk c.apply_each.result (λ t. IsTerm c.apply_each.new.bank t z))
    (ap₂ (λ h ts. apply h (map (fill (variables_at c.args.inside c.args.places.now) 0) ts)) c.in_ok-head.ensures.made.is (trees-grown c.args.bank.now c.make.new.self c.make.ensures.grows c.args.terms.now c.requires.terms))
    c.apply_each.ensures.made
