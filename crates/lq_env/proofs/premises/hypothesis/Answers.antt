use Rattle.std.proofs.Common.{ap}
use Rattle.std.proofs.Common.{subst as along}
use Rattle.std.specs.Prelude.{IfOk}
use Rattle.lq_trees.specs.Tree.{Tree}
use Rattle.lq_terms.specs.Terms.{IsTerm}
use Rattle.lq_env.specs.Premises.{hypothesis_at}
use Rattle.lq_env.proofs.premises.hypothesis.Goals as goal

pub returns-clause-made : goal.returns-clause-made
unfolding hypothesis_at
returns-clause-made c =
    along (λ z. IfOk c.apply_node.result (λ t. IsTerm c.apply_node.new.bank t z)) (ap (λ p. Tree.App p (Tree.Rel 0)) c.in_ok-predicate.ensures.made.is) c.apply_node.ensures.made
