use Rattle.lq_trees.specs.Size.{size}
use Rattle.lq_terms.specs.Terms.{Grows, tree_of}
use Rattle.lq_declaring.specs.Rows.{IsOnWay}
use Rattle.lq_declaring.proofs.rows.gone_through.Given as goal

-- what is left of the row behind the binders so far
abbrev pub invariant-loop-binder : goal.invariant-loop-binder
invariant-loop-binder l = record { way : IsOnWay l.bank l.binders (tree_of l.initial.bank l.initial.rest) l.rest; grows : Grows l.initial.bank l.bank }

abbrev pub decreases-loop-binder : goal.decreases-loop-binder
decreases-loop-binder l = size (tree_of l.bank l.rest)
