use Rattle.std.proofs.Common.{◌≡◌, length}
use Rattle.lq_elab.specs.Views.{row_tree}
use Rattle.lq_elab.proofs.views.head_of.Given as goal

abbrev pub invariant-groups : goal.invariant-groups
invariant-groups l = record { tree : row_tree l.at ≡ row_tree l.fn.row; body : l.at.body.now ≡ l.fn.row.body.now }

abbrev pub decreases-groups : goal.decreases-groups
decreases-groups l = length l.at.groups.now
