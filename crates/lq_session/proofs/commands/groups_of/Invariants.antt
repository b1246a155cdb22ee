use Rattle.std.proofs.Common.{◌≡◌, length}
use Rattle.lq_ast.specs.PlainCommands.{plain_groups}
use Rattle.lq_session.proofs.CommandLaws.{bound_by}
use Rattle.lq_session.proofs.commands.groups_of.Given as goal

-- what is left and what was taken bind what all groups bind
abbrev pub invariant-groups : goal.invariant-groups
invariant-groups l = bound_by l.groups l.found.items ≡ plain_groups l.fn.groups

abbrev pub decreases-groups : goal.decreases-groups
decreases-groups l = length l.groups
