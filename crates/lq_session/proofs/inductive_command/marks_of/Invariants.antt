use Rattle.std.proofs.Common.{◌≡◌, length, take}
use Rattle.lq_ast.specs.PlainCommands.{plain_groups}
use Rattle.lq_session.proofs.inductive_command.marks_of.Given as goal

-- a mark for each name of the groups so far
abbrev pub invariant-groups : goal.invariant-groups
invariant-groups l = length l.marks.items ≡ length (plain_groups (take l.group-index l.groups))
