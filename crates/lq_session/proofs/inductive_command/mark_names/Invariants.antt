use Rattle.std.proofs.Common.{◌≡◌, ◌+◌, length}
use Rattle.lq_session.proofs.inductive_command.mark_names.Given as goal

-- a mark more for each name so far
abbrev pub invariant-names : goal.invariant-names
invariant-names l = length l.marks.items ≡ length l.fn.marks.items + l.index
