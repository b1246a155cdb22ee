use Rattle.std.proofs.Common.{◌≡◌, ◌+◌, drop}
use Rattle.lq_calculus.specs.Typing.{first_big}
use Rattle.lq_kernel.proofs.telescopes.first_big.Given as goal

-- none of those so far is too high
abbrev pub invariant-loop-sort : goal.invariant-loop-sort
invariant-loop-sort l = record {
  counted : l.number ≡ l.sort-index;
  so_far : first_big l.family 1 l.domains ≡ first_big l.family (l.sort-index + 1) (drop l.sort-index l.domains);
}
