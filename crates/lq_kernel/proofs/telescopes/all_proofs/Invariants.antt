use Rattle.std.proofs.Common.{◌≡◌, drop}
use Rattle.lq_calculus.specs.Declarations.{all_proofs}
use Rattle.lq_kernel.proofs.telescopes.all_proofs.Given as goal

-- those so far are proofs
abbrev pub invariant-loop-sort : goal.invariant-loop-sort
invariant-loop-sort l = all_proofs l.domains ≡ all_proofs (drop l.sort-index l.domains)
