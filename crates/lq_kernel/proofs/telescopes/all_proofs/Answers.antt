use Rattle.std.proofs.Common.{◌≡◌, ℕ, refl}
use Rattle.lq_trees.specs.declared.Sort.{Sort as Universe}
use Rattle.lq_kernel.proofs.DomainLaws.{proof_not, proof_here, proofs_end}
use Rattle.lq_kernel.proofs.telescopes.all_proofs.Goals as goal

not_level : (s : Universe) → ((k : ℕ) → ¬ (s ≡ Universe.Level k)) → s ≡ Universe.Base
not_level Universe.Base h = refl
not_level (Universe.Level k) h = absurd (h k refl)

pub returns-in-Level : goal.returns-in-Level
returns-in-Level c = proof_not c.args.domains.now c.loop-sort.sort-index _ c.in-Level.field-0 c.loop-sort-test.true c.loop-sort.invariant c.in-Level.is

pub loop-sort-preserved : goal.loop-sort-preserved
loop-sort-preserved c = proof_here c.args.domains.now c.loop-sort.sort-index _ c.loop-sort-test.true c.loop-sort.invariant (not_level _ c.in_default.not-Level)

pub returns : goal.returns
returns c = proofs_end c.args.domains.now c.loop-sort.sort-index c.loop-sort-test.false c.loop-sort.invariant
