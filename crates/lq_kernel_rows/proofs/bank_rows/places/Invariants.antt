use Rattle.lq_env.specs.Premises.{AreBelow}
use Rattle.lq_kernel_rows.proofs.bank_rows.places.Given as goal

-- the places so far are below the number
abbrev pub invariant-loop-word : goal.invariant-loop-word
invariant-loop-word l = AreBelow l.inside l.places.items
