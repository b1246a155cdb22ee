use Rattle.std.proofs.Common.{◌≡◌, take}
use Rattle.lq_terms.proofs.bank.Bank.copy_entries.Given as goal

abbrev pub invariant-loop-place : goal.invariant-loop-place
invariant-loop-place l = record { names : l.copy.names ≡ l.self.names; nodes : l.copy.nodes ≡ take l.place l.self.nodes }
