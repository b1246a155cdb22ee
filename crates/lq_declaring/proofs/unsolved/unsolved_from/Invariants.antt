use Rattle.std.proofs.Common.{◌≡◌, ◌+◌, ◌-◌, ◌≤◌, length}
use Rattle.lq_terms.specs.Terms.{Terms}
use Rattle.lq_solving.specs.Elaboration.{numbers}
use Rattle.lq_solving.specs.Kept.{IsStore}
use Rattle.lq_evars.specs.Places.{store_of}
use Rattle.lq_sessions.specs.Sessions.{open_among}
use Rattle.lq_declaring.proofs.unsolved.unsolved_from.Given as goal

-- so many from there on have no value
abbrev pub invariant-variables : goal.invariant-variables
invariant-variables l = record {
  few : l.open + l.at ≤ 4294967295;
  low : l.first ≤ l.at;
  inside : l.at ≤ length l.store.variables;
  told : (bank : Terms) → IsStore (store_of bank l.store) → l.open ≡ open_among (store_of bank l.store) (numbers l.at (length l.store.variables - l.at));
}

abbrev pub decreases-variables : goal.decreases-variables
decreases-variables l = l.at
