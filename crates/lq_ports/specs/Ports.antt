-- What a call of a port does to the bytes behind it, where these are told, and what its count of faults says.
use Rattle.std.specs.Prelude.{ℕ, ◌+◌, ◌-◌, ◌^◌, ◌≤◌, min, List, take, Option, Result, MatchResult}
use Rattle.std.specs.Io.KnownBytes.{Appends, Consumes, Keeps}
use Rattle.lq_ports.specs.declared.ports.PortFault.{PortFault}

-- a count that went up by one; it stands still at its last value
abbrev pub one_more : ℕ → ℕ
one_more count = min (count + 1) (2 ^ 64 - 1)

-- the count rose, which also holds of one that stands at its last value
abbrev pub Rose : ℕ → ℕ → Type 0
Rose before now = one_more before ≤ now

-- at `Ok(n)` the first n bytes of the buffer were taken off the front of what was left, and at `Err` nothing was
abbrev pub Reads : Option (List ℕ) → Option (List ℕ) → List ℕ → Result ℕ PortFault → Type 0
Reads before after buffer result =
    MatchResult result (λ n. Consumes before after (take n buffer)) (λ _. Keeps before after)

-- at `Ok(n)` the first n bytes of the piece were put behind what was held, and at `Err` nothing was
abbrev pub Writes : Option (List ℕ) → Option (List ℕ) → List ℕ → Result ℕ PortFault → Type 0
Writes before after piece result =
    MatchResult result (λ n. Appends before after (take n piece)) (λ _. Keeps before after)
