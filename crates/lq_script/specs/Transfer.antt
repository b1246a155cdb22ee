-- What a whole transfer does to the bytes of a source and of a sink, where these are told.
use Rattle.std.specs.Prelude.{◌≡◌, ℕ, ◌≤◌, List, length, take, drop, Option, None, Some, ⊤}
use Rattle.std.specs.Io.KnownBytes.{Appends, Consumes}

-- the bytes are the first of those that were left, up to the limit, and what is behind them is left
abbrev pub ReadsFront : ℕ → Option (List ℕ) → Option (List ℕ) → List ℕ → Type 0
ReadsFront limit None after bytes = ⊤
ReadsFront limit (Some left) None bytes = ⊥
ReadsFront limit (Some left) (Some rest) bytes = (bytes ≡ take limit left) × (rest ≡ drop limit left)

-- some bytes at the front of those that were left are gone, at most so many
pub record LosesFront (limit : ℕ) (before after : Option (List ℕ)) : Type 0 where
  pub bytes : List ℕ
  pub bound : length bytes ≤ limit
  pub gone : Consumes before after bytes

-- some first bytes of these are there behind those that were held
pub record AppendsFront (before after : Option (List ℕ)) (bytes : List ℕ) : Type 0 where
  pub count : ℕ
  pub bound : count ≤ length bytes
  pub there : Appends before after (take count bytes)
