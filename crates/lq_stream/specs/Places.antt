-- How high the choices of a stream reach into its links.
use Rattle.std.specs.Prelude.{◌≡◌, ◌≤◌, ◌⊎◌, ℕ, List, [], ◌∷◌, ◌++◌, length}
use Rattle.lq_stream.specs.Stepping.{Knowing}
use Rattle.lq_stream.specs.Holding.{AreLinks, AreChoices}
use Rattle.lq_stream.specs.declared.stacks.Link.{Link}
use Rattle.lq_stream.specs.declared.stacks.Choice.{Choice}
use Rattle.lq_stream.specs.declared.stacks.Choice.TheVariants.{Alternative, Otherwise, Lowering, Passed, NoSuccess, FirstSuccess}

module _ {A V C K : Type 0} where
  -- the place of a choice's continuations; 0 where it has none
  abbrev pub place_in : Choice A V C K → ℕ
  place_in (Alternative a m i) = i
  place_in (Otherwise a m i) = i
  place_in Lowering = 0
  place_in Passed = 0
  place_in (NoSuccess c i) = i
  place_in (FirstSuccess c m v i) = i

  -- the tops of choices, between two numbers: each is no less than the one before, and than the place of its choice
  abbrev pub AreTops : ℕ → ℕ → List ℕ → List (Choice A V C K) → Type 0
  AreTops low high [] [] = low ≤ high
  AreTops low high (t ∷ ts) (x ∷ xs) = (low ≤ t) × (place_in x ≤ t) × AreTops t high ts xs
  AreTops low high [] (x ∷ xs) = ⊥
  AreTops low high (t ∷ ts) [] = ⊥

  -- choices after a success or a failure: there are no more, and none reaches higher
  abbrev pub Shrinks : List (Choice A V C K) → List (Choice A V C K) → Type 0
  Shrinks [] [] = Unit {0}
  Shrinks (x ∷ xs) [] = Unit {0}
  Shrinks [] (y ∷ ys) = ⊥
  Shrinks (x ∷ xs) (y ∷ ys) = (place_in y ≤ place_in x) × Shrinks xs ys

  -- choices after a move: there is one more at most
  abbrev pub GrowsByOne : List (Choice A V C K) → List (Choice A V C K) → Type 0
  GrowsByOne xs ys = (ys ≡ xs) ⊎ ((x : Choice A V C K) × (ys ≡ xs ++ x ∷ []))

-- the newest of the tops, else a number
abbrev pub newest : ℕ → List ℕ → ℕ
newest low [] = low
newest low (t ∷ ts) = newest t ts

-- what a stream's two lists name is known, links lead to earlier places, and no choice reaches higher than its top
pub record Held {A R V C K : Type 0} (k : Knowing A R V C K) (links : List (Link R)) (choices : List (Choice A V C K)) (tops : List ℕ) : Type 0 where
  pub linked : AreLinks k.rest 0 links
  pub chosen : AreChoices k (length links) choices
  pub topped : AreTops 0 (length links) tops choices
