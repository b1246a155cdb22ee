-- A text as its characters, each with its place.
use Rattle.std.specs.Prelude.{ℕ, zero, suc, ◌+◌, ◌-◌, Bool, true, false, nat_lt, nat_le, List, [], ◌∷◌, drop, Some, None}
use Rattle.bstr.specs.Utf8.{decoded}

-- characters, up to where a text ends or is looked at no further
pub data Cells : Type 0 where
  -- the text ends at this place
  over : ℕ → Cells
  -- the byte at this place begins no character
  broken : ℕ → Cells
  -- a bound lies here: of what follows no more is looked at than this character, which is 0 where none begins
  beyond : ℕ → ℕ → Cells
  -- a place, the character that begins there, and what comes behind it
  letter : ℕ → ℕ → Cells → Cells

-- the characters of some bytes that begin at a place; `skipped` counts the bytes that belong to the character before
unfoldable pub cells_from : ℕ → ℕ → List ℕ → Cells
cells_from skipped at [] = over at
cells_from (suc skipped) at (b ∷ bs) = cells_from skipped (at + 1) bs
cells_from zero at (b ∷ bs) =
    let first = decoded (b ∷ bs) in
    elim first.char [ None ↦ broken at | Some c ↦ letter at c (cells_from (first.size - 1) (at + 1) bs) ]

-- the characters of some bytes that begin at a place, by the Unicode Standard's table of well-formed UTF-8
abbrev pub cells : ℕ → List ℕ → Cells
cells = cells_from 0

-- the place of what is at the front
unfoldable pub place : Cells → ℕ
place (over p) = p
place (broken p) = p
place (beyond p c) = p
place (letter p c cs) = p

-- the character at the front, 0 where there is none
unfoldable pub front : Cells → ℕ
front (over p) = 0
front (broken p) = 0
front (beyond p c) = c
front (letter p c cs) = c

-- the characters that end at or before a bound
unfoldable pub window : ℕ → Cells → Cells
window limit (over p) = over p
window limit (broken p) = elim (nat_lt p limit) [ true ↦ broken p | false ↦ beyond p 0 ]
window limit (beyond p c) = beyond p c
window limit (letter p c cs) = elim (nat_le (place cs) limit) [ true ↦ letter p c (window limit cs) | false ↦ beyond p c ]

-- what comes behind the run of characters that pass a test
unfoldable pub past : (ℕ → Bool) → Cells → Cells
past test (over p) = over p
past test (broken p) = broken p
past test (beyond p c) = beyond p c
past test (letter p c cs) = elim (test c) [ true ↦ past test cs | false ↦ letter p c cs ]

-- whether the first character behind a bound passes a test, so that a run goes on there
unfoldable pub goes_on : (ℕ → Bool) → Cells → Bool
goes_on test (beyond p c) = test c
goes_on test _ = false

-- the characters of a text from a place on, as far as they end at or before a bound
unfoldable pub view : ℕ → List ℕ → ℕ → Cells
view limit text at = window limit (cells at (drop at text))
