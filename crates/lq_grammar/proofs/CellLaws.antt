-- The characters of a text from a place on, within a bound.
use Rattle.std.proofs.Common.{◌≡◌, ℕ, zero, suc, ◌+◌, ◌-◌, ◌<◌, ◌≤◌, Bool, true, false, List, [], ◌∷◌, drop, length, Option, Some, None, refl, ap, ◌∙◌, subst, arith, length-drop}
use Rattle.std.proofs.lemmas.List.{drop-drop}
use Rattle.std.specs.Prelude.{nat_lt, nat_le}
use Rattle.std.proofs.lemmas.Bool.{lt-ltb, le-ltb, le-leb, lt-leb}
use Rattle.bstr.specs.Utf8.{decoded}
use Rattle.bstr.proofs.lemmas.PieceLemmas.{piece-bounds}
use Rattle.lq_grammar.specs.Cells.{Cells, over, broken, beyond, letter, cells_from, cells, place, window, view}

-- bytes that belong to the character before are skipped
skipped : (k at : ℕ) (bs : List ℕ) → k ≤ length bs → cells_from k at bs ≡ cells (at + k) (drop k bs)
unfolding cells_from
skipped zero at bs h = let e : at + 0 ≡ at = omega arith in rw e refl
skipped (suc k) at [] h = absurd (omega arith)
skipped (suc k) at (b ∷ bs) h = let e : at + 1 + k ≡ at + suc k = omega arith in skipped k (at + 1) bs (omega arith) ∙ rw e refl

-- the first character, by what decodes
by_first : (o : Option ℕ) (c at : ℕ) (rest : Cells) → o ≡ Some c → elim o as (λ _. Cells) [ None ↦ broken at | Some d ↦ letter at d rest ] ≡ letter at c rest
by_first None c at rest e = absurd cc
by_first (Some d) c at rest e = let same : d ≡ c = cc in rw same refl

by_none : (o : Option ℕ) (at : ℕ) (rest : Cells) → o ≡ None → elim o as (λ _. Cells) [ None ↦ broken at | Some d ↦ letter at d rest ] ≡ broken at
by_none None at rest e = refl
by_none (Some d) at rest e = absurd cc

cells_letter : (at c : ℕ) (bs : List ℕ) → (decoded bs).char ≡ Some c → cells at bs ≡ letter at c (cells (at + (decoded bs).size) (drop (decoded bs).size bs))
unfolding cells_from
cells_letter at c [] e = absurd cc
cells_letter at c (b ∷ bs) e =
    let sizes = piece-bounds (b ∷ bs) (omega arith) in
    by_first (decoded (b ∷ bs)).char c at _ e ∙ ap (letter at c) (behind (decoded (b ∷ bs)).size sizes.0 sizes.2) where
      behind : (n : ℕ) → 1 ≤ n → n ≤ length (b ∷ bs) → cells_from (n - 1) (at + 1) bs ≡ cells (at + n) (drop n (b ∷ bs))
      behind zero low high = absurd (omega arith)
      behind (suc n) low high =
          let one : suc n - 1 ≡ n = omega arith in
          let place : at + 1 + n ≡ at + suc n = omega arith in
          rw one (skipped n (at + 1) bs (omega arith) ∙ rw place refl)

cells_broken : (at : ℕ) (bs : List ℕ) → 0 < length bs → (decoded bs).char ≡ None → cells at bs ≡ broken at
unfolding cells_from
cells_broken at [] some e = absurd (omega arith)
cells_broken at (b ∷ bs) some e = by_none (decoded (b ∷ bs)).char at _ e

pub cells_over : (at : ℕ) (bs : List ℕ) → length bs ≡ 0 → cells at bs ≡ over at
unfolding cells_from
cells_over at [] e = refl
cells_over at (b ∷ bs) e = absurd (omega arith)

-- the place at the front is that where the bytes begin
place_by : (o : Option ℕ) (at : ℕ) (rest : ℕ → Cells) → place (elim o as (λ _. Cells) [ None ↦ broken at | Some d ↦ letter at d (rest d) ]) ≡ at
unfolding place
place_by None at rest = refl
place_by (Some d) at rest = refl

pub place-cells : (at : ℕ) (bs : List ℕ) → place (cells at bs) ≡ at
unfolding cells_from place
place-cells at [] = refl
place-cells at (b ∷ bs) = place_by (decoded (b ∷ bs)).char at _

-- the first character decodes within the bytes
pub size_within : (bs : List ℕ) (c : ℕ) → (decoded bs).char ≡ Some c → (1 ≤ (decoded bs).size) × ((decoded bs).size ≤ length bs)
size_within [] c e = absurd cc
size_within (b ∷ bs) c e = let sizes = piece-bounds (b ∷ bs) (omega arith) in (sizes.0, sizes.2)

-- where nothing decodes the size says whether the bytes are over
pub some_by_size : (bs : List ℕ) → 0 < (decoded bs).size → 0 < length bs
some_by_size [] h = absurd (omega (arith, h))
some_by_size (b ∷ bs) h = omega arith

pub none_by_size : (bs : List ℕ) → (decoded bs).size ≡ 0 → length bs ≡ 0
none_by_size [] h = refl
none_by_size (b ∷ bs) h = let sizes = piece-bounds (b ∷ bs) (omega arith) in absurd (omega (arith, sizes.0, h))

-- ---- what stands at the front of a view

window_letter : (limit at c : ℕ) (cs rest : Cells) → cs ≡ letter at c rest → place rest ≤ limit → window limit cs ≡ letter at c (window limit rest)
unfolding window
window_letter limit at c cs rest e h = ap (window limit) e ∙ kept (nat_le (place rest) limit) (le-leb (place rest) limit h) where
  kept : (b : Bool) → b ≡ true → elim b as (λ _. Cells) [ true ↦ letter at c (window limit rest) | false ↦ beyond at c ] ≡ letter at c (window limit rest)
  kept true f = refl
  kept false f = absurd cc

window_beyond : (limit at c : ℕ) (cs rest : Cells) → cs ≡ letter at c rest → limit < place rest → window limit cs ≡ beyond at c
unfolding window
window_beyond limit at c cs rest e h = ap (window limit) e ∙ cut (nat_le (place rest) limit) (lt-leb (place rest) limit h) where
  cut : (b : Bool) → b ≡ false → elim b as (λ _. Cells) [ true ↦ letter at c (window limit rest) | false ↦ beyond at c ] ≡ beyond at c
  cut true f = absurd cc
  cut false f = refl

window_broken : (limit at : ℕ) (cs : Cells) → cs ≡ broken at → at < limit → window limit cs ≡ broken at
unfolding window
window_broken limit at cs e h = ap (window limit) e ∙ kept (nat_lt at limit) (lt-ltb at limit h) where
  kept : (b : Bool) → b ≡ true → elim b as (λ _. Cells) [ true ↦ broken at | false ↦ beyond at 0 ] ≡ broken at
  kept true f = refl
  kept false f = absurd cc

window_unseen : (limit at : ℕ) (cs : Cells) → cs ≡ broken at → limit ≤ at → window limit cs ≡ beyond at 0
unfolding window
window_unseen limit at cs e h = ap (window limit) e ∙ cut (nat_lt at limit) (le-ltb at limit h) where
  cut : (b : Bool) → b ≡ false → elim b as (λ _. Cells) [ true ↦ broken at | false ↦ beyond at 0 ] ≡ beyond at 0
  cut true f = absurd cc
  cut false f = refl

pub view_over : (limit : ℕ) (text : List ℕ) (at : ℕ) → length text ≤ at → view limit text at ≡ over at
unfolding view window
view_over limit text at h = let none : length (drop at text) ≡ 0 = omega (arith, length-drop at text) in ap (window limit) (cells_over at (drop at text) none)

pub view_broken : (limit : ℕ) (text : List ℕ) (at : ℕ) → (decoded (drop at text)).char ≡ None → 0 < (decoded (drop at text)).size → at < limit → view limit text at ≡ broken at
unfolding view
view_broken limit text at e some h = window_broken limit at _ (cells_broken at (drop at text) (some_by_size (drop at text) some) e) h

pub view_unseen : (limit : ℕ) (text : List ℕ) (at : ℕ) → (decoded (drop at text)).char ≡ None → 0 < (decoded (drop at text)).size → limit ≤ at → view limit text at ≡ beyond at 0
unfolding view
view_unseen limit text at e some h = window_unseen limit at _ (cells_broken at (drop at text) (some_by_size (drop at text) some) e) h

behind : (text : List ℕ) (at n : ℕ) → cells (at + n) (drop n (drop at text)) ≡ cells (at + n) (drop (at + n) text)
behind text at n = ap (cells (at + n)) (drop-drop n at text)

letter_at : (text : List ℕ) (at c : ℕ) → (decoded (drop at text)).char ≡ Some c →
    cells at (drop at text) ≡ letter at c (cells (at + (decoded (drop at text)).size) (drop (at + (decoded (drop at text)).size) text))
letter_at text at c e = cells_letter at c (drop at text) e ∙ ap (letter at c) (behind text at (decoded (drop at text)).size)

pub view_letter : (limit : ℕ) (text : List ℕ) (at c n : ℕ) → (decoded (drop at text)).char ≡ Some c → (decoded (drop at text)).size ≡ n → at + n ≤ limit →
    view limit text at ≡ letter at c (view limit text (at + n))
unfolding view
view_letter limit text at c n e size h =
    let P : ℕ → Type 0 = λ k. at + k ≤ limit → window limit (cells at (drop at text)) ≡ letter at c (window limit (cells (at + k) (drop (at + k) text))) in
    subst P size (λ k. window_letter limit at c _ _ (letter_at text at c e) (rw (place-cells (at + (decoded (drop at text)).size) (drop (at + (decoded (drop at text)).size) text)) k)) h

pub view_beyond : (limit : ℕ) (text : List ℕ) (at c n : ℕ) → (decoded (drop at text)).char ≡ Some c → (decoded (drop at text)).size ≡ n → limit < at + n →
    view limit text at ≡ beyond at c
unfolding view
view_beyond limit text at c n e size h =
    let P : ℕ → Type 0 = λ k. limit < at + k → window limit (cells at (drop at text)) ≡ beyond at c in
    subst P size (λ k. window_beyond limit at c _ _ (letter_at text at c e) (rw (place-cells (at + (decoded (drop at text)).size) (drop (at + (decoded (drop at text)).size) text)) k)) h

-- ---- a bound behind the text

place_within : (k at : ℕ) (bs : List ℕ) → place (cells_from k at bs) ≤ at + length bs
unfolding cells_from place
place_within k at [] = omega arith
place_within (suc k) at (b ∷ bs) = omega (arith, place_within k (at + 1) bs)
place_within zero at (b ∷ bs) = let e = place_by (decoded (b ∷ bs)).char at (λ d. cells_from ((decoded (b ∷ bs)).size - 1) (at + 1) bs) in omega (arith, e)

-- a bound behind the text hides nothing
whole_by : (limit at : ℕ) (o : Option ℕ) (rest : Cells) → at < limit → place rest ≤ limit → window limit rest ≡ rest →
    window limit (elim o as (λ _. Cells) [ None ↦ broken at | Some d ↦ letter at d rest ]) ≡ elim o as (λ _. Cells) [ None ↦ broken at | Some d ↦ letter at d rest ]
whole_by limit at None rest here h e = window_broken limit at _ refl here
whole_by limit at (Some d) rest here h e = window_letter limit at d _ rest refl h ∙ ap (letter at d) e

whole : (limit k at : ℕ) (bs : List ℕ) → at + length bs ≤ limit → window limit (cells_from k at bs) ≡ cells_from k at bs
unfolding cells_from window
whole limit k at [] h = refl
whole limit (suc k) at (b ∷ bs) h = whole limit k (at + 1) bs (omega arith)
whole limit zero at (b ∷ bs) h =
    let inside : (n : ℕ) → place (cells_from n (at + 1) bs) ≤ limit = λ n. omega (arith, place_within n (at + 1) bs, h) in
    whole_by limit at (decoded (b ∷ bs)).char (cells_from ((decoded (b ∷ bs)).size - 1) (at + 1) bs) (omega arith) (inside ((decoded (b ∷ bs)).size - 1)) (whole limit ((decoded (b ∷ bs)).size - 1) (at + 1) bs (omega arith))

pub view_whole : (limit : ℕ) (text : List ℕ) (at : ℕ) → length text ≤ limit → at ≤ length text → view limit text at ≡ cells at (drop at text)
unfolding view
view_whole limit text at h within = whole limit 0 at (drop at text) (omega (arith, length-drop at text))

-- the place at the front of a view
pub place_window : (limit : ℕ) (cs : Cells) → place (window limit cs) ≡ place cs
unfolding window place
place_window limit (over p) = refl
place_window limit (broken p) = kept (nat_lt p limit) where
  kept : (b : Bool) → place (elim b as (λ _. Cells) [ true ↦ broken p | false ↦ beyond p 0 ]) ≡ p
  kept true = refl
  kept false = refl
place_window limit (beyond p c) = refl
place_window limit (letter p c cs) = kept (nat_le (place cs) limit) where
  kept : (b : Bool) → place (elim b as (λ _. Cells) [ true ↦ letter p c (window limit cs) | false ↦ beyond p c ]) ≡ p
  kept true = refl
  kept false = refl

pub place-view : (limit : ℕ) (text : List ℕ) (at : ℕ) → place (view limit text at) ≡ at
unfolding view
place-view limit text at = place_window limit (cells at (drop at text)) ∙ place-cells at (drop at text)

-- a sentence that begins at a place has its own bound
pub view_own : (bound : ℕ) (text : List ℕ) (at : ℕ) → window (place (cells at (drop at text)) + bound) (cells at (drop at text)) ≡ view (at + bound) text at
unfolding view
view_own bound text at = rw (place-cells at (drop at text)) refl
