-- The characters at the front of a text.
use Rattle.std.proofs.Common.{◌≡◌, ℕ, zero, suc, ◌+◌, ◌-◌, ◌<◌, ◌≤◌, Bool, true, false, List, [], ◌∷◌, ◌++◌, drop, length, length-append, Option, Some, None, refl, sym, ap, ◌∙◌, subst, arith, inl, inr, append_assoc}
use Rattle.std.specs.Prelude.{◌⊎◌, nat_lt, slice_index}
use Rattle.std.proofs.lemmas.List.{drop-drop}
use Rattle.bstr.specs.Utf8.{decoded, decoded_by}
use Rattle.bstr.proofs.lemmas.PieceLemmas.{by-shape, value-1, value-6, value-9, value-12}
use Rattle.lq_grammar.specs.Cells.{letter, beyond, front, view}
use Rattle.lq_grammar.proofs.CellLaws.{view_letter, view_beyond}

-- ---- a character that decodes stays where bytes follow

longer : (n m b c d e c' d' e' x : ℕ) → n ≤ m → (1 < n → c' ≡ c) → (2 < n → d' ≡ d) → (3 < n → e' ≡ e) → (decoded_by n b c d e).char ≡ Some x →
    decoded_by m b c' d' e' ≡ decoded_by n b c d e
longer n m b c d e c' d' e' x h hc hd he is =
    by-shape n b c d e
    (λ s. absurd (none (ap (λ r. r.char) s.1)))
    (λ s. value-1 m b c' d' e' (omega (arith, s.0), s.1) ∙ sym s.2)
    (λ s. absurd (none (ap (λ r. r.char) s.3)))
    (λ s. absurd (none (ap (λ r. r.char) s.2)))
    (λ s. absurd (none (ap (λ r. r.char) s.4)))
    (λ s. absurd (none (ap (λ r. r.char) s.4)))
    (λ s. let c_is = hc (omega (arith, s.0)) in rw c_is (value-6 m b c d' e' (omega (arith, s.0), s.1, s.2, s.3)) ∙ sym s.4)
    (λ s. absurd (none (ap (λ r. r.char) s.5)))
    (λ s. absurd (none (ap (λ r. r.char) s.5)))
    (λ s. let c_is = hc (omega (arith, s.0)) in let d_is = hd (omega (arith, s.0)) in
    rw (c_is, d_is) (value-9 m b c d e' (omega (arith, s.0), s.1, s.2, s.3, s.4)) ∙ sym s.5)
    (λ s. absurd (none (ap (λ r. r.char) s.6)))
    (λ s. absurd (none (ap (λ r. r.char) s.6)))
    (λ s. let c_is = hc (omega (arith, s.0)) in let d_is = hd (omega (arith, s.0)) in let e_is = he (omega (arith, s.0)) in
    rw (c_is, d_is, e_is) (value-12 m b c d e (omega (arith, s.0), s.1, s.2, s.3, s.4, s.5)) ∙ sym s.6) where
      none : (decoded_by n b c d e).char ≡ None → ⊥
      none f = let g = sym is ∙ f in cc

index_append : (k : ℕ) (bs more : List ℕ) → k < length bs → slice_index (bs ++ more) k ≡ slice_index bs k
index_append k [] more h = absurd (omega arith)
index_append zero (b ∷ bs) more h = refl
index_append (suc k) (b ∷ bs) more h = index_append k bs more (omega arith)

pub decoded_more : (bs more : List ℕ) (x : ℕ) → (decoded bs).char ≡ Some x → decoded (bs ++ more) ≡ decoded bs
decoded_more [] more x is = absurd cc
decoded_more (b ∷ bs) more x is =
    longer (length (b ∷ bs)) (length (b ∷ bs ++ more)) b (slice_index (b ∷ bs) 1) (slice_index (b ∷ bs) 2) (slice_index (b ∷ bs) 3)
    (slice_index (b ∷ bs ++ more) 1) (slice_index (b ∷ bs ++ more) 2) (slice_index (b ∷ bs ++ more) 3) x
    (omega (arith, length-append (b ∷ bs) more)) (λ h. index_append 1 (b ∷ bs) more h) (λ h. index_append 2 (b ∷ bs) more h)
    (λ h. index_append 3 (b ∷ bs) more h) is

-- a byte below 128 is a character by itself
pub decoded_ascii : (b : ℕ) (bs : List ℕ) → b < 128 → ((decoded (b ∷ bs)).char ≡ Some b) × ((decoded (b ∷ bs)).size ≡ 1)
decoded_ascii b bs h =
    let e = value-1 (length (b ∷ bs)) b (slice_index (b ∷ bs) 1) (slice_index (b ∷ bs) 2) (slice_index (b ∷ bs) 3) (omega arith, h) in
    (ap (λ r. r.char) e, ap (λ r. r.size) e)

-- ---- what a view shows

-- a character at the front that ends within the bound, or goes on behind it
abbrev pub Shows : ℕ → List ℕ → ℕ → ℕ → ℕ → Type 0
Shows L text at c n = ((at + n ≤ L) × (view L text at ≡ letter at c (view L text (at + n)))) ⊎ ((L < at + n) × (view L text at ≡ beyond at c))

pub shows_by : (L : ℕ) (text : List ℕ) (at c n : ℕ) → (decoded (drop at text)).char ≡ Some c → (decoded (drop at text)).size ≡ n → Shows L text at c n
shows_by L text at c n e f = step (nat_lt L (at + n)) refl
  where
    step : (b : Bool) → nat_lt L (at + n) ≡ b → Shows L text at c n
    step true g = let h = Rattle.std.proofs.Common.ltb-true L (at + n) g in inr (h, view_beyond L text at c n e f h)
    step false g = let h = Rattle.std.proofs.Common.ltb-false L (at + n) g in inl (h, view_letter L text at c n e f h)

pub shown_front : (L : ℕ) (text : List ℕ) (at c n : ℕ) → Shows L text at c n → front (view L text at) ≡ c
unfolding front
shown_front L text at c n (inl s) = ap front s.1
shown_front L text at c n (inr s) = ap front s.1

-- the bytes from a place on begin with those, and more follow
pub shows_in : (L : ℕ) (text : List ℕ) (at : ℕ) (bs more : List ℕ) (c : ℕ) → drop at text ≡ bs ++ more → (decoded bs).char ≡ Some c →
    Shows L text at c (decoded bs).size
shows_in L text at bs more c e f =
    let g = ap decoded e ∙ decoded_more bs more c f in
    shows_by L text at c (decoded bs).size (ap (λ r. r.char) g ∙ f) (ap (λ r. r.size) g)

pub shows_ascii : (L : ℕ) (text : List ℕ) (at b : ℕ) (bs : List ℕ) → drop at text ≡ b ∷ bs → b < 128 → Shows L text at b 1
shows_ascii L text at b bs e h =
    let d = decoded_ascii b bs h in
    shows_by L text at b 1 (ap (λ xs. (decoded xs).char) e ∙ d.0) (ap (λ xs. (decoded xs).size) e ∙ d.1)

pub drop_next : (text : List ℕ) (at n : ℕ) (xs : List ℕ) → drop at text ≡ xs → drop (at + n) text ≡ drop n xs
drop_next text at n xs e = sym (drop-drop n at text) ∙ ap (drop n) e

pub drop_behind : (text : List ℕ) (at : ℕ) (bs more : List ℕ) → drop at text ≡ bs ++ more → drop (at + length bs) text ≡ more
drop_behind text at bs more e = drop_next text at (length bs) (bs ++ more) e ∙ front_off bs
  where
    front_off : (bs : List ℕ) → drop (length bs) (bs ++ more) ≡ more
    front_off [] = refl
    front_off (b ∷ bs) = front_off bs
