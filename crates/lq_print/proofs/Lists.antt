-- Lists: what holds of each element, and a list from its end.
use Rattle.std.proofs.Common.{◌≡◌, ℕ, zero, suc, ◌+◌, ◌<◌, ◌≤◌, Bool, true, List, [], ◌∷◌, ◌++◌, length, take, drop, get_or, refl, sym, ap, ◌∙◌, arith}
use Rattle.std.specs.Prelude.{reverse}
use Rattle.std.specs.List.{AllByRecursion}
use Rattle.std.proofs.Math.ListN.{set}
use Rattle.std.proofs.Math.Seq.{set-append_seam}
use Rattle.std.proofs.lemmas.List.{set-append_left, reverse-append, length-reverse, reverse-reverse}
use Rattle.std.proofs.lemmas.Grind.{reverse_onto}
use Rattle.lq_print.specs.Spelling.{marked}

module _ {X : Type 0} (P : X → Type 0) where
  pub all_append : (xs ys : List X) → AllByRecursion P xs → AllByRecursion P ys → AllByRecursion P (xs ++ ys)
  all_append [] ys h k = k
  all_append (x ∷ xs) ys h k = (h.0, all_append xs ys h.1 k)

  pub all_front : (xs ys : List X) → AllByRecursion P (xs ++ ys) → AllByRecursion P xs
  all_front [] ys h = tt
  all_front (x ∷ xs) ys h = (h.0, all_front xs ys h.1)

  pub all_back : (xs ys : List X) → AllByRecursion P (xs ++ ys) → AllByRecursion P ys
  all_back [] ys h = h
  all_back (x ∷ xs) ys h = all_back xs ys h.1

  pub all_push : (xs : List X) (x : X) → AllByRecursion P xs → P x → AllByRecursion P (xs ++ x ∷ [])
  all_push xs x h k = all_append xs (x ∷ []) h (k, tt)

  pub all_reverse : (xs : List X) → AllByRecursion P xs → AllByRecursion P (reverse xs)
  all_reverse [] h = tt
  all_reverse (x ∷ xs) h = rw (reverse_onto xs x []) (all_push (reverse xs) x (all_reverse xs h.1) h.0)

  pub all_take : (n : ℕ) (xs : List X) → AllByRecursion P xs → AllByRecursion P (take n xs)
  all_take zero xs h = tt
  all_take (suc n) [] h = tt
  all_take (suc n) (x ∷ xs) h = (h.0, all_take n xs h.1)

  pub all_drop : (n : ℕ) (xs : List X) → AllByRecursion P xs → AllByRecursion P (drop n xs)
  all_drop zero xs h = h
  all_drop (suc n) [] h = tt
  all_drop (suc n) (x ∷ xs) h = all_drop n xs h.1

pub all_at : {X : Type 0} (P : X → Type 0) (xs : List X) (i : ℕ) (d : X) → AllByRecursion P xs → i < length xs → P (get_or xs i d)
all_at P [] i d h l = absurd (omega arith)
all_at P (x ∷ xs) zero d h l = h.0
all_at P (x ∷ xs) (suc i) d h l = all_at P xs i d h.1 (omega arith)

pub all_weaker : {X : Type 0} (P Q : X → Type 0) → ((x : X) → P x → Q x) → (xs : List X) → AllByRecursion P xs → AllByRecursion Q xs
all_weaker P Q f [] h = tt
all_weaker P Q f (x ∷ xs) h = (f x h.0, all_weaker P Q f xs h.1)

-- ---- flags, the nearest last

pub marked_past : (bs : List Bool) (i : ℕ) → length bs ≤ i → marked i bs ≡ bs
marked_past [] zero h = refl
marked_past [] (suc i) h = refl
marked_past (b ∷ bs) zero h = absurd (omega arith)
marked_past (b ∷ bs) (suc i) h = ap (λ cs. b ∷ cs) (marked_past bs i (omega arith))

mark_from_end : (bs : List Bool) (i place : ℕ) → place + (i + 1) ≡ length bs → set (reverse bs) place true ≡ reverse (marked i bs)
mark_from_end [] i place e = absurd (omega arith)
mark_from_end (b ∷ bs) zero place e =
    let there : place ≡ length (reverse bs) = omega (arith, length-reverse bs) in
    ap (λ (cs : List Bool). set cs place true) (reverse_onto bs b [])
    ∙ ap (λ p. set (reverse bs ++ b ∷ []) p true) there
    ∙ set-append_seam (reverse bs) b [] true
    ∙ sym (reverse_onto bs true [])
mark_from_end (b ∷ bs) (suc i) place e =
    let inside : place < length (reverse bs) = omega (arith, length-reverse bs) in
    ap (λ (cs : List Bool). set cs place true) (reverse_onto bs b [])
    ∙ set-append_left (reverse bs) (b ∷ []) place true inside
    ∙ ap (λ (cs : List Bool). cs ++ b ∷ []) (mark_from_end bs i place (omega arith))
    ∙ sym (reverse_onto (marked i bs) b [])

-- the flag of a binder, counted from the end
pub marks_at : (fs : List Bool) (i place : ℕ) → place + (i + 1) ≡ length fs → reverse (set fs place true) ≡ marked i (reverse fs)
marks_at fs i place e =
    ap (λ (gs : List Bool). reverse (set gs place true)) (sym (reverse-reverse fs))
    ∙ ap reverse (mark_from_end (reverse fs) i place (omega (arith, length-reverse fs)))
    ∙ reverse-reverse (marked i (reverse fs))

pub marks_none : (fs : List Bool) (i : ℕ) → length fs ≤ i → reverse fs ≡ marked i (reverse fs)
marks_none fs i h = sym (marked_past (reverse fs) i (omega (arith, length-reverse fs)))

pub push_nearest : {X : Type 0} (xs : List X) (x : X) → reverse (xs ++ x ∷ []) ≡ x ∷ reverse xs
push_nearest xs x = reverse-append xs (x ∷ [])
