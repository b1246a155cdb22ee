-- The tops of the choices of a stream.
use Rattle.std.proofs.Common.{◌≡◌, ◌≤◌, ℕ, zero, suc, List, [], ◌∷◌, ◌++◌, length, take, slice_set, slice_get, Option, Some, refl, sym, subst, ap, arith, le_refl, le_trans}
use Rattle.lq_stream.specs.Stepping.{Knowing}
use Rattle.lq_stream.specs.declared.stacks.Choice.{Choice}
use Rattle.lq_stream.specs.declared.stacks.Choice.TheVariants.{Alternative, Otherwise, Lowering, Passed, NoSuccess, FirstSuccess}
use Rattle.lq_stream.specs.Holding.{IsChoice, AreChoices, off_choice, offs}
use Rattle.lq_stream.specs.Places.{place_in, AreTops, Shrinks, newest}

module _ {A V C K : Type 0} where
  pub shrinks_same : (xs : List (Choice A V C K)) → Shrinks xs xs
  shrinks_same [] = tt
  shrinks_same (x ∷ xs) = (le_refl (place_in x), shrinks_same xs)

  off_lower : (x : Choice A V C K) → place_in (off_choice x) ≤ place_in x
  off_lower (Alternative a m i) = le_refl i
  off_lower (Otherwise a m i) = omega arith
  off_lower Lowering = le_refl 0
  off_lower Passed = le_refl 0
  off_lower (NoSuccess c i) = le_refl i
  off_lower (FirstSuccess c m v i) = le_refl i

  offs_shrink : (h : ℕ) (xs : List (Choice A V C K)) → Shrinks xs (offs h xs)
  unfolding offs
  offs_shrink h [] = tt
  offs_shrink zero (x ∷ xs) = (off_lower x, shrinks_same xs)
  offs_shrink (suc h) (x ∷ xs) = (le_refl (place_in x), offs_shrink h xs)

  pub shrinks_offs : (h : ℕ) (xs ys : List (Choice A V C K)) → ys ≡ offs h xs → Shrinks xs ys
  shrinks_offs h xs ys e = subst (Shrinks xs) (sym e) (offs_shrink h xs)

  take_shrinks : (h : ℕ) (xs : List (Choice A V C K)) → Shrinks xs (take h xs)
  take_shrinks zero [] = tt
  take_shrinks zero (x ∷ xs) = tt
  take_shrinks (suc h) [] = tt
  take_shrinks (suc h) (x ∷ xs) = (le_refl (place_in x), take_shrinks h xs)

  pub shrinks_take : (h : ℕ) (xs ys : List (Choice A V C K)) → ys ≡ take h xs → Shrinks xs ys
  shrinks_take h xs ys e = subst (Shrinks xs) (sym e) (take_shrinks h xs)

  set_shrinks : (h : ℕ) (xs : List (Choice A V C K)) (x y : Choice A V C K) → slice_get xs h ≡ Some x → place_in y ≤ place_in x → Shrinks xs (slice_set xs h y)
  set_shrinks h [] x y e i = tt
  set_shrinks zero (z ∷ xs) x y e i =
      let o : z ≡ x = let w : ◌≡◌ {A = Option (Choice A V C K)} (Some z) (Some x) = e in cc in
      (subst (λ u. place_in y ≤ place_in u) (sym o) i, shrinks_same xs)
  set_shrinks (suc h) (z ∷ xs) x y e i = (le_refl (place_in z), set_shrinks h xs x y e i)

  pub shrinks_set : (h : ℕ) (xs ys : List (Choice A V C K)) (x y : Choice A V C K) → slice_get xs h ≡ Some x → place_in y ≤ place_in x → ys ≡ slice_set xs h y → Shrinks xs ys
  shrinks_set h xs ys x y e i o = subst (Shrinks xs) (sym o) (set_shrinks h xs x y e i)

  front_shrinks : (ys zs : List (Choice A V C K)) → Shrinks (ys ++ zs) ys
  front_shrinks [] [] = tt
  front_shrinks [] (z ∷ zs) = tt
  front_shrinks (y ∷ ys) zs = (le_refl (place_in y), front_shrinks ys zs)

  pub shrinks_front : (xs ys zs : List (Choice A V C K)) → xs ≡ ys ++ zs → Shrinks xs ys
  shrinks_front xs ys zs e = subst (λ z. Shrinks z ys) (sym e) (front_shrinks ys zs)

  -- as many tops as there are choices
  pub tops_length : (low high : ℕ) (ts : List ℕ) (xs : List (Choice A V C K)) → AreTops low high ts xs → length ts ≡ length xs
  tops_length low high [] [] q = refl
  tops_length low high (t ∷ ts) (x ∷ xs) q = ap suc (tops_length t high ts xs q.2)
  tops_length low high [] (x ∷ xs) q = absurd q
  tops_length low high (t ∷ ts) [] q = absurd q

  pub tops_low : (low high : ℕ) (ts : List ℕ) (xs : List (Choice A V C K)) → AreTops low high ts xs → low ≤ newest low ts
  tops_low low high [] xs q = le_refl low
  tops_low low high (t ∷ ts) [] q = absurd q
  tops_low low high (t ∷ ts) (x ∷ xs) q = le_trans q.0 (tops_low t high ts xs q.2)

  pub tops_high : (low high : ℕ) (ts : List ℕ) (xs : List (Choice A V C K)) → AreTops low high ts xs → newest low ts ≤ high
  tops_high low high [] [] q = q
  tops_high low high [] (x ∷ xs) q = absurd q
  tops_high low high (t ∷ ts) [] q = absurd q
  tops_high low high (t ∷ ts) (x ∷ xs) q = tops_high t high ts xs q.2

  -- the higher bound may be any that the newest allows
  pub tops_at : (low high n : ℕ) (ts : List ℕ) (xs : List (Choice A V C K)) → AreTops low high ts xs → newest low ts ≤ n → AreTops low n ts xs
  tops_at low high n [] [] q h = h
  tops_at low high n [] (x ∷ xs) q h = absurd q
  tops_at low high n (t ∷ ts) [] q h = absurd q
  tops_at low high n (t ∷ ts) (x ∷ xs) q h = (q.0, q.1, tops_at t high n ts xs q.2 h)

  -- fewer choices, with as many of the tops
  pub tops_shrunk : (low high : ℕ) (ts : List ℕ) (xs ys : List (Choice A V C K)) → AreTops low high ts xs → Shrinks xs ys → AreTops low high (take (length ys) ts) ys
  tops_shrunk low high [] [] [] q s = q
  tops_shrunk low high [] [] (y ∷ ys) q s = absurd s
  tops_shrunk low high [] (x ∷ xs) ys q s = absurd q
  tops_shrunk low high (t ∷ ts) [] ys q s = absurd q
  tops_shrunk low high (t ∷ ts) (x ∷ xs) [] q s = le_trans q.0 (le_trans (tops_low t high ts xs q.2) (tops_high t high ts xs q.2))
  tops_shrunk low high (t ∷ ts) (x ∷ xs) (y ∷ ys) q s = (q.0, le_trans s.0 q.1, tops_shrunk t high ts xs ys q.2 s.1)

  -- one choice more, with a top
  pub tops_pushed : (low high n : ℕ) (ts : List ℕ) (xs : List (Choice A V C K)) (x : Choice A V C K) → AreTops low high ts xs → high ≤ n → place_in x ≤ n → AreTops low n (ts ++ n ∷ []) (xs ++ x ∷ [])
  tops_pushed low high n [] [] x q h i = (le_trans q h, i, le_refl n)
  tops_pushed low high n [] (y ∷ xs) x q h i = absurd q
  tops_pushed low high n (t ∷ ts) [] x q h i = absurd q
  tops_pushed low high n (t ∷ ts) (y ∷ xs) x q h i = (q.0, q.1, tops_pushed t high n ts xs x q.2 h i)

  module _ {R : Type 0} (k : Knowing A R V C K) where
    lower_choice : (n m : ℕ) (x : Choice A V C K) → IsChoice k n x → place_in x ≤ m → IsChoice k m x
    lower_choice n m (Alternative a b i) q h = (q.0, q.1, h)
    lower_choice n m (Otherwise a b i) q h = (q.0, q.1, h)
    lower_choice n m Lowering q h = tt
    lower_choice n m Passed q h = tt
    lower_choice n m (NoSuccess c i) q h = (q.0, h)
    lower_choice n m (FirstSuccess c b v i) q h = (q.0, q.1, q.2, h)

    -- no choice reaches higher than the newest top
    pub choices_within : (low high n m : ℕ) (ts : List ℕ) (xs : List (Choice A V C K)) → AreTops low high ts xs → newest low ts ≤ m → AreChoices k n xs → AreChoices k m xs
    choices_within low high n m [] [] q h p = tt
    choices_within low high n m [] (x ∷ xs) q h p = absurd q
    choices_within low high n m (t ∷ ts) [] q h p = absurd q
    choices_within low high n m (t ∷ ts) (x ∷ xs) q h p =
        (lower_choice n m x p.0 (le_trans q.1 (le_trans (tops_low t high ts xs q.2) h)), choices_within t high n m ts xs q.2 h p.1)

    choice_place : (n : ℕ) (x : Choice A V C K) → IsChoice k n x → place_in x ≤ n
    choice_place n (Alternative a b i) q = q.2
    choice_place n (Otherwise a b i) q = q.2
    choice_place n Lowering q = omega arith
    choice_place n Passed q = omega arith
    choice_place n (NoSuccess c i) q = q.1
    choice_place n (FirstSuccess c b v i) q = q.3

    pub last_place : (n : ℕ) (xs : List (Choice A V C K)) (x : Choice A V C K) → AreChoices k n (xs ++ x ∷ []) → place_in x ≤ n
    last_place n [] x q = choice_place n x q.0
    last_place n (y ∷ xs) x q = last_place n xs x q.1

    pub last_choice : (n : ℕ) (xs : List (Choice A V C K)) (x : Choice A V C K) → AreChoices k n (xs ++ x ∷ []) → AreChoices k n xs × IsChoice k n x
    last_choice n [] x q = (tt, q.0)
    last_choice n (y ∷ xs) x q = let r : AreChoices k n xs × IsChoice k n x = last_choice n xs x q.1 in ((q.0, r.0), r.1)
