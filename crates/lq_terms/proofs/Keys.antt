-- The keys of a set or a map whose `==` is equality.
use Rattle.std.proofs.Common.{◌≡◌, ◌≢◌, ◌∙◌, ◌⊎◌, inl, inr, ◌+◌, ◌<◌, ◌≤◌, ℕ, zero, suc, Bool, true, false, true≢false, cond, not, List, [], ◌∷◌, ◌++◌, map, length, get_or, Option, Some, None, IfSome, IfNone, refl, sym, ap, subst, arith, ltb-true, ltb-false, nat_lt, if◌then◌else◌}
use Rattle.std.specs.List.{IsDistinct, slice_get, position, position_or_len}
use Rattle.std.proofs.lemmas.Bool.{cases_lt}
use Rattle.std.proofs.lemmas.Option.{slice_get_within, get_or_from_slice_get, same_Some}
use Rattle.std.proofs.lemmas.Map.Keys.{apart_from_distinct}
use Rattle.indexmap.specs.IndexMap.{insert_entry}
use Rattle.lq_terms.specs.Shapes.{AreDistinct}

module _ {X : Type 0} (p : X → Bool) where
  abbrev pub Passes : List X → ℕ → Type 0
  Passes xs i = (x : X) × (slice_get xs i ≡ Some x) × (p x ≡ true)

  here : (x : X) (xs : List X) → p x ≡ true → position_or_len p (x ∷ xs) ≡ 0
  here x xs h = ap (λ b. cond (not b) (1 + position_or_len p xs) 0) h

  later : (x : X) (xs : List X) → p x ≡ false → position_or_len p (x ∷ xs) ≡ suc (position_or_len p xs)
  later x xs h = let e : position_or_len p (x ∷ xs) ≡ 1 + position_or_len p xs = ap (λ b. cond (not b) (1 + position_or_len p xs) 0) h in omega (arith, e)

  -- the first that passes
  pub first_at : (xs : List X) → position_or_len p xs < length xs → Passes xs (position_or_len p xs)
  first_at [] h = absurd (omega arith)
  first_at (x ∷ xs) h = by (p x) refl (λ l. first_at xs l)
    where
      by : (b : Bool) → p x ≡ b → (position_or_len p xs < length xs → Passes xs (position_or_len p xs)) → Passes (x ∷ xs) (position_or_len p (x ∷ xs))
      by true q rest = subst (λ k. Passes (x ∷ xs) k) (sym (here x xs q)) (x, refl, q)
      by false q rest =
          let l : position_or_len p xs < length xs = omega (arith, later x xs q) in
          subst (λ k. Passes (x ∷ xs) k) (sym (later x xs q)) (rest l)

  -- where none passes
  pub none_at : (xs : List X) → length xs ≤ position_or_len p xs → (i : ℕ) (x : X) → slice_get xs i ≡ Some x → p x ≡ false
  none_at [] h i x s = let l = slice_get_within [] i x s in absurd (omega (arith, l))
  none_at (y ∷ ys) h i x s = by (p y) refl (λ l j z t. none_at ys l j z t) i s
    where
      by : (b : Bool) → p y ≡ b → (length ys ≤ position_or_len p ys → (j : ℕ) (z : X) → slice_get ys j ≡ Some z → p z ≡ false) → (i : ℕ) → slice_get (y ∷ ys) i ≡ Some x → p x ≡ false
      by true q rest i s = absurd (omega (arith, here y ys q))
      by false q rest zero s = subst (λ z. p z ≡ false) (same_Some y x s) q
      by false q rest (suc i) s = let l : length ys ≤ position_or_len p ys = omega (arith, later y ys q) in rest l i x s

module _ {X : Type 0} (eq : X → X → Bool) (own : (a : X) → eq a a ≡ true) where
  -- none stands twice
  pub distinct_keys : (ks : List X) → IsDistinct eq ks → AreDistinct ks
  distinct_keys ks h i j s p q = by_order (cases_lt i j)
    where
      at : (k : ℕ) → slice_get ks k ≡ Some s → get_or ks k s ≡ s
      at k r = get_or_from_slice_get ks k s s r

      not_before : (a b : ℕ) → slice_get ks a ≡ Some s → slice_get ks b ≡ Some s → a < b → ⊥
      not_before a b r t l =
          let apart : eq (get_or ks a s) (get_or ks b s) ≡ false = apart_from_distinct eq ks a b s h l (slice_get_within ks b s t) in
          let same : eq (get_or ks a s) (get_or ks b s) ≡ true = ap (λ (x : X). eq x (get_or ks b s)) (at a r) ∙ ap (eq s) (at b t) ∙ own s in
          absurd (true≢false (sym same ∙ apart))

      by_order : (i < j) ⊎ (j ≤ i) → i ≡ j
      by_order (inl l) = absurd (not_before i j p q l)
      by_order (inr g) = by_back (cases_lt j i)
        where
          by_back : (j < i) ⊎ (i ≤ j) → i ≡ j
          by_back (inl l) = absurd (not_before j i q p l)
          by_back (inr k) = omega arith

  -- a key that is looked for and not found is nowhere
  pub key_absent : (ks : List X) (k : X) (r : Option ℕ) → r ≡ position (eq k) ks → IfNone r ((i : ℕ) → slice_get ks i ≢ Some k)
  key_absent ks k r e = subst (λ o. IfNone o ((i : ℕ) → slice_get ks i ≢ Some k)) (sym e) (by (nat_lt (position_or_len (eq k) ks) (length ks)) refl)
    where
      by : (b : Bool) → nat_lt (position_or_len (eq k) ks) (length ks) ≡ b → IfNone (cond b (Some (position_or_len (eq k) ks)) None) ((i : ℕ) → slice_get ks i ≢ Some k)
      by true q = tt
      by false q = λ i s. absurd (true≢false (sym (own k) ∙ none_at (eq k) ks (ltb-false (position_or_len (eq k) ks) (length ks) q) i k s))

  module _ (exact : (a b : X) → eq a b ≡ true → a ≡ b) where
    -- one that is found stands where it is found
    pub key_found : (ks : List X) (k : X) (r : Option ℕ) → r ≡ position (eq k) ks → IfSome r (λ i. slice_get ks i ≡ Some k)
    key_found ks k r e = subst (λ o. IfSome o (λ i. slice_get ks i ≡ Some k)) (sym e) (by (nat_lt (position_or_len (eq k) ks) (length ks)) refl)
      where
        by : (b : Bool) → nat_lt (position_or_len (eq k) ks) (length ks) ≡ b → IfSome (cond b (Some (position_or_len (eq k) ks)) None) (λ i. slice_get ks i ≡ Some k)
        by true q = let f = first_at (eq k) ks (ltb-true (position_or_len (eq k) ks) (length ks) q) in f.1 ∙ ap Some (sym (exact k f.0 f.2))
        by false q = tt

    -- one that is nowhere goes last
    pub insert_absent : {V : Type 0} (es : List (X × V)) (k : X) (v : V) → ((i : ℕ) → slice_get (map (λ e. e.0) es) i ≢ Some k) → insert_entry eq es k v ≡ es ++ (k, v) ∷ []
    insert_absent [] k v h = refl
    insert_absent (e ∷ es) k v h = by (eq k e.0) refl (insert_absent es k v (λ i. h (suc i)))
      where
        by : (b : Bool) → eq k e.0 ≡ b → insert_entry eq es k v ≡ es ++ (k, v) ∷ [] → insert_entry eq (e ∷ es) k v ≡ e ∷ (es ++ (k, v) ∷ [])
        by true q rest = absurd (h 0 (ap Some (sym (exact k e.0 q))))
        by false q rest = ap (λ b. if b then (e.0, v) ∷ es else e ∷ insert_entry eq es k v) q ∙ ap (λ z. e ∷ z) rest
