-- A name that is made fresh among few names has a short number behind it.
use Rattle.std.proofs.Common.{◌≡◌, ℕ, zero, suc, ◌+◌, ◌^◌, ◌<◌, ◌≤◌, Bool, true, false, List, [], ◌∷◌, ◌++◌, length, refl, sym, ap, ◌∙◌, arith, inl, inr}
use Rattle.std.specs.Prelude.{◌⊎◌, ◌||◌, decimal, nat_lt}
use Rattle.std.proofs.lemmas.Bool.{ltb-true, ltb-false}
use Rattle.std.proofs.lemmas.Fmt.{decimal_injective}
use Rattle.std.proofs.lemmas.List.{append_cancel_left}
use Rattle.std.proofs.lemmas.Slice.Eq.{bytes_eq-Decides}
use Rattle.lq_trees.specs.Tree.{Name, same_name}
use Rattle.lq_trees.specs.Fresh.{is_listed, fresh_from, fresh_of}
use Rattle.lq_solving.proofs.FreshLaws.{fresh_of_new}

-- how many numbers below n pass a test
abbrev hits : (ℕ → Bool) → ℕ → ℕ
hits test zero = 0
hits test (suc n) = elim (test n) [ true ↦ suc (hits test n) | false ↦ hits test n ]

hits_all : (test : ℕ → Bool) (n : ℕ) → ((i : ℕ) → i < n → test i ≡ true) → hits test n ≡ n
hits_all test zero h = refl
hits_all test (suc n) h = by (test n) (h n (omega arith)) (hits_all test n (λ i low. h i (omega arith)))
  where
    by : (b : Bool) → b ≡ true → hits test n ≡ n → elim b as (λ _. ℕ) [ true ↦ suc (hits test n) | false ↦ hits test n ] ≡ suc n
    by true e others = ap suc others
    by false e others = absurd cc

hits_none : (test : ℕ → Bool) (n : ℕ) → ((i : ℕ) → i < n → test i ≡ false) → hits test n ≡ 0
hits_none test zero h = refl
hits_none test (suc n) h = by (test n) (h n (omega arith)) (hits_none test n (λ i low. h i (omega arith)))
  where
    by : (b : Bool) → b ≡ false → hits test n ≡ 0 → elim b as (λ _. ℕ) [ true ↦ suc (hits test n) | false ↦ hits test n ] ≡ 0
    by true e others = absurd cc
    by false e others = others

-- a test that no two numbers pass
hits_one : (test : ℕ → Bool) (n : ℕ) → ((i j : ℕ) → i < n → j < n → test i ≡ true → test j ≡ true → i ≡ j) → hits test n ≤ 1
hits_one test zero h = omega arith
hits_one test (suc n) h = by (test n) refl (hits_one test n (λ i j low lower. h i j (omega arith) (omega arith)))
  where
    none : test n ≡ true → (i : ℕ) → i < n → test i ≡ false
    none e i low = step (test i) refl
      where
        step : (b : Bool) → test i ≡ b → test i ≡ false
        step true f = absurd (omega (arith, h i n (omega arith) (omega arith) f e))
        step false f = f

    by : (b : Bool) → test n ≡ b → hits test n ≤ 1 → elim b as (λ _. ℕ) [ true ↦ suc (hits test n) | false ↦ hits test n ] ≤ 1
    by true e others = omega (arith, hits_none test n (none e))
    by false e others = others

hits_either : (p q : ℕ → Bool) (n : ℕ) → hits (λ i. p i || q i) n ≤ hits p n + hits q n
hits_either p q zero = omega arith
hits_either p q (suc n) = by (p n) (q n) (hits_either p q n)
  where
    by : (a b : Bool) → hits (λ i. p i || q i) n ≤ hits p n + hits q n →
        elim (a || b) as (λ _. ℕ) [ true ↦ suc (hits (λ i. p i || q i) n) | false ↦ hits (λ i. p i || q i) n ]
        ≤ elim a as (λ _. ℕ) [ true ↦ suc (hits p n) | false ↦ hits p n ] + elim b as (λ _. ℕ) [ true ↦ suc (hits q n) | false ↦ hits q n ]
    by true true h = omega (arith, h)
    by true false h = omega (arith, h)
    by false true h = omega (arith, h)
    by false false h = omega (arith, h)

-- ---- numbered names in a list

abbrev numbered : Name → ℕ → Name
numbered x i = x ++ decimal i

one_number : (x y : Name) (i j : ℕ) → i < 2 ^ 64 → j < 2 ^ 64 → same_name y (numbered x i) ≡ true → same_name y (numbered x j) ≡ true → i ≡ j
one_number x y i j h k e f =
    decimal_injective i j h k
    (append_cancel_left x (decimal i) (decimal j) (sym ((bytes_eq-Decides y (numbered x i)).0 e) ∙ (bytes_eq-Decides y (numbered x j)).0 f))

-- a list has no more numbered names than names
few_listed : (x : Name) (ns : List Name) (n : ℕ) → n ≤ 2 ^ 64 → hits (λ i. is_listed ns (numbered x i)) n ≤ length ns
unfolding is_listed
few_listed x [] n h = omega (arith, hits_none (λ i. is_listed [] (numbered x i)) n (λ i low. refl))
few_listed x (y ∷ ys) n h =
    let one = hits_one (λ i. same_name y (numbered x i)) n (λ i j low lower. one_number x y i j (omega arith) (omega arith)) in
    let rest = few_listed x ys n h in
    let both = hits_either (λ i. same_name y (numbered x i)) (λ i. is_listed ys (numbered x i)) n in
    omega (arith, one, rest, both)

-- if all up to a number are there, the list is no shorter
pub all_listed : (x : Name) (ns : List Name) (n : ℕ) → n ≤ 2 ^ 64 → ((i : ℕ) → i < n → is_listed ns (numbered x i) ≡ true) → n ≤ length ns
all_listed x ns n h all = omega (arith, few_listed x ns n h, hits_all (λ i. is_listed ns (numbered x i)) n all)

-- ---- the number that is found

-- a number before which all are taken
abbrev Found : List Name → Name → ℕ → Name → Type 0
Found taken x from y = (k : ℕ) × (y ≡ numbered x k) × ((i : ℕ) → from ≤ i → i < k → is_listed taken (numbered x i) ≡ true)

found_from : (taken : List Name) (x : Name) (tries from : ℕ) → Found taken x from (fresh_from taken x from tries)
unfolding fresh_from
found_from taken x zero from = (from, refl, λ i low high. absurd (omega arith))
found_from taken x (suc tries) from = by (is_listed taken (numbered x from)) refl (found_from taken x tries (suc from))
  where
    by : (b : Bool) → is_listed taken (numbered x from) ≡ b → Found taken x (suc from) (fresh_from taken x (suc from) tries) →
        Found taken x from (elim b as (λ _. Name) [ true ↦ fresh_from taken x (suc from) tries | false ↦ numbered x from ])
    by true e f = (f.0, f.1, λ i low high. step i low high (nat_lt from i) refl)
      where
        step : (i : ℕ) → from ≤ i → i < f.0 → (b : Bool) → nat_lt from i ≡ b → is_listed taken (numbered x i) ≡ true
        step i low high true g = f.2 i (omega (arith, ltb-true from i g)) high
        step i low high false g = let same : from ≡ i = omega (arith, low, ltb-false from i g) in ap (λ j. is_listed taken (numbered x j)) (sym same) ∙ e
    by false e f = (from, refl, λ i low high. absurd (omega arith))

-- among names of a short list the number is small
pub fresh_is : (taken ns : List Name) (x : Name) → ((y : Name) → is_listed taken y ≡ true → is_listed ns y ≡ true) → length ns < 2 ^ 64 →
    (fresh_of taken x ≡ x) ⊎ ((k : ℕ) × (k < 2 ^ 64) × (fresh_of taken x ≡ numbered x k))
unfolding fresh_of
fresh_is taken ns x within few = by (is_listed taken x)
  where
    small : (k : ℕ) → ((i : ℕ) → 0 ≤ i → i < k → is_listed taken (numbered x i) ≡ true) → (b : Bool) → nat_lt k (2 ^ 64) ≡ b → k < 2 ^ 64
    small k all true e = ltb-true k (2 ^ 64) e
    small k all false e =
        let large = ltb-false k (2 ^ 64) e in
        absurd (omega (arith, few, all_listed x ns (2 ^ 64) (omega arith) (λ i low. within (numbered x i) (all i (omega arith) (omega (arith, low, large))))))

    by : (b : Bool) → (elim b as (λ _. Name) [ true ↦ fresh_from taken x 0 (length taken) | false ↦ x ] ≡ x)
        ⊎ ((k : ℕ) × (k < 2 ^ 64) × (elim b as (λ _. Name) [ true ↦ fresh_from taken x 0 (length taken) | false ↦ x ] ≡ numbered x k))
    by false = inl refl
    by true = let f = found_from taken x (length taken) 0 in inr (f.0, small f.0 f.2 (nat_lt f.0 (2 ^ 64)) refl, f.1)

-- ---- it is fresh

-- the search finds a name that is not taken, or all that it tries are
stops_or_all : (taken : List Name) (x : Name) (tries from : ℕ) →
    (is_listed taken (fresh_from taken x from tries) ≡ false) ⊎ ((i : ℕ) → from ≤ i → i < from + tries → is_listed taken (numbered x i) ≡ true)
unfolding fresh_from
stops_or_all taken x zero from = inr (λ i low high. absurd (omega arith))
stops_or_all taken x (suc tries) from = by (is_listed taken (numbered x from)) refl (stops_or_all taken x tries (suc from))
  where
    by : (b : Bool) → is_listed taken (numbered x from) ≡ b →
        (is_listed taken (fresh_from taken x (suc from) tries) ≡ false) ⊎
        ((i : ℕ) → suc from ≤ i → i < suc from + tries → is_listed taken (numbered x i) ≡ true) →
        (is_listed taken (elim b as (λ _. Name) [ true ↦ fresh_from taken x (suc from) tries | false ↦ numbered x from ]) ≡ false)
        ⊎ ((i : ℕ) → from ≤ i → i < from + suc tries → is_listed taken (numbered x i) ≡ true)
    by false e others = inl e
    by true e (inl f) = inl f
    by true e (inr all) = inr (λ i low high. step i low high (nat_lt from i) refl)
      where
        step : (i : ℕ) → from ≤ i → i < from + suc tries → (b : Bool) → nat_lt from i ≡ b → is_listed taken (numbered x i) ≡ true
        step i low high true g = all i (omega (arith, ltb-true from i g)) (omega (arith, high))
        step i low high false g = let same : from ≡ i = omega (arith, low, ltb-false from i g) in ap (λ j. is_listed taken (numbered x j)) (sym same) ∙ e

many_apart : (taken ns : List Name) (x : Name) → ((y : Name) → is_listed taken y ≡ true → is_listed ns y ≡ true) → length ns < 2 ^ 64 →
    2 ^ 64 ≤ length taken → is_listed taken (fresh_of taken x) ≡ false
unfolding fresh_of
many_apart taken ns x within few large = by (is_listed taken x) refl
  where
    through : (is_listed taken (fresh_from taken x 0 (length taken)) ≡ false) ⊎
        ((i : ℕ) → 0 ≤ i → i < 0 + length taken → is_listed taken (numbered x i) ≡ true) → is_listed taken (fresh_from taken x 0 (length taken)) ≡ false
    through (inl e) = e
    through (inr all) =
        absurd (omega (arith, few, all_listed x ns (2 ^ 64) (omega arith) (λ i low. within (numbered x i) (all i (omega arith) (omega (arith, low, large))))))

    by : (b : Bool) → is_listed taken x ≡ b → is_listed taken (elim b as (λ _. Name) [ true ↦ fresh_from taken x 0 (length taken) | false ↦ x ]) ≡ false
    by true e = through (stops_or_all taken x (length taken) 0)
    by false e = e

-- a name that is made fresh among few names is none of them
pub fresh_apart : (taken ns : List Name) (x : Name) → ((y : Name) → is_listed taken y ≡ true → is_listed ns y ≡ true) → length ns < 2 ^ 64 →
    is_listed taken (fresh_of taken x) ≡ false
fresh_apart taken ns x within few = by (nat_lt (length taken) (2 ^ 64)) refl
  where
    by : (b : Bool) → nat_lt (length taken) (2 ^ 64) ≡ b → is_listed taken (fresh_of taken x) ≡ false
    by true e = let l = ltb-true (length taken) (2 ^ 64) e in fresh_of_new taken x (omega (arith, l))
    by false e = many_apart taken ns x within few (ltb-false (length taken) (2 ^ 64) e)
