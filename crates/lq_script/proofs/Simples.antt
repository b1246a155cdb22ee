-- Opening and closing simple types.
use Rattle.std.proofs.Common.{◌≡◌, ℕ, ◌+◌, ◌-◌, ◌≤◌, ◌<◌, refl, sym, ◌∙◌, ap, ap₂, List, [], ◌∷◌, ◌++◌, Bool, true, false, ◌||◌, arith, inl, inr, eq-eqb}
use Rattle.std.proofs.Common.{subst as along}
use Rattle.std.proofs.lemmas.Bool.{cases_order, le-ltb, lt-ltb, ne_eqb}
use Rattle.std.proofs.lemmas.Slice.Eq.{bytes_eq-Decides}
use Rattle.lq_trees.specs.Tree.{Name, Tree, same_name}
use Rattle.lq_trees.specs.Change.{replace, substituting, closing, close, close_at}
use Rattle.lq_trees.specs.Fresh.{is_listed, opened}
use Rattle.lq_trees.proofs.FillLaws.{lifted_below, lifted_above}
use Rattle.lq_script.specs.Simple.{IsSimple}

pub same_self : (x : Name) → same_name x x ≡ true
same_self x = (bytes_eq-Decides x x).1 refl

-- a listed name is not one that isn't listed
pub listed_apart : (xs : List Name) (x y : Name) → is_listed xs y ≡ true → is_listed xs x ≡ false → same_name y x ≡ false
listed_apart xs x y h k = go (same_name y x) refl
  where
    go : (b : Bool) → same_name y x ≡ b → same_name y x ≡ false
    go false e = e
    go true e = absurd (let same : y ≡ x = (bytes_eq-Decides y x).0 e in let one : is_listed xs y ≡ is_listed xs x = ap (is_listed xs) same in cc)

-- a bound variable where a hypothesis is put in
module _ (x : Name) (d i : ℕ) where
  pub put_below : i < d → replace (substituting (Tree.Var x)) d (Tree.Rel i) ≡ Tree.Rel i
  put_below l = rw (lt-ltb i d l) refl

  pub put_here : i ≡ d → replace (substituting (Tree.Var x)) d (Tree.Rel i) ≡ Tree.Var x
  put_here e = let l : d ≤ i = omega arith in rw (le-ltb i d l, eq-eqb i d e) refl

  pub put_above : d < i → replace (substituting (Tree.Var x)) d (Tree.Rel i) ≡ Tree.Rel (i - 1)
  put_above l = let m : d ≤ i = omega arith in rw (le-ltb i d m, ne_eqb i d (λ e. omega arith)) refl

-- the variable that was opened is closed again
module _ (xs : List Name) (x : Name) (new : is_listed xs x ≡ false) where
  index_back : (d i : ℕ) → replace (closing x) d (replace (substituting (Tree.Var x)) d (Tree.Rel i)) ≡ Tree.Rel i
  index_back d i = elim (cases_order i d) [
    | inl e ↦ ap (replace (closing x) d) (put_here x d i e) ∙ closes_self d ∙ ap Tree.Rel (sym e)
    | inr h ↦ elim h [
      | inl l ↦ ap (replace (closing x) d) (put_below x d i l) ∙ lifted_below 1 d i l
      | inr l ↦ ap (replace (closing x) d) (put_above x d i l) ∙ lifted_above 1 d (i - 1) (omega arith) ∙ ap Tree.Rel (omega arith)
    ]
  ]
    where
      closes_self : (d : ℕ) → replace (closing x) d (Tree.Var x) ≡ Tree.Rel d
      closes_self d = rw (same_self x) refl

  named_back : (d : ℕ) (y : Name) → is_listed xs y ≡ true → replace (closing x) d (Tree.Var y) ≡ Tree.Var y
  named_back d y h = rw (listed_apart xs x y h new) refl

  pub back_at : (d : ℕ) (t : Tree) → IsSimple xs t → close_at x d (replace (substituting (Tree.Var x)) d t) ≡ t
  back_at d (Tree.Rel i) h = index_back d i
  back_at d (Tree.Var y) h = named_back d y h
  back_at d (Tree.Sort s) h = refl
  back_at d (Tree.Prod y kind rest) h = ap₂ (Tree.Prod y) (back_at d kind h.0) (back_at (d + 1) rest h.1)
  back_at d (Tree.Const c) h = refl
  back_at d _ h = absurd h

  pub closed_again : (t : Tree) → IsSimple xs t → close x (opened x t) ≡ t
  unfolding opened
  closed_again t h = back_at 0 t h

pub or_true : (a b : Bool) → b ≡ true → (a || b) ≡ true
or_true true b e = refl
or_true false b e = e

-- one more name
pub listed_more : (xs : List Name) (x y : Name) → is_listed xs y ≡ true → is_listed (xs ++ (x ∷ [])) y ≡ true
unfolding is_listed
listed_more [] x y h = cc
listed_more (z ∷ zs) x y h = go (same_name z y) h (λ k. listed_more zs x y k)
  where
    go : (b : Bool) → (b || is_listed zs y) ≡ true → (is_listed zs y ≡ true → is_listed (zs ++ (x ∷ [])) y ≡ true) → (b || is_listed (zs ++ (x ∷ [])) y) ≡ true
    go true k ih = refl
    go false k ih = ih k

pub listed_last : (xs : List Name) (x : Name) → is_listed (xs ++ (x ∷ [])) x ≡ true
unfolding is_listed
listed_last [] x = rw (same_self x) refl
listed_last (z ∷ zs) x = or_true (same_name z x) _ (listed_last zs x)

module _ (xs : List Name) (x : Name) where
  index_opened : (d i : ℕ) → IsSimple (xs ++ (x ∷ [])) (replace (substituting (Tree.Var x)) d (Tree.Rel i))
  index_opened d i = elim (cases_order i d) [
    | inl e ↦ along (IsSimple (xs ++ (x ∷ []))) (sym (put_here x d i e)) (listed_last xs x)
    | inr h ↦ elim h [
      | inl l ↦ along (IsSimple (xs ++ (x ∷ []))) (sym (put_below x d i l)) tt
      | inr l ↦ along (IsSimple (xs ++ (x ∷ []))) (sym (put_above x d i l)) tt
    ]
  ]

  pub opened_at : (d : ℕ) (t : Tree) → IsSimple xs t → IsSimple (xs ++ (x ∷ [])) (replace (substituting (Tree.Var x)) d t)
  opened_at d (Tree.Rel i) h = index_opened d i
  opened_at d (Tree.Var y) h = listed_more xs x y h
  opened_at d (Tree.Sort s) h = tt
  opened_at d (Tree.Prod y kind rest) h = (opened_at d kind h.0, opened_at (d + 1) rest h.1)
  opened_at d (Tree.Const c) h = tt
  opened_at d _ h = absurd h

  pub opened_simple : (t : Tree) → IsSimple xs t → IsSimple (xs ++ (x ∷ [])) (opened x t)
  unfolding opened
  opened_simple t h = opened_at 0 t h
