-- How terms that stand among hypotheses are put together and taken apart.
use Rattle.std.proofs.Common.{◌≡◌, ◌≤◌, ◌+◌, ◌∙◌, ℕ, suc, refl, sym, ap, arith, Bool, true, false, ◌||◌, if◌then◌else◌, List, [], ◌∷◌, ◌++◌, length, inl, inr}
use Rattle.std.proofs.Common.{subst as along}
use Rattle.std.proofs.lemmas.Bool.{cases_lt}
use Rattle.std.proofs.lemmas.List.{length-map}
use Rattle.lq_trees.specs.Tree.{Name, Tree, Trees, none, more, same_name}
use Rattle.lq_trees.specs.Tree.Tree.{Rel, Var, Sort, Prod, Lam, Let, App, Const, Ind, Ctor, Elim, Evar}
use Rattle.lq_trees.specs.Change.{replace, replace_each, lifted, filled, closed, closing, close_at, close, subst, fill, fill_each}
use Rattle.lq_trees.specs.Fresh.{is_listed, opened}
use Rattle.lq_trees.specs.Index.{Within, EachWithin}
use Rattle.lq_trees.specs.Hypotheses.{HoldsOnly, EachHoldsOnly}
use Rattle.lq_trees.specs.Reading.{entries}
use Rattle.lq_trees.proofs.FillLaws.{subst_fill, lifted_below, lifted_above, filled_below}
use Rattle.lq_solving.specs.Stores.{Variable, Store, read}
use Rattle.lq_solving.specs.Kept.{IsOver, EachIsOver, Stands, IsStore}
use Rattle.lq_solving.specs.Claims.{IsPlain}
use Rattle.lq_solving.proofs.InstanceLaws.{is_same, same_flip}
use Rattle.lq_solving.proofs.OverLaws.{lift_over, within_more}
use Rattle.lq_solving.proofs.EqualUnder.{lift_closed}
use Rattle.lq_solving.proofs.DoneLaws.{filled_done}
use Rattle.lq_solving.proofs.ReadLaws.{filled_over, filled_within}
use Rattle.lq_solving.proofs.UnifyForms.{holds_more}
use Rattle.lq_solving.proofs.Steady.{entries_replace, at_place, beyond_place}
use Rattle.lq_solving.proofs.Good.{IsGood, entries_filled, is_good, good_holds, plain_good, subst_good}
use Rattle.lq_solving.proofs.Closing.{reads_close}
use Rattle.lq_solving.proofs.Later.{reads_prod, reads_lam, reads_let, reads_app, reads_var, reads_fill, good_read, good_stands}

-- a term that stands among hypotheses of these names, in which so many bound variables may be loose
pub record StandsUnder (s : Store) (xs : List Name) (n : ℕ) (t : Tree) : Type 0 where
  pub over : IsOver s.variables t
  pub within : Within n t
  pub holds : HoldsOnly xs (read s t)

-- ---- a hypothesis becomes bound

pub listed_last : (xs : List Name) (y x : Name) → is_listed (xs ++ y ∷ []) x ≡ true → same_name x y ≡ false → is_listed xs x ≡ true
unfolding is_listed
listed_last [] y x e f = absurd (other (same_name y x) (same_flip y x ∙ f) e)
  where
    other : (b : Bool) → b ≡ false → (b || false) ≡ true → ⊥
    other true p q = grind (arith, p)
    other false p q = grind (arith, q)
listed_last (z ∷ xs) y x e f = at (same_name z x) e (λ p. listed_last xs y x p f)
  where
    at : (b : Bool) → (b || is_listed (xs ++ y ∷ []) x) ≡ true → (is_listed (xs ++ y ∷ []) x ≡ true → is_listed xs x ≡ true) → (b || is_listed xs x) ≡ true
    at true p ih = refl
    at false p ih = ih p

name_holds : (xs : List Name) (y x : Name) (d : ℕ) → is_listed (xs ++ y ∷ []) x ≡ true → HoldsOnly xs (closed y d x)
name_holds xs y x d e = at (same_name x y) refl
  where
    at : (b : Bool) → same_name x y ≡ b → HoldsOnly xs (if b then Rel d else Var x)
    at true f = tt
    at false f = listed_last xs y x e f

name_over : (vs : List Variable) (y x : Name) (d : ℕ) → IsOver vs (closed y d x)
name_over vs y x d = at (same_name x y)
  where
    at : (b : Bool) → IsOver vs (if b then Rel d else Var x)
    at true = tt
    at false = tt

name_within : (y x : Name) (d n : ℕ) → suc d ≤ n → Within n (closed y d x)
name_within y x d n l = at (same_name x y)
  where
    at : (b : Bool) → Within n (if b then Rel d else Var x)
    at true = l
    at false = tt

rel_close_over : (vs : List Variable) (d i : ℕ) → IsOver vs (lifted 1 d i)
rel_close_over vs d i = elim (cases_lt i d) [
  | inl l ↦ along (IsOver vs) (sym (lifted_below 1 d i l)) tt
  | inr l ↦ along (IsOver vs) (sym (lifted_above 1 d i l)) tt
]

rel_close_holds : (xs : List Name) (d i : ℕ) → HoldsOnly xs (lifted 1 d i)
rel_close_holds xs d i = elim (cases_lt i d) [
  | inl l ↦ along (HoldsOnly xs) (sym (lifted_below 1 d i l)) tt
  | inr l ↦ along (HoldsOnly xs) (sym (lifted_above 1 d i l)) tt
]

rel_close_within : (d n i : ℕ) → suc i ≤ n → d ≤ n → Within (suc n) (lifted 1 d i)
rel_close_within d n i h k = elim (cases_lt i d) [
  | inl l ↦ along (Within (suc n)) (sym (lifted_below 1 d i l)) (omega (arith, h))
  | inr l ↦ along (Within (suc n)) (sym (lifted_above 1 d i l)) (omega (arith, h))
]

module _ (vs : List Variable) (xs : List Name) (y : Name) where
  mutual
    pub close_over : (d : ℕ) → (t : Tree) → IsOver vs t → IsOver vs (close_at y d t)
    close_over d (Rel i) o = rel_close_over vs d i
    close_over d (Var x) o = name_over vs y x d
    close_over d (Sort u0) o = tt
    close_over d (Prod x0 A0 B0) o = (close_over d A0 o.0, close_over (d + 1) B0 o.1)
    close_over d (Lam x0 A0 B0) o = (close_over d A0 o.0, close_over (d + 1) B0 o.1)
    close_over d (Let x0 v0 A0 B0) o = (close_over d v0 o.0, close_over d A0 o.1, close_over (d + 1) B0 o.2)
    close_over d (App f0 a0) o = (close_over d f0 o.0, close_over d a0 o.1)
    close_over d (Const c0) o = tt
    close_over d (Ind c0) o = tt
    close_over d (Ctor c0 k0) o = tt
    close_over d (Elim c0 u0) o = tt
    close_over d (Evar n0 ts0) o = (o.0, ap length (entries_replace (closing y) d ts0) ∙ length-map (entries ts0) (replace (closing y) d) ∙ o.1, each_close_over d ts0 o.2)

    pub each_close_over : (d : ℕ) → (ts : Trees) → EachIsOver vs ts → EachIsOver vs (replace_each (closing y) d ts)
    each_close_over d none o = tt
    each_close_over d (more t0 ts0) o = (close_over d t0 o.0, each_close_over d ts0 o.1)

  mutual
    pub close_within : (d n : ℕ) → d ≤ n → (t : Tree) → Within n t → Within (suc n) (close_at y d t)
    close_within d n l (Rel i) w = rel_close_within d n i w l
    close_within d n l (Var x) w = name_within y x d (suc n) (omega (arith, l))
    close_within d n l (Sort u0) w = tt
    close_within d n l (Prod x0 A0 B0) w = (close_within d n l A0 w.0, along (λ m. Within m (close_at y (d + 1) B0)) (omega arith) (close_within (d + 1) (n + 1) (omega (arith, l)) B0 w.1))
    close_within d n l (Lam x0 A0 B0) w = (close_within d n l A0 w.0, along (λ m. Within m (close_at y (d + 1) B0)) (omega arith) (close_within (d + 1) (n + 1) (omega (arith, l)) B0 w.1))
    close_within d n l (Let x0 v0 A0 B0) w = (close_within d n l v0 w.0, close_within d n l A0 w.1, along (λ m. Within m (close_at y (d + 1) B0)) (omega arith) (close_within (d + 1) (n + 1) (omega (arith, l)) B0 w.2))
    close_within d n l (App f0 a0) w = (close_within d n l f0 w.0, close_within d n l a0 w.1)
    close_within d n l (Const c0) w = tt
    close_within d n l (Ind c0) w = tt
    close_within d n l (Ctor c0 k0) w = tt
    close_within d n l (Elim c0 u0) w = tt
    close_within d n l (Evar n0 ts0) w = each_close_within d n l ts0 w

    pub each_close_within : (d n : ℕ) → d ≤ n → (ts : Trees) → EachWithin n ts → EachWithin (suc n) (replace_each (closing y) d ts)
    each_close_within d n l none w = tt
    each_close_within d n l (more t0 ts0) w = (close_within d n l t0 w.0, each_close_within d n l ts0 w.1)

  mutual
    pub close_holds : (d : ℕ) → (t : Tree) → HoldsOnly (xs ++ y ∷ []) t → HoldsOnly xs (close_at y d t)
    close_holds d (Rel i) h = rel_close_holds xs d i
    close_holds d (Var x) h = name_holds xs y x d h
    close_holds d (Sort u0) h = tt
    close_holds d (Prod x0 A0 B0) h = (close_holds d A0 h.0, close_holds (d + 1) B0 h.1)
    close_holds d (Lam x0 A0 B0) h = (close_holds d A0 h.0, close_holds (d + 1) B0 h.1)
    close_holds d (Let x0 v0 A0 B0) h = (close_holds d v0 h.0, close_holds d A0 h.1, close_holds (d + 1) B0 h.2)
    close_holds d (App f0 a0) h = (close_holds d f0 h.0, close_holds d a0 h.1)
    close_holds d (Const c0) h = tt
    close_holds d (Ind c0) h = tt
    close_holds d (Ctor c0 k0) h = tt
    close_holds d (Elim c0 u0) h = tt
    close_holds d (Evar n0 ts0) h = each_close_holds d ts0 h

    pub each_close_holds : (d : ℕ) → (ts : Trees) → EachHoldsOnly (xs ++ y ∷ []) ts → EachHoldsOnly xs (replace_each (closing y) d ts)
    each_close_holds d none h = tt
    each_close_holds d (more t0 ts0) h = (close_holds d t0 h.0, each_close_holds d ts0 h.1)

-- ---- terms from their parts, and parts of terms

module _ (s : Store) (i : IsStore s) (xs : List Name) where
  pub close_stands : (y : Name) (t : Tree) → Stands s (xs ++ y ∷ []) t → StandsUnder s xs 1 (close y t)
  unfolding read
  close_stands y t h = record {
    over = close_over s.variables xs y 0 t h.over;
    within = close_within s.variables xs y 0 0 (omega arith) t h.within;
    holds = along (HoldsOnly xs) (sym (reads_close s.variables s.values i.values y 0 t h.over)) (close_holds s.variables xs y 0 (read s t) h.holds);
  }

  pub prod_stands : (x : Name) (A B : Tree) → Stands s xs A → StandsUnder s xs 1 B → Stands s xs (Prod x A B)
  unfolding read
  prod_stands x A B a b = record {
    over = (a.over, b.over);
    within = (a.within, b.within);
    holds = along (HoldsOnly xs) (sym (reads_prod s.variables s.values x A B)) (a.holds, b.holds);
  }

  pub lam_stands : (x : Name) (A B : Tree) → Stands s xs A → StandsUnder s xs 1 B → Stands s xs (Lam x A B)
  unfolding read
  lam_stands x A B a b = record {
    over = (a.over, b.over);
    within = (a.within, b.within);
    holds = along (HoldsOnly xs) (sym (reads_lam s.variables s.values x A B)) (a.holds, b.holds);
  }

  pub let_stands : (x : Name) (v A B : Tree) → Stands s xs v → Stands s xs A → StandsUnder s xs 1 B → Stands s xs (Let x v A B)
  unfolding read
  let_stands x v A B w a b = record {
    over = (w.over, a.over, b.over);
    within = (w.within, a.within, b.within);
    holds = along (HoldsOnly xs) (sym (reads_let s.variables s.values x v A B)) (w.holds, a.holds, b.holds);
  }

  pub app_stands : (f a : Tree) → Stands s xs f → Stands s xs a → Stands s xs (App f a)
  unfolding read
  app_stands f a h k = record {
    over = (h.over, k.over);
    within = (h.within, k.within);
    holds = along (HoldsOnly xs) (sym (reads_app s.variables s.values f a)) (h.holds, k.holds);
  }

  -- a product's parts
  pub domain_stands : (x : Name) (A B : Tree) → Stands s xs (Prod x A B) → Stands s xs A
  unfolding read
  domain_stands x A B h = record { over = h.over.0; within = h.within.0; holds = (along (HoldsOnly xs) (reads_prod s.variables s.values x A B) h.holds).0 }

  pub rest_stands : (x : Name) (A B : Tree) → Stands s xs (Prod x A B) → StandsUnder s xs 1 B
  unfolding read
  rest_stands x A B h = record { over = h.over.1; within = h.within.1; holds = (along (HoldsOnly xs) (reads_prod s.variables s.values x A B) h.holds).1 }

  -- a term that is plain stands anywhere
  pub plain_stands : (t : Tree) → IsPlain 0 t → Stands s xs t
  plain_stands t p = good_stands s i [] xs t (plain_good s.variables [] xs 0 t p.over p.within p.holds)

-- ---- names

pub listed_more : (xs ys : List Name) (x : Name) → is_listed xs x ≡ true → is_listed (xs ++ ys) x ≡ true
unfolding is_listed
listed_more [] ys x e = absurd (grind (arith, e))
listed_more (z ∷ xs) ys x e = at (same_name z x) e (λ p. listed_more xs ys x p)
  where
    at : (b : Bool) → (b || is_listed xs x) ≡ true → (is_listed xs x ≡ true → is_listed (xs ++ ys) x ≡ true) → (b || is_listed (xs ++ ys) x) ≡ true
    at true p ih = refl
    at false p ih = ih p

pub listed_end : (xs : List Name) (y : Name) → is_listed (xs ++ y ∷ []) y ≡ true
unfolding is_listed
listed_end [] y = ap (λ b. b || false) (is_same y)
listed_end (z ∷ xs) y = at (same_name z y) (listed_end xs y)
  where
    at : (b : Bool) → is_listed (xs ++ y ∷ []) y ≡ true → (b || is_listed (xs ++ y ∷ []) y) ≡ true
    at true p = refl
    at false p = p

pub var_stands : (s : Store) (xs : List Name) (x : Name) → is_listed xs x ≡ true → Stands s xs (Var x)
unfolding read
var_stands s xs x e = record { over = tt; within = tt; holds = along (HoldsOnly xs) (sym (reads_var s.variables s.values x)) e }

-- ---- one value for the outermost bound variable

module _ (vs : List Variable) (v : Tree) (o : IsOver vs v) where
  rel_fill_over : (e i : ℕ) → IsOver vs (filled (v ∷ []) e i)
  rel_fill_over e i = elim (cases_lt i e) [
    | inl l ↦ along (IsOver vs) (sym (filled_below (v ∷ []) e i l)) tt
    | inr l ↦ elim (cases_lt e i) [
      | inl j ↦ along (IsOver vs) (sym (beyond_place v e i j)) tt
      | inr j ↦ along (λ n. IsOver vs (filled (v ∷ []) e n)) (omega (arith, l, j)) (along (IsOver vs) (sym (at_place v e)) (lift_over vs e 0 v o))
    ]
  ]

  mutual
    pub fill_over : (e : ℕ) → (t : Tree) → IsOver vs t → IsOver vs (fill (v ∷ []) e t)
    fill_over e (Rel i) p = rel_fill_over e i
    fill_over e (Var x) p = tt
    fill_over e (Sort u0) p = tt
    fill_over e (Prod x0 A0 B0) p = (fill_over e A0 p.0, fill_over (e + 1) B0 p.1)
    fill_over e (Lam x0 A0 B0) p = (fill_over e A0 p.0, fill_over (e + 1) B0 p.1)
    fill_over e (Let x0 v0 A0 B0) p = (fill_over e v0 p.0, fill_over e A0 p.1, fill_over (e + 1) B0 p.2)
    fill_over e (App f0 a0) p = (fill_over e f0 p.0, fill_over e a0 p.1)
    fill_over e (Const c0) p = tt
    fill_over e (Ind c0) p = tt
    fill_over e (Ctor c0 k0) p = tt
    fill_over e (Elim c0 u0) p = tt
    fill_over e (Evar n0 ts0) p = (p.0, entries_filled (v ∷ []) e ts0 ∙ p.1, each_fill_over e ts0 p.2)

    pub each_fill_over : (e : ℕ) → (ts : Trees) → EachIsOver vs ts → EachIsOver vs (fill_each (v ∷ []) e ts)
    each_fill_over e none p = tt
    each_fill_over e (more t0 ts0) p = (fill_over e t0 p.0, each_fill_over e ts0 p.1)

module _ (v : Tree) (w : Within 0 v) where
  rel_fill_within : (e i : ℕ) → suc i ≤ e + 1 → Within e (filled (v ∷ []) e i)
  rel_fill_within e i h = elim (cases_lt i e) [
    | inl l ↦ along (Within e) (sym (filled_below (v ∷ []) e i l)) l
    | inr l ↦ along (λ n. Within e (filled (v ∷ []) e n)) (omega (arith, l, h)) (along (Within e) (sym (at_place v e ∙ lift_closed e 0 0 (omega arith) v w)) (within_more 0 e (omega arith) v w))
  ]

  mutual
    pub fill_within : (e : ℕ) → (t : Tree) → Within (e + 1) t → Within e (fill (v ∷ []) e t)
    fill_within e (Rel i) p = rel_fill_within e i p
    fill_within e (Var x) p = tt
    fill_within e (Sort u0) p = tt
    fill_within e (Prod x0 A0 B0) p = (fill_within e A0 p.0, fill_within (e + 1) B0 p.1)
    fill_within e (Lam x0 A0 B0) p = (fill_within e A0 p.0, fill_within (e + 1) B0 p.1)
    fill_within e (Let x0 v0 A0 B0) p = (fill_within e v0 p.0, fill_within e A0 p.1, fill_within (e + 1) B0 p.2)
    fill_within e (App f0 a0) p = (fill_within e f0 p.0, fill_within e a0 p.1)
    fill_within e (Const c0) p = tt
    fill_within e (Ind c0) p = tt
    fill_within e (Ctor c0 k0) p = tt
    fill_within e (Elim c0 u0) p = tt
    fill_within e (Evar n0 ts0) p = each_fill_within e ts0 p

    pub each_fill_within : (e : ℕ) → (ts : Trees) → EachWithin (e + 1) ts → EachWithin e (fill_each (v ∷ []) e ts)
    each_fill_within e none p = tt
    each_fill_within e (more t0 ts0) p = (fill_within e t0 p.0, each_fill_within e ts0 p.1)

module _ (s : Store) (i : IsStore s) (xs : List Name) where
  -- the rest of a binder as read
  under_good : (t : Tree) → StandsUnder s xs 1 t → IsGood s.variables s.values xs 1 (read s t)
  unfolding read
  under_good t h =
      is_good s.variables s.values xs 1 (read s t) (filled_over s.variables s.values i.values t h.over) (filled_done s.variables s.values i.values t)
      (filled_within s.variables s.values i.values 1 t h.within) h.holds

  pub subst_stands : (v t : Tree) → Stands s xs v → StandsUnder s xs 1 t → Stands s xs (subst v t)
  unfolding read
  subst_stands v t h k = record {
    over = along (IsOver s.variables) (sym (subst_fill v t)) (fill_over s.variables v h.over 0 t k.over);
    within = along (Within 0) (sym (subst_fill v t)) (fill_within v h.within 0 t k.within);
    holds =
        along (HoldsOnly xs) (sym (ap (read s) (subst_fill v t) ∙ reads_fill s.variables s.values i.values v 0 t ∙ sym (subst_fill (read s v) (read s t))))
        (good_holds s.variables s.values xs 0 (subst (read s v) (read s t)) (subst_good s.variables s.values xs (read s v) (read s t) (good_read s i xs v h) (under_good t k)));
  }

-- the rest of a binder, opened
pub open_stands : (s : Store) → IsStore s → (xs : List Name) (y : Name) (t : Tree) → StandsUnder s xs 1 t → Stands s (xs ++ y ∷ []) (opened y t)
unfolding opened
open_stands s i xs y t k =
    subst_stands s i (xs ++ y ∷ []) (Var y) t (var_stands s (xs ++ y ∷ []) y (listed_end xs y))
    (record { over = k.over; within = k.within; holds = holds_more xs (xs ++ y ∷ []) (λ x e. listed_more xs (y ∷ []) x e) (read s t) k.holds })
