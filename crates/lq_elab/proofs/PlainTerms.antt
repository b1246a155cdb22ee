-- Terms without variables, which hold hypotheses of some names alone: what is made of them is such a term.
use Rattle.std.proofs.Common.{◌≡◌, ◌≤◌, ◌+◌, ◌-◌, ℕ, suc, refl, sym, ap, arith, Bool, true, false, if◌then◌else◌, List, [], ◌∷◌, ◌++◌, map, length, reverse}
use Rattle.std.proofs.Common.{Option, Some, None, inl, inr, add-zero}
use Rattle.std.proofs.Common.{subst as along}
use Rattle.std.proofs.lemmas.Bool.{cases_lt}
use Rattle.std.proofs.lemmas.List.{reverse-append}
use Rattle.std.specs.Prelude.{slice_get}
use Rattle.lq_trees.specs.Tree.{Name, Tree, same_name, value_of}
use Rattle.lq_trees.specs.Tree.Tree.{Rel, Var, Sort, Prod, Lam, Let, App, Const, Ind, Ctor, Elim, Evar}
use Rattle.lq_trees.specs.Change.{Leaves, replace, raising, lifted, lift, filled, filling, fill, closing, close, standing, instantiating, put}
use Rattle.lq_trees.specs.Fresh.{is_listed}
use Rattle.lq_trees.specs.Index.{Within}
use Rattle.lq_trees.specs.Hypotheses.{HoldsOnly}
use Rattle.lq_trees.proofs.FillLaws.{lifted_below, lifted_above, filled_below, filled_some, get_none}
use Rattle.lq_calculus.specs.Contraction.{spine, apply}
use Rattle.lq_solving.specs.Kept.{IsOver}
use Rattle.lq_solving.specs.Claims.{IsPlain}
use Rattle.lq_solving.proofs.Moving.{AllHave}
use Rattle.lq_solving.proofs.DoneLaws.{nothing_done}
use Rattle.lq_solving.proofs.Good.{IsGood, is_good, good_over, good_within, good_holds, good_more}
use Rattle.lq_solving.proofs.UnifyForms.{good_names}

-- no variable, hypotheses of these names alone, so many bound variables loose
abbrev pub IsBare : List Name → ℕ → Tree → Type 0
IsBare xs n t = IsGood [] [] xs n t

pub bare : (xs : List Name) (n : ℕ) (t : Tree) → IsOver [] t → Within n t → HoldsOnly xs t → IsBare xs n t
bare xs n t o w h = is_good [] [] xs n t o (nothing_done 0 t) w h

pub bare_plain : (n : ℕ) (t : Tree) → IsBare [] n t → IsPlain n t
bare_plain n t g = record { over = good_over [] [] [] n t g; within = good_within [] [] [] n t g; holds = good_holds [] [] [] n t g }

pub bare_more : (xs : List Name) (n m : ℕ) → n ≤ m → (t : Tree) → IsBare xs n t → IsBare xs m t
bare_more xs n m l t g = good_more [] [] xs n m l t g

pub bare_names : (xs ys : List Name) → ((x : Name) → is_listed xs x ≡ true → is_listed ys x ≡ true) → (n : ℕ) (t : Tree) → IsBare xs n t → IsBare ys n t
bare_names xs ys f n t g = good_names [] [] xs ys f n t g

-- what stands for the leaves decides
module _ (f : Leaves) (xs ys : List Name) (m n : ℕ) (bound : (d i : ℕ) → suc i ≤ m + d → IsBare ys (n + d) (f.bound d i))
    (named : (d : ℕ) (x : Name) → is_listed xs x ≡ true → IsBare ys (n + d) (f.named d x)) where
  deeper : (d : ℕ) (t : Tree) → IsBare xs (m + d + 1) t → IsBare xs (m + (d + 1)) t
  deeper d t g = along (λ z. IsBare xs z t) (omega arith) g

  back : (d : ℕ) (t : Tree) → IsBare ys (n + (d + 1)) t → IsBare ys (n + d + 1) t
  back d t g = along (λ z. IsBare ys z t) (omega arith) g

  pub bare_replace : (d : ℕ) (t : Tree) → IsBare xs (m + d) t → IsBare ys (n + d) (replace f d t)
  bare_replace d (Rel i) g = bound d i g
  bare_replace d (Var x) g = named d x g
  bare_replace d (Sort s) g = tt
  bare_replace d (Prod x A B) g = (bare_replace d A g.0, back d (replace f (d + 1) B) (bare_replace (d + 1) B (deeper d B g.1)))
  bare_replace d (Lam x A B) g = (bare_replace d A g.0, back d (replace f (d + 1) B) (bare_replace (d + 1) B (deeper d B g.1)))
  bare_replace d (Let x v A B) g = (bare_replace d v g.0, bare_replace d A g.1, back d (replace f (d + 1) B) (bare_replace (d + 1) B (deeper d B g.2)))
  bare_replace d (App h a) g = (bare_replace d h g.0, bare_replace d a g.1)
  bare_replace d (Const c) g = tt
  bare_replace d (Ind c) g = tt
  bare_replace d (Ctor c k) g = tt
  bare_replace d (Elim c s) g = tt
  bare_replace d (Evar k ts) g = absurd (omega (arith, g.0))

-- raised
bare_lifted : (xs : List Name) (m by d i : ℕ) → suc i ≤ m + d → IsBare xs (m + by + d) (lifted by d i)
bare_lifted xs m by d i h = elim (cases_lt i d) [
  | inl l ↦ along (IsBare xs (m + by + d)) (sym (lifted_below by d i l)) (omega arith)
  | inr l ↦ along (IsBare xs (m + by + d)) (sym (lifted_above by d i l)) (omega arith)
]

pub bare_lift : (xs : List Name) (n by : ℕ) (t : Tree) → IsBare xs n t → IsBare xs (n + by) (lift by 0 t)
bare_lift xs n by t g =
    along (λ z. IsBare xs z (lift by 0 t)) (add-zero (n + by))
    (bare_replace (raising by) xs xs n (n + by) (λ d i l. bare_lifted xs n by d i l) (λ d x l. l) 0 t (along (λ z. IsBare xs z t) (sym (add-zero n)) g))

pub bare_lift_all : (xs : List Name) (n by : ℕ) (ts : List Tree) → AllHave (IsBare xs n) ts → AllHave (IsBare xs (n + by)) (map (lift by 0) ts)
bare_lift_all xs n by [] g = tt
bare_lift_all xs n by (t ∷ ts) g = (bare_lift xs n by t g.0, bare_lift_all xs n by ts g.1)

-- a hypothesis as the outermost variable
pub bare_close : (xs ys : List Name) (y : Name) → ((x : Name) → is_listed ys x ≡ true → same_name x y ≡ false → is_listed xs x ≡ true) → (n : ℕ) (t : Tree) →
    IsBare ys n t → IsBare xs (n + 1) (close y t)
bare_close xs ys y f n t g =
    along (λ z. IsBare xs z (close y t)) (add-zero (n + 1))
    (bare_replace (closing y) ys xs n (n + 1) (λ d i l. bare_lifted xs n 1 d i l) (λ d x l. at d x l (same_name x y) refl) 0 t
    (along (λ z. IsBare ys z t) (sym (add-zero n)) g))
  where
    at : (d : ℕ) (x : Name) → is_listed ys x ≡ true → (b : Bool) → same_name x y ≡ b → IsBare xs (n + 1 + d) (if b then Rel d else Var x)
    at d x l true e = omega arith
    at d x l false e = f x l e

-- an element of a list of such terms
pub have_at : (P : Tree → Type 0) (ts : List Tree) → AllHave P ts → (j : ℕ) (v : Tree) → slice_get ts j ≡ Some v → P v
have_at P [] g j v e = absurd (grind arith)
have_at P (t ∷ ts) g ℕ.zero v e = along P (ap (λ o. elim o [ Some w ↦ w | None ↦ t ]) e) g.0
have_at P (t ∷ ts) g (suc j) v e = have_at P ts g.1 j v e

pub have_append : (P : Tree → Type 0) (ts us : List Tree) → AllHave P ts → AllHave P us → AllHave P (ts ++ us)
have_append P [] us g h = h
have_append P (t ∷ ts) us g h = (g.0, have_append P ts us g.1 h)

pub have_reverse : (P : Tree → Type 0) (ts : List Tree) → AllHave P ts → AllHave P (reverse ts)
have_reverse P [] g = tt
have_reverse P (t ∷ ts) g = along (AllHave P) (sym (reverse-append (t ∷ []) ts)) (have_append P (reverse ts) (t ∷ []) (have_reverse P ts g.1) (g.0, tt))

-- terms for all that is loose
pub bare_fill : (xs : List Name) (n m : ℕ) (ws : List Tree) → m ≡ length ws → AllHave (IsBare xs n) ws → (t : Tree) → IsBare xs m t → IsBare xs n (fill ws 0 t)
bare_fill xs n m ws e h t g =
    along (λ z. IsBare xs z (fill ws 0 t)) (add-zero n)
    (bare_replace (filling ws) xs xs m n (λ d i l. at d i l) (λ d x l. l) 0 t (along (λ z. IsBare xs z t) (sym (add-zero m)) g))
  where
    got : (d i : ℕ) → suc i ≤ m + d → d ≤ i → (o : Option Tree) → slice_get ws (i - d) ≡ o → IsBare xs (n + d) (filled ws d i)
    got d i l k None p = absurd (omega (arith, get_none ws (i - d) p))
    got d i l k (Some v) p = along (IsBare xs (n + d)) (sym (filled_some ws d i v k p)) (bare_lift xs n d v (have_at (IsBare xs n) ws h (i - d) v p))

    at : (d i : ℕ) → suc i ≤ m + d → IsBare xs (n + d) (filled ws d i)
    at d i l = elim (cases_lt i d) [
      | inl k ↦ along (IsBare xs (n + d)) (sym (filled_below ws d i k)) (omega arith)
      | inr k ↦ got d i l k (slice_get ws (i - d)) refl
    ]

pub bare_fill_all : (xs : List Name) (n m : ℕ) (ws : List Tree) → m ≡ length ws → AllHave (IsBare xs n) ws → (ts : List Tree) → AllHave (IsBare xs m) ts →
    AllHave (IsBare xs n) (map (fill ws 0) ts)
bare_fill_all xs n m ws e h [] g = tt
bare_fill_all xs n m ws e h (t ∷ ts) g = (bare_fill xs n m ws e h t g.0, bare_fill_all xs n m ws e h ts g.1)

-- closed terms for all names
pub bare_put : (xs : List Name) (n : ℕ) (ps : List (Name × Tree)) →
    ((x : Name) → is_listed xs x ≡ true → (v : Tree) × (value_of ps x ≡ Some v) × IsBare [] n v) →
    (d : ℕ) (t : Tree) → IsBare xs d t → IsBare [] (n + d) (put ps d t)
bare_put xs n ps f d t g =
    bare_replace (instantiating ps) xs [] 0 n (λ e i l. omega (arith, l)) (λ e x l. at e x (f x l)) d t (along (λ z. IsBare xs z t) (omega arith) g)
  where
    at : (e : ℕ) (x : Name) → ((v : Tree) × (value_of ps x ≡ Some v) × IsBare [] n v) → IsBare [] (n + e) (standing (value_of ps x) e x)
    at e x v = along (λ o. IsBare [] (n + e) (standing o e x)) (sym v.1) (bare_lift [] n e v.0 v.2)

-- applications and their parts
pub bare_apply : (xs : List Name) (n : ℕ) (f : Tree) (ts : List Tree) → IsBare xs n f → AllHave (IsBare xs n) ts → IsBare xs n (apply f ts)
unfolding apply
bare_apply xs n f [] g h = g
bare_apply xs n f (t ∷ ts) g h = bare_apply xs n (App f t) ts (g, h.0) h.1

pub bare_spine : (xs : List Name) (n : ℕ) (f : Tree) (ts : List Tree) → IsBare xs n f → AllHave (IsBare xs n) ts → AllHave (IsBare xs n) (spine f ts).1
unfolding spine
bare_spine xs n (App f a) ts g h = bare_spine xs n f (a ∷ ts) g.0 (g.1, h)
bare_spine xs n (Rel i) ts g h = h
bare_spine xs n (Var x) ts g h = h
bare_spine xs n (Sort s) ts g h = h
bare_spine xs n (Prod x A B) ts g h = h
bare_spine xs n (Lam x A B) ts g h = h
bare_spine xs n (Let x v A B) ts g h = h
bare_spine xs n (Const c) ts g h = h
bare_spine xs n (Ind c) ts g h = h
bare_spine xs n (Ctor c k) ts g h = h
bare_spine xs n (Elim c s) ts g h = h
bare_spine xs n (Evar k us) ts g h = h
