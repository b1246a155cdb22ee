-- Hypotheses in the place of bound variables, and closed again.
use Rattle.std.proofs.Common.{◌≡◌, ℕ, zero, suc, ◌+◌, ◌-◌, ◌<◌, Bool, true, false, List, [], ◌∷◌, map, length, Some, refl, sym, ap, ◌∙◌, subst as along, arith, ltb-true, ltb-false}
use Rattle.std.proofs.lemmas.Slice.Eq.{bytes_eq-Decides}
use Rattle.std.specs.Prelude.{slice_get, nat_lt, ◌==◌, if◌then◌else◌}
use Rattle.lq_trees.specs.Tree.{Name, Tree, Trees, same_name, none, more}
use Rattle.lq_trees.specs.Tree.Tree.{Rel, Var, Sort, Prod, Lam, Let, App, Const, Ind, Ctor, Elim, Evar}
use Rattle.lq_trees.specs.Change.{fill, filled, close_at, closed, closing, lifted, replace_each}
use Rattle.lq_trees.specs.Fresh.{is_listed}
use Rattle.lq_trees.specs.Hypotheses.{HoldsOnly}
use Rattle.lq_trees.specs.Index.{Within}
use Rattle.lq_trees.specs.Same.{nameless, each_nameless, Same}
use Rattle.lq_trees.proofs.FillLaws.{filled_below, filled_some, lifted_below}

-- hypotheses of those names
abbrev pub as_vars : List Name → List Tree
as_vars ys = map (λ y. Var y) ys

-- a term without variables
abbrev pub NoEvar : Tree → Type 0
NoEvar (Rel i) = Unit {0}
NoEvar (Var x) = Unit {0}
NoEvar (Sort s) = Unit {0}
NoEvar (Prod x A B) = NoEvar A × NoEvar B
NoEvar (Lam x A t) = NoEvar A × NoEvar t
NoEvar (Let x v A t) = NoEvar v × NoEvar A × NoEvar t
NoEvar (App f a) = NoEvar f × NoEvar a
NoEvar (Const c) = Unit {0}
NoEvar (Ind c) = Unit {0}
NoEvar (Ctor c k) = Unit {0}
NoEvar (Elim c s) = Unit {0}
NoEvar (Evar n ts) = ⊥

get_var : (ys : List Name) (k : ℕ) → k < length ys → (y : Name) × (slice_get ys k ≡ Some y) × (slice_get (as_vars ys) k ≡ Some (Var y))
get_var [] k h = absurd (omega arith)
get_var (y ∷ ys) zero h = (y, refl, refl)
get_var (y ∷ ys) (suc k) h = get_var ys k (omega arith)

or_right : (a b : Bool) → b ≡ true → Rattle.std.specs.Prelude.◌||◌ a b ≡ true
or_right true b e = refl
or_right false b e = e

pub same_self : (x : Name) → same_name x x ≡ true
same_self x = (bytes_eq-Decides x x).1 refl

pub got_listed : (ys : List Name) (k : ℕ) (y : Name) → slice_get ys k ≡ Some y → is_listed ys y ≡ true
unfolding is_listed
got_listed [] k y e = absurd cc
got_listed (x ∷ ys) zero y e = let same : x ≡ y = cc in rw same (rw (same_self y) refl)
got_listed (x ∷ ys) (suc k) y e = or_right (same_name x y) _ (got_listed ys k y e)

-- a listed name is none that is not listed
pub listed_apart : (ys : List Name) (y z : Name) → is_listed ys y ≡ true → is_listed ys z ≡ false → same_name y z ≡ false
listed_apart ys y z e f = by (same_name y z) refl
  where
    true_false : true ≡ false → ⊥
    true_false g = absurd cc

    by : (b : Bool) → same_name y z ≡ b → same_name y z ≡ false
    by true g = absurd (true_false (sym e ∙ ap (is_listed ys) ((bytes_eq-Decides y z).0 g) ∙ f))
    by false g = g

closed_other : (z : Name) (d : ℕ) (y : Name) → same_name y z ≡ false → closed z d y ≡ Var y
closed_other z d y e = rw e refl

closed_same : (z : Name) (d : ℕ) → closed z d z ≡ Rel d
closed_same z d = rw (same_self z) refl

-- ---- one bound variable

rel_below : (z : Name) (ys : List Name) (d n : ℕ) → n < d → close_at z d (filled (as_vars (z ∷ ys)) d n) ≡ filled (as_vars ys) (d + 1) n
rel_below z ys d n h =
    ap (close_at z d) (filled_below (as_vars (z ∷ ys)) d n h) ∙ lifted_below 1 d n h ∙ sym (filled_below (as_vars ys) (d + 1) n (omega arith))

rel_here : (z : Name) (ys : List Name) (d : ℕ) → close_at z d (filled (as_vars (z ∷ ys)) d d) ≡ filled (as_vars ys) (d + 1) d
rel_here z ys d =
    let none_less : d - d ≡ 0 = omega arith in
    ap (close_at z d) (filled_some (as_vars (z ∷ ys)) d d (Var z) (omega arith) (ap (slice_get (as_vars (z ∷ ys))) none_less))
    ∙ closed_same z d ∙ sym (filled_below (as_vars ys) (d + 1) d (omega arith))

rel_above : (z : Name) (ys : List Name) (d n k : ℕ) → n ≡ d + 1 + k → k < length ys → is_listed ys z ≡ false →
    close_at z d (filled (as_vars (z ∷ ys)) d n) ≡ filled (as_vars ys) (d + 1) n
rel_above z ys d n k e h out =
    let y = get_var ys k h in
    let one : n - d ≡ suc k = omega (arith, e) in
    let two : n - (d + 1) ≡ k = omega (arith, e) in
    ap (close_at z d) (filled_some (as_vars (z ∷ ys)) d n (Var y.0) (omega (arith, e)) (ap (slice_get (as_vars (z ∷ ys))) one ∙ y.2))
    ∙ closed_other z d y.0 (listed_apart ys y.0 z (got_listed ys k y.0 y.1) out)
    ∙ sym (filled_some (as_vars ys) (d + 1) n (Var y.0) (omega (arith, e)) (ap (slice_get (as_vars ys)) two ∙ y.2))

rel_closed : (z : Name) (ys : List Name) (d n : ℕ) → n < d + 1 + length ys → is_listed ys z ≡ false →
    close_at z d (filled (as_vars (z ∷ ys)) d n) ≡ filled (as_vars ys) (d + 1) n
rel_closed z ys d n h out = by (nat_lt n d) (nat_lt d n) refl refl
  where
    by : (a b : Bool) → nat_lt n d ≡ a → nat_lt d n ≡ b → close_at z d (filled (as_vars (z ∷ ys)) d n) ≡ filled (as_vars ys) (d + 1) n
    by true b e f = rel_below z ys d n (ltb-true n d e)
    by false true e f = let k : n ≡ d + 1 + (n - (d + 1)) =
        omega (arith, ltb-true d n f) in rel_above z ys d n (n - (d + 1)) k (omega (arith, ltb-true d n f, h)) out
    by false false e f =
        let same : d ≡ n = omega (arith, ltb-false n d e, ltb-false d n f) in
        along (λ m. close_at z d (filled (as_vars (z ∷ ys)) d m) ≡ filled (as_vars ys) (d + 1) m) same (rel_here z ys d)

-- ---- whole terms

module _ (z : Name) (ys xs : List Name) (out : is_listed ys z ≡ false) (other : is_listed xs z ≡ false) where
  -- the hypothesis of the nearest bound variable closed again
  pub close_fill : (t : Tree) (d : ℕ) → NoEvar t → HoldsOnly xs t → Within (d + 1 + length ys) t →
      close_at z d (fill (as_vars (z ∷ ys)) d t) ≡ fill (as_vars ys) (d + 1) t
  close_fill (Rel n) d v h w = rel_closed z ys d n (omega (arith, w)) out
  close_fill (Var x) d v h w = closed_other z d x (listed_apart xs x z h other)
  close_fill (Sort s) d v h w = refl
  close_fill (Prod x A B) d v h w =
      let more : d + 1 + length ys + 1 ≡ d + 1 + 1 + length ys = omega arith in
      let e = close_fill A d v.0 h.0 w.0 in
      let f = close_fill B (d + 1) v.1 h.1 (along (λ n. Within n B) more w.1) in
      rw (e, f) refl
  close_fill (Lam x A t) d v h w =
      let more : d + 1 + length ys + 1 ≡ d + 1 + 1 + length ys = omega arith in
      let e = close_fill A d v.0 h.0 w.0 in
      let f = close_fill t (d + 1) v.1 h.1 (along (λ n. Within n t) more w.1) in
      rw (e, f) refl
  close_fill (Let x u A t) d v h w =
      let more : d + 1 + length ys + 1 ≡ d + 1 + 1 + length ys = omega arith in
      let e = close_fill u d v.0 h.0 w.0 in
      let f = close_fill A d v.1 h.1 w.1 in
      let g = close_fill t (d + 1) v.2 h.2 (along (λ n. Within n t) more w.2) in
      rw (e, f, g) refl
  close_fill (App f a) d v h w = let e = close_fill f d v.0 h.0 w.0 in let g = close_fill a d v.1 h.1 w.1 in rw (e, g) refl
  close_fill (Const c) d v h w = refl
  close_fill (Ind c) d v h w = refl
  close_fill (Ctor c k) d v h w = refl
  close_fill (Elim c s) d v h w = refl
  close_fill (Evar n ts) d v h w = absurd v

-- nothing is put in where there is nothing
pub fill_none : (t : Tree) (d : ℕ) → NoEvar t → Within d t → fill [] d t ≡ t
fill_none (Rel n) d v w = filled_below [] d n (omega (arith, w))
fill_none (Var x) d v w = refl
fill_none (Sort s) d v w = refl
fill_none (Prod x A B) d v w = let e = fill_none A d v.0 w.0 in let f = fill_none B (d + 1) v.1 w.1 in rw (e, f) refl
fill_none (Lam x A t) d v w = let e = fill_none A d v.0 w.0 in let f = fill_none t (d + 1) v.1 w.1 in rw (e, f) refl
fill_none (Let x u A t) d v w = let e = fill_none u d v.0 w.0 in let f = fill_none A d v.1 w.1 in let g = fill_none t (d + 1) v.2 w.2 in rw (e, f, g) refl
fill_none (App f a) d v w = let e = fill_none f d v.0 w.0 in let g = fill_none a d v.1 w.1 in rw (e, g) refl
fill_none (Const c) d v w = refl
fill_none (Ind c) d v w = refl
fill_none (Ctor c k) d v w = refl
fill_none (Elim c s) d v w = refl
fill_none (Evar n ts) d v w = absurd v

-- ---- without names of binders

lifted_nameless : (d n : ℕ) → nameless (lifted 1 d n) ≡ lifted 1 d n
lifted_nameless d n = by (nat_lt n d)
  where
    by : (b : Bool) → nameless (if b then Rel n else Rel (n + 1)) ≡ if b then Rel n else Rel (n + 1)
    by true = refl
    by false = refl

closed_nameless : (z : Name) (d : ℕ) (x : Name) → nameless (closed z d x) ≡ closed z d x
closed_nameless z d x = by (same_name x z)
  where
    by : (b : Bool) → nameless (if b then Rel d else Var x) ≡ if b then Rel d else Var x
    by true = refl
    by false = refl

mutual
  pub close_nameless : (z : Name) (t : Tree) (d : ℕ) → nameless (close_at z d t) ≡ close_at z d (nameless t)
  close_nameless z (Rel n) d = lifted_nameless d n
  close_nameless z (Var x) d = closed_nameless z d x
  close_nameless z (Sort s) d = refl
  close_nameless z (Prod x A B) d = let e = close_nameless z A d in let f = close_nameless z B (d + 1) in rw (e, f) refl
  close_nameless z (Lam x A t) d = let e = close_nameless z A d in let f = close_nameless z t (d + 1) in rw (e, f) refl
  close_nameless z (Let x u A t) d = let e = close_nameless z u d in let f = close_nameless z A d in let g = close_nameless z t (d + 1) in rw (e, f, g) refl
  close_nameless z (App f a) d = let e = close_nameless z f d in let g = close_nameless z a d in rw (e, g) refl
  close_nameless z (Const c) d = refl
  close_nameless z (Ind c) d = refl
  close_nameless z (Ctor c k) d = refl
  close_nameless z (Elim c s) d = refl
  close_nameless z (Evar n ts) d = ap (Evar n) (close_each_nameless z ts d)

  pub close_each_nameless : (z : Name) (ts : Trees) (d : ℕ) → each_nameless (replace_each (closing z) d ts) ≡ replace_each (closing z) d (each_nameless ts)
  close_each_nameless z none d = refl
  close_each_nameless z (more t ts) d = let e = close_nameless z t d in let f = close_each_nameless z ts d in rw (e, f) refl

-- what is found for the rest of a binder, closed
pub rest_closed : (z : Name) (ys xs : List Name) (h B : Tree) → is_listed ys z ≡ false → is_listed xs z ≡ false → NoEvar B → HoldsOnly xs B →
    Within (1 + length ys) B →
    Same h (fill (as_vars (z ∷ ys)) 0 B) → Same (close_at z 0 h) (fill (as_vars ys) 1 B)
rest_closed z ys xs h B out other v holds w e =
    close_nameless z h 0 ∙ ap (close_at z 0) e ∙ sym (close_nameless z (fill (as_vars (z ∷ ys)) 0 B) 0)
    ∙ ap nameless (close_fill z ys xs out other B 0 v holds w)
