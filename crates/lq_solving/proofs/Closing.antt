-- Values in a term of which a hypothesis becomes a bound variable: reading goes through it.
use Rattle.std.proofs.Common.{◌≡◌, ◌+◌, ◌∙◌, ℕ, refl, sym, ap, ap₂, arith, eqb, eqb-true, Bool, true, false, if◌then◌else◌, List, [], ◌∷◌, map, length, Option, Some, inl, inr}
use Rattle.std.proofs.lemmas.Bool.{cases_lt}
use Rattle.std.specs.Prelude.{zip}
use Rattle.lq_trees.specs.Tree.{Name, Tree, Trees, none, more, same_name, value_of}
use Rattle.lq_trees.specs.Tree.Tree.{Rel, Var, Sort, Prod, Lam, Let, App, Const, Ind, Ctor, Elim, Evar}
use Rattle.lq_trees.specs.Change.{replace, replace_each, lifted, closed, closing, close_at, standing, put}
use Rattle.lq_trees.specs.Index.{Within, EachWithin}
use Rattle.lq_trees.specs.Hypotheses.{HoldsOnly, EachHoldsOnly}
use Rattle.lq_trees.specs.Reading.{entries}
use Rattle.lq_trees.proofs.FillLaws.{let_is, lifted_below, lifted_above}
use Rattle.lq_solving.specs.Stores.{Variable, Assigned, names_at, body_at, value_at, put_value, put_value_each, fill_values, read_values, read_next}
use Rattle.lq_solving.specs.Kept.{IsOver, EachIsOver, Sound}
use Rattle.lq_solving.proofs.LiftLaws.{put_each}
use Rattle.lq_solving.proofs.ValueLaws.{over_some}
use Rattle.lq_solving.proofs.OverLaws.{length_value}
use Rattle.lq_solving.proofs.InstanceLaws.{found_value}
use Rattle.lq_solving.proofs.ReadLaws.{filled as filled_values, filled_over, newest_closed}
use Rattle.lq_solving.proofs.Steady.{steady_lift, closing_steady, name_among, entries_replace}

-- a name of a body that has an entry
closed_entry : (y : Name) (D d j : ℕ) → D ≡ d + j → (x : Name) (v : Tree) (o : Option Tree) → o ≡ Some v →
    replace (closing y) D (standing o j x) ≡ standing (over_some (replace (closing y) d) o) j x
closed_entry y D d j h x v o e =
    ap (λ z. replace (closing y) D (standing z j x)) e
    ∙ steady_lift (closing y) (closing_steady y) D j 0 d h (omega arith) v
    ∙ sym (ap (λ z. standing (over_some (replace (closing y) d) z) j x) e)

-- a closed body, each of whose names has an entry: the hypothesis becomes bound in the entries alone
module _ (y : Name) (ys : List Name) (us : List Tree) (many : length us ≡ length ys) where
  mutual
    pub closed_body : (D d j : ℕ) → D ≡ d + j → (t : Tree) → Within j t → HoldsOnly ys t → replace (closing y) D (put (zip ys us) j t) ≡ put (zip ys (map (replace (closing y) d) us)) j t
    closed_body D d j h (Rel i) w k = lifted_below 1 D i (omega (arith, w, h))
    closed_body D d j h (Var x) w k =
        let v = found_value ys us x (omega (arith, many)) k in
        closed_entry y D d j h x v.0 (value_of (zip ys us) x) v.1 ∙ ap (λ o. standing o j x) (sym (name_among (replace (closing y) d) ys us x))
    closed_body D d j h (Sort u0) w k = refl
    closed_body D d j h (Prod x0 A0 B0) w k = ap₂ (Prod x0) (closed_body D d j h A0 w.0 k.0) (closed_body (D + 1) d (j + 1) (omega arith) B0 w.1 k.1)
    closed_body D d j h (Lam x0 A0 B0) w k = ap₂ (Lam x0) (closed_body D d j h A0 w.0 k.0) (closed_body (D + 1) d (j + 1) (omega arith) B0 w.1 k.1)
    closed_body D d j h (Let x0 v0 A0 B0) w k = let_is x0 (closed_body D d j h v0 w.0 k.0) (closed_body D d j h A0 w.1 k.1) (closed_body (D + 1) d (j + 1) (omega arith) B0 w.2 k.2)
    closed_body D d j h (App f0 a0) w k = ap₂ App (closed_body D d j h f0 w.0 k.0) (closed_body D d j h a0 w.1 k.1)
    closed_body D d j h (Const c0) w k = refl
    closed_body D d j h (Ind c0) w k = refl
    closed_body D d j h (Ctor c0 k0) w k = refl
    closed_body D d j h (Elim c0 u0) w k = refl
    closed_body D d j h (Evar n0 ts0) w k = ap (Evar n0) (each_closed_body D d j h ts0 w k)

    pub each_closed_body : (D d j : ℕ) → D ≡ d + j → (ts : Trees) → EachWithin j ts → EachHoldsOnly ys ts → replace_each (closing y) D (put_each (zip ys us) j ts) ≡ put_each (zip ys (map (replace (closing y) d) us)) j ts
    each_closed_body D d j h none w k = refl
    each_closed_body D d j h (more t0 ts0) w k = ap₂ more (closed_body D d j h t0 w.0 k.0) (each_closed_body D d j h ts0 w.1 k.1)

-- a variable at an instance that is closed
pub value_at_closed : (y : Name) (d k : ℕ) (ys : List Name) (b : Tree) (n : ℕ) (us : Trees) → (eqb k n ≡ true → length (entries us) ≡ length ys) → Within 0 b → HoldsOnly ys b →
    value_at k ys b n (replace_each (closing y) d us) ≡ replace (closing y) d (value_at k ys b n us)
unfolding value_at body_at
value_at_closed y d k ys b n us many w h = at (eqb k n) many
  where
    at : (o : Bool) → (o ≡ true → length (entries us) ≡ length ys) →
        elim o [ true ↦ body_at ys b (replace_each (closing y) d us) | false ↦ Evar n (replace_each (closing y) d us) ] ≡ replace (closing y) d (elim o [ true ↦ body_at ys b us | false ↦ Evar n us ])
    at false m = refl
    at true m = ap (λ z. put (zip ys z) 0 b) (entries_replace (closing y) d us) ∙ sym (closed_body y ys (entries us) (m refl) d d 0 (omega arith) b w h)

rel_value_closed : (k : ℕ) (ys : List Name) (b : Tree) (d i : ℕ) → put_value k ys b (lifted 1 d i) ≡ lifted 1 d i
unfolding put_value
rel_value_closed k ys b d i = elim (cases_lt i d) [
  | inl l ↦ ap (put_value k ys b) (lifted_below 1 d i l) ∙ sym (lifted_below 1 d i l)
  | inr l ↦ ap (put_value k ys b) (lifted_above 1 d i l) ∙ sym (lifted_above 1 d i l)
]

name_value_closed : (k : ℕ) (ys : List Name) (b : Tree) (y : Name) (d : ℕ) (x : Name) → put_value k ys b (closed y d x) ≡ closed y d x
unfolding put_value
name_value_closed k ys b y d x = at (same_name x y)
  where
    at : (o : Bool) → put_value k ys b (if o then Rel d else Var x) ≡ (if o then Rel d else Var x)
    at true = refl
    at false = refl

-- a value in a term of which the hypothesis becomes bound
module _ (vs : List Variable) (k : ℕ) (b : Tree) (y : Name) (w : Within 0 b) (h : HoldsOnly (names_at vs k) b) where
  mutual
    unfolding put_value put_value_each

    pub value_closed : (d : ℕ) → (t : Tree) → IsOver vs t → put_value k (names_at vs k) b (close_at y d t) ≡ close_at y d (put_value k (names_at vs k) b t)
    value_closed d (Rel i) o = rel_value_closed k (names_at vs k) b d i
    value_closed d (Var x) o = name_value_closed k (names_at vs k) b y d x
    value_closed d (Sort u0) o = refl
    value_closed d (Prod x0 A0 B0) o = ap₂ (Prod x0) (value_closed d A0 o.0) (value_closed (d + 1) B0 o.1)
    value_closed d (Lam x0 A0 B0) o = ap₂ (Lam x0) (value_closed d A0 o.0) (value_closed (d + 1) B0 o.1)
    value_closed d (Let x0 v0 A0 B0) o = let_is x0 (value_closed d v0 o.0) (value_closed d A0 o.1) (value_closed (d + 1) B0 o.2)
    value_closed d (App f0 a0) o = ap₂ App (value_closed d f0 o.0) (value_closed d a0 o.1)
    value_closed d (Const c0) o = refl
    value_closed d (Ind c0) o = refl
    value_closed d (Ctor c0 k0) o = refl
    value_closed d (Elim c0 u0) o = refl
    value_closed d (Evar n0 ts0) o =
        ap (value_at k (names_at vs k) b n0) (each_value_closed d ts0 o.2)
        ∙ value_at_closed y d k (names_at vs k) b n0 (put_value_each k (names_at vs k) b ts0) (λ e. length_value k (names_at vs k) b ts0 ∙ o.1 ∙ ap (λ z. length (names_at vs z)) (sym (eqb-true k n0 e))) w h

    pub each_value_closed : (d : ℕ) → (ts : Trees) → EachIsOver vs ts → put_value_each k (names_at vs k) b (replace_each (closing y) d ts) ≡ replace_each (closing y) d (put_value_each k (names_at vs k) b ts)
    each_value_closed d none o = refl
    each_value_closed d (more t0 ts0) o = ap₂ more (value_closed d t0 o.0) (each_value_closed d ts0 o.1)

-- a term of which the hypothesis becomes bound, as read
pub reads_close : (vs : List Variable) (as_ : List Assigned) → Sound vs as_ → (y : Name) (d : ℕ) (t : Tree) → IsOver vs t → filled_values vs as_ (close_at y d t) ≡ close_at y d (filled_values vs as_ t)
unfolding fill_values read_values read_next
reads_close vs [] s y d t o = refl
reads_close vs (a ∷ older) s y d t o =
    ap (put_value a.id (names_at vs a.id) (filled_values vs older a.body)) (reads_close vs older s.0 y d t o)
    ∙ value_closed vs a.id (filled_values vs older a.body) y (newest_closed vs a older s) s.1.holds d (filled_values vs older t) (filled_over vs older s.0 t o)
