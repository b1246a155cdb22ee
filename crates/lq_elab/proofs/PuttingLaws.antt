-- A hypothesis is closed, and a value takes a bound variable's place, by trees that are put in for names: this has no limits.
use Rattle.std.proofs.Common.{◌≡◌, ◌≤◌, ◌<◌, ◌+◌, ◌-◌, ℕ, suc, refl, sym, ◌∙◌, ap, ap₂, arith, Bool, true, false, if◌then◌else◌, List, [], ◌∷◌, Some, None, inl}
use Rattle.std.proofs.Common.{inr, le_refl}
use Rattle.std.proofs.Common.{subst as along}
use Rattle.std.proofs.lemmas.Bool.{cases_lt, le-ltb, lt-ltb}
use Rattle.std.specs.Prelude.{nat_lt, ◌==◌}
use Rattle.lq_trees.specs.Tree.{Name, Tree, Trees, none, more, same_name}
use Rattle.lq_trees.specs.Tree.Tree.{Rel, Var, Sort, Prod, Lam, Let, App, Const, Ind, Ctor, Elim, Evar}
use Rattle.lq_trees.specs.Change.{Leaves, replace, replace_each, lift, standing, instantiating, put, closing, close_at, close, substituting, subst}
use Rattle.lq_trees.specs.Fresh.{is_listed}
use Rattle.lq_trees.specs.Index.{Within, EachWithin}
use Rattle.lq_trees.specs.Hypotheses.{HoldsOnly, EachHoldsOnly}
use Rattle.lq_trees.specs.Index.{highest, last_index}
use Rattle.lq_trees.specs.Size.{depth, deepest}
use Rattle.lq_trees.proofs.FillLaws.{lifted_below}
use Rattle.lq_trees.proofs.Indices.{highest-within}
use Rattle.lq_trees.proofs.Reach.{within-subst, within-close}
use Rattle.lq_solving.proofs.InstanceLaws.{same_is, is_same}
use Rattle.lq_solving.proofs.EqualUnder.{lift_closed}

-- equal parts make equal terms
two : (node : Tree → Tree → Tree) (a b c d : Tree) → a ≡ c → b ≡ d → node a b ≡ node c d
two node a b c d e h = ap₂ node e h

three : (node : Tree → Tree → Tree → Tree) (a b c d e f : Tree) → a ≡ d → b ≡ e → c ≡ f → node a b c ≡ node d e f
three node a b c d e f h k l = ap (λ z. node z b c) h ∙ ap₂ (node d) k l

-- the bound variable of a name, put in for it, closes the term
module _ (y : Name) where
  name_closed : (d : ℕ) (x : Name) (b : Bool) → standing (if b then Some (Rel 0) else None) d x ≡ (if b then Rel d else Var x)
  name_closed d x true = ap Rel (omega arith)
  name_closed d x false = refl

  mutual
    pub put_closes : (d : ℕ) (t : Tree) → Within d t → put ((y, Rel 0) ∷ []) d t ≡ close_at y d t
    put_closes d (Rel i) w = sym (lifted_below 1 d i w)
    put_closes d (Var x) w = name_closed d x (same_name x y)
    put_closes d (Sort u) w = refl
    put_closes d (Prod x A B) w = two (Prod x) _ _ _ _ (put_closes d A w.0) (put_closes (d + 1) B w.1)
    put_closes d (Lam x A B) w = two (Lam x) _ _ _ _ (put_closes d A w.0) (put_closes (d + 1) B w.1)
    put_closes d (Let x v A B) w = three (Let x) _ _ _ _ _ _ (put_closes d v w.0) (put_closes d A w.1) (put_closes (d + 1) B w.2)
    put_closes d (App f a) w = two App _ _ _ _ (put_closes d f w.0) (put_closes d a w.1)
    put_closes d (Const c) w = refl
    put_closes d (Ind c) w = refl
    put_closes d (Ctor c k) w = refl
    put_closes d (Elim c u) w = refl
    put_closes d (Evar n ts) w = ap (Evar n) (each_put_closes d ts w)

    each_put_closes : (d : ℕ) (ts : Trees) → EachWithin d ts → replace_each (instantiating ((y, Rel 0) ∷ [])) d ts ≡ replace_each (closing y) d ts
    each_put_closes d none w = refl
    each_put_closes d (more t ts) w = ap₂ more (put_closes d t w.0) (each_put_closes d ts w.1)

-- what stands in a bound variable's place
abbrev for_bound : Tree → (d i : ℕ) → (below here : Bool) → Tree
for_bound v d i b c = if b then Rel i else if c then lift d 0 v else Rel (i - 1)

is_itself : (d : ℕ) → (d == d) ≡ true
is_itself d = grind arith

-- a value, put in for a name, is put in for the variable that the name is closed to
module _ (y : Name) (v : Tree) where
  rel_below : (d i : ℕ) → i < d → (substituting v).bound d i ≡ Rel i
  rel_below d i h = ap (λ b. for_bound v d i b (i == d)) (lt-ltb i d h)

  rel_here : (d : ℕ) → (substituting v).bound d d ≡ lift d 0 v
  rel_here d = ap (λ b. for_bound v d d b (d == d)) (le-ltb d d (le_refl d)) ∙ ap (λ c. for_bound v d d false c) (is_itself d)

  name_put : (d : ℕ) (x : Name) (b : Bool) → replace (substituting v) d (if b then Rel d else Var x) ≡ standing (if b then Some v else None) d x
  name_put d x true = rel_here d
  name_put d x false = refl

  mutual
    pub put_reopens : (d : ℕ) (t : Tree) → Within d t → replace (substituting v) d (close_at y d t) ≡ put ((y, v) ∷ []) d t
    put_reopens d (Rel i) w = ap (replace (substituting v) d) (lifted_below 1 d i w) ∙ rel_below d i w
    put_reopens d (Var x) w = name_put d x (same_name x y)
    put_reopens d (Sort u) w = refl
    put_reopens d (Prod x A B) w = two (Prod x) _ _ _ _ (put_reopens d A w.0) (put_reopens (d + 1) B w.1)
    put_reopens d (Lam x A B) w = two (Lam x) _ _ _ _ (put_reopens d A w.0) (put_reopens (d + 1) B w.1)
    put_reopens d (Let x u A B) w = three (Let x) _ _ _ _ _ _ (put_reopens d u w.0) (put_reopens d A w.1) (put_reopens (d + 1) B w.2)
    put_reopens d (App f a) w = two App _ _ _ _ (put_reopens d f w.0) (put_reopens d a w.1)
    put_reopens d (Const c) w = refl
    put_reopens d (Ind c) w = refl
    put_reopens d (Ctor c k) w = refl
    put_reopens d (Elim c u) w = refl
    put_reopens d (Evar n ts) w = ap (Evar n) (each_put_reopens d ts w)

    each_put_reopens : (d : ℕ) (ts : Trees) → EachWithin d ts → replace_each (substituting v) d (replace_each (closing y) d ts) ≡ replace_each (instantiating ((y, v) ∷ [])) d ts
    each_put_reopens d none w = refl
    each_put_reopens d (more t ts) w = ap₂ more (put_reopens d t w.0) (each_put_reopens d ts w.1)

  -- and for the variable that was opened to a name which the rest does not hold
  module _ (xs : List Name) (new : is_listed xs y ≡ false) where
    other_name : (x : Name) → is_listed xs x ≡ true → same_name x y ≡ false
    other_name x l = at (same_name x y) refl
      where
        at : (b : Bool) → same_name x y ≡ b → b ≡ false
        at false e = refl
        at true e = let q : ◌≡◌ {A = Bool} false true = sym new ∙ ap (is_listed xs) (sym (same_is x y e)) ∙ l in absurd (grind (arith, q))

    rel_put : (d i : ℕ) → i ≤ d → put ((y, v) ∷ []) d ((substituting (Var y)).bound d i) ≡ (substituting v).bound d i
    rel_put d i h = elim (cases_lt i d) [
      | inl l ↦ ap (put ((y, v) ∷ []) d) (ap (λ b. for_bound (Var y) d i b (i == d)) (lt-ltb i d l)) ∙ sym (rel_below d i l)
      | inr l ↦ let e : i ≡ d = omega (arith, h, l) in
          along (λ k. put ((y, v) ∷ []) d ((substituting (Var y)).bound d k) ≡ (substituting v).bound d k) (sym e)
          (ap (put ((y, v) ∷ []) d) (ap (λ b. for_bound (Var y) d d b (d == d)) (le-ltb d d (le_refl d)) ∙ ap (λ c. for_bound (Var y) d d false c) (is_itself d))
          ∙ ap (λ b. standing (if b then Some v else None) d y) (is_same y) ∙ sym (rel_here d))
    ]

    mutual
      pub put_opened : (d : ℕ) (t : Tree) → Within (d + 1) t → HoldsOnly xs t → put ((y, v) ∷ []) d (replace (substituting (Var y)) d t) ≡ replace (substituting v) d t
      put_opened d (Rel i) w h = rel_put d i (omega (arith, w))
      put_opened d (Var x) w h = ap (λ b. standing (if b then Some v else None) d x) (other_name x h)
      put_opened d (Sort u) w h = refl
      put_opened d (Prod x A B) w h = two (Prod x) _ _ _ _ (put_opened d A w.0 h.0) (put_opened (d + 1) B w.1 h.1)
      put_opened d (Lam x A B) w h = two (Lam x) _ _ _ _ (put_opened d A w.0 h.0) (put_opened (d + 1) B w.1 h.1)
      put_opened d (Let x u A B) w h = three (Let x) _ _ _ _ _ _ (put_opened d u w.0 h.0) (put_opened d A w.1 h.1) (put_opened (d + 1) B w.2 h.2)
      put_opened d (App f a) w h = two App _ _ _ _ (put_opened d f w.0 h.0) (put_opened d a w.1 h.1)
      put_opened d (Const c) w h = refl
      put_opened d (Ind c) w h = refl
      put_opened d (Ctor c k) w h = refl
      put_opened d (Elim c u) w h = refl
      put_opened d (Evar n ts) w h = ap (Evar n) (each_put_opened d ts w h)

      each_put_opened : (d : ℕ) (ts : Trees) → EachWithin (d + 1) ts → EachHoldsOnly xs ts → replace_each (instantiating ((y, v) ∷ [])) d (replace_each (substituting (Var y)) d ts) ≡ replace_each (substituting v) d ts
      each_put_opened d none w h = refl
      each_put_opened d (more t ts) w h = ap₂ more (put_opened d t w.0 h.0) (each_put_opened d ts w.1 h.1)

-- ---- how deep such terms are, and so how far the numbers of their bound variables go

-- where leaves become at most m deeper, the whole does
module _ (f : Leaves) (m : ℕ) (bound : (d i : ℕ) → depth (f.bound d i) ≤ suc m) (named : (d : ℕ) (x : Name) → depth (f.named d x) ≤ suc m) where
  mutual
    depth_replaced : (d : ℕ) (t : Tree) → depth (replace f d t) ≤ depth t + m
    depth_replaced d (Rel i) = omega (arith, bound d i)
    depth_replaced d (Var x) = omega (arith, named d x)
    depth_replaced d (Sort u) = omega arith
    depth_replaced d (Prod x A B) = omega (arith, depth_replaced d A, depth_replaced (d + 1) B)
    depth_replaced d (Lam x A B) = omega (arith, depth_replaced d A, depth_replaced (d + 1) B)
    depth_replaced d (Let x v A B) = omega (arith, depth_replaced d v, depth_replaced d A, depth_replaced (d + 1) B)
    depth_replaced d (App g a) = omega (arith, depth_replaced d g, depth_replaced d a)
    depth_replaced d (Const c) = omega arith
    depth_replaced d (Ind c) = omega arith
    depth_replaced d (Ctor c k) = omega arith
    depth_replaced d (Elim c u) = omega arith
    depth_replaced d (Evar n ts) = omega (arith, each_depth_replaced d ts)

    each_depth_replaced : (d : ℕ) (ts : Trees) → deepest (replace_each f d ts) ≤ deepest ts + m
    each_depth_replaced d none = omega arith
    each_depth_replaced d (more t ts) = omega (arith, depth_replaced d t, each_depth_replaced d ts)

depth_if : (b : Bool) (t u : Tree) (m : ℕ) → depth t ≤ m → depth u ≤ m → depth (if b then t else u) ≤ m
depth_if true t u m h k = h
depth_if false t u m h k = k

depth_closed : (y : Name) (t : Tree) → depth (close y t) ≤ depth t + 0
depth_closed y t = depth_replaced (closing y) 0 (λ d i. depth_if (nat_lt i d) (Rel i) (Rel (i + 1)) 1 (le_refl 1) (le_refl 1)) (λ d x. depth_if (same_name x y) (Rel d) (Var x) 1 (le_refl 1) (le_refl 1)) 0 t

depth_put : (v t : Tree) → Within 0 v → depth (subst v t) ≤ depth t + depth v
depth_put v t w =
    depth_replaced (substituting v) (depth v)
    (λ d i. depth_if (nat_lt i d) (Rel i) (if i == d then lift d 0 v else Rel (i - 1)) (suc (depth v)) (omega arith)
    (depth_if (i == d) (lift d 0 v) (Rel (i - 1)) (suc (depth v)) (along (λ z. depth z ≤ suc (depth v)) (sym (lift_closed d 0 0 (omega arith) v w)) (omega arith)) (omega arith)))
    (λ d x. omega arith) 0 t

pub close_index : (y : Name) (t : Tree) → Within 0 t → suc (depth t) ≤ last_index → highest (close y t) ≤ last_index
close_index y t w h = omega (arith, highest-within 1 (close y t) (within-close 0 y t w), depth_closed y t, h)

pub subst_index : (v B : Tree) → Within 0 v → Within 1 B → depth B + depth v ≤ last_index → highest (subst v B) ≤ last_index
subst_index v B w k h = omega (arith, highest-within 0 (subst v B) (within-subst 0 v B k w), depth_put v B w, h)

pub reopen_index : (y : Name) (v t : Tree) → Within 0 v → Within 0 t → depth t + depth v ≤ last_index → highest (subst v (close y t)) ≤ last_index
reopen_index y v t w k h = subst_index v (close y t) w (within-close 0 y t k) (omega (arith, depth_closed y t, h))
