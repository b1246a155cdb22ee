-- Trees keep their size and depth where a variable is opened or closed, and a bank has room for what the kernel makes of them.
use Rattle.std.proofs.Common.{◌≡◌, ◌+◌, ◌-◌, ℕ, max, refl, ap, ap₂, arith, Bool, true, false}
use Rattle.std.specs.Prelude.{if◌then◌else◌, nat_lt, ◌==◌}
use Rattle.lq_trees.specs.Tree.{Name, Tree, Trees, same_name}
use Rattle.lq_trees.specs.Tree.Tree.{Rel, Var, Sort, Prod, Lam, Let, App, Const, Ind, Ctor, Elim, Evar}
use Rattle.lq_trees.specs.Change.{Leaves, replace, replace_each, substituting, lift, closing, closed, close, subst}
use Rattle.lq_trees.specs.Size.{size, sizes, depth, deepest, fit, fit_of}
use Rattle.lq_trees.specs.Index.{Within, IndexFits}
use Rattle.lq_trees.specs.Fresh.{opened}
use Rattle.lq_trees.proofs.Reach.{within-subst, within-close, within_fits}

-- of size and depth 1
abbrev pub IsLeaf : Tree → Type 0
IsLeaf t = (size t ≡ 1) × (depth t ≡ 1)

-- leaves stand for leaves: a tree keeps its size and depth
module _ (f : Leaves) (bound : (d i : ℕ) → IsLeaf (f.bound d i)) (named : (d : ℕ) (x : Name) → IsLeaf (f.named d x)) where
  mutual
    pub measured-replace : (d : ℕ) (t : Tree) → (size (replace f d t) ≡ size t) × (depth (replace f d t) ≡ depth t)
    measured-replace d (Rel i) = bound d i
    measured-replace d (Var x) = named d x
    measured-replace d (Sort s) = (refl, refl)
    measured-replace d (Prod x a b) =
        let h = measured-replace d a in
        let k = measured-replace (d + 1) b in
        (ap₂ (λ m n. 1 + m + n) h.0 k.0, ap₂ (λ m n. 1 + max m n) h.1 k.1)
    measured-replace d (Lam x a b) =
        let h = measured-replace d a in
        let k = measured-replace (d + 1) b in
        (ap₂ (λ m n. 1 + m + n) h.0 k.0, ap₂ (λ m n. 1 + max m n) h.1 k.1)
    measured-replace d (Let x v a b) =
        let g = measured-replace d v in
        let h = measured-replace d a in
        let k = measured-replace (d + 1) b in
        (three (λ l m n. 1 + l + m + n) g.0 h.0 k.0, three (λ l m n. 1 + max l (max m n)) g.1 h.1 k.1)
      where
        three : {l m n p q r : ℕ} → (g : ℕ → ℕ → ℕ → ℕ) → l ≡ p → m ≡ q → n ≡ r → g l m n ≡ g p q r
        three g e h k = rw (e, h, k) refl
    measured-replace d (App g a) =
        let h = measured-replace d g in
        let k = measured-replace d a in
        (ap₂ (λ m n. 1 + m + n) h.0 k.0, ap₂ (λ m n. 1 + max m n) h.1 k.1)
    measured-replace d (Const c) = (refl, refl)
    measured-replace d (Ind c) = (refl, refl)
    measured-replace d (Ctor c k) = (refl, refl)
    measured-replace d (Elim c s) = (refl, refl)
    measured-replace d (Evar k ts) = let h = each_measured-replace d ts in (ap (λ m. 1 + m) h.0, ap (λ m. 1 + m) h.1)

    each_measured-replace : (d : ℕ) (ts : Trees) → (sizes (replace_each f d ts) ≡ sizes ts) × (deepest (replace_each f d ts) ≡ deepest ts)
    each_measured-replace d Trees.none = (refl, refl)
    each_measured-replace d (Trees.more t ts) =
        let h = measured-replace d t in
        let k = each_measured-replace d ts in
        (ap₂ (λ m n. m + n) h.0 k.0, ap₂ (λ m n. max m n) h.1 k.1)

opened_leaf : (y : Name) (d i : ℕ) → IsLeaf ((substituting (Var y)).bound d i)
opened_leaf y d i = either (nat_lt i d) (i == d)
  where
    either : (a b : Bool) → IsLeaf (if a then Rel i else if b then lift d 0 (Var y) else Rel (i - 1))
    either true b = (refl, refl)
    either false true = (refl, refl)
    either false false = (refl, refl)

closed_leaf : (y : Name) (d i : ℕ) → IsLeaf ((closing y).bound d i)
closed_leaf y d i = either (nat_lt i d)
  where
    either : (a : Bool) → IsLeaf (if a then Rel i else Rel (i + 1))
    either true = (refl, refl)
    either false = (refl, refl)

closed_named : (y : Name) (d : ℕ) (x : Name) → IsLeaf (closed y d x)
closed_named y d x = either (same_name x y)
  where
    either : (a : Bool) → IsLeaf (if a then Rel d else Var x)
    either true = (refl, refl)
    either false = (refl, refl)

-- under a binder
pub size-opened : (y : Name) (t : Tree) → size (opened y t) ≡ size t
unfolding opened
size-opened y t = (measured-replace (substituting (Var y)) (opened_leaf y) (λ d x. (refl, refl)) 0 t).0

pub within-opened : (y : Name) (t : Tree) → Within 1 t → Within 0 (opened y t)
unfolding opened
within-opened y t h = within-subst 0 (Var y) t h tt

-- a hypothesis turned into a bound variable
pub fit-close : (y : Name) (t : Tree) → fit (close y t) ≡ fit t
fit-close y t = let h = measured-replace (closing y) (closed_leaf y) (closed_named y) 0 t in ap₂ fit_of h.0 h.1

pub index-close : (y : Name) (t : Tree) → Within 0 t → IndexFits (close y t)
index-close y t h = within_fits 1 (close y t) (within-close 0 y t h) (omega arith)

-- a value for a bound variable
pub index-subst : (v t : Tree) → Within 1 t → Within 0 v → IndexFits (subst v t)
index-subst v t h k = within_fits 0 (subst v t) (within-subst 0 v t h k) (omega arith)

pub within-product : (x y : Name) (a b : Tree) → Within 0 a → Within 0 b → Within 0 (Prod x a (close y b))
within-product x y a b h k = (h, within-close 0 y b k)
