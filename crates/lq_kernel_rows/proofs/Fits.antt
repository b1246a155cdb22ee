-- A bank has room for the answers.
use Rattle.std.proofs.Common.{◌≡◌, ℕ, ◌+◌, ◌-◌, ◌≤◌, ◌<◌, sym, arith, Bool, true, false, Some, None, List, [], ◌∷◌, ◌++◌}
use Rattle.std.proofs.Common.{subst as along}
use Rattle.std.specs.Prelude.{if◌then◌else◌, nat_lt}
use Rattle.std.specs.List.{AllByRecursion}
use Rattle.lq_trees.specs.Tree.{Name, Tree, Trees, same_name}
use Rattle.lq_trees.specs.Change.{lift, lift_each, replace_each, subst, close, instance, instantiating, standing, put}
use Rattle.lq_trees.specs.Index.{Within, IndexFits, highest, highest_of, last_index}
use Rattle.lq_trees.specs.Size.{fit, size, depth, deepest}
use Rattle.lq_trees.specs.declared.Fit.{Fit}
use Rattle.lq_trees.proofs.Indices.{highest-within}
use Rattle.lq_trees.proofs.Reach.{fits_depth, within_fits, within-lift, within-subst, within-close, within-instance}
use Rattle.lq_terms.specs.declared.nodes.NameId.{NameId}
use Rattle.lq_terms.specs.declared.nodes.TermId.{TermId}
use Rattle.lq_terms.specs.declared.nodes.Hypothesis.{Hypothesis}
use Rattle.lq_terms.specs.Terms.{Terms, HasName, HasTerm, Grows, tree_of, text_of}
use Rattle.lq_terms.specs.Changes.{bindings}
use Rattle.lq_terms.proofs.Growth.{Grows-trans}
use Rattle.lq_env.specs.Premises.{AreBelow}
use Rattle.lq_env.proofs.Applying.{moved-highest}
use Rattle.lq_words.specs.Low.{IsLow, low_bound}
use Rattle.lq_words.proofs.Lows.{within_more, low-grown}

pub lift_fits : (bank : Terms) (t : TermId) (by from : ℕ) → IsLow bank t → by ≤ 1000 → from ≤ 1000 → IndexFits (lift by from (tree_of bank t))
lift_fits bank t by from h l k =
    within_fits (low_bound - from + by + from) (lift by from (tree_of bank t))
    (within-lift (low_bound - from) by from (tree_of bank t) (within_more low_bound (low_bound - from + from) (tree_of bank t) (omega arith) h.within)) (omega arith)

pub subst_fits : (bank : Terms) (t v : TermId) → IsLow bank t → IsLow bank v → IndexFits (subst (tree_of bank v) (tree_of bank t))
subst_fits bank t v h k =
    within_fits low_bound (subst (tree_of bank v) (tree_of bank t))
    (within-subst low_bound (tree_of bank v) (tree_of bank t) (within_more low_bound (low_bound + 1) (tree_of bank t) (omega arith) h.within) k.within) (omega arith)

pub close_fits : (bank : Terms) (t : TermId) (x : Name) → IsLow bank t → IndexFits (close x (tree_of bank t))
close_fits bank t x h = within_fits (low_bound + 1) (close x (tree_of bank t)) (within-close low_bound x (tree_of bank t) h.within) (omega arith)

pub instance_fits :
    (bank : Terms) (hs : List Hypothesis) (ts : List TermId) (h : Hypothesis) (t v : TermId) → hs ≡ h ∷ [] → ts ≡ v ∷ [] → Within low_bound (tree_of bank t) → Within low_bound (tree_of bank v)
    → IndexFits (instance (bindings bank hs ts) (tree_of bank t))
instance_fits bank hs ts h t v p q w k =
    let one : IndexFits (instance ((text_of bank h.name, tree_of bank v) ∷ []) (tree_of bank t)) =
    within_fits low_bound (instance ((text_of bank h.name, tree_of bank v) ∷ []) (tree_of bank t)) (within-instance low_bound ((text_of bank h.name, tree_of bank v) ∷ []) (tree_of bank t) (k, tt) w) (omega arith) in
    along (λ z. IndexFits (instance (bindings bank z ts) (tree_of bank t))) (sym p) (along (λ z. IndexFits (instance (bindings bank (h ∷ []) z) (tree_of bank t))) (sym q) one)

pub names-grown : (old new : Terms) (xs : List NameId) → Grows old new → AllByRecursion (HasName old) xs → AllByRecursion (HasName new) xs
names-grown old new [] g h = tt
names-grown old new (x ∷ xs) g h = (omega (arith, g.names, h.0), names-grown old new xs g h.1)

pub names-push : (bank : Terms) (xs : List NameId) (x : NameId) → AllByRecursion (HasName bank) xs → HasName bank x → AllByRecursion (HasName bank) (xs ++ x ∷ [])
names-push bank [] x h k = (k, tt)
names-push bank (y ∷ ys) x h k = (h.0, names-push bank ys x h.1 k)

-- a raised variable's number
highest-if : (b : Bool) (i by : ℕ) → highest (if b then Tree.Rel i else Tree.Rel (i + by)) ≤ i + by
highest-if true i by = omega arith
highest-if false i by = omega arith

-- raising by a number adds no more to the numbers
mutual
  highest-lift : (by d : ℕ) (t : Tree) → highest (lift by d t) ≤ highest t + by
  highest-lift by d (Tree.Rel i) = highest-if (nat_lt i d) i by
  highest-lift by d (Tree.Var x) = omega arith
  highest-lift by d (Tree.Sort s) = omega arith
  highest-lift by d (Tree.Prod x a b) = omega (arith, highest-lift by d a, highest-lift by (d + 1) b)
  highest-lift by d (Tree.Lam x a b) = omega (arith, highest-lift by d a, highest-lift by (d + 1) b)
  highest-lift by d (Tree.Let x v a b) = omega (arith, highest-lift by d v, highest-lift by d a, highest-lift by (d + 1) b)
  highest-lift by d (Tree.App f a) = omega (arith, highest-lift by d f, highest-lift by d a)
  highest-lift by d (Tree.Const x) = omega arith
  highest-lift by d (Tree.Ind x) = omega arith
  highest-lift by d (Tree.Ctor x k) = omega arith
  highest-lift by d (Tree.Elim x s) = omega arith
  highest-lift by d (Tree.Evar k ts) = highest-lift_each by d ts

  highest-lift_each : (by d : ℕ) (ts : Trees) → highest_of (lift_each by d ts) ≤ highest_of ts + by
  highest-lift_each by d Trees.none = omega arith
  highest-lift_each by d (Trees.more t ts) = omega (arith, highest-lift by d t, highest-lift_each by d ts)

-- the numbers of a term in which another stands for a hypothesis
module _ (x : Name) (w : Tree) where
  highest-named : (b : Bool) (d : ℕ) (y : Name) → highest (standing (if b then Some w else None) d y) ≤ highest w + d
  highest-named true d y = highest-lift d 0 w
  highest-named false d y = omega arith

  mutual
    highest-put : (d : ℕ) (t : Tree) → highest (put ((x, w) ∷ []) d t) ≤ highest t + highest w + d + depth t
    highest-put d (Tree.Rel i) = omega arith
    highest-put d (Tree.Var y) = omega (arith, highest-named (same_name y x) d y)
    highest-put d (Tree.Sort s) = omega arith
    highest-put d (Tree.Prod y a b) = omega (arith, highest-put d a, highest-put (d + 1) b)
    highest-put d (Tree.Lam y a b) = omega (arith, highest-put d a, highest-put (d + 1) b)
    highest-put d (Tree.Let y v a b) = omega (arith, highest-put d v, highest-put d a, highest-put (d + 1) b)
    highest-put d (Tree.App f a) = omega (arith, highest-put d f, highest-put d a)
    highest-put d (Tree.Const y) = omega arith
    highest-put d (Tree.Ind y) = omega arith
    highest-put d (Tree.Ctor y k) = omega arith
    highest-put d (Tree.Elim y s) = omega arith
    highest-put d (Tree.Evar k ts) = omega (arith, highest-put_each d ts)

    highest-put_each : (d : ℕ) (ts : Trees) → highest_of (replace_each (instantiating ((x, w) ∷ [])) d ts) ≤ highest_of ts + highest w + d + deepest ts
    highest-put_each d Trees.none = omega arith
    highest-put_each d (Trees.more t ts) = omega (arith, highest-put d t, highest-put_each d ts)

highest-low : (bank : Terms) (t : TermId) → IsLow bank t → fit (tree_of bank t) ≡ Fit.Fits → highest (tree_of bank t) ≤ 1002000
highest-low bank t h e = omega (arith, highest-within low_bound (tree_of bank t) h.within, fits_depth (size (tree_of bank t)) (depth (tree_of bank t)) e)

pub put_fits :
    (bank : Terms) (t v : TermId) (h : Hypothesis) (below : ℕ) → IsLow bank t → fit (tree_of bank t) ≡ Fit.Fits → IsLow bank v → fit (tree_of bank v) ≡ Fit.Fits → below ≤ 1000
    → highest (put (bindings bank (h ∷ []) (v ∷ [])) below (tree_of bank t)) ≤ last_index
put_fits bank t v h below l f k g b =
    omega
    (arith, highest-put (text_of bank h.name) (tree_of bank v) below (tree_of bank t), highest-low bank t l f, highest-low bank v k g, fits_depth (size (tree_of bank t)) (depth (tree_of bank t)) f)

pub below-push : (n : ℕ) (ps : List ℕ) (p : ℕ) → AreBelow n ps → p < n → AreBelow n (ps ++ p ∷ [])
below-push n [] p h l = (l, tt)
below-push n (q ∷ qs) p h l = (h.0, below-push n qs p h.1 l)

pub ruleset fits = (Grows-trans, low-grown, lift_fits, subst_fits, close_fits, names-grown, names-push, put_fits, below-push, moved-highest)
