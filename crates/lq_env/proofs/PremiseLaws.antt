-- The laws of premises: arguments whose bound variables move, and the hypotheses between them.
use Rattle.std.proofs.Common.{◌≡◌, ◌≤◌, ◌<◌, ◌+◌, ◌-◌, ◌∙◌, ℕ, zero, suc, Bool, true, false, refl, sym, ap, ap₂, arith, inl, inr, add-zero, List, [], ◌∷◌, ◌++◌, length, map, reverse, Option, Some, None}
use Rattle.std.proofs.Common.{subst as along}
use Rattle.std.specs.Prelude.{if◌then◌else◌, nat_lt, slice_get}
use Rattle.std.specs.List.{AllByRecursion}
use Rattle.std.proofs.lemmas.Bool.{cases_lt, le-ltb}
use Rattle.std.proofs.lemmas.List.{reverse-append, length-reverse, length-map}
use Rattle.std.proofs.lemmas.Option.{slice_get_cases}
use Rattle.lq_trees.specs.Tree.{Tree, Trees}
use Rattle.lq_trees.specs.Change.{replace_each, raising, lift, filled, filling, fill, fill_each}
use Rattle.lq_trees.specs.Size.{size}
use Rattle.lq_trees.specs.Index.{Within, EachWithin}
use Rattle.lq_trees.proofs.FillLaws.{let_is, lifted_below, lifted_above, filled_below, filled_some, get_none}
use Rattle.lq_trees.proofs.Reach.{within-replace, within-lift_0}
use Rattle.lq_terms.specs.Changes.{variables_at}
use Rattle.lq_terms.proofs.Replaced.{moved, filled_moved, size_alike, lift_none}
use Rattle.lq_env.specs.Premises.{AreBelow}
use Rattle.lq_env.proofs.SpineLaws.{all_reversed}

pub below_more : (m n : ℕ) (ps : List ℕ) → m ≤ n → AreBelow m ps → AreBelow n ps
below_more m n [] l h = tt
below_more m n (p ∷ ps) l h = (omega (arith, h.0), below_more m n ps l h.1)

-- one binder more, and `by` hypotheses behind it
pub variables_more : (by n : ℕ) (ps : List ℕ) → AreBelow n ps → variables_at (n + by + 1) (ps ++ n ∷ []) ≡ Tree.Rel by ∷ map (lift (by + 1) 0) (variables_at n ps)
variables_more by n ps h =
    ap (map (λ p. Tree.Rel (n + by + 1 - suc p))) (reverse-append ps (n ∷ []))
    ∙ ap₂ (λ x xs. x ∷ xs) (ap Tree.Rel (omega arith)) (moves (reverse ps) (all_reversed (λ p. p < n) ps h))
  where
    moves : (rs : List ℕ) → AreBelow n rs → map (λ p. Tree.Rel (n + by + 1 - suc p)) rs ≡ map (lift (by + 1) 0) (map (λ p. Tree.Rel (n - suc p)) rs)
    moves [] k = refl
    moves (r ∷ rs) k =
        let l : r < n = k.0 in
        let e : n + by + 1 - suc r ≡ n - suc r + (by + 1) = omega arith in
        ap₂ (λ x xs. x ∷ xs) (ap Tree.Rel e ∙ sym (lifted_above (by + 1) 0 (n - suc r) (omega arith))) (moves rs k.1)

pub length-variables : (n : ℕ) (ps : List ℕ) → length (variables_at n ps) ≡ length ps
length-variables n ps = length-map (reverse ps) (λ p. Tree.Rel (n - suc p)) ∙ length-reverse ps

-- moved variables keep the size
pub size-spread : (n : ℕ) (ps : List ℕ) (d : ℕ) (t : Tree) → size (fill (variables_at n ps) d t) ≡ size t
size-spread n ps d t =
    size_alike (filling (variables_at n ps)) (raising 0) (λ e i. ap size (filled_moved n ps e i) ∙ one (nat_lt i e) n e i (slice_get (reverse ps) (i - e))) (λ e x. refl) d t ∙ ap size (lift_none d t)
  where
    one : (b : Bool) (n e i : ℕ) (o : Option ℕ) → size (if b then Tree.Rel i else moved n (length ps) e i o) ≡ size (if b then Tree.Rel i else Tree.Rel (i + 0))
    one true n e i o = refl
    one false n e i (Some p) = refl
    one false n e i None = refl

-- a place that is read
pub read_below : (n : ℕ) (ps : List ℕ) (i p : ℕ) → AreBelow n ps → slice_get ps i ≡ Some p → p < n
read_below n [] i p h e = absurd (none_some e)
  where
    none_some : None ≡ Some p → ⊥
    none_some e = grind arith
read_below n (q ∷ ps) zero p h e = along (λ z. z < n) (some_is e) h.0
  where
    some_is : Some q ≡ Some p → q ≡ p
    some_is e = grind arith
read_below n (q ∷ ps) (suc i) p h e = read_below n ps i p h.1 e

-- one binder more in front of moved variables
module _ (n : ℕ) (ps : List ℕ) (below : AreBelow n ps) where
  at_leaf : (e i : ℕ) → e ≤ i → suc i ≤ length ps + e → (o : Option ℕ) → slice_get (reverse ps) (i - e) ≡ o →
      lift 1 e (moved n (length ps) e i o) ≡ moved (n + 1) (length ps) e i o
  at_leaf e i l k (Some p) q =
      let b : p < n = read_below n (reverse ps) (i - e) p (all_reversed (λ p. p < n) ps below) q in
      lifted_above 1 e (n - suc p + e) (omega arith) ∙ ap Tree.Rel (omega arith)
  at_leaf e i l k None q = elim (slice_get_cases (reverse ps) (i - e)).1 [
    | inl c ↦ absurd (none_some (sym q ∙ c.2))
    | inr c ↦ absurd (omega (arith, c.0, length-reverse ps))
  ]
    where
      none_some : {x : ℕ} → None ≡ Some x → ⊥
      none_some h = grind arith

  leaf : (e i : ℕ) → suc i ≤ length ps + e → lift 1 e (filled (variables_at n ps) e i) ≡ filled (variables_at (n + 1) ps) e i
  leaf e i k = elim (cases_lt i e) [
    | inl h ↦ ap (lift 1 e) (filled_below (variables_at n ps) e i h) ∙ lifted_below 1 e i h ∙ sym (filled_below (variables_at (n + 1) ps) e i h)
    | inr h ↦
        ap (lift 1 e) (filled_moved n ps e i ∙ ap (λ b. if b then Tree.Rel i else moved n (length ps) e i (slice_get (reverse ps) (i - e))) (le-ltb i e h))
        ∙ at_leaf e i h k (slice_get (reverse ps) (i - e)) refl
        ∙ sym (filled_moved (n + 1) ps e i ∙ ap (λ b. if b then Tree.Rel i else moved (n + 1) (length ps) e i (slice_get (reverse ps) (i - e))) (le-ltb i e h))
  ]

  deeper : (e : ℕ) (t : Tree) → Within (length ps + e + 1) t → Within (length ps + (e + 1)) t
  deeper e t h = along (λ z. Within z t) (omega arith) h

  mutual
    pub lift_spread : (e : ℕ) (t : Tree) → Within (length ps + e) t → lift 1 e (fill (variables_at n ps) e t) ≡ fill (variables_at (n + 1) ps) e t
    lift_spread e (Tree.Rel i) h = leaf e i h
    lift_spread e (Tree.Var x) h = refl
    lift_spread e (Tree.Sort s) h = refl
    lift_spread e (Tree.Prod x a b) h = ap₂ (Tree.Prod x) (lift_spread e a h.0) (lift_spread (e + 1) b (deeper e b h.1))
    lift_spread e (Tree.Lam x a b) h = ap₂ (Tree.Lam x) (lift_spread e a h.0) (lift_spread (e + 1) b (deeper e b h.1))
    lift_spread e (Tree.Let x v a b) h = let_is x (lift_spread e v h.0) (lift_spread e a h.1) (lift_spread (e + 1) b (deeper e b h.2))
    lift_spread e (Tree.App f a) h = ap₂ Tree.App (lift_spread e f h.0) (lift_spread e a h.1)
    lift_spread e (Tree.Const c) h = refl
    lift_spread e (Tree.Ind c) h = refl
    lift_spread e (Tree.Ctor c k) h = refl
    lift_spread e (Tree.Elim c s) h = refl
    lift_spread e (Tree.Evar k ts) h = ap (Tree.Evar k) (lift_each_spread e ts h)

    lift_each_spread : (e : ℕ) (ts : Trees) → EachWithin (length ps + e) ts → replace_each (raising 1) e (fill_each (variables_at n ps) e ts) ≡ fill_each (variables_at (n + 1) ps) e ts
    lift_each_spread e Trees.none h = refl
    lift_each_spread e (Trees.more t ts) h = ap₂ Trees.more (lift_spread e t h.0) (lift_each_spread e ts h.1)

-- values within a number
abbrev pub AllWithinTrees : ℕ → List Tree → Type 0
AllWithinTrees n ts = AllByRecursion (Within n) ts

pub value_within : (n : ℕ) (vs : List Tree) (i : ℕ) (v : Tree) → AllWithinTrees n vs → slice_get vs i ≡ Some v → Within n v
value_within n [] i v h e = absurd (none_some e)
  where
    none_some : None ≡ Some v → ⊥
    none_some e = grind arith
value_within n (w ∷ vs) zero v h e = along (Within n) (some_is e) h.0
  where
    some_is : Some w ≡ Some v → w ≡ v
    some_is e = grind arith
value_within n (w ∷ vs) (suc i) v h e = value_within n vs i v h.1 e

pub within-fill : (n : ℕ) (vs : List Tree) (t : Tree) → AllWithinTrees n vs → Within (length vs) t → Within n (fill vs 0 t)
within-fill n vs t h w =
    along (λ z. Within z (fill vs 0 t)) (add-zero n)
    (within-replace (filling vs) (length vs) n at (λ d x. tt) 0 t (along (λ z. Within z t) (sym (add-zero (length vs))) w))
  where
    by_value : (d i : ℕ) → d ≤ i → suc i ≤ length vs + d → (o : Option Tree) → slice_get vs (i - d) ≡ o → Within (n + d) (filled vs d i)
    by_value d i l k (Some v) e = along (Within (n + d)) (sym (filled_some vs d i v l e)) (within-lift_0 n d v (value_within n vs (i - d) v h e))
    by_value d i l k None e = absurd (omega (arith, get_none vs (i - d) e))

    at : (d i : ℕ) → suc i ≤ length vs + d → Within (n + d) (filled vs d i)
    at d i k = elim (cases_lt i d) [
      | inl l ↦ along (Within (n + d)) (sym (filled_below vs d i l)) (omega arith)
      | inr l ↦ by_value d i l k (slice_get vs (i - d)) refl
    ]

pub variables_within : (n m : ℕ) (ps : List ℕ) → AreBelow n ps → n ≤ m → AllWithinTrees m (variables_at n ps)
variables_within n m ps h l = each (reverse ps) (all_reversed (λ p. p < n) ps h)
  where
    each : (rs : List ℕ) → AreBelow n rs → AllWithinTrees m (map (λ p. Tree.Rel (n - suc p)) rs)
    each [] k = tt
    each (r ∷ rs) k = (omega (arith, k.0), each rs k.1)
