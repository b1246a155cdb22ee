-- A tree in a scope: raised, below more binders, and in the value of a variable.
use Rattle.std.proofs.Common.{◌≡◌, ◌≤◌, ◌<◌, ◌+◌, ◌-◌, ◌∙◌, inl, inr, ℕ, suc, Bool, true, false, nat_lt, if◌then◌else◌, refl, sym, ap, ap₂, arith, List, [], ◌∷◌, map, length}
use Rattle.std.specs.Prelude.{zip}
use Rattle.std.proofs.lemmas.Bool.{cases_lt}
use Rattle.lq_trees.specs.Tree.{Name, Tree, Trees, none, more, value_of}
use Rattle.lq_trees.specs.Tree.Tree.{Rel, Var, Sort, Prod, Lam, Let, App, Const, Ind, Ctor, Elim, Evar}
use Rattle.lq_trees.specs.Change.{Leaves, replace, replace_each, lift, lift_each, lifted, standing, put}
use Rattle.lq_trees.specs.Fresh.{is_listed}
use Rattle.lq_trees.specs.Index.{Within, EachWithin}
use Rattle.lq_trees.specs.Hypotheses.{HoldsOnly, EachHoldsOnly}
use Rattle.lq_trees.specs.Marks.{loose, holds_hypothesis}
use Rattle.lq_trees.specs.Reading.{entries}
use Rattle.lq_trees.proofs.FillLaws.{let_is, lifted_below, lifted_above}
use Rattle.lq_trees.proofs.MarkLaws.{stays_closed}
use Rattle.lq_solving.specs.Stores.{Store as TreeStore, names_at}
use Rattle.lq_solving.proofs.InstanceLaws.{found_value, stands_for, mapped_value}
use Rattle.lq_solving.proofs.LiftLaws.{put_each}
use Rattle.lq_evars.specs.Reading.{as_read}
use Rattle.lq_evars.specs.Scopes.{Scope, top, below, inside, outer, placed_index, leaves_in, entry_or, named_in}

-- the number of a bound variable inside, and outside
pub index_inside : (out : ℕ → ℕ → ℕ) (d k i : ℕ) → i < k → placed_index out d k i ≡ i
index_inside out d k i h = by (nat_lt i k) refl
  where
    by : (b : Bool) → nat_lt i k ≡ b → (if b then i else out (d + k) (i - k)) ≡ i
    by true e = refl
    by false e = absurd (grind arith)

pub index_outside : (out : ℕ → ℕ → ℕ) (d k i : ℕ) → k ≤ i → placed_index out d k i ≡ out (d + k) (i - k)
index_outside out d k i h = by (nat_lt i k) refl
  where
    by : (b : Bool) → nat_lt i k ≡ b → (if b then i else out (d + k) (i - k)) ≡ out (d + k) (i - k)
    by true e = absurd (grind arith)
    by false e = refl

pub below_inside : (c e : ℕ) (o : Scope) (d i : ℕ) → i < c → outer (below c e o) d i ≡ d - suc (e - suc i)
below_inside c e o d i h = by (nat_lt i c) refl
  where
    by : (b : Bool) → nat_lt i c ≡ b → (if b then d - suc (e - suc i) else outer o d (i - c)) ≡ d - suc (e - suc i)
    by true f = refl
    by false f = absurd (grind arith)

pub below_outside : (c e : ℕ) (o : Scope) (d i : ℕ) → c ≤ i → outer (below c e o) d i ≡ outer o d (i - c)
below_outside c e o d i h = by (nat_lt i c) refl
  where
    by : (b : Bool) → nat_lt i c ≡ b → (if b then d - suc (e - suc i) else outer o d (i - c)) ≡ outer o d (i - c)
    by true f = absurd (grind arith)
    by false f = refl

-- the leaves of a scope
abbrev pub scope_leaves : TreeStore → Scope → ℕ → Leaves
scope_leaves s o d = leaves_in (outer o) (named_in s o) d

module _ (s : TreeStore) (o : Scope) where
  raised_rel : (d m j M i : ℕ) → M ≡ m + j → replace (scope_leaves s o d) M (lifted m j i) ≡ replace (scope_leaves s o (d + m)) j (Rel i)
  raised_rel d m j M i e = elim (cases_lt i j) [
    | inl h ↦ ap (replace (scope_leaves s o d) M) (lifted_below m j i h) ∙ ap Rel (index_inside (outer o) d M i (omega arith) ∙ sym (index_inside (outer o) (d + m) j i h))
    | inr h ↦
        ap (replace (scope_leaves s o d) M) (lifted_above m j i h)
        ∙ ap Rel (index_outside (outer o) d M (i + m) (omega arith) ∙ ap₂ (outer o) (omega arith) (omega arith) ∙ sym (index_outside (outer o) (d + m) j i h))
  ]

  -- a raised tree stands below more binders
  mutual
    pub raised_in : (d m j M : ℕ) → M ≡ m + j → (t : Tree) → replace (scope_leaves s o d) M (lift m j t) ≡ replace (scope_leaves s o (d + m)) j t
    raised_in d m j M e (Rel i) = raised_rel d m j M i e
    raised_in d m j M e (Var x) = ap (λ z. named_in s o z x) (omega arith)
    raised_in d m j M e (Sort q) = refl
    raised_in d m j M e (Prod x A B) = ap₂ (Prod x) (raised_in d m j M e A) (raised_in d m (j + 1) (M + 1) (omega arith) B)
    raised_in d m j M e (Lam x A B) = ap₂ (Lam x) (raised_in d m j M e A) (raised_in d m (j + 1) (M + 1) (omega arith) B)
    raised_in d m j M e (Let x v A B) = let_is x (raised_in d m j M e v) (raised_in d m j M e A) (raised_in d m (j + 1) (M + 1) (omega arith) B)
    raised_in d m j M e (App f a) = ap₂ App (raised_in d m j M e f) (raised_in d m j M e a)
    raised_in d m j M e (Const c) = refl
    raised_in d m j M e (Ind c) = refl
    raised_in d m j M e (Ctor c k) = refl
    raised_in d m j M e (Elim c q) = refl
    raised_in d m j M e (Evar n ts) = ap (Evar n) (each_raised_in d m j M e ts)

    pub each_raised_in : (d m j M : ℕ) → M ≡ m + j → (ts : Trees) → replace_each (scope_leaves s o d) M (lift_each m j ts) ≡ replace_each (scope_leaves s o (d + m)) j ts
    each_raised_in d m j M e none = refl
    each_raised_in d m j M e (more t ts) = ap₂ more (raised_in d m j M e t) (each_raised_in d m j M e ts)

  parted_rel : (d k j M i : ℕ) → M ≡ j + k → placed_index (outer o) d M i ≡ placed_index (outer (below k (d + k) o)) (d + k) j i
  parted_rel d k j M i e = elim (cases_lt i j) [
    | inl h ↦ index_inside (outer o) d M i (omega arith) ∙ sym (index_inside (outer (below k (d + k) o)) (d + k) j i h)
    | inr h ↦ elim (cases_lt i M) [
      | inl l ↦
          index_inside (outer o) d M i l
          ∙ sym (index_outside (outer (below k (d + k) o)) (d + k) j i h ∙ below_inside k (d + k) o (d + k + j) (i - j) (omega arith) ∙ omega arith)
      | inr l ↦
          index_outside (outer o) d M i l ∙ ap₂ (outer o) (omega arith) (omega arith)
          ∙ sym (index_outside (outer (below k (d + k) o)) (d + k) j i h ∙ below_outside k (d + k) o (d + k + j) (i - j) (omega arith))
    ]
  ]

  -- the binders above a part may be counted to the scope
  mutual
    pub parted : (d k j M : ℕ) → M ≡ j + k → (t : Tree) → replace (scope_leaves s o d) M t ≡ replace (scope_leaves s (below k (d + k) o) (d + k)) j t
    parted d k j M e (Rel i) = ap Rel (parted_rel d k j M i e)
    parted d k j M e (Var x) = ap (λ z. named_in s o z x) (omega arith)
    parted d k j M e (Sort q) = refl
    parted d k j M e (Prod x A B) = ap₂ (Prod x) (parted d k j M e A) (parted d k (j + 1) (M + 1) (omega arith) B)
    parted d k j M e (Lam x A B) = ap₂ (Lam x) (parted d k j M e A) (parted d k (j + 1) (M + 1) (omega arith) B)
    parted d k j M e (Let x v A B) = let_is x (parted d k j M e v) (parted d k j M e A) (parted d k (j + 1) (M + 1) (omega arith) B)
    parted d k j M e (App f a) = ap₂ App (parted d k j M e f) (parted d k j M e a)
    parted d k j M e (Const c) = refl
    parted d k j M e (Ind c) = refl
    parted d k j M e (Ctor c i) = refl
    parted d k j M e (Elim c q) = refl
    parted d k j M e (Evar n ts) = ap (Evar n) (each_parted d k j M e ts)

    pub each_parted : (d k j M : ℕ) → M ≡ j + k → (ts : Trees) → replace_each (scope_leaves s o d) M ts ≡ replace_each (scope_leaves s (below k (d + k) o) (d + k)) j ts
    each_parted d k j M e none = refl
    each_parted d k j M e (more t ts) = ap₂ more (parted d k j M e t) (each_parted d k j M e ts)

-- two changes of each one after the other
pub map_twice : (f g : Tree → Tree) (ts : List Tree) → map f (map g ts) ≡ map (λ t. f (g t)) ts
map_twice f g [] = refl
map_twice f g (t ∷ ts) = ap (λ us. f (g t) ∷ us) (map_twice f g ts)

-- a value at an instance is the value in the scope of the instance
module _ (s : TreeStore) (o : Scope) (n : ℕ) (ts : Trees) (many : length (names_at s.variables n) ≤ length (map (as_read s) (entries ts))) where
  abbrev pairs : List (Name × Tree)
  pairs = zip (names_at s.variables n) (map (as_read s) (entries ts))

  valued_name : (d j : ℕ) (x : Name) → is_listed (names_at s.variables n) x ≡ true → replace (scope_leaves s o d) j (standing (value_of pairs x) j x) ≡ named_in s (inside n ts o) (d + j) x
  valued_name d j x h =
      let r = found_value (names_at s.variables n) (map (as_read s) (entries ts)) x many h in
      let f : Tree → Tree = replace (scope_leaves s o (d + j)) 0 in
      ap (replace (scope_leaves s o d) j) (stands_for pairs j x r.0 r.1)
      ∙ raised_in s o d j 0 j (omega arith) r.0
      ∙ sym (ap (λ z. entry_or z x) (ap (λ us. value_of (zip (names_at s.variables n) us) x) (sym (map_twice f (as_read s) (entries ts))) ∙ mapped_value f (names_at s.variables n) (map (as_read s) (entries ts)) x r.0 r.1))

  mutual
    pub valued : (d j : ℕ) (t : Tree) → HoldsOnly (names_at s.variables n) t → Within j t → replace (scope_leaves s o d) j (put pairs j t) ≡ replace (scope_leaves s (inside n ts o) d) j t
    valued d j (Rel i) h w = ap Rel (index_inside (outer o) d j i (omega arith) ∙ sym (index_inside (outer (inside n ts o)) d j i (omega arith)))
    valued d j (Var x) h w = valued_name d j x h
    valued d j (Sort q) h w = refl
    valued d j (Prod x A B) h w = ap₂ (Prod x) (valued d j A h.0 w.0) (valued d (j + 1) B h.1 w.1)
    valued d j (Lam x A B) h w = ap₂ (Lam x) (valued d j A h.0 w.0) (valued d (j + 1) B h.1 w.1)
    valued d j (Let x v A B) h w = let_is x (valued d j v h.0 w.0) (valued d j A h.1 w.1) (valued d (j + 1) B h.2 w.2)
    valued d j (App f a) h w = ap₂ App (valued d j f h.0 w.0) (valued d j a h.1 w.1)
    valued d j (Const c) h w = refl
    valued d j (Ind c) h w = refl
    valued d j (Ctor c k) h w = refl
    valued d j (Elim c q) h w = refl
    valued d j (Evar m us) h w = ap (Evar m) (each_valued d j us h w)

    pub each_valued : (d j : ℕ) (us : Trees) → EachHoldsOnly (names_at s.variables n) us → EachWithin j us → replace_each (scope_leaves s o d) j (put_each pairs j us) ≡ replace_each (scope_leaves s (inside n ts o) d) j us
    each_valued d j none h w = refl
    each_valued d j (more u us) h w = ap₂ more (valued d j u h.0 w.0) (each_valued d j us h.1 w.1)

-- where nothing is around each tree stands for itself
module _ (s : TreeStore) where
  alone_rel : (k i : ℕ) → placed_index (outer top) 0 k i ≡ i
  alone_rel k i = elim (cases_lt i k) [ inl h ↦ index_inside (outer top) 0 k i h | inr h ↦ index_outside (outer top) 0 k i h ∙ omega arith ]

  mutual
    pub alone : (k : ℕ) (t : Tree) → replace (scope_leaves s top 0) k t ≡ t
    alone k (Rel i) = ap Rel (alone_rel k i)
    alone k (Var x) = refl
    alone k (Sort q) = refl
    alone k (Prod x A B) = ap₂ (Prod x) (alone k A) (alone (k + 1) B)
    alone k (Lam x A B) = ap₂ (Lam x) (alone k A) (alone (k + 1) B)
    alone k (Let x v A B) = let_is x (alone k v) (alone k A) (alone (k + 1) B)
    alone k (App f a) = ap₂ App (alone k f) (alone k a)
    alone k (Const c) = refl
    alone k (Ind c) = refl
    alone k (Ctor c i) = refl
    alone k (Elim c q) = refl
    alone k (Evar n ts) = ap (Evar n) (each_alone k ts)

    pub each_alone : (k : ℕ) (ts : Trees) → replace_each (scope_leaves s top 0) k ts ≡ ts
    each_alone k none = refl
    each_alone k (more t ts) = ap₂ more (alone k t) (each_alone k ts)

  -- a closed tree without hypotheses stands for itself everywhere
  pub stays_in : (o : Scope) (d k : ℕ) (t : Tree) → loose t ≤ k → holds_hypothesis t ≡ false → replace (scope_leaves s o d) k t ≡ t
  stays_in o d k t l h = stays_closed (scope_leaves s o d) (λ j i b. ap Rel (index_inside (outer o) d j i b)) k t l h
