-- Values that hold variables of greater numbers alone read.
use Rattle.std.proofs.Common.{◌≡◌, ◌≤◌, ◌<◌, ◌+◌, ◌++◌, ◌-◌, ℕ, zero, suc, Bool, true, false, refl, sym, ◌∙◌, ap, arith, inl, inr, ◌⊎◌, List, [], ◌∷◌, length, get_or, Option, Some, None}
use Rattle.std.proofs.Common.{subst as along}
use Rattle.std.specs.Prelude.{if◌then◌else◌, ◌||◌, nat_lt, option_map, zip, slice_get}
use Rattle.std.specs.List.{AllByRecursion}
use Rattle.std.proofs.Math.Nat.{eq-or-lt_of_le}
use Rattle.std.proofs.lemmas.Slice.Eq.{bytes_eq-Decides}
use Rattle.lq_trees.specs.Tree.{Name, Tree, Trees, same_name, none, more}
use Rattle.lq_trees.specs.Change.{replace_each, lift, lift_each, standing, instantiating, put, instance}
use Rattle.lq_trees.specs.Fresh.{is_listed}
use Rattle.lq_trees.specs.Hypotheses.{HoldsOnly, EachHoldsOnly}
use Rattle.lq_trees.specs.Reading.{Value, Values, entries, Reads, reads_rel, reads_var, reads_sort, reads_prod, reads_lam, reads_let, reads_app, reads_const, reads_ind, reads_ctor, reads_elim, reads_open, reads_value, reads_none, reads_more}
use Rattle.lq_terms.specs.declared.nodes.TermId.{TermId}
use Rattle.lq_terms.specs.declared.nodes.Hypothesis.{Hypothesis}
use Rattle.lq_terms.specs.Terms.{Terms, HasTerm, text_of, tree_of}
use Rattle.lq_terms.specs.Contexts.{HasAllOf}
use Rattle.lq_terms.proofs.Growth.{has_at, has-grown, Grows-trans}
use Rattle.lq_terms.specs.Telling.{value_in, values_in, HasValue, HasValues}
use Rattle.lq_words.specs.Looks.{Waits, Stands}
use Rattle.lq_kernel_rows.specs.ToldValues.{told_values}

-- a raised tree holds the same hypotheses
module _ (ys : List Name) (by : ℕ) where
  holds-raised : (b : Bool) (n : ℕ) → HoldsOnly ys (if b then Tree.Rel n else Tree.Rel (n + by))
  holds-raised true n = tt
  holds-raised false n = tt

  mutual
    holds-lift : (d : ℕ) (t : Tree) → HoldsOnly ys t → HoldsOnly ys (lift by d t)
    holds-lift d (Tree.Rel n) h = holds-raised (nat_lt n d) n
    holds-lift d (Tree.Var x) h = h
    holds-lift d (Tree.Sort s) h = tt
    holds-lift d (Tree.Prod x a b) h = (holds-lift d a h.0, holds-lift (d + 1) b h.1)
    holds-lift d (Tree.Lam x a b) h = (holds-lift d a h.0, holds-lift (d + 1) b h.1)
    holds-lift d (Tree.Let x v a b) h = (holds-lift d v h.0, holds-lift d a h.1, holds-lift (d + 1) b h.2)
    holds-lift d (Tree.App f a) h = (holds-lift d f h.0, holds-lift d a h.1)
    holds-lift d (Tree.Const c) h = tt
    holds-lift d (Tree.Ind c) h = tt
    holds-lift d (Tree.Ctor c k) h = tt
    holds-lift d (Tree.Elim c s) h = tt
    holds-lift d (Tree.Evar n ts) h = each_holds-lift d ts h

    each_holds-lift : (d : ℕ) (ts : Trees) → EachHoldsOnly ys ts → EachHoldsOnly ys (lift_each by d ts)
    each_holds-lift d none h = tt
    each_holds-lift d (more t ts) h = (holds-lift d t h.0, each_holds-lift d ts h.1)

only_listed : (x y : Name) → is_listed (x ∷ []) y ≡ true → same_name y x ≡ true
unfolding is_listed
only_listed x y e = (bytes_eq-Decides y x).1 (sym ((bytes_eq-Decides x y).0 (listed (same_name x y) e)))
  where
    listed : (b : Bool) → (b || false) ≡ true → b ≡ true
    listed true e = refl
    listed false e = e

-- a tree for the only hypothesis
module _ (ys : List Name) (x : Name) (w : Tree) (holds : HoldsOnly ys w) where
  at_name : (d : ℕ) (y : Name) (b : Bool) → b ≡ true → HoldsOnly ys (standing (if b then Some w else None) d y)
  at_name d y true e = holds-lift ys d 0 w holds
  at_name d y false e = absurd (grind arith)

  mutual
    holds-put : (d : ℕ) (t : Tree) → HoldsOnly (x ∷ []) t → HoldsOnly ys (put ((x, w) ∷ []) d t)
    holds-put d (Tree.Rel n) h = tt
    holds-put d (Tree.Var y) h = at_name d y (same_name y x) (only_listed x y h)
    holds-put d (Tree.Sort s) h = tt
    holds-put d (Tree.Prod y a b) h = (holds-put d a h.0, holds-put (d + 1) b h.1)
    holds-put d (Tree.Lam y a b) h = (holds-put d a h.0, holds-put (d + 1) b h.1)
    holds-put d (Tree.Let y v a b) h = (holds-put d v h.0, holds-put d a h.1, holds-put (d + 1) b h.2)
    holds-put d (Tree.App f a) h = (holds-put d f h.0, holds-put d a h.1)
    holds-put d (Tree.Const c) h = tt
    holds-put d (Tree.Ind c) h = tt
    holds-put d (Tree.Ctor c k) h = tt
    holds-put d (Tree.Elim c s) h = tt
    holds-put d (Tree.Evar n ts) h = each_holds-put d ts h

    each_holds-put : (d : ℕ) (ts : Trees) → EachHoldsOnly (x ∷ []) ts → EachHoldsOnly ys (replace_each (instantiating ((x, w) ∷ [])) d ts)
    each_holds-put d none h = tt
    each_holds-put d (more t ts) h = (holds-put d t h.0, each_holds-put d ts h.1)

-- a variable's value over one hypothesis reads, to a tree that holds that alone
record Known (vs : Values) (x : Name) (n : ℕ) : Type 0 where
  value : Value
  is : vs n ≡ Some value
  names : value.names ≡ x ∷ []
  tree : Tree
  reads : Reads vs value.body tree
  holds : HoldsOnly (x ∷ []) tree

-- a term whose variables have greater numbers reads, to a tree that holds the same hypotheses
module _ (vs : Values) (x : Name) (least : ℕ) (known : (n : ℕ) → least ≤ n → (vs n ≡ None) ⊎ Known vs x n) (ys : List Name) where
  record Read (t : Tree) : Type 0 where
    tree : Tree
    reads : Reads vs t tree
    holds : HoldsOnly ys tree

  at_value : (n : ℕ) (t : Tree) → Read t → Known vs x n → Read (Tree.Evar n (more t none))
  unfolding entries
  at_value n t r v = record {
    tree = instance (zip v.value.names (r.tree ∷ [])) v.tree;
    reads = reads_value n (more t none) (more r.tree none) v.value v.tree (instance (zip v.value.names (r.tree ∷ [])) v.tree) v.is (reads_more t r.tree none none r.reads reads_none) v.reads refl;
    holds = along (λ z. HoldsOnly ys (instance (zip z (r.tree ∷ [])) v.tree)) (sym v.names) (holds-put ys x r.tree r.holds 0 v.tree v.holds);
  }

  at_variable : (n : ℕ) (t : Tree) → Read t → (vs n ≡ None) ⊎ Known vs x n → Read (Tree.Evar n (more t none))
  at_variable n t r (inl e) = record { tree = Tree.Evar n (more r.tree none); reads = reads_open n (more t none) (more r.tree none) e (reads_more t r.tree none none r.reads reads_none); holds = (r.holds, tt) }
  at_variable n t r (inr v) = at_value n t r v

  read_of : (t : Tree) → HoldsOnly ys t → Waits least t → Read t
  read_of (Tree.Rel n) h w = record { tree = Tree.Rel n; reads = reads_rel n; holds = tt }
  read_of (Tree.Var y) h w = record { tree = Tree.Var y; reads = reads_var y; holds = h }
  read_of (Tree.Sort s) h w = record { tree = Tree.Sort s; reads = reads_sort s; holds = tt }
  read_of (Tree.Prod y a b) h w =
      let r = read_of a h.0 w.0 in let s = read_of b h.1 w.1 in
      record { tree = Tree.Prod y r.tree s.tree; reads = reads_prod y a b r.tree s.tree r.reads s.reads; holds = (r.holds, s.holds) }
  read_of (Tree.Lam y a b) h w =
      let r = read_of a h.0 w.0 in let s = read_of b h.1 w.1 in
      record { tree = Tree.Lam y r.tree s.tree; reads = reads_lam y a b r.tree s.tree r.reads s.reads; holds = (r.holds, s.holds) }
  read_of (Tree.Let y v a b) h w =
      let q = read_of v h.0 w.0 in let r = read_of a h.1 w.1 in let s = read_of b h.2 w.2 in
      record { tree = Tree.Let y q.tree r.tree s.tree; reads = reads_let y v a b q.tree r.tree s.tree q.reads r.reads s.reads; holds = (q.holds, r.holds, s.holds) }
  read_of (Tree.App f a) h w =
      let r = read_of f h.0 w.0 in let s = read_of a h.1 w.1 in
      record { tree = Tree.App r.tree s.tree; reads = reads_app f a r.tree s.tree r.reads s.reads; holds = (r.holds, s.holds) }
  read_of (Tree.Const c) h w = record { tree = Tree.Const c; reads = reads_const c; holds = tt }
  read_of (Tree.Ind c) h w = record { tree = Tree.Ind c; reads = reads_ind c; holds = tt }
  read_of (Tree.Ctor c k) h w = record { tree = Tree.Ctor c k; reads = reads_ctor c k; holds = tt }
  read_of (Tree.Elim c s) h w = record { tree = Tree.Elim c s; reads = reads_elim c s; holds = tt }
  read_of (Tree.Evar n none) h w = absurd w
  read_of (Tree.Evar n (more t none)) h w = at_variable n t (read_of t h.0 w.1) (known n w.0)
  read_of (Tree.Evar n (more t (more u us))) h w = absurd w

-- the values of the variables from a number on are as reduction takes them
abbrev pub AreFrom : Terms → Hypothesis → List TermId → ℕ → Type 0
AreFrom bank h ts k = (n : ℕ) (v : List Hypothesis × TermId) → k ≤ n → told_values (h ∷ []) ts n ≡ Some v → HasValue bank (values_in bank (told_values (h ∷ []) ts)) v

module _ (bank : Terms) (h : Hypothesis) (ts : List TermId) where
  told_some : (n : ℕ) (t : TermId) (v : List Hypothesis × TermId) → slice_get ts n ≡ Some t → told_values (h ∷ []) ts n ≡ Some v → v ≡ (h ∷ [], t)
  told_some n t v e f = same (sym f ∙ ap (option_map (λ u. (h ∷ [], u))) e)
    where
      same : Some v ≡ Some (h ∷ [], t) → v ≡ (h ∷ [], t)
      same e = cc

  known_from : (k : ℕ) → AreFrom bank h ts k → (n : ℕ) → k ≤ n → (values_in bank (told_values (h ∷ []) ts) n ≡ None) ⊎ Known (values_in bank (told_values (h ∷ []) ts)) (text_of bank h.name) n
  known_from k f n l = go (slice_get ts n) refl
    where
      go : (o : Option TermId) → slice_get ts n ≡ o → (values_in bank (told_values (h ∷ []) ts) n ≡ None) ⊎ Known (values_in bank (told_values (h ∷ []) ts)) (text_of bank h.name) n
      go None e = inl (ap (λ z. option_map (value_in bank) (option_map (λ t. (h ∷ [], t)) z)) e)
      go (Some t) e =
          let v = f n (h ∷ [], t) l (ap (option_map (λ u. (h ∷ [], u))) e) in
          inr (record {
            value = value_in bank (h ∷ [], t);
            is = ap (λ z. option_map (value_in bank) (option_map (λ u. (h ∷ [], u)) z)) e;
            names = refl;
            tree = v.tree;
            reads = v.reads;
            holds = v.holds;
          })

  value_at : (k : ℕ) (t : TermId) → HasAllOf bank h → HasTerm bank t → Stands (text_of bank h.name ∷ []) (k + 1) 0 (tree_of bank t) → AreFrom bank h ts (k + 1) → HasValue bank (values_in bank (told_values (h ∷ []) ts)) (h ∷ [], t)
  value_at k t a has s f =
      let r = read_of (values_in bank (told_values (h ∷ []) ts)) (text_of bank h.name) (k + 1) (known_from (k + 1) f) (text_of bank h.name ∷ []) (tree_of bank t) s.1 s.2 in
      record { context = (a, tt); has = has; within = s.0; tree = r.tree; reads = r.reads; holds = r.holds }

  -- one value more, in front of those
  pub values_next : (k : ℕ) (t : TermId) → slice_get ts k ≡ Some t → HasAllOf bank h → HasTerm bank t → Stands (text_of bank h.name ∷ []) (k + 1) 0 (tree_of bank t) → AreFrom bank h ts (k + 1) → AreFrom bank h ts k
  values_next k t e a has s f n v l p = elim (eq-or-lt_of_le l) [
    | inl q ↦ along (λ z. HasValue bank (values_in bank (told_values (h ∷ []) ts)) z) (sym (told_some n t v (along (λ z. slice_get ts z ≡ Some t) q e) p)) (value_at k t a has s f)
    | inr q ↦ f n v (omega arith) p
  ]

  there : (us : List TermId) (i : ℕ) (d : TermId) → i < length us → slice_get us i ≡ Some (get_or us i d)
  there [] i d l = absurd (omega arith)
  there (u ∷ us) zero d l = refl
  there (u ∷ us) (suc i) d l = there us i d (omega arith)

  -- the same of a list's entry
  pub values_step :
      (k : ℕ) (d : TermId) → 0 < k → k ≤ length ts → HasAllOf bank h → AllByRecursion (HasTerm bank) ts → Stands (text_of bank h.name ∷ []) k 0 (tree_of bank (get_or ts (k - 1) d)) → AreFrom bank h ts k
      → AreFrom bank h ts (k - 1)
  values_step k d p l a has s f =
      let same : k ≡ k - 1 + 1 = omega arith in
      values_next (k - 1) (get_or ts (k - 1) d) (there ts (k - 1) d (omega arith)) a (has_at bank ts (k - 1) d has (omega arith))
      (along (λ z. Stands (text_of bank h.name ∷ []) z 0 (tree_of bank (get_or ts (k - 1) d))) same s) (along (λ z. AreFrom bank h ts z) same f)

  -- none stands behind the last
  pub values_behind : (k : ℕ) → length ts ≤ k → AreFrom bank h ts k
  values_behind k l n v m p = absurd (none_there (slice_get ts n) (nothing ts n (omega arith)) p)
    where
      nothing : (us : List TermId) (n : ℕ) → length us ≤ n → slice_get us n ≡ None
      nothing [] n l = refl
      nothing (u ∷ us) zero l = absurd (omega arith)
      nothing (u ∷ us) (suc n) l = nothing us n (omega arith)

      none_there : (o : Option TermId) → o ≡ None → option_map (λ t. (h ∷ [], t)) o ≡ Some v → ⊥
      none_there None e p = grind arith
      none_there (Some t) e p = absurd (grind arith)

  -- all of them
  pub values_all : AreFrom bank h ts 0 → HasValues bank (told_values (h ∷ []) ts)
  values_all f n v p = f n v (omega arith) p

-- values in a context of one hypothesis
pub values_put : (bank : Terms) (hs : List Hypothesis) (h : Hypothesis) (ts us : List TermId) → hs ≡ h ∷ [] → us ≡ ts → HasValues bank (told_values (h ∷ []) us) → HasValues bank (told_values hs ts)
values_put bank hs h ts us e f v = along (λ z. HasValues bank (told_values z ts)) (sym e) (along (λ z. HasValues bank (told_values (h ∷ []) z)) f v)

pub terms-push : (bank : Terms) (ts : List TermId) (t : TermId) → AllByRecursion (HasTerm bank) ts → HasTerm bank t → AllByRecursion (HasTerm bank) (ts ++ t ∷ [])
terms-push bank [] t h k = (k, tt)
terms-push bank (u ∷ us) t h k = (h.0, terms-push bank us t h.1 k)

pub ruleset stacks = (Grows-trans, has-grown, terms-push)
