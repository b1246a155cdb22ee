-- Whether two terms are the same leaf, by their nodes.
use Rattle.std.proofs.Common.{◌≡◌, ◌∙◌, ℕ, Bool, true, false, ◌&&◌, eqb, refl, sym, ap, ap₂, arith}
use Rattle.lq_trees.specs.declared.Sort.{Sort as Universe}
use Rattle.lq_trees.specs.Tree.{Tree, same_name}
use Rattle.lq_trees.specs.Tree.Tree.{Rel, Var, Sort, Prod, Lam, Let, App, Const, Ind, Ctor, Elim, Evar}
use Rattle.lq_terms.specs.declared.nodes.NameId.{NameId}
use Rattle.lq_terms.specs.declared.nodes.Node.{Node}
use Rattle.lq_terms.specs.declared.nodes.TermId.{TermId}
use Rattle.lq_terms.specs.Terms.{Terms, node_tree, text_of, tree_of}
use Rattle.lq_calculus.specs.Checking.{same_sort}
use Rattle.lq_unify.specs.Forms.{same_leaf}
use Rattle.lq_unify.proofs.PartLaws.{tree_is}

-- a number for each kind of leaf
abbrev pub kind : Tree → ℕ
kind (Rel i) = 0
kind (Var x) = 1
kind (Sort s) = 2
kind (Prod x a b) = 0
kind (Lam x a b) = 0
kind (Let x v a b) = 0
kind (App f a) = 0
kind (Const c) = 3
kind (Ind c) = 4
kind (Ctor c k) = 5
kind (Elim c s) = 6
kind (Evar n ts) = 0

abbrev pub node_kind : Node → ℕ
node_kind (Node.Rel i) = 0
node_kind (Node.Var x) = 1
node_kind (Node.Sort s) = 2
node_kind (Node.Prod x a b) = 0
node_kind (Node.Lam x a b) = 0
node_kind (Node.Let x v a b) = 0
node_kind (Node.App f a) = 0
node_kind (Node.Const c) = 3
node_kind (Node.Ind c) = 4
node_kind (Node.Ctor c k) = 5
node_kind (Node.Elim c s) = 6
node_kind (Node.Evar n ts) = 0

kind_is : (bank : Terms) (n : Node) → kind (node_tree bank n) ≡ node_kind n
kind_is bank (Node.Rel i) = refl
kind_is bank (Node.Var x) = refl
kind_is bank (Node.Sort s) = refl
kind_is bank (Node.Prod x a b) = refl
kind_is bank (Node.Lam x a b) = refl
kind_is bank (Node.Let x v a b) = refl
kind_is bank (Node.App f a) = refl
kind_is bank (Node.Const c) = refl
kind_is bank (Node.Ind c) = refl
kind_is bank (Node.Ctor c k) = refl
kind_is bank (Node.Elim c s) = refl
kind_is bank (Node.Evar n ts) = refl

pub not_var : (n : Node) → ((x : NameId) → n ≡ Node.Var x → ⊥) → node_kind n ≡ 1 → ⊥
not_var (Node.Rel i) h e = absurd (omega (arith, e))
not_var (Node.Var x) h e = h x refl
not_var (Node.Sort s) h e = absurd (omega (arith, e))
not_var (Node.Prod x a b) h e = absurd (omega (arith, e))
not_var (Node.Lam x a b) h e = absurd (omega (arith, e))
not_var (Node.Let x v a b) h e = absurd (omega (arith, e))
not_var (Node.App f a) h e = absurd (omega (arith, e))
not_var (Node.Const c) h e = absurd (omega (arith, e))
not_var (Node.Ind c) h e = absurd (omega (arith, e))
not_var (Node.Ctor c k) h e = absurd (omega (arith, e))
not_var (Node.Elim c s) h e = absurd (omega (arith, e))
not_var (Node.Evar n ts) h e = absurd (omega (arith, e))

pub not_sort : (n : Node) → ((s : Universe) → n ≡ Node.Sort s → ⊥) → node_kind n ≡ 2 → ⊥
not_sort (Node.Rel i) h e = absurd (omega (arith, e))
not_sort (Node.Var x) h e = absurd (omega (arith, e))
not_sort (Node.Sort s) h e = h s refl
not_sort (Node.Prod x a b) h e = absurd (omega (arith, e))
not_sort (Node.Lam x a b) h e = absurd (omega (arith, e))
not_sort (Node.Let x v a b) h e = absurd (omega (arith, e))
not_sort (Node.App f a) h e = absurd (omega (arith, e))
not_sort (Node.Const c) h e = absurd (omega (arith, e))
not_sort (Node.Ind c) h e = absurd (omega (arith, e))
not_sort (Node.Ctor c k) h e = absurd (omega (arith, e))
not_sort (Node.Elim c s) h e = absurd (omega (arith, e))
not_sort (Node.Evar n ts) h e = absurd (omega (arith, e))

pub not_const : (n : Node) → ((c : NameId) → n ≡ Node.Const c → ⊥) → node_kind n ≡ 3 → ⊥
not_const (Node.Rel i) h e = absurd (omega (arith, e))
not_const (Node.Var x) h e = absurd (omega (arith, e))
not_const (Node.Sort s) h e = absurd (omega (arith, e))
not_const (Node.Prod x a b) h e = absurd (omega (arith, e))
not_const (Node.Lam x a b) h e = absurd (omega (arith, e))
not_const (Node.Let x v a b) h e = absurd (omega (arith, e))
not_const (Node.App f a) h e = absurd (omega (arith, e))
not_const (Node.Const c) h e = h c refl
not_const (Node.Ind c) h e = absurd (omega (arith, e))
not_const (Node.Ctor c k) h e = absurd (omega (arith, e))
not_const (Node.Elim c s) h e = absurd (omega (arith, e))
not_const (Node.Evar n ts) h e = absurd (omega (arith, e))

pub not_ind : (n : Node) → ((c : NameId) → n ≡ Node.Ind c → ⊥) → node_kind n ≡ 4 → ⊥
not_ind (Node.Rel i) h e = absurd (omega (arith, e))
not_ind (Node.Var x) h e = absurd (omega (arith, e))
not_ind (Node.Sort s) h e = absurd (omega (arith, e))
not_ind (Node.Prod x a b) h e = absurd (omega (arith, e))
not_ind (Node.Lam x a b) h e = absurd (omega (arith, e))
not_ind (Node.Let x v a b) h e = absurd (omega (arith, e))
not_ind (Node.App f a) h e = absurd (omega (arith, e))
not_ind (Node.Const c) h e = absurd (omega (arith, e))
not_ind (Node.Ind c) h e = h c refl
not_ind (Node.Ctor c k) h e = absurd (omega (arith, e))
not_ind (Node.Elim c s) h e = absurd (omega (arith, e))
not_ind (Node.Evar n ts) h e = absurd (omega (arith, e))

pub not_ctor : (n : Node) → ((c : NameId) (k : ℕ) → n ≡ Node.Ctor c k → ⊥) → node_kind n ≡ 5 → ⊥
not_ctor (Node.Rel i) h e = absurd (omega (arith, e))
not_ctor (Node.Var x) h e = absurd (omega (arith, e))
not_ctor (Node.Sort s) h e = absurd (omega (arith, e))
not_ctor (Node.Prod x a b) h e = absurd (omega (arith, e))
not_ctor (Node.Lam x a b) h e = absurd (omega (arith, e))
not_ctor (Node.Let x v a b) h e = absurd (omega (arith, e))
not_ctor (Node.App f a) h e = absurd (omega (arith, e))
not_ctor (Node.Const c) h e = absurd (omega (arith, e))
not_ctor (Node.Ind c) h e = absurd (omega (arith, e))
not_ctor (Node.Ctor c k) h e = h c k refl
not_ctor (Node.Elim c s) h e = absurd (omega (arith, e))
not_ctor (Node.Evar n ts) h e = absurd (omega (arith, e))

pub not_elim : (n : Node) → ((c : NameId) (s : Universe) → n ≡ Node.Elim c s → ⊥) → node_kind n ≡ 6 → ⊥
not_elim (Node.Rel i) h e = absurd (omega (arith, e))
not_elim (Node.Var x) h e = absurd (omega (arith, e))
not_elim (Node.Sort s) h e = absurd (omega (arith, e))
not_elim (Node.Prod x a b) h e = absurd (omega (arith, e))
not_elim (Node.Lam x a b) h e = absurd (omega (arith, e))
not_elim (Node.Let x v a b) h e = absurd (omega (arith, e))
not_elim (Node.App f a) h e = absurd (omega (arith, e))
not_elim (Node.Const c) h e = absurd (omega (arith, e))
not_elim (Node.Ind c) h e = absurd (omega (arith, e))
not_elim (Node.Ctor c k) h e = absurd (omega (arith, e))
not_elim (Node.Elim c s) h e = h c s refl
not_elim (Node.Evar n ts) h e = absurd (omega (arith, e))

pub no_leaf : (n : Node) → ((x : NameId) → n ≡ Node.Var x → ⊥) → ((s : Universe) → n ≡ Node.Sort s → ⊥) → ((c : NameId) → n ≡ Node.Const c → ⊥) → ((c : NameId) → n ≡ Node.Ind c → ⊥) → ((c : NameId) (k : ℕ) → n ≡ Node.Ctor c k → ⊥) → ((c : NameId) (s : Universe) → n ≡ Node.Elim c s → ⊥) → node_kind n ≡ 0
no_leaf (Node.Rel i) hv hs hc hi ht he = refl
no_leaf (Node.Var x) hv hs hc hi ht he = absurd (hv x refl)
no_leaf (Node.Sort s) hv hs hc hi ht he = absurd (hs s refl)
no_leaf (Node.Prod x a b) hv hs hc hi ht he = refl
no_leaf (Node.Lam x a b) hv hs hc hi ht he = refl
no_leaf (Node.Let x v a b) hv hs hc hi ht he = refl
no_leaf (Node.App f a) hv hs hc hi ht he = refl
no_leaf (Node.Const c) hv hs hc hi ht he = absurd (hc c refl)
no_leaf (Node.Ind c) hv hs hc hi ht he = absurd (hi c refl)
no_leaf (Node.Ctor c k) hv hs hc hi ht he = absurd (ht c k refl)
no_leaf (Node.Elim c s) hv hs hc hi ht he = absurd (he c s refl)
no_leaf (Node.Evar n ts) hv hs hc hi ht he = refl

differ : (T U : Tree) → (kind T ≡ kind U → ⊥) → false ≡ same_leaf T U
unfolding same_leaf
differ (Var x) (Var x1) h = absurd (h refl)
differ (Sort s) (Sort s1) h = absurd (h refl)
differ (Const c) (Const c1) h = absurd (h refl)
differ (Ind c) (Ind c1) h = absurd (h refl)
differ (Ctor c k) (Ctor c1 k1) h = absurd (h refl)
differ (Elim c s) (Elim c1 s1) h = absurd (h refl)
differ _ _ h = refl

none : (T U : Tree) → kind T ≡ 0 → false ≡ same_leaf T U
unfolding same_leaf
none (Rel i) U e = refl
none (Var x) U e = absurd (omega (arith, e))
none (Sort s) U e = absurd (omega (arith, e))
none (Prod x a b) U e = refl
none (Lam x a b) U e = refl
none (Let x v a b) U e = refl
none (App f a) U e = refl
none (Const c) U e = absurd (omega (arith, e))
none (Ind c) U e = absurd (omega (arith, e))
none (Ctor c k) U e = absurd (omega (arith, e))
none (Elim c s) U e = absurd (omega (arith, e))
none (Evar n ts) U e = refl

module _ (bank : Terms) (t u : TermId) (n m : Node) (e : node_tree bank n ≡ tree_of bank t) (f : node_tree bank m ≡ tree_of bank u) where
  -- leaves of one kind
  pub at_leaves : (a b : Node) (r : Bool) → n ≡ a → m ≡ b → r ≡ same_leaf (node_tree bank a) (node_tree bank b) → r ≡ same_leaf (tree_of bank t) (tree_of bank u)
  at_leaves a b r p q h = h ∙ sym (ap₂ same_leaf (tree_is bank n a t e p) (tree_is bank m b u f q))

  -- a leaf of one kind, and a term that is none of that kind
  pub at_other : (a : Node) → n ≡ a → (node_kind m ≡ node_kind a → ⊥) → false ≡ same_leaf (tree_of bank t) (tree_of bank u)
  at_other a p h =
      differ (tree_of bank t) (tree_of bank u)
      (λ k. h (sym (ap kind (sym f) ∙ kind_is bank m) ∙ sym k ∙ ap kind (sym e) ∙ kind_is bank n ∙ ap node_kind p))

pub at_none : (bank : Terms) (t u : TermId) (n : Node) → node_tree bank n ≡ tree_of bank t → node_kind n ≡ 0 → false ≡ same_leaf (tree_of bank t) (tree_of bank u)
at_none bank t u n e h = none (tree_of bank t) (tree_of bank u) (ap kind (sym e) ∙ kind_is bank n ∙ h)

-- two numbers after names, and two sorts
pub and_true : (a b c : Bool) → a ≡ true → b ≡ c → b ≡ (a && c)
and_true true b c e h = h
and_true false b c e h = absurd (grind arith)

pub and_false : (r a c : Bool) → r ≡ a → a ≡ false → r ≡ (a && c)
and_false r false c e h = e
and_false r true c e h = absurd (grind arith)

module _ (bank : Terms) where
  pub var_leaf : (x y : NameId) (r : Bool) → r ≡ same_name (text_of bank x) (text_of bank y) → r ≡ same_leaf (node_tree bank (Node.Var x)) (node_tree bank (Node.Var y))
  unfolding same_leaf
  var_leaf x y r h = h

  pub sort_leaf : (s t : Universe) (r : Bool) → r ≡ same_sort s t → r ≡ same_leaf (node_tree bank (Node.Sort s)) (node_tree bank (Node.Sort t))
  unfolding same_leaf
  sort_leaf s t r h = h

  pub const_leaf : (x y : NameId) (r : Bool) → r ≡ same_name (text_of bank x) (text_of bank y) → r ≡ same_leaf (node_tree bank (Node.Const x)) (node_tree bank (Node.Const y))
  unfolding same_leaf
  const_leaf x y r h = h

  pub ind_leaf : (x y : NameId) (r : Bool) → r ≡ same_name (text_of bank x) (text_of bank y) → r ≡ same_leaf (node_tree bank (Node.Ind x)) (node_tree bank (Node.Ind y))
  unfolding same_leaf
  ind_leaf x y r h = h

  pub ctor_leaf : (x y : NameId) (k l : ℕ) (r : Bool) → r ≡ (same_name (text_of bank x) (text_of bank y) && eqb k l) → r ≡ same_leaf (node_tree bank (Node.Ctor x k)) (node_tree bank (Node.Ctor y l))
  unfolding same_leaf
  ctor_leaf x y k l r h = h

  pub elim_leaf : (x y : NameId) (s t : Universe) (r : Bool) → r ≡ (same_name (text_of bank x) (text_of bank y) && same_sort s t) → r ≡ same_leaf (node_tree bank (Node.Elim x s)) (node_tree bank (Node.Elim y t))
  unfolding same_leaf
  elim_leaf x y s t r h = h
