-- The parts of two terms of one form.
use Rattle.std.proofs.Common.{◌≡◌, ◌≤◌, ◌∙◌, ℕ, refl, sym, ap, ap₂, arith, append-nil, List, [], ◌∷◌, ◌++◌, Bool, true, false, Option, Some, None}
use Rattle.std.proofs.Common.{subst as along}
use Rattle.std.specs.List.{AllByRecursion}
use Rattle.lq_trees.specs.Fresh.{fresh, opened, under, under_let}
use Rattle.lq_trees.specs.Tree.{Name, Tree, Context}
use Rattle.lq_trees.specs.Tree.Tree.{Rel, Var, Sort, Prod, Lam, Let, App, Const, Ind, Ctor, Elim, Evar}
use Rattle.lq_terms.specs.declared.nodes.NameId.{NameId}
use Rattle.lq_terms.specs.declared.nodes.Node.{Node}
use Rattle.lq_terms.specs.declared.nodes.TermId.{TermId}
use Rattle.lq_terms.specs.Terms.{Terms, node_tree, tree_of}
use Rattle.lq_calculus.specs.Contraction.{spine}
use Rattle.lq_solving.specs.Unification.{Sides, sides, same_form, no_parts_if, application_parts}
use Rattle.lq_unify.specs.declared.pairs.Pair.{Pair}
use Rattle.lq_unify.specs.declared.forms.Form.{Form}
use Rattle.lq_unify.specs.Pairs.{pairs_in, HasPair}
use Rattle.lq_unify.specs.Forms.{under_in, HasUnder, IsFormOf, FormIs, PairsAre, same_leaf}

-- parts that are listed are the parts of the definition
pub listed : (bank : Terms) (g : Context) (f : Form) (ps : List Sides) (o : Option (List Sides)) → IsFormOf bank g f ps → o ≡ Some ps → FormIs bank g (Some f) o
listed bank g f ps o h e = (record { pairs = h.pairs; under = h.under }, e ∙ ap Some (sym h.are))

-- parts in their context alone
pub alone_is : (bank : Terms) (g : Context) (v : List Pair) (f : Form) (o : Option (List Sides)) → PairsAre bank g (Some v) o → f.pairs.items ≡ v → f.under ≡ None → FormIs bank g (Some f) o
alone_is bank g v f o h e u = (
  record { pairs = along (AllByRecursion (HasPair bank)) (sym e) h.has; under = along (HasUnder bank) (sym u) tt },
  sym h.are ∙ ap Some (sym (append-nil (pairs_in bank g v)) ∙ ap₂ (λ a b. pairs_in bank g a ++ under_in bank g b) (sym e) (sym u)),
)

-- a number for each form of several parts
abbrev pub shape : Tree → ℕ
shape (Rel i) = 0
shape (Var x) = 0
shape (Sort s) = 0
shape (Prod x A B) = 1
shape (Lam x A t) = 2
shape (Let x v A t) = 3
shape (App f a) = 4
shape (Const c) = 0
shape (Ind c) = 0
shape (Ctor c k) = 0
shape (Elim c s) = 0
shape (Evar n ts) = 0

-- two that differ in form have no parts
pub forms_differ : (g : Context) (t u : Tree) → 1 ≤ shape t → (shape t ≡ shape u → ⊥) → same_form g t u ≡ None
unfolding same_form
forms_differ g (Prod x A B) (Prod y C D) l h = absurd (h refl)
forms_differ g (Lam x A B) (Lam y C D) l h = absurd (h refl)
forms_differ g (Let x v A B) (Let y w C D) l h = absurd (h refl)
forms_differ g (App f a) (App k b) l h = absurd (h refl)
forms_differ g (Prod x A B) u l h = refl
forms_differ g (Lam x A B) u l h = refl
forms_differ g (Let x v A B) u l h = refl
forms_differ g (App f a) u l h = refl
forms_differ g t u l h = absurd (omega (arith, l))

-- others have none, if they are the same leaf
pub leaves_formed : (g : Context) (t u : Tree) → shape t ≡ 0 → same_form g t u ≡ no_parts_if (same_leaf t u)
unfolding same_form same_leaf no_parts_if
leaves_formed g (Prod x A B) u e = absurd (omega (arith, e))
leaves_formed g (Lam x A B) u e = absurd (omega (arith, e))
leaves_formed g (Let x v A B) u e = absurd (omega (arith, e))
leaves_formed g (App f a) u e = absurd (omega (arith, e))
leaves_formed g (Var x) (Var y) e = refl
leaves_formed g (Sort s) (Sort r) e = refl
leaves_formed g (Const c) (Const d) e = refl
leaves_formed g (Ind c) (Ind d) e = refl
leaves_formed g (Ctor c k) (Ctor d l) e = refl
leaves_formed g (Elim c k) (Elim d l) e = refl
leaves_formed g t u e = refl

-- the form of a node
abbrev pub node_shape : Node → ℕ
node_shape (Node.Rel i) = 0
node_shape (Node.Var x) = 0
node_shape (Node.Sort s) = 0
node_shape (Node.Prod x A B) = 1
node_shape (Node.Lam x A t) = 2
node_shape (Node.Let x v A t) = 3
node_shape (Node.App f a) = 4
node_shape (Node.Const c) = 0
node_shape (Node.Ind c) = 0
node_shape (Node.Ctor c k) = 0
node_shape (Node.Elim c s) = 0
node_shape (Node.Evar n ts) = 0

pub shape_is : (bank : Terms) (n : Node) → shape (node_tree bank n) ≡ node_shape n
shape_is bank (Node.Rel i) = refl
shape_is bank (Node.Var x) = refl
shape_is bank (Node.Sort s) = refl
shape_is bank (Node.Prod x A B) = refl
shape_is bank (Node.Lam x A t) = refl
shape_is bank (Node.Let x v A t) = refl
shape_is bank (Node.App f a) = refl
shape_is bank (Node.Const c) = refl
shape_is bank (Node.Ind c) = refl
shape_is bank (Node.Ctor c k) = refl
shape_is bank (Node.Elim c s) = refl
shape_is bank (Node.Evar n ts) = refl

-- a node of another kind has another form
pub not_prod : (n : Node) → ((x : NameId) (a b : TermId) → n ≡ Node.Prod x a b → ⊥) → 1 ≡ node_shape n → ⊥
not_prod (Node.Rel i) h e = absurd (omega (arith, e))
not_prod (Node.Var x) h e = absurd (omega (arith, e))
not_prod (Node.Sort s) h e = absurd (omega (arith, e))
not_prod (Node.Prod x a b) h e = h x a b refl
not_prod (Node.Lam x a b) h e = absurd (omega (arith, e))
not_prod (Node.Let x v a b) h e = absurd (omega (arith, e))
not_prod (Node.App f a) h e = absurd (omega (arith, e))
not_prod (Node.Const c) h e = absurd (omega (arith, e))
not_prod (Node.Ind c) h e = absurd (omega (arith, e))
not_prod (Node.Ctor c k) h e = absurd (omega (arith, e))
not_prod (Node.Elim c s) h e = absurd (omega (arith, e))
not_prod (Node.Evar n ts) h e = absurd (omega (arith, e))

pub not_lam : (n : Node) → ((x : NameId) (a b : TermId) → n ≡ Node.Lam x a b → ⊥) → 2 ≡ node_shape n → ⊥
not_lam (Node.Rel i) h e = absurd (omega (arith, e))
not_lam (Node.Var x) h e = absurd (omega (arith, e))
not_lam (Node.Sort s) h e = absurd (omega (arith, e))
not_lam (Node.Prod x a b) h e = absurd (omega (arith, e))
not_lam (Node.Lam x a b) h e = h x a b refl
not_lam (Node.Let x v a b) h e = absurd (omega (arith, e))
not_lam (Node.App f a) h e = absurd (omega (arith, e))
not_lam (Node.Const c) h e = absurd (omega (arith, e))
not_lam (Node.Ind c) h e = absurd (omega (arith, e))
not_lam (Node.Ctor c k) h e = absurd (omega (arith, e))
not_lam (Node.Elim c s) h e = absurd (omega (arith, e))
not_lam (Node.Evar n ts) h e = absurd (omega (arith, e))

pub not_let : (n : Node) → ((x : NameId) (v a b : TermId) → n ≡ Node.Let x v a b → ⊥) → 3 ≡ node_shape n → ⊥
not_let (Node.Rel i) h e = absurd (omega (arith, e))
not_let (Node.Var x) h e = absurd (omega (arith, e))
not_let (Node.Sort s) h e = absurd (omega (arith, e))
not_let (Node.Prod x a b) h e = absurd (omega (arith, e))
not_let (Node.Lam x a b) h e = absurd (omega (arith, e))
not_let (Node.Let x v a b) h e = h x v a b refl
not_let (Node.App f a) h e = absurd (omega (arith, e))
not_let (Node.Const c) h e = absurd (omega (arith, e))
not_let (Node.Ind c) h e = absurd (omega (arith, e))
not_let (Node.Ctor c k) h e = absurd (omega (arith, e))
not_let (Node.Elim c s) h e = absurd (omega (arith, e))
not_let (Node.Evar n ts) h e = absurd (omega (arith, e))

pub not_app : (n : Node) → ((f a : TermId) → n ≡ Node.App f a → ⊥) → 4 ≡ node_shape n → ⊥
not_app (Node.Rel i) h e = absurd (omega (arith, e))
not_app (Node.Var x) h e = absurd (omega (arith, e))
not_app (Node.Sort s) h e = absurd (omega (arith, e))
not_app (Node.Prod x a b) h e = absurd (omega (arith, e))
not_app (Node.Lam x a b) h e = absurd (omega (arith, e))
not_app (Node.Let x v a b) h e = absurd (omega (arith, e))
not_app (Node.App f a) h e = h f a refl
not_app (Node.Const c) h e = absurd (omega (arith, e))
not_app (Node.Ind c) h e = absurd (omega (arith, e))
not_app (Node.Ctor c k) h e = absurd (omega (arith, e))
not_app (Node.Elim c s) h e = absurd (omega (arith, e))
not_app (Node.Evar n ts) h e = absurd (omega (arith, e))

pub no_shape : (n : Node) → ((x : NameId) (a b : TermId) → n ≡ Node.Prod x a b → ⊥) → ((x : NameId) (a b : TermId) → n ≡ Node.Lam x a b → ⊥) → ((x : NameId) (v a b : TermId) → n ≡ Node.Let x v a b → ⊥) → ((f a : TermId) → n ≡ Node.App f a → ⊥) → node_shape n ≡ 0
no_shape (Node.Rel i) p l d q = refl
no_shape (Node.Var x) p l d q = refl
no_shape (Node.Sort s) p l d q = refl
no_shape (Node.Prod x a b) p l d q = absurd (p x a b refl)
no_shape (Node.Lam x a b) p l d q = absurd (l x a b refl)
no_shape (Node.Let x v a b) p l d q = absurd (d x v a b refl)
no_shape (Node.App f a) p l d q = absurd (q f a refl)
no_shape (Node.Const c) p l d q = refl
no_shape (Node.Ind c) p l d q = refl
no_shape (Node.Ctor c k) p l d q = refl
no_shape (Node.Elim c s) p l d q = refl
no_shape (Node.Evar n ts) p l d q = refl

module _ (bank : Terms) (g : Context) (t u : TermId) (m n : Node) (e : node_tree bank m ≡ tree_of bank t) (f : node_tree bank n ≡ tree_of bank u) where
  shapes : (shape (tree_of bank t) ≡ node_shape m) × (shape (tree_of bank u) ≡ node_shape n)
  shapes = (ap shape (sym e) ∙ shape_is bank m, ap shape (sym f) ∙ shape_is bank n)

  -- the first is of a form, and the second is not
  pub other_node : (k : Node) → m ≡ k → 1 ≤ node_shape k → (node_shape k ≡ node_shape n → ⊥) → same_form g (tree_of bank t) (tree_of bank u) ≡ None
  other_node k q l h = forms_differ g (tree_of bank t) (tree_of bank u) (along (λ z. 1 ≤ z) (sym (shapes.0 ∙ ap node_shape q)) l) (λ z. h (sym (shapes.0 ∙ ap node_shape q) ∙ z ∙ shapes.1))

-- both are leaves, or one is of no form
pub leaf_parts : (bank : Terms) (g : Context) (t u : TermId) (m : Node) → node_tree bank m ≡ tree_of bank t → node_shape m ≡ 0 → same_form g (tree_of bank t) (tree_of bank u) ≡ no_parts_if (same_leaf (tree_of bank t) (tree_of bank u))
leaf_parts bank g t u m e h = leaves_formed g (tree_of bank t) (tree_of bank u) (ap shape (sym e) ∙ shape_is bank m ∙ h)

-- ---- leaves

pub other_leaf : (a b : Bool) → a ≡ b → a ≡ false → no_parts_if b ≡ None
unfolding no_parts_if
other_leaf a b e f = ap no_parts_if (sym e ∙ f)

pub one_leaf : (bank : Terms) (g : Context) (f : Form) (a b : Bool) → a ≡ b → a ≡ true → f.pairs.items ≡ [] → f.under ≡ None → FormIs bank g (Some f) (no_parts_if b)
unfolding no_parts_if
one_leaf bank g f a b e k p u =
    along (FormIs bank g (Some f)) (ap no_parts_if (sym k ∙ e))
    (alone_is bank g [] f (Some []) (record { has = tt; are = refl }) p u)

-- ---- two of one form

module _ (bank new : Terms) (g : Context) (f : Form) (T U : Tree) where
  pub product_parts : (x y : Name) (A B C D : TermId) (kinds rests : Pair) → kinds ≡ record { left = A; right = C } → rests ≡ record { left = B; right = D } →
      T ≡ Prod x (tree_of bank A) (tree_of bank B) → U ≡ Prod y (tree_of bank C) (tree_of bank D) →
      IsFormOf new g f (sides g (tree_of bank kinds.left) (tree_of bank kinds.right) ∷ sides (under g (fresh g x) (tree_of bank kinds.left)) (opened (fresh g x) (tree_of bank rests.left)) (opened (fresh g x) (tree_of bank rests.right)) ∷ []) →
      FormIs new g (Some f) (same_form g T U)
  unfolding same_form
  product_parts x y A B C D kinds rests k q e d h =
      listed new g f _ (same_form g T U) h
      (ap₂ (same_form g) e d
      ∙ ap₂ (λ m n. Some (sides g (tree_of bank m.left) (tree_of bank m.right) ∷ sides (under g (fresh g x) (tree_of bank m.left)) (opened (fresh g x) (tree_of bank n.left)) (opened (fresh g x) (tree_of bank n.right)) ∷ [])) (sym k) (sym q))

  pub function_parts : (x y : Name) (A B C D : TermId) (kinds rests : Pair) → kinds ≡ record { left = A; right = C } → rests ≡ record { left = B; right = D } →
      T ≡ Lam x (tree_of bank A) (tree_of bank B) → U ≡ Lam y (tree_of bank C) (tree_of bank D) →
      IsFormOf new g f (sides g (tree_of bank kinds.left) (tree_of bank kinds.right) ∷ sides (under g (fresh g x) (tree_of bank kinds.left)) (opened (fresh g x) (tree_of bank rests.left)) (opened (fresh g x) (tree_of bank rests.right)) ∷ []) →
      FormIs new g (Some f) (same_form g T U)
  unfolding same_form
  function_parts x y A B C D kinds rests k q e d h =
      listed new g f _ (same_form g T U) h
      (ap₂ (same_form g) e d
      ∙ ap₂ (λ m n. Some (sides g (tree_of bank m.left) (tree_of bank m.right) ∷ sides (under g (fresh g x) (tree_of bank m.left)) (opened (fresh g x) (tree_of bank n.left)) (opened (fresh g x) (tree_of bank n.right)) ∷ [])) (sym k) (sym q))

  pub definition_parts : (x y : Name) (V A B W C D : TermId) (values kinds rests : Pair) → values ≡ record { left = V; right = W } → kinds ≡ record { left = A; right = C } → rests ≡ record { left = B; right = D } →
      T ≡ Let x (tree_of bank V) (tree_of bank A) (tree_of bank B) → U ≡ Let y (tree_of bank W) (tree_of bank C) (tree_of bank D) →
      IsFormOf new g f (sides g (tree_of bank values.left) (tree_of bank values.right) ∷ sides g (tree_of bank kinds.left) (tree_of bank kinds.right) ∷ sides (under_let g (fresh g x) (tree_of bank values.left) (tree_of bank kinds.left)) (opened (fresh g x) (tree_of bank rests.left)) (opened (fresh g x) (tree_of bank rests.right)) ∷ []) →
      FormIs new g (Some f) (same_form g T U)
  unfolding same_form
  definition_parts x y V A B W C D values kinds rests v k q e d h =
      listed new g f _ (same_form g T U) h
      (ap₂ (same_form g) e d
      ∙ ap (λ m. Some (sides g (tree_of bank m.left) (tree_of bank m.right) ∷ sides g (tree_of bank A) (tree_of bank C) ∷ sides (under_let g (fresh g x) (tree_of bank m.left) (tree_of bank A)) (opened (fresh g x) (tree_of bank B)) (opened (fresh g x) (tree_of bank D)) ∷ [])) (sym v)
      ∙ ap₂ (λ m n. Some (sides g (tree_of bank values.left) (tree_of bank values.right) ∷ sides g (tree_of bank m.left) (tree_of bank m.right) ∷ sides (under_let g (fresh g x) (tree_of bank values.left) (tree_of bank m.left)) (opened (fresh g x) (tree_of bank n.left)) (opened (fresh g x) (tree_of bank n.right)) ∷ [])) (sym k) (sym q))

pub applied_parts : (g : Context) (T U F A K D : Tree) → T ≡ App F A → U ≡ App K D → application_parts g (spine T []) (spine U []) ≡ same_form g T U
unfolding same_form
applied_parts g T U F A K D e f = ap₂ (λ t u. application_parts g (spine t []) (spine u [])) e f ∙ sym (ap₂ (same_form g) e f)
