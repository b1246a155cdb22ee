-- Looks at hypotheses.
use Rattle.std.proofs.Common.{◌≡◌, ◌∙◌, ◌<◌, ◌≤◌, ◌+◌, ℕ, zero, suc, refl, sym, ap, subst, arith, List, [], ◌∷◌, ◌++◌, map, length, reverse, get_or, drop, append_assoc, Option, Some, None, Err, Bool, true, false, ◌||◌, ◌⊎◌, inl, inr}
use Rattle.std.proofs.lemmas.List.{drop_more, drop_all, reverse-append, reverse-reverse, map-append}
use Rattle.std.proofs.lemmas.Grind.{reverse_onto}
use Rattle.std.specs.List.{AllByRecursion}
use Rattle.lq_trees.specs.Tree.{Name, Tree, Context, Hypothesis as TreeHypothesis, same_name}
use Rattle.lq_trees.specs.Tree.Tree.{Var}
use Rattle.lq_trees.specs.declared.Sort.{Sort as Universe}
use Rattle.lq_trees.specs.Size.{size, sizes}
use Rattle.lq_trees.specs.Fresh.{is_listed}
use Rattle.lq_terms.specs.declared.nodes.Hypothesis.{Hypothesis}
use Rattle.lq_terms.specs.declared.nodes.NameId.{NameId}
use Rattle.lq_terms.specs.declared.nodes.TermId.{TermId}
use Rattle.lq_terms.specs.declared.nodes.Node.{Node}
use Rattle.lq_terms.specs.Terms.{Terms, HasName, HasTerm, EachPart, IsPart, text_of, tree_of, trees_by, node_tree}
use Rattle.lq_terms.specs.Contexts.{hypothesis_of, context_of}
use Rattle.lq_calculus.specs.Contraction.{hypothesis}
use Rattle.lq_calculus.specs.Checking.{strange, strange_in}
use Rattle.lq_kernel.specs.declared.faults.KernelFault.{KernelFault}
use Rattle.lq_kernel.specs.Closed.{IsHypothesis, IsContext}
use Rattle.lq_kernel.specs.Steps.{or_else, first_strange, waiting, weight, Looked, Knows}

-- the hypotheses from an index on: the one there, or one of those behind it
module _ (bank : Terms) (hs : List Hypothesis) (i : ℕ) (d : Hypothesis) (x : Name) where
  here : i < length hs → hypothesis (context_of bank (drop i hs)) x
      ≡ elim (same_name (text_of bank (get_or hs i d).name) x) [ true ↦ Some (hypothesis_of bank (get_or hs i d)) | false ↦ hypothesis (context_of bank (drop (i + 1) hs)) x ]
  unfolding hypothesis
  here l = rw (drop_more hs i d l) refl

  pub found_here :
      i < length hs → same_name (text_of bank (get_or hs i d).name) x ≡ true → hypothesis (context_of bank hs) x ≡ hypothesis (context_of bank (drop i hs)) x
      → Some (hypothesis_of bank (get_or hs i d)) ≡ hypothesis (context_of bank hs) x
  found_here l e so_far =
      sym (so_far ∙ here l ∙ ap (λ b. elim b [ true ↦ Some (hypothesis_of bank (get_or hs i d)) | false ↦ hypothesis (context_of bank (drop (i + 1) hs)) x ]) e)

  pub found_later :
      i < length hs → same_name (text_of bank (get_or hs i d).name) x ≡ false → hypothesis (context_of bank hs) x ≡ hypothesis (context_of bank (drop i hs)) x
      → hypothesis (context_of bank hs) x ≡ hypothesis (context_of bank (drop (i + 1) hs)) x
  found_later l e so_far =
      so_far ∙ here l ∙ ap (λ b. elim b [ true ↦ Some (hypothesis_of bank (get_or hs i d)) | false ↦ hypothesis (context_of bank (drop (i + 1) hs)) x ]) e

pub found_nowhere : (bank : Terms) (hs : List Hypothesis) (i : ℕ) (x : Name) → length hs ≤ i → hypothesis (context_of bank hs) x ≡ hypothesis (context_of bank (drop i hs)) x
    → None ≡ hypothesis (context_of bank hs) x
unfolding hypothesis
found_nowhere bank hs i x l so_far = sym (so_far ∙ ap (λ ys. hypothesis (context_of bank ys) x) (drop_all i hs l))

pub scoped_at : (bank : Terms) (hs : List Hypothesis) (i : ℕ) (d : Hypothesis) → IsContext bank hs → i < length hs → IsHypothesis bank (get_or hs i d)
scoped_at bank [] i d p l = absurd (omega arith)
scoped_at bank (h ∷ hs) zero d p l = p.0
scoped_at bank (h ∷ hs) (suc i) d p l = scoped_at bank hs i d p.1 (omega arith)

-- a name is one of a context's exactly where it has a hypothesis
pub listed_some : (g : Context) (x : Name) (h : TreeHypothesis) → hypothesis g x ≡ Some h → is_listed (map (λ k. k.name) g) x ≡ true
unfolding hypothesis is_listed
listed_some [] x h e = absurd cc
listed_some (k ∷ g) x h e = either (same_name k.name x) e (λ f. listed_some g x h f)
  where
    either : (b : Bool) → elim b [ true ↦ Some k | false ↦ hypothesis g x ] ≡ Some h → (hypothesis g x ≡ Some h → is_listed (map (λ k. k.name) g) x ≡ true) → (b || is_listed (map (λ k. k.name) g) x) ≡ true
    either true f m = refl
    either false f m = m f

pub listed_none : (g : Context) (x : Name) → hypothesis g x ≡ None → is_listed (map (λ k. k.name) g) x ≡ false
unfolding hypothesis is_listed
listed_none [] x e = refl
listed_none (k ∷ g) x e = either (same_name k.name x) e (λ f. listed_none g x f)
  where
    either : (b : Bool) → ◌≡◌ {A = Option TreeHypothesis} (elim b [ true ↦ Some k | false ↦ hypothesis g x ]) None → (hypothesis g x ≡ None → is_listed (map (λ k. k.name) g) x ≡ false) → (b || is_listed (map (λ k. k.name) g) x) ≡ false
    either true f m = absurd cc
    either false f m = m f

-- the first strange hypothesis of a tree, by its parts
pub strange_known : (g : Context) (x : Name) (h : TreeHypothesis) → hypothesis g x ≡ Some h → strange (map (λ k. k.name) g) (Var x) ≡ None
unfolding strange
strange_known g x h e = ap (λ b. elim b [ true ↦ None | false ↦ Some x ]) (listed_some g x h e)

pub strange_new : (g : Context) (x : Name) → hypothesis g x ≡ None → strange (map (λ k. k.name) g) (Var x) ≡ Some x
unfolding strange
strange_new g x e = ap (λ b. elim b [ true ↦ None | false ↦ Some x ]) (listed_none g x e)

-- the tree of a term, by its node
pub tree_is : (bank : Terms) (n m : Node) (t : TermId) → node_tree bank n ≡ tree_of bank t → n ≡ m → tree_of bank t ≡ node_tree bank m
tree_is bank n m t e f = sym e ∙ ap (node_tree bank) f

-- a product, an abstraction or an application of these parts
abbrev pub IsTwo : Node → TermId → TermId → Type 0
IsTwo n a b = ((x : NameId) × (n ≡ Node.Prod x a b)) ⊎ (((x : NameId) × (n ≡ Node.Lam x a b)) ⊎ (n ≡ Node.App a b))

first_part : (a b : Option Name) → ◌≡◌ {A = Option Name} (elim a [ Some y ↦ Some y | None ↦ b ]) (or_else a b)
unfolding or_else
first_part None b = refl
first_part (Some x) b = refl

two_parts : (a b : Option Name) → ◌≡◌ {A = Option Name} (elim a [ Some y ↦ Some y | None ↦ b ]) (or_else a (or_else b None))
unfolding or_else
two_parts None None = refl
two_parts None (Some y) = refl
two_parts (Some x) b = refl

three_parts : (a b c : Option Name) → ◌≡◌ {A = Option Name} (elim a [ Some y ↦ Some y | None ↦ elim b [ Some y ↦ Some y | None ↦ c ] ]) (or_else a (or_else b (or_else c None)))
unfolding or_else
three_parts None None None = refl
three_parts None None (Some z) = refl
three_parts None (Some y) c = refl
three_parts (Some x) b c = refl

-- the first strange hypothesis of several trees
or_none : (a : Option Name) → or_else a None ≡ a
unfolding or_else
or_none None = refl
or_none (Some x) = refl

or_or : (a b c : Option Name) → or_else (or_else a b) c ≡ or_else a (or_else b c)
unfolding or_else
or_or None b c = refl
or_or (Some x) b c = refl

module _ (xs : List Name) where
  first-append : (ts us : List Tree) → first_strange xs (ts ++ us) ≡ or_else (first_strange xs ts) (first_strange xs us)
  unfolding first_strange or_else
  first-append [] us = refl
  first-append (t ∷ ts) us = ap (or_else (strange xs t)) (first-append ts us) ∙ sym (or_or (strange xs t) (first_strange xs ts) (first_strange xs us))

  module _ (bank : Terms) where
    -- more on a stack
    waiting-append : (old back : List TermId) → waiting xs bank (old ++ back) ≡ or_else (first_strange xs (map (tree_of bank) (reverse back))) (waiting xs bank old)
    unfolding waiting
    waiting-append old back =
        ap (λ z. first_strange xs (map (tree_of bank) z)) (reverse-append old back) ∙ ap (first_strange xs) (map-append (tree_of bank) (reverse back) (reverse old))
        ∙ first-append (map (tree_of bank) (reverse back)) (map (tree_of bank) (reverse old))

    -- a term's parts on it
    pub looked : (old new back : List TermId) (T : Tree) → new ≡ old ++ back → strange xs T ≡ first_strange xs (map (tree_of bank) (reverse back)) → Looked bank xs None T old new
    looked old new back T e h = ap (waiting xs bank) e ∙ waiting-append old back ∙ ap (λ z. or_else z (waiting xs bank old)) (sym h)

    pub looked_leaf : (old : List TermId) (T : Tree) → strange xs T ≡ None → Looked bank xs None T old old
    unfolding or_else
    looked_leaf old T h = sym (ap (λ z. or_else z (waiting xs bank old)) h)

    -- the term on top
    pub waiting_top : (whole left : List TermId) (t : TermId) → whole ≡ left ++ t ∷ [] → waiting xs bank whole ≡ or_else (strange xs (tree_of bank t)) (waiting xs bank left)
    unfolding first_strange
    waiting_top whole left t e = ap (waiting xs bank) e ∙ waiting-append left (t ∷ []) ∙ ap (λ z. or_else z (waiting xs bank left)) (or_none (strange xs (tree_of bank t)))

    pub waiting_one : (whole : List TermId) (t : TermId) → whole ≡ t ∷ [] → waiting xs bank whole ≡ strange xs (tree_of bank t)
    unfolding waiting first_strange
    waiting_one whole t e = ap (waiting xs bank) e ∙ or_none (strange xs (tree_of bank t))

    pub waiting_none : (whole : List TermId) → whole ≡ [] → waiting xs bank whole ≡ None
    unfolding waiting first_strange
    waiting_none whole e = ap (waiting xs bank) e

    -- what is found on top
    pub waiting_found : (whole left new : List TermId) (t x : _) (y : NameId) → whole ≡ left ++ t ∷ [] → Looked bank xs (Some y) (tree_of bank t) left new → waiting xs bank whole ≡ x → Some (text_of bank y) ≡ x
    unfolding or_else
    waiting_found whole left new t x y e h w = sym (ap (λ z. or_else z (waiting xs bank left)) h.1) ∙ sym (waiting_top whole left t e) ∙ w

    pub waiting_on : (whole left new : List TermId) (t x : _) → whole ≡ left ++ t ∷ [] → Looked bank xs None (tree_of bank t) left new → waiting xs bank whole ≡ x → waiting xs bank new ≡ x
    waiting_on whole left new t x e h w = h ∙ sym (waiting_top whole left t e) ∙ w

    -- the parts of a node
    pub parts_two : (n : Node) (t a b : TermId) → node_tree bank n ≡ tree_of bank t → IsTwo n a b → strange xs (tree_of bank t) ≡ first_strange xs (map (tree_of bank) (a ∷ b ∷ []))
    unfolding strange first_strange or_else
    parts_two n t a b e (inl p) = ap (strange xs) (tree_is bank n (Node.Prod p.0 a b) t e p.1) ∙ two_parts (strange xs (tree_of bank a)) (strange xs (tree_of bank b))
    parts_two n t a b e (inr (inl p)) = ap (strange xs) (tree_is bank n (Node.Lam p.0 a b) t e p.1) ∙ two_parts (strange xs (tree_of bank a)) (strange xs (tree_of bank b))
    parts_two n t a b e (inr (inr p)) = ap (strange xs) (tree_is bank n (Node.App a b) t e p) ∙ two_parts (strange xs (tree_of bank a)) (strange xs (tree_of bank b))

    pub parts_three : (n : Node) (t v a b : TermId) (x : NameId) → node_tree bank n ≡ tree_of bank t → n ≡ Node.Let x v a b → strange xs (tree_of bank t) ≡ first_strange xs (map (tree_of bank) (v ∷ a ∷ b ∷ []))
    unfolding strange first_strange or_else
    parts_three n t v a b x e p = ap (strange xs) (tree_is bank n (Node.Let x v a b) t e p) ∙ three_parts (strange xs (tree_of bank v)) (strange xs (tree_of bank a)) (strange xs (tree_of bank b))

    each_part : (ts : List TermId) → strange_in xs (trees_by (tree_of bank) ts) ≡ first_strange xs (map (tree_of bank) ts)
    unfolding strange_in first_strange
    each_part [] = refl
    each_part (t ∷ ts) = first_part (strange xs (tree_of bank t)) (strange_in xs (trees_by (tree_of bank) ts)) ∙ ap (or_else (strange xs (tree_of bank t))) (each_part ts)

    pub parts_each : (n : Node) (t : TermId) (ts : List TermId) (k : ℕ) → node_tree bank n ≡ tree_of bank t → n ≡ Node.Evar k ts → strange xs (tree_of bank t) ≡ first_strange xs (map (tree_of bank) (reverse (reverse ts)))
    unfolding strange
    parts_each n t ts k e p = ap (strange xs) (tree_is bank n (Node.Evar k ts) t e p) ∙ each_part ts ∙ ap (λ z. first_strange xs (map (tree_of bank) z)) (sym (reverse-reverse ts))

-- how large the terms of a stack are
module _ (tree : TermId → Tree) where
  weight-append : (ts us : List TermId) → weight tree (ts ++ us) ≡ weight tree ts + weight tree us
  weight-append [] us = omega arith
  weight-append (t ∷ ts) us = omega (arith, weight-append ts us)

  pub weight-reverse : (ts : List TermId) → weight tree (reverse ts) ≡ weight tree ts
  weight-reverse [] = refl
  weight-reverse (t ∷ ts) = omega (arith, ap (weight tree) (reverse_onto ts t []), weight-append (reverse ts) (t ∷ []), weight-reverse ts)

  pub weight_top : (whole left : List TermId) (t : TermId) → whole ≡ left ++ t ∷ [] → weight tree whole ≡ size (tree t) + weight tree left
  weight_top whole left t e = omega (arith, ap (weight tree) e, weight-append left (t ∷ []))

  pub lighter : (old new back : List TermId) (T : Tree) → new ≡ old ++ back → weight tree back < size T → weight tree new < size T + weight tree old
  lighter old new back T e h = omega (arith, ap (weight tree) e, weight-append old back)

pub weight_each : (bank : Terms) (ts : List TermId) → weight (tree_of bank) ts ≡ sizes (trees_by (tree_of bank) ts)
weight_each bank [] = refl
weight_each bank (t ∷ ts) = omega (arith, weight_each bank ts)

pub light_two : (bank : Terms) (n : Node) (t a b : TermId) → node_tree bank n ≡ tree_of bank t → IsTwo n a b → weight (tree_of bank) (b ∷ a ∷ []) < size (tree_of bank t)
light_two bank n t a b e (inl p) = omega (arith, ap size (tree_is bank n (Node.Prod p.0 a b) t e p.1))
light_two bank n t a b e (inr (inl p)) = omega (arith, ap size (tree_is bank n (Node.Lam p.0 a b) t e p.1))
light_two bank n t a b e (inr (inr p)) = omega (arith, ap size (tree_is bank n (Node.App a b) t e p))

pub light_three : (bank : Terms) (n : Node) (t v a b : TermId) (x : NameId) → node_tree bank n ≡ tree_of bank t → n ≡ Node.Let x v a b → weight (tree_of bank) (b ∷ a ∷ v ∷ []) < size (tree_of bank t)
light_three bank n t v a b x e p = omega (arith, ap size (tree_is bank n (Node.Let x v a b) t e p))

pub light_each : (bank : Terms) (n : Node) (t : TermId) (ts : List TermId) (k : ℕ) → node_tree bank n ≡ tree_of bank t → n ≡ Node.Evar k ts → weight (tree_of bank) (reverse ts) < size (tree_of bank t)
light_each bank n t ts k e p = omega (arith, ap size (tree_is bank n (Node.Evar k ts) t e p), weight-reverse (tree_of bank) ts, weight_each bank ts)

-- the bank has the terms of a stack
module _ (bank : Terms) where
  pub has_append : (ts us : List TermId) → AllByRecursion (HasTerm bank) ts → AllByRecursion (HasTerm bank) us → AllByRecursion (HasTerm bank) (ts ++ us)
  has_append [] us h k = k
  has_append (t ∷ ts) us h k = (h.0, has_append ts us h.1 k)

  pub has_reverse : (ts : List TermId) → AllByRecursion (HasTerm bank) ts → AllByRecursion (HasTerm bank) (reverse ts)
  has_reverse [] h = tt
  has_reverse (t ∷ ts) h = subst (AllByRecursion (HasTerm bank)) (sym (reverse_onto ts t [])) (has_append (reverse ts) (t ∷ []) (has_reverse ts h.1) (h.0, tt))

  pub has_top : (ts : List TermId) (t : TermId) → AllByRecursion (HasTerm bank) (ts ++ t ∷ []) → HasTerm bank t
  has_top [] t h = h.0
  has_top (u ∷ us) t h = has_top us t h.1

  pub has_left : (ts : List TermId) (t : TermId) → AllByRecursion (HasTerm bank) (ts ++ t ∷ []) → AllByRecursion (HasTerm bank) ts
  has_left [] t h = tt
  has_left (u ∷ us) t h = (h.0, has_left us t h.1)

  pub has_whole : (whole left : List TermId) (t : TermId) → whole ≡ left ++ t ∷ [] → AllByRecursion (HasTerm bank) whole → HasTerm bank t × AllByRecursion (HasTerm bank) left
  has_whole whole left t e h = let k : AllByRecursion (HasTerm bank) (left ++ t ∷ []) = subst (AllByRecursion (HasTerm bank)) e h in (has_top left t k, has_left left t k)

  pub has_put : (old new back : List TermId) → new ≡ old ++ back → AllByRecursion (HasTerm bank) old → AllByRecursion (HasTerm bank) back → AllByRecursion (HasTerm bank) new
  has_put old new back e h k = subst (AllByRecursion (HasTerm bank)) (sym e) (has_append old back h k)

  has_parts : (whole : TermId) (ts : List TermId) → AllByRecursion (IsPart bank whole) ts → AllByRecursion (HasTerm bank) ts
  has_parts whole [] h = tt
  has_parts whole (t ∷ ts) h = (h.0.has, has_parts whole ts h.1)

  pub has_each : (n : Node) (t : TermId) (ts : List TermId) (k : ℕ) → EachPart (HasName bank) (IsPart bank t) n → n ≡ Node.Evar k ts → AllByRecursion (HasTerm bank) (reverse ts)
  has_each n t ts k h e = has_reverse ts (has_parts t ts (subst (EachPart (HasName bank) (IsPart bank t)) e h))

-- what is on a stack of which so many are still to be put on it
pub pushed_first : (ts old new : List TermId) (i : ℕ) (d : TermId) → i < length ts → new ≡ old ++ reverse (drop (i + 1) ts) → new ++ get_or ts i d ∷ [] ≡ old ++ reverse (drop i ts)
pushed_first ts old new i d l e =
    ap (λ z. z ++ get_or ts i d ∷ []) e ∙ append_assoc old (reverse (drop (i + 1) ts)) (get_or ts i d ∷ []) ∙ ap (λ z. old ++ z) (sym (reverse_onto (drop (i + 1) ts) (get_or ts i d) []) ∙ sym (ap reverse (drop_more ts i d l)))

-- the look for a strange hypothesis, told as the kernel does
pub knows_by : (bank : Terms) (xs : List Name) (T : Tree) (y : NameId) → Some (text_of bank y) ≡ strange xs T → HasName bank y → Knows bank (Err (KernelFault.Unbound y)) xs T
knows_by bank xs T y e h = (h, sym e)

-- the names of a context
abbrev pub names_in : Context → List Name
names_in g = map (λ h. h.name) g

pub two_of : (n : Node) (a b : TermId) → ((x : NameId) × (n ≡ Node.Prod x a b)) ⊎ ((x : NameId) × (n ≡ Node.Lam x a b)) → IsTwo n a b
two_of n a b (inl p) = inl p
two_of n a b (inr p) = inr (inl p)

-- a leaf that is no hypothesis
pub leaf_none : (bank : Terms) (xs : List Name) (n : Node) (t : TermId) → node_tree bank n ≡ tree_of bank t
    → ((i : ℕ) × (n ≡ Node.Rel i)) ⊎ (((s : Universe) × (n ≡ Node.Sort s)) ⊎ (((x : NameId) × (n ≡ Node.Const x)) ⊎ (((x : NameId) × (n ≡ Node.Ind x)) ⊎ (((x : NameId) × (k : ℕ) × (n ≡ Node.Ctor x k)) ⊎ ((x : NameId) × (s : Universe) × (n ≡ Node.Elim x s))))))
    → strange xs (tree_of bank t) ≡ None
unfolding strange
leaf_none bank xs n t e (inl p) = ap (strange xs) (tree_is bank n (Node.Rel p.0) t e p.1)
leaf_none bank xs n t e (inr (inl p)) = ap (strange xs) (tree_is bank n (Node.Sort p.0) t e p.1)
leaf_none bank xs n t e (inr (inr (inl p))) = ap (strange xs) (tree_is bank n (Node.Const p.0) t e p.1)
leaf_none bank xs n t e (inr (inr (inr (inl p)))) = ap (strange xs) (tree_is bank n (Node.Ind p.0) t e p.1)
leaf_none bank xs n t e (inr (inr (inr (inr (inl p))))) = ap (strange xs) (tree_is bank n (Node.Ctor p.0 p.1) t e p.2)
leaf_none bank xs n t e (inr (inr (inr (inr (inr p))))) = ap (strange xs) (tree_is bank n (Node.Elim p.0 p.1) t e p.2)

-- a hypothesis of the context, and one that is strange to it
pub var_known : (bank : Terms) (g : Context) (n : Node) (t : TermId) (x : NameId) (h : TreeHypothesis) → node_tree bank n ≡ tree_of bank t → n ≡ Node.Var x → Some h ≡ hypothesis g (text_of bank x) → strange (names_in g) (tree_of bank t) ≡ None
var_known bank g n t x h e i f = ap (strange (names_in g)) (tree_is bank n (Node.Var x) t e i) ∙ strange_known g (text_of bank x) h (sym f)

pub var_new : (bank : Terms) (g : Context) (n : Node) (t : TermId) (x : NameId) → node_tree bank n ≡ tree_of bank t → n ≡ Node.Var x → None ≡ hypothesis g (text_of bank x) → strange (names_in g) (tree_of bank t) ≡ Some (text_of bank x)
var_new bank g n t x e i f = ap (strange (names_in g)) (tree_is bank n (Node.Var x) t e i) ∙ strange_new g (text_of bank x) (sym f)
