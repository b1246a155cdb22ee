-- The laws of spines, and of the look for a family in terms.
use Rattle.std.proofs.Common.{◌≡◌, ◌≤◌, ◌<◌, ◌+◌, ◌∙◌, ℕ, Bool, true, false, refl, sym, ap, arith, List, [], ◌∷◌, ◌++◌, length, map, reverse, get_or, drop, ◌⊎◌, inl, inr}
use Rattle.std.proofs.Common.{subst as along}
use Rattle.std.specs.Prelude.{◌||◌}
use Rattle.std.specs.List.{AllByRecursion}
use Rattle.std.proofs.lemmas.List.{map-append, reverse-append, drop_more}
use Rattle.std.proofs.Math.ListN.{drop_of_length-le}
use Rattle.lq_trees.specs.declared.Sort.{Sort as Universe}
use Rattle.lq_trees.specs.Tree.{Name, Tree, same_name}
use Rattle.lq_trees.specs.Tree.Tree.{App}
use Rattle.lq_trees.specs.Size.{size, sizes}
use Rattle.lq_terms.specs.declared.nodes.TermId.{TermId}
use Rattle.lq_terms.specs.declared.nodes.NameId.{NameId}
use Rattle.lq_terms.specs.declared.nodes.Node.{Node}
use Rattle.lq_terms.specs.Terms.{Terms, HasTerm, IsPart, node_tree, text_of, tree_of, trees_by}
use Rattle.lq_calculus.specs.Contraction.{spine}
use Rattle.lq_calculus.specs.Declarations.{holds, holds_all, any_holds}
use Rattle.lq_env.specs.Spines.{heft}
use Rattle.lq_env.proofs.Loops.{all_push}

-- the tree of a term, by its node
pub tree_is : (bank : Terms) (node other : Node) (t : TermId) → node_tree bank node ≡ tree_of bank t → node ≡ other → tree_of bank t ≡ node_tree bank other
tree_is bank node other t e q = sym e ∙ ap (node_tree bank) q

pub or_assoc : (a b c : Bool) → ((a || b) || c) ≡ (a || (b || c))
or_assoc true b c = refl
or_assoc false b c = refl

pub or_false : (a : Bool) → (a || false) ≡ a
or_false true = refl
or_false false = refl

pub any-append : (c : Name) (xs ys : List Tree) → any_holds c (xs ++ ys) ≡ (any_holds c xs || any_holds c ys)
unfolding any_holds
any-append c [] ys = refl
any-append c (x ∷ xs) ys = ap (λ z. holds c x || z) (any-append c xs ys) ∙ sym (or_assoc (holds c x) (any_holds c xs) (any_holds c ys))

pub heft-append : (xs ys : List Tree) → heft (xs ++ ys) ≡ heft xs + heft ys
heft-append [] ys = omega arith
heft-append (x ∷ xs) ys = omega (arith, heft-append xs ys)

-- the parts of a term in its place
pub put_parts :
    (bank : Terms) (c : Name) (old new parts : List TermId) (t : Tree) → new ≡ old ++ parts → holds c t ≡ any_holds c (map (tree_of bank) parts)
    → any_holds c (map (tree_of bank) new) ≡ (any_holds c (map (tree_of bank) old) || holds c t)
put_parts bank c old new parts t e h =
    ap (λ z. any_holds c (map (tree_of bank) z)) e ∙ ap (any_holds c) (map-append (tree_of bank) old parts) ∙ any-append c (map (tree_of bank) old) (map (tree_of bank) parts)
    ∙ ap (λ z. any_holds c (map (tree_of bank) old) || z) (sym h)

pub put_lighter :
    (bank : Terms) (old new parts : List TermId) (t : Tree) → new ≡ old ++ parts → heft (map (tree_of bank) parts) < size t
    → heft (map (tree_of bank) new) < size t + heft (map (tree_of bank) old)
put_lighter bank old new parts t e h =
    omega (arith, ap (λ z. heft (map (tree_of bank) z)) e, ap heft (map-append (tree_of bank) old parts), heft-append (map (tree_of bank) old) (map (tree_of bank) parts))

-- nodes of two and of three parts
module _ (bank : Terms) (c : Name) (old new : List TermId) (a b : TermId) (node : Node) (term : TermId) (tree : node_tree bank node ≡ tree_of bank term) (e : new ≡ old ++ a ∷ b ∷ []) where
  two : holds c (tree_of bank term) ≡ (holds c (tree_of bank a) || holds c (tree_of bank b)) → any_holds c (map (tree_of bank) new) ≡ (any_holds c (map (tree_of bank) old) || holds c (tree_of bank term))
  unfolding any_holds
  two h = put_parts bank c old new (a ∷ b ∷ []) (tree_of bank term) e (h ∙ ap (λ z. holds c (tree_of bank a) || z) (sym (or_false (holds c (tree_of bank b)))))

  pub found_prod : (x : _) → node ≡ Node.Prod x a b → any_holds c (map (tree_of bank) new) ≡ (any_holds c (map (tree_of bank) old) || holds c (tree_of bank term))
  unfolding holds
  found_prod x q = two (ap (holds c) (tree_is bank node (Node.Prod x a b) term tree q))

  pub found_lam : (x : _) → node ≡ Node.Lam x a b → any_holds c (map (tree_of bank) new) ≡ (any_holds c (map (tree_of bank) old) || holds c (tree_of bank term))
  unfolding holds
  found_lam x q = two (ap (holds c) (tree_is bank node (Node.Lam x a b) term tree q))

  pub found_app : node ≡ Node.App a b → any_holds c (map (tree_of bank) new) ≡ (any_holds c (map (tree_of bank) old) || holds c (tree_of bank term))
  unfolding holds
  found_app q = two (ap (holds c) (tree_is bank node (Node.App a b) term tree q))

  lighter : 1 + size (tree_of bank a) + size (tree_of bank b) ≤ size (tree_of bank term) → heft (map (tree_of bank) new) < size (tree_of bank term) + heft (map (tree_of bank) old)
  lighter l = put_lighter bank old new (a ∷ b ∷ []) (tree_of bank term) e (omega arith)

  pub lighter_prod : (x : _) → node ≡ Node.Prod x a b → heft (map (tree_of bank) new) < size (tree_of bank term) + heft (map (tree_of bank) old)
  lighter_prod x q = lighter (omega (arith, ap size (tree_is bank node (Node.Prod x a b) term tree q)))

  pub lighter_lam : (x : _) → node ≡ Node.Lam x a b → heft (map (tree_of bank) new) < size (tree_of bank term) + heft (map (tree_of bank) old)
  lighter_lam x q = lighter (omega (arith, ap size (tree_is bank node (Node.Lam x a b) term tree q)))

  pub lighter_app : node ≡ Node.App a b → heft (map (tree_of bank) new) < size (tree_of bank term) + heft (map (tree_of bank) old)
  lighter_app q = lighter (omega (arith, ap size (tree_is bank node (Node.App a b) term tree q)))

module _ (bank : Terms) (c : Name) (old new : List TermId) (v a b : TermId) (node : Node) (term : TermId) (tree : node_tree bank node ≡ tree_of bank term) (e : new ≡ old ++ v ∷ a ∷ b ∷ []) where
  pub found_let : (x : _) → node ≡ Node.Let x v a b → any_holds c (map (tree_of bank) new) ≡ (any_holds c (map (tree_of bank) old) || holds c (tree_of bank term))
  unfolding holds any_holds
  found_let x q =
      put_parts bank c old new (v ∷ a ∷ b ∷ []) (tree_of bank term) e
      (ap (holds c) (tree_is bank node (Node.Let x v a b) term tree q) ∙ or_assoc (holds c (tree_of bank v)) (holds c (tree_of bank a)) (holds c (tree_of bank b))
      ∙ ap (λ z. holds c (tree_of bank v) || (holds c (tree_of bank a) || z)) (sym (or_false (holds c (tree_of bank b)))))

  pub lighter_let : (x : _) → node ≡ Node.Let x v a b → heft (map (tree_of bank) new) < size (tree_of bank term) + heft (map (tree_of bank) old)
  lighter_let x q = put_lighter bank old new (v ∷ a ∷ b ∷ []) (tree_of bank term) e (omega (arith, ap size (tree_is bank node (Node.Let x v a b) term tree q)))

pub holds_each : (bank : Terms) (c : Name) (ts : List TermId) → holds_all c (trees_by (tree_of bank) ts) ≡ any_holds c (map (tree_of bank) ts)
unfolding holds_all any_holds
holds_each bank c [] = refl
holds_each bank c (t ∷ ts) = ap (λ z. holds c (tree_of bank t) || z) (holds_each bank c ts)

pub heft_each : (bank : Terms) (ts : List TermId) → heft (map (tree_of bank) ts) ≡ sizes (trees_by (tree_of bank) ts)
heft_each bank [] = refl
heft_each bank (t ∷ ts) = omega (arith, heft_each bank ts)

module _ (bank : Terms) (c : Name) (old new ts : List TermId) (n : ℕ) (node : Node) (term : TermId) (tree : node_tree bank node ≡ tree_of bank term) (e : new ≡ old ++ ts) (q : node ≡ Node.Evar n ts) where
  pub found_evar : any_holds c (map (tree_of bank) new) ≡ (any_holds c (map (tree_of bank) old) || holds c (tree_of bank term))
  unfolding holds
  found_evar = put_parts bank c old new ts (tree_of bank term) e (ap (holds c) (tree_is bank node (Node.Evar n ts) term tree q) ∙ holds_each bank c ts)

  pub lighter_evar : heft (map (tree_of bank) new) < size (tree_of bank term) + heft (map (tree_of bank) old)
  lighter_evar = put_lighter bank old new ts (tree_of bank term) e (omega (arith, heft_each bank ts, ap size (tree_is bank node (Node.Evar n ts) term tree q)))

-- one argument more at the front
pub spine_app : (bank : Terms) (args : List TermId) (f a head : TermId) (whole : Tree × List Tree) → tree_of bank head ≡ App (tree_of bank f) (tree_of bank a)
    → whole ≡ spine (tree_of bank head) (map (tree_of bank) (reverse args)) → whole ≡ spine (tree_of bank f) (map (tree_of bank) (reverse (args ++ a ∷ [])))
unfolding spine
spine_app bank args f a head whole e h =
    h ∙ ap (λ t. spine t (map (tree_of bank) (reverse args))) e ∙ ap (λ z. spine (tree_of bank f) (map (tree_of bank) z)) (sym (reverse-append args (a ∷ [])))

-- a node of two parts that is a product or a function, and one without parts
abbrev pub IsTwo : Node → TermId → TermId → Type 0
IsTwo n a b = ((x : NameId) × (n ≡ Node.Prod x a b)) ⊎ ((x : NameId) × (n ≡ Node.Lam x a b))

abbrev pub IsLeafNode : Node → Type 0
IsLeafNode n =
    ((i : ℕ) × (n ≡ Node.Rel i)) ⊎ (((x : NameId) × (n ≡ Node.Var x)) ⊎ (((s : Universe) × (n ≡ Node.Sort s)) ⊎ (((x : NameId) × (n ≡ Node.Const x))
    ⊎ (((x : NameId) × (k : ℕ) × (n ≡ Node.Ctor x k)) ⊎ ((x : NameId) × (s : Universe) × (n ≡ Node.Elim x s))))))

module _ (bank : Terms) (c : Name) (old new : List TermId) (a b : TermId) (node : Node) (term : TermId) (tree : node_tree bank node ≡ tree_of bank term) (e : new ≡ old ++ a ∷ b ∷ []) where
  pub found_two : IsTwo node a b → any_holds c (map (tree_of bank) new) ≡ (any_holds c (map (tree_of bank) old) || holds c (tree_of bank term))
  found_two (inl p) = found_prod bank c old new a b node term tree e p.0 p.1
  found_two (inr p) = found_lam bank c old new a b node term tree e p.0 p.1

  pub lighter_two : IsTwo node a b → heft (map (tree_of bank) new) < size (tree_of bank term) + heft (map (tree_of bank) old)
  lighter_two (inl p) = lighter_prod bank c old new a b node term tree e p.0 p.1
  lighter_two (inr p) = lighter_lam bank c old new a b node term tree e p.0 p.1

module _ (bank : Terms) (c : Name) (old : List TermId) (node : Node) (term : TermId) (tree : node_tree bank node ≡ tree_of bank term) where
  nothing : holds c (tree_of bank term) ≡ false → any_holds c (map (tree_of bank) old) ≡ (any_holds c (map (tree_of bank) old) || holds c (tree_of bank term))
  nothing h = sym (ap (λ z. any_holds c (map (tree_of bank) old) || z) h ∙ or_false (any_holds c (map (tree_of bank) old)))

  pub found_leaf : IsLeafNode node → any_holds c (map (tree_of bank) old) ≡ (any_holds c (map (tree_of bank) old) || holds c (tree_of bank term))
  unfolding holds
  found_leaf (inl p) = nothing (ap (holds c) (tree_is bank node (Node.Rel p.0) term tree p.1))
  found_leaf (inr (inl p)) = nothing (ap (holds c) (tree_is bank node (Node.Var p.0) term tree p.1))
  found_leaf (inr (inr (inl p))) = nothing (ap (holds c) (tree_is bank node (Node.Sort p.0) term tree p.1))
  found_leaf (inr (inr (inr (inl p)))) = nothing (ap (holds c) (tree_is bank node (Node.Const p.0) term tree p.1))
  found_leaf (inr (inr (inr (inr (inl p))))) = nothing (ap (holds c) (tree_is bank node (Node.Ctor p.0 p.1) term tree p.2))
  found_leaf (inr (inr (inr (inr (inr p))))) = nothing (ap (holds c) (tree_is bank node (Node.Elim p.0 p.1) term tree p.2))

  pub found_family : (d : NameId) (r : Bool) → node ≡ Node.Ind d → r ≡ same_name c (text_of bank d) →
      (r || any_holds c (map (tree_of bank) old)) ≡ (any_holds c (map (tree_of bank) old) || holds c (tree_of bank term))
  unfolding holds
  found_family d r q e =
      or_swap r (any_holds c (map (tree_of bank) old))
      ∙ ap (λ z. any_holds c (map (tree_of bank) old) || z) (e ∙ sym (ap (holds c) (tree_is bank node (Node.Ind d) term tree q)))
    where
      or_swap : (a b : Bool) → (a || b) ≡ (b || a)
      or_swap true true = refl
      or_swap true false = refl
      or_swap false true = refl
      or_swap false false = refl

-- the parts of an instance lie in the bank
pub parts_have : (bank : Terms) (whole : TermId) (ts : List TermId) → AllByRecursion (IsPart bank whole) ts → AllByRecursion (HasTerm bank) ts
parts_have bank whole [] h = tt
parts_have bank whole (t ∷ ts) h = (h.0.has, parts_have bank whole ts h.1)

pub all_both : {X : Type 0} (T : X → Type 0) (xs ys : List X) → AllByRecursion T xs → AllByRecursion T ys → AllByRecursion T (xs ++ ys)
all_both T [] ys h k = k
all_both T (x ∷ xs) ys h k = (h.0, all_both T xs ys h.1 k)

pub all_last : {X : Type 0} (T : X → Type 0) (xs : List X) (x : X) → AllByRecursion T (xs ++ x ∷ []) → T x
all_last T [] x h = h.0
all_last T (y ∷ ys) x h = all_last T ys x h.1

pub all_others : {X : Type 0} (T : X → Type 0) (xs : List X) (x : X) → AllByRecursion T (xs ++ x ∷ []) → AllByRecursion T xs
all_others T [] x h = tt
all_others T (y ∷ ys) x h = (h.0, all_others T ys x h.1)

-- the last of some terms
module _ (bank : Terms) (c : Name) (whole left : List TermId) (t : TermId) (e : whole ≡ left ++ t ∷ []) where
  pub any_last : any_holds c (map (tree_of bank) whole) ≡ (any_holds c (map (tree_of bank) left) || holds c (tree_of bank t))
  unfolding any_holds
  any_last =
      ap (λ z. any_holds c (map (tree_of bank) z)) e ∙ ap (any_holds c) (map-append (tree_of bank) left (t ∷ [])) ∙ any-append c (map (tree_of bank) left) (tree_of bank t ∷ [])
      ∙ ap (λ z. any_holds c (map (tree_of bank) left) || z) (or_false (holds c (tree_of bank t)))

  pub heft_last : heft (map (tree_of bank) whole) ≡ size (tree_of bank t) + heft (map (tree_of bank) left)
  heft_last = omega (arith, ap (λ z. heft (map (tree_of bank) z)) e, ap heft (map-append (tree_of bank) left (t ∷ [])), heft-append (map (tree_of bank) left) (tree_of bank t ∷ []))

pub any_one : (bank : Terms) (c : Name) (ts : List TermId) (t : TermId) → ts ≡ t ∷ [] → any_holds c (map (tree_of bank) ts) ≡ holds c (tree_of bank t)
unfolding any_holds
any_one bank c ts t e = ap (λ z. any_holds c (map (tree_of bank) z)) e ∙ or_false (holds c (tree_of bank t))

pub any_none : (bank : Terms) (c : Name) (ts : List TermId) → ts ≡ [] → any_holds c (map (tree_of bank) ts) ≡ false
unfolding any_holds
any_none bank c ts e = ap (λ z. any_holds c (map (tree_of bank) z)) e

-- the first of the terms that are left
module _ (bank : Terms) (c : Name) (ts : List TermId) (i : ℕ) (d : TermId) (l : i < length ts) where
  pub any_next : any_holds c (map (tree_of bank) (drop i ts)) ≡ (holds c (tree_of bank (get_or ts i d)) || any_holds c (map (tree_of bank) (drop (i + 1) ts)))
  unfolding any_holds
  any_next = ap (λ z. any_holds c (map (tree_of bank) z)) (drop_more ts i d l)

pub any_ended : (bank : Terms) (c : Name) (ts : List TermId) (i : ℕ) → length ts ≤ i → any_holds c (map (tree_of bank) (drop i ts)) ≡ false
any_ended bank c ts i l = any_none bank c (drop i ts) (drop_of_length-le ts l)

abbrev pub no_term : TermId
no_term = record { place = 0 }

-- a term that is no application is its own head
pub spine_stop :
    (bank : Terms) (node : Node) (t : TermId) (args : List Tree) → node_tree bank node ≡ tree_of bank t → ((f a : TermId) → node ≡ Node.App f a → ⊥) → spine (tree_of bank t) args ≡ (tree_of bank t, args)
unfolding spine
spine_stop bank (Node.Rel i) t args e h = ap (λ u. spine u args) (sym e) ∙ ap (λ u. (u, args)) e
spine_stop bank (Node.Var x) t args e h = ap (λ u. spine u args) (sym e) ∙ ap (λ u. (u, args)) e
spine_stop bank (Node.Sort s) t args e h = ap (λ u. spine u args) (sym e) ∙ ap (λ u. (u, args)) e
spine_stop bank (Node.Prod x a b) t args e h = ap (λ u. spine u args) (sym e) ∙ ap (λ u. (u, args)) e
spine_stop bank (Node.Lam x a b) t args e h = ap (λ u. spine u args) (sym e) ∙ ap (λ u. (u, args)) e
spine_stop bank (Node.Let x v a b) t args e h = ap (λ u. spine u args) (sym e) ∙ ap (λ u. (u, args)) e
spine_stop bank (Node.App f a) t args e h = absurd (h f a refl)
spine_stop bank (Node.Const x) t args e h = ap (λ u. spine u args) (sym e) ∙ ap (λ u. (u, args)) e
spine_stop bank (Node.Ind x) t args e h = ap (λ u. spine u args) (sym e) ∙ ap (λ u. (u, args)) e
spine_stop bank (Node.Ctor x k) t args e h = ap (λ u. spine u args) (sym e) ∙ ap (λ u. (u, args)) e
spine_stop bank (Node.Elim x s) t args e h = ap (λ u. spine u args) (sym e) ∙ ap (λ u. (u, args)) e
spine_stop bank (Node.Evar n ts) t args e h = ap (λ u. spine u args) (sym e) ∙ ap (λ u. (u, args)) e

pub all_reversed : {X : Type 0} (T : X → Type 0) (xs : List X) → AllByRecursion T xs → AllByRecursion T (reverse xs)
all_reversed T [] h = tt
all_reversed T (x ∷ xs) h = along (λ z. AllByRecursion T z) (sym (reverse-append (x ∷ []) xs)) (all_push T (reverse xs) x (all_reversed T xs h.1) h.0)
