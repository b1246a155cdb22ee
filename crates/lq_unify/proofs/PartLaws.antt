-- The parts of a term by its node, and a term with other parts.
use Rattle.std.proofs.Common.{◌≡◌, ◌∙◌, ℕ, refl, sym, ap, arith, List, [], ◌∷◌, map, length, slice_index_or, ◌⊎◌, inl, inr}
use Rattle.std.proofs.Common.{subst as along}
use Rattle.std.specs.Prelude.{Result, Ok, Err, IfOk}
use Rattle.std.specs.List.{AllByRecursion}
use Rattle.lq_trees.specs.declared.Sort.{Sort as Universe}
use Rattle.lq_trees.specs.Tree.{Tree, Trees}
use Rattle.lq_trees.specs.Tree.Tree.{Evar}
use Rattle.lq_trees.specs.Reading.{entries}
use Rattle.lq_terms.specs.declared.nodes.NameId.{NameId}
use Rattle.lq_terms.specs.declared.nodes.TermId.{TermId}
use Rattle.lq_terms.specs.declared.nodes.Node.{Node}
use Rattle.lq_terms.specs.Terms.{Terms, HasTerm, IsPart, node_tree, tree_of, trees_by}
use Rattle.lq_solving.specs.Stores.{instance_list}
use Rattle.lq_unify.specs.Parts.{parts_of, with_parts}

-- the tree of a term, by its node
pub tree_is : (bank : Terms) (node other : Node) (t : TermId) → node_tree bank node ≡ tree_of bank t → node ≡ other → tree_of bank t ≡ node_tree bank other
tree_is bank node other t e q = sym e ∙ ap (node_tree bank) q

pub entries_map : (bank : Terms) (ts : List TermId) → entries (trees_by (tree_of bank) ts) ≡ map (tree_of bank) ts
unfolding entries
entries_map bank [] = refl
entries_map bank (t ∷ ts) = ap (λ us. tree_of bank t ∷ us) (entries_map bank ts)

pub instance_map : (bank : Terms) (ts : List TermId) → instance_list (map (tree_of bank) ts) ≡ trees_by (tree_of bank) ts
unfolding instance_list
instance_map bank [] = refl
instance_map bank (t ∷ ts) = ap (Trees.more (tree_of bank t)) (instance_map bank ts)

-- the parts of an instance lie in the bank
pub parts_have : (bank : Terms) (whole : TermId) (ts : List TermId) → AllByRecursion (IsPart bank whole) ts → AllByRecursion (HasTerm bank) ts
parts_have bank whole [] h = tt
parts_have bank whole (t ∷ ts) h = (h.0.has, parts_have bank whole ts h.1)

-- lists of two and of three
pub two_listed : (ps : List TermId) (d : TermId) → length ps ≡ 2 → ps ≡ slice_index_or ps 0 d ∷ slice_index_or ps 1 d ∷ []
two_listed [] d e = absurd (omega (arith, e))
two_listed (a ∷ []) d e = absurd (omega (arith, e))
two_listed (a ∷ b ∷ []) d e = refl
two_listed (a ∷ b ∷ c ∷ ps) d e = absurd (omega (arith, e))

pub three_listed : (ps : List TermId) (d : TermId) → length ps ≡ 3 → ps ≡ slice_index_or ps 0 d ∷ slice_index_or ps 1 d ∷ slice_index_or ps 2 d ∷ []
three_listed [] d e = absurd (omega (arith, e))
three_listed (a ∷ []) d e = absurd (omega (arith, e))
three_listed (a ∷ b ∷ []) d e = absurd (omega (arith, e))
three_listed (a ∷ b ∷ c ∷ []) d e = refl
three_listed (a ∷ b ∷ c ∷ f ∷ ps) d e = absurd (omega (arith, e))

module _ (bank : Terms) (node : Node) (t : TermId) (e : node_tree bank node ≡ tree_of bank t) where
  pub parts_prod : (x : NameId) (a b : TermId) → node ≡ Node.Prod x a b → map (tree_of bank) (a ∷ b ∷ []) ≡ parts_of (tree_of bank t)
  unfolding parts_of
  parts_prod x a b q = sym (ap parts_of (tree_is bank node (Node.Prod x a b) t e q))

  pub parts_lam : (x : NameId) (a b : TermId) → node ≡ Node.Lam x a b → map (tree_of bank) (a ∷ b ∷ []) ≡ parts_of (tree_of bank t)
  unfolding parts_of
  parts_lam x a b q = sym (ap parts_of (tree_is bank node (Node.Lam x a b) t e q))

  pub parts_let : (x : NameId) (v a b : TermId) → node ≡ Node.Let x v a b → map (tree_of bank) (v ∷ a ∷ b ∷ []) ≡ parts_of (tree_of bank t)
  unfolding parts_of
  parts_let x v a b q = sym (ap parts_of (tree_is bank node (Node.Let x v a b) t e q))

  pub parts_app : (a b : TermId) → node ≡ Node.App a b → map (tree_of bank) (a ∷ b ∷ []) ≡ parts_of (tree_of bank t)
  unfolding parts_of
  parts_app a b q = sym (ap parts_of (tree_is bank node (Node.App a b) t e q))

  pub parts_evar : (n : ℕ) (ts : List TermId) → node ≡ Node.Evar n ts → map (tree_of bank) ts ≡ parts_of (tree_of bank t)
  unfolding parts_of
  parts_evar n ts q = sym (ap parts_of (tree_is bank node (Node.Evar n ts) t e q) ∙ entries_map bank ts)

  -- ---- a term with other parts

  module _ (ps : List TermId) (h : length ps ≡ length (parts_of (tree_of bank t))) where
    pub many_prod : (x : NameId) (a b : TermId) → node ≡ Node.Prod x a b → length ps ≡ 2
    many_prod x a b q = h ∙ ap length (sym (parts_prod x a b q))

    pub many_lam : (x : NameId) (a b : TermId) → node ≡ Node.Lam x a b → length ps ≡ 2
    many_lam x a b q = h ∙ ap length (sym (parts_lam x a b q))

    pub many_let : (x : NameId) (v a b : TermId) → node ≡ Node.Let x v a b → length ps ≡ 3
    many_let x v a b q = h ∙ ap length (sym (parts_let x v a b q))

    pub many_app : (a b : TermId) → node ≡ Node.App a b → length ps ≡ 2
    many_app a b q = h ∙ ap length (sym (parts_app a b q))

    pub prod_made : (x : NameId) (a b d : TermId) → node ≡ Node.Prod x a b → node_tree bank (Node.Prod x (slice_index_or ps 0 d) (slice_index_or ps 1 d)) ≡ with_parts (tree_of bank t) (map (tree_of bank) ps)
    unfolding with_parts
    prod_made x a b d q =
        sym (ap (λ T. with_parts T (map (tree_of bank) ps)) (tree_is bank node (Node.Prod x a b) t e q)
        ∙ ap (λ qs. with_parts (node_tree bank (Node.Prod x a b)) (map (tree_of bank) qs)) (two_listed ps d (many_prod x a b q)))

    pub lam_made : (x : NameId) (a b d : TermId) → node ≡ Node.Lam x a b → node_tree bank (Node.Lam x (slice_index_or ps 0 d) (slice_index_or ps 1 d)) ≡ with_parts (tree_of bank t) (map (tree_of bank) ps)
    unfolding with_parts
    lam_made x a b d q =
        sym (ap (λ T. with_parts T (map (tree_of bank) ps)) (tree_is bank node (Node.Lam x a b) t e q)
        ∙ ap (λ qs. with_parts (node_tree bank (Node.Lam x a b)) (map (tree_of bank) qs)) (two_listed ps d (many_lam x a b q)))

    pub let_made : (x : NameId) (v a b d : TermId) → node ≡ Node.Let x v a b →
        node_tree bank (Node.Let x (slice_index_or ps 0 d) (slice_index_or ps 1 d) (slice_index_or ps 2 d)) ≡ with_parts (tree_of bank t) (map (tree_of bank) ps)
    unfolding with_parts
    let_made x v a b d q =
        sym (ap (λ T. with_parts T (map (tree_of bank) ps)) (tree_is bank node (Node.Let x v a b) t e q)
        ∙ ap (λ qs. with_parts (node_tree bank (Node.Let x v a b)) (map (tree_of bank) qs)) (three_listed ps d (many_let x v a b q)))

    pub app_made : (a b d : TermId) → node ≡ Node.App a b → node_tree bank (Node.App (slice_index_or ps 0 d) (slice_index_or ps 1 d)) ≡ with_parts (tree_of bank t) (map (tree_of bank) ps)
    unfolding with_parts
    app_made a b d q =
        sym (ap (λ T. with_parts T (map (tree_of bank) ps)) (tree_is bank node (Node.App a b) t e q)
        ∙ ap (λ qs. with_parts (node_tree bank (Node.App a b)) (map (tree_of bank) qs)) (two_listed ps d (many_app a b q)))

    pub evar_made : (n : ℕ) (ts : List TermId) → node ≡ Node.Evar n ts → Evar n (trees_by (tree_of bank) ps) ≡ with_parts (tree_of bank t) (map (tree_of bank) ps)
    unfolding with_parts
    evar_made n ts q = sym (ap (λ T. with_parts T (map (tree_of bank) ps)) (tree_is bank node (Node.Evar n ts) t e q) ∙ ap (Evar n) (instance_map bank ps))

-- a node without parts
abbrev pub IsLeaf : Node → Type 0
IsLeaf (Node.Rel i) = Unit {0}
IsLeaf (Node.Var x) = Unit {0}
IsLeaf (Node.Sort s) = Unit {0}
IsLeaf (Node.Prod x a b) = ⊥
IsLeaf (Node.Lam x a b) = ⊥
IsLeaf (Node.Let x v a b) = ⊥
IsLeaf (Node.App a b) = ⊥
IsLeaf (Node.Const x) = Unit {0}
IsLeaf (Node.Ind x) = Unit {0}
IsLeaf (Node.Ctor x k) = Unit {0}
IsLeaf (Node.Elim x s) = Unit {0}
IsLeaf (Node.Evar n ts) = ⊥

leaf_parts : (bank : Terms) (n : Node) → IsLeaf n → [] ≡ parts_of (node_tree bank n)
unfolding parts_of
leaf_parts bank (Node.Rel i) h = refl
leaf_parts bank (Node.Var x) h = refl
leaf_parts bank (Node.Sort s) h = refl
leaf_parts bank (Node.Prod x a b) h = absurd h
leaf_parts bank (Node.Lam x a b) h = absurd h
leaf_parts bank (Node.Let x v a b) h = absurd h
leaf_parts bank (Node.App a b) h = absurd h
leaf_parts bank (Node.Const x) h = refl
leaf_parts bank (Node.Ind x) h = refl
leaf_parts bank (Node.Ctor x k) h = refl
leaf_parts bank (Node.Elim x s) h = refl
leaf_parts bank (Node.Evar n ts) h = absurd h

leaf_with : (bank : Terms) (n : Node) (us : List Tree) → IsLeaf n → node_tree bank n ≡ with_parts (node_tree bank n) us
unfolding with_parts
leaf_with bank (Node.Rel i) us h = refl
leaf_with bank (Node.Var x) us h = refl
leaf_with bank (Node.Sort s) us h = refl
leaf_with bank (Node.Prod x a b) us h = absurd h
leaf_with bank (Node.Lam x a b) us h = absurd h
leaf_with bank (Node.Let x v a b) us h = absurd h
leaf_with bank (Node.App a b) us h = absurd h
leaf_with bank (Node.Const x) us h = refl
leaf_with bank (Node.Ind x) us h = refl
leaf_with bank (Node.Ctor x k) us h = refl
leaf_with bank (Node.Elim x s) us h = refl
leaf_with bank (Node.Evar n ts) us h = absurd h

-- a node that is one of those without parts
abbrev pub IsLeafNode : Node → Type 0
IsLeafNode n =
    ((i : ℕ) × (n ≡ Node.Rel i)) ⊎ (((x : NameId) × (n ≡ Node.Var x)) ⊎ (((s : Universe) × (n ≡ Node.Sort s)) ⊎ (((x : NameId) × (n ≡ Node.Const x))
    ⊎ (((x : NameId) × (n ≡ Node.Ind x)) ⊎ (((x : NameId) × (k : ℕ) × (n ≡ Node.Ctor x k)) ⊎ ((x : NameId) × (s : Universe) × (n ≡ Node.Elim x s)))))))

pub leaf_is : (n : Node) → IsLeafNode n → (m : Node) × (n ≡ m) × IsLeaf m
leaf_is n (inl p) = (Node.Rel p.0, p.1, tt)
leaf_is n (inr (inl p)) = (Node.Var p.0, p.1, tt)
leaf_is n (inr (inr (inl p))) = (Node.Sort p.0, p.1, tt)
leaf_is n (inr (inr (inr (inl p)))) = (Node.Const p.0, p.1, tt)
leaf_is n (inr (inr (inr (inr (inl p))))) = (Node.Ind p.0, p.1, tt)
leaf_is n (inr (inr (inr (inr (inr (inl p)))))) = (Node.Ctor p.0 p.1, p.2, tt)
leaf_is n (inr (inr (inr (inr (inr (inr p)))))) = (Node.Elim p.0 p.1, p.2, tt)

pub no_parts : (bank : Terms) (node : Node) (t : TermId) (ts : List TermId) → node_tree bank node ≡ tree_of bank t → IsLeafNode node → ts ≡ [] → map (tree_of bank) ts ≡ parts_of (tree_of bank t)
no_parts bank node t ts e q p =
    let m = leaf_is node q in
    ap (map (tree_of bank)) p ∙ leaf_parts bank m.0 m.2 ∙ ap parts_of (sym (tree_is bank node m.0 t e m.1))

pub leaf_made : (bank : Terms) (node : Node) (t : TermId) (us : List Tree) → node_tree bank node ≡ tree_of bank t → IsLeafNode node → tree_of bank t ≡ with_parts (tree_of bank t) us
leaf_made bank node t us e q = let m = leaf_is node q in along (λ T. T ≡ with_parts T us) (sym (tree_is bank node m.0 t e m.1)) (leaf_with bank m.0 us m.2)

-- parts that a call answers
pub if_parts : {V E : Type 0} (bank : Terms) (r : Result V E) (items : V → List TermId) (ts : List TermId) (T : Tree) → IfOk r (λ v. items v ≡ ts) → map (tree_of bank) ts ≡ parts_of T → IfOk r (λ v. map (tree_of bank) (items v) ≡ parts_of T)
if_parts bank (Ok v) items ts T h e = ap (map (tree_of bank)) h ∙ e
if_parts bank (Err x) items ts T h e = tt
