-- The nodes of a bank: each stands once, and no two terms have one tree.
use Rattle.std.proofs.Common.{◌≡◌, ◌≢◌, ◌∙◌, ℕ, zero, suc, ◌<◌, ◌≤◌, Bool, true, List, [], ◌∷◌, ◌++◌, length, take, slice_get, Some, refl, sym, ap, subst, arith}
use Rattle.std.specs.List.{AllByRecursion, IsDistinct}
use Rattle.lq_trees.specs.Tree.{Tree}
use Rattle.lq_terms.specs.contracts.nodes.InstancePartialEq.TheImpl as instance_comparison
use Rattle.lq_terms.specs.contracts.nodes.NodePartialEq.TheImpl as node_comparison
use Rattle.lq_terms.specs.declared.nodes.NameId.{NameId}
use Rattle.lq_terms.specs.declared.nodes.TermId.{TermId}
use Rattle.lq_terms.specs.declared.nodes.Node.{Node}
use Rattle.std.proofs.lemmas.List.{length-map, length-take}
use Rattle.std.proofs.lemmas.Option.{slice_get_within}
use Rattle.lq_terms.specs.Terms.{Terms, IsTerm, IsPart, HasParts, HasName, HasTerm, EachPart, trees_by, node_by, text_of, tree_of, node_tree}
use Rattle.lq_terms.specs.Shapes.{AreDistinct}
use Rattle.lq_terms.specs.Sound.{Entry, IsSound, bank_of, nodes_of}
use Rattle.indexmap.specs.IndexMap.{insert_entry}
use Rattle.lq_terms.specs.declared.entries.Kept.{Kept}
use Rattle.lq_terms.proofs.Keys.{distinct_keys, insert_absent}
use Rattle.lq_terms.proofs.Trees.{EachPart-weaker}
use Rattle.lq_terms.proofs.Banks.{entry_node, node_is, parts_are, found_term, same_text, slice_get-take}
use Rattle.lq_terms.proofs.ClassLaws.{entry_of}

-- what `==` answers of two nodes
abbrev pub nodes_eq : Node → Node → Bool
nodes_eq = (node_comparison.ghosts).eq

instances_exact : (ts us : List TermId) → (instance_comparison.ghosts).eq ts us ≡ true → ts ≡ us
instances_exact [] [] h = refl
instances_exact [] (u ∷ us) h = cc
instances_exact (t ∷ ts) [] h = cc
instances_exact (t ∷ ts) (u ∷ us) h = let rest : (instance_comparison.ghosts).eq ts us ≡ true → ts ≡ us = instances_exact ts us in grind (arith, rest)

evar_exact : (m n : ℕ) (ts us : List TermId) → nodes_eq (Node.Evar m ts) (Node.Evar n us) ≡ true → Node.Evar m ts ≡ Node.Evar n us
evar_exact m n ts us h =
    let both : (m ≡ n) × ((instance_comparison.ghosts).eq ts us ≡ true) = grind arith in
    let parts : ts ≡ us = instances_exact ts us both.1 in
    cc

pub exact : (a b : Node) → nodes_eq a b ≡ true → a ≡ b
exact a b h = grind (arith, evar_exact)

-- a node is equal to itself
instances_own : (ts : List TermId) → (instance_comparison.ghosts).eq ts ts ≡ true
instances_own [] = refl
instances_own (t ∷ ts) = let rest : (instance_comparison.ghosts).eq ts ts ≡ true = instances_own ts in grind (arith, rest)

pub own : (a : Node) → nodes_eq a a ≡ true
own a = grind (arith, instances_own)

pub distinct_nodes : (nodes : List Node) → IsDistinct nodes_eq nodes → AreDistinct nodes
distinct_nodes = distinct_keys nodes_eq own

-- a node that stands at a place is not among the earlier ones
pub taken_absent : {X : Type 0} (xs ys : List X) (i k : ℕ) (x y : X) → AreDistinct xs → slice_get xs i ≡ Some x → ys ≡ take i xs → y ≡ x → slice_get ys k ≢ Some y
taken_absent xs ys i k x y distinct s e f r =
    let early : slice_get (take i xs) k ≡ Some x = ap (λ zs. slice_get zs k) (sym e) ∙ r ∙ ap Some f in
    let before : k < length (take i xs) = slice_get_within (take i xs) k x early in
    let same : k ≡ i = distinct k i x (slice_get-take xs i k x early) s in
    absurd (omega (arith, length-take i xs))

-- the next node of a bank is not in one that has those before it
pub copied_absent :
    (names : List (List ℕ)) (entries : List Entry) (now : Terms) → bank_of names entries ≡ now → IsDistinct nodes_eq (nodes_of entries) → (nodes : List Node) (i : ℕ) (n m : Node) → slice_get now.nodes i ≡ Some n
    → nodes ≡ take i now.nodes → m ≡ n → (k : ℕ) → slice_get nodes k ≢ Some m
copied_absent names entries now v unique nodes i n m at so_far e k =
    let distinct : AreDistinct now.nodes = subst (λ (b : Terms). AreDistinct b.nodes) v (distinct_nodes (nodes_of entries) unique) in
    taken_absent now.nodes nodes i k n m distinct at so_far e

-- a node's tree tells its names and its parts
module _ (text : NameId → List ℕ) (tree : TermId → Tree) (N : NameId → Type 0) (T : TermId → Type 0) (apart : (x y : NameId) → N x → N y → text x ≡ text y → x ≡ y) (one : (t u : TermId) → T t → T u → tree t ≡ tree u → t ≡ u) where
  each_one : (ts us : List TermId) → AllByRecursion T ts → AllByRecursion T us → trees_by tree ts ≡ trees_by tree us → ts ≡ us
  each_one [] [] h k e = refl
  each_one [] (u ∷ us) h k e = cc
  each_one (t ∷ ts) [] h k e = cc
  each_one (t ∷ ts) (u ∷ us) h k e = rw (one t u h.0 k.0 cc, each_one ts us h.1 k.1 cc)

  evar_one : (i j : ℕ) (ts us : List TermId) → AllByRecursion T ts → AllByRecursion T us → Tree.Evar i (trees_by tree ts) ≡ Tree.Evar j (trees_by tree us) → Node.Evar i ts ≡ Node.Evar j us
  evar_one i j ts us h k e =
      let both : (i ≡ j) × (trees_by tree ts ≡ trees_by tree us) = grind arith in
      let parts : ts ≡ us = each_one ts us h k both.1 in
      cc

  pub node_one : (m n : Node) → EachPart N T m → EachPart N T n → node_by text tree m ≡ node_by text tree n → m ≡ n
  node_one m n h k e = grind (arith, apart, one, evar_one)

-- no two terms stand for one tree
module _ (names : List (List ℕ)) (entries : List Entry) (sound : IsSound names entries) (distinct : AreDistinct (nodes_of entries)) where
  abbrev bank : Terms
  bank = bank_of names entries

  parts_below : (b : ℕ) (t : TermId) (e : Entry) → t.place < suc b → slice_get entries t.place ≡ Some e → EachPart (HasName bank) (λ u. u.place < b) e.0
  parts_below b t e l s = EachPart-weaker (λ x. x.place < length names) (HasName bank) (λ u. u.place < t.place) (λ u. u.place < b) (λ x h. h) (λ u h. omega arith) e.0 (sound.parts t.place e s)

  one_below : (b : ℕ) → b ≤ length entries → (t u : TermId) → t.place < b → u.place < b → tree_of bank t ≡ tree_of bank u → t ≡ u
  one_below zero n t u l m same = absurd (omega arith)
  one_below (suc b) n t u l m same =
      let d : (e : Entry) × (slice_get entries t.place ≡ Some e) = entry_of entries t (omega arith) in
      let e : (e : Entry) × (slice_get entries u.place ≡ Some e) = entry_of entries u (omega arith) in
      let nodes_are : node_tree bank d.0.0 ≡ node_tree bank e.0.0 = node_is names entries sound bank t d.0 refl d.1 ∙ same ∙ sym (node_is names entries sound bank u e.0 refl e.1) in
      let one : d.0.0 ≡ e.0.0 =
      node_one (text_of bank) (tree_of bank) (HasName bank) (λ v. v.place < b) (λ x y h k. same_text names entries bank refl sound x y h k) (λ v w h k. one_below b (omega arith) v w h k) d.0.0 e.0.0 (parts_below b t d.0 l d.1) (parts_below b u e.0 m e.1)
      nodes_are in
      ap (λ (p : ℕ). record { place = p }) (distinct t.place u.place e.0.0 (entry_node entries t.place d.0 d.1 ∙ ap Some one) (entry_node entries u.place e.0 e.1))

  module _ (now : Terms) (v : bank_of names entries ≡ now) where
    count : length now.nodes ≡ length entries
    count = sym (ap (λ (b : Terms). length b.nodes) v) ∙ length-map entries (λ (e : Entry). e.0)

    pub one_term : (t u : TermId) → HasTerm now t → HasTerm now u → tree_of now t ≡ tree_of now u → t ≡ u
    one_term t u h k e =
        let same : tree_of bank t ≡ tree_of bank u = subst (λ (b : Terms). tree_of b t ≡ tree_of b u) (sym v) e in
        one_below (length entries) (omega arith) t u (omega (arith, count)) (omega (arith, count)) same

    -- where a node is found, it is the term that stands for its tree
    pub found_one : (i : ℕ) (n : Node) → slice_get (nodes_of entries) i ≡ Some n → (t : TermId) → IsTerm now t (node_tree now n) → record { place = i } ≡ t
    found_one i n s t h =
        let found : IsTerm now (record { place = i }) (node_tree now n) = found_term names entries sound now (record { place = i }) n v s in
        one_term (record { place = i }) t found.has h.has (found.is ∙ sym h.is)

    -- where it is found nowhere, no term stands for its tree
    pub no_term : (n : Node) → ((i : ℕ) → slice_get (nodes_of entries) i ≢ Some n) → HasParts now n → (t : TermId) → IsTerm now t (node_tree now n) → ⊥
    no_term n absent parts t h =
        let e : (e : Entry) × (slice_get entries t.place ≡ Some e) = entry_of entries t (omega (arith, count, h.has)) in
        let own : EachPart (HasName now) (HasTerm now) e.0.0 = EachPart-weaker (HasName now) (HasName now) (IsPart now t) (HasTerm now) (λ x k. k) (λ u k. k.has) e.0.0 (parts_are names entries sound now t e.0 v e.1) in
        let one : e.0.0 ≡ n = node_one (text_of now) (tree_of now) (HasName now) (HasTerm now) (λ x y k l. same_text names entries now v sound x y k l) one_term e.0.0 n own parts (node_is names entries sound now t e.0 v e.1 ∙ h.is) in
        absent t.place (entry_node entries t.place e.0 e.1 ∙ ap Some one)

-- a node that is nowhere goes last, with what is kept of it
pub entry_goes_last : (names : List (List ℕ)) (entries longer : List Entry) (now : Terms) → bank_of names entries ≡ now → (n : Node) (k : Kept) → ((i : ℕ) → slice_get now.nodes i ≢ Some n) → longer ≡ insert_entry nodes_eq entries n k → longer ≡ entries ++ (n, k) ∷ []
entry_goes_last names entries longer now v n k absent e =
    e ∙ insert_absent nodes_eq own exact entries n k (λ i s. absent i (ap (λ (b : Terms). slice_get b.nodes i) (sym v) ∙ s))
