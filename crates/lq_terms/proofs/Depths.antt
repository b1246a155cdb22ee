-- A term's tree is no deeper than its place, and one.
use Rattle.std.proofs.Common.{◌≡◌, ◌∙◌, ℕ, zero, suc, ◌+◌, ◌^◌, ◌<◌, ◌≤◌, List, [], ◌∷◌, length, slice_get, Some, refl, sym, ap, subst, arith}
use Rattle.std.specs.List.{AllByRecursion}
use Rattle.std.proofs.lemmas.List.{length-map}
use Rattle.lq_trees.specs.Tree.{Tree}
use Rattle.lq_trees.specs.Size.{depth, deepest}
use Rattle.lq_terms.specs.declared.nodes.NameId.{NameId}
use Rattle.lq_terms.specs.declared.nodes.TermId.{TermId}
use Rattle.lq_terms.specs.declared.nodes.Node.{Node}
use Rattle.lq_terms.specs.Terms.{Terms, HasName, HasTerm, EachPart, trees_by, node_by, tree_of, text_of}
use Rattle.lq_terms.specs.declared.entries.Kept.{Kept}
use Rattle.lq_terms.specs.declared.facts.Facts.{Facts}
use Rattle.lq_terms.specs.Facts.{facts_of, IsSmall}
use Rattle.lq_terms.specs.Sound.{Entry, IsSound, bank_of}
use Rattle.lq_terms.proofs.Trees.{EachPart-weaker}
use Rattle.lq_terms.proofs.Banks.{node_is}
use Rattle.lq_terms.proofs.ClassLaws.{entry_of}

module _ (text : NameId → List ℕ) (tree : TermId → Tree) (N : NameId → Type 0) (d : ℕ) where
  each_shallow : (ts : List TermId) → AllByRecursion (λ t. depth (tree t) ≤ d) ts → deepest (trees_by tree ts) ≤ d
  each_shallow [] h = omega arith
  each_shallow (t ∷ ts) h = omega (arith, h.0, each_shallow ts h.1)

  -- a node is one deeper than its parts
  pub node_shallow : (n : Node) → EachPart N (λ t. depth (tree t) ≤ d) n → depth (node_by text tree n) ≤ d + 1
  node_shallow n h = grind (arith, each_shallow)

module _ (names : List (List ℕ)) (entries : List Entry) (sound : IsSound names entries) where
  abbrev bank : Terms
  bank = bank_of names entries

  pub shallow_below : (b : ℕ) → b ≤ length entries → (t : TermId) → t.place < b → depth (tree_of bank t) ≤ t.place + 1
  shallow_below zero n t l = absurd (omega arith)
  shallow_below (suc b) n t l =
      let e : (e : Entry) × (slice_get entries t.place ≡ Some e) = entry_of entries t (omega arith) in
      let parts : EachPart (HasName bank) (λ u. depth (tree_of bank u) ≤ t.place) e.0.0 =
      EachPart-weaker (λ x. x.place < length names) (HasName bank) (λ u. u.place < t.place) (λ u. depth (tree_of bank u) ≤ t.place) (λ x h. h) (λ u h. let inside : u.place < b = omega arith in omega (arith, shallow_below b (omega arith) u inside)) e.0.0
      (sound.parts t.place e.0 e.1) in
      subst (λ (x : Tree). depth x ≤ t.place + 1) (node_is names entries sound bank t e.0 refl e.1) (node_shallow (text_of bank) (tree_of bank) (HasName bank) t.place e.0.0 parts)

  -- no tree is deeper than there are terms
  pub shallow : (now : Terms) → bank_of names entries ≡ now → (t : TermId) → HasTerm now t → depth (tree_of now t) ≤ length entries
  shallow now v t h =
      let count : length now.nodes ≡ length entries = sym (ap (λ (b : Terms). length b.nodes) v) ∙ length-map entries (λ (e : Entry). e.0) in
      let here : depth (tree_of bank t) ≤ t.place + 1 = shallow_below (length entries) (omega arith) t (omega arith) in
      subst (λ (c : Terms). depth (tree_of c t) ≤ length entries) v (omega arith)

  -- what is kept of a term is small
  pub kept_small : (now : Terms) → bank_of names entries ≡ now → (t : TermId) → HasTerm now t → length entries < 2 ^ 63 → (k : Kept) → k.facts ≡ facts_of (tree_of now t) → IsSmall k.facts
  kept_small now v t h l k e =
      let deep : depth (tree_of now t) ≤ length entries = shallow now v t h in
      record { size = omega (arith, ap (λ (f : Facts). f.measure.size) e); depth = omega (arith, ap (λ (f : Facts). f.measure.depth) e) }
