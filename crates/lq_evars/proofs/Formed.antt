-- The head and the parts of a closure that stands for itself, by the node of its term.
use Rattle.std.proofs.Common.{◌≡◌, ◌≤◌, ◌<◌, ◌+◌, ◌∙◌, ℕ, suc, ◌&&◌, refl, sym, ap, arith, List, [], ◌∷◌, map, length}
use Rattle.std.proofs.Common.{subst as along}
use Rattle.std.specs.List.{AllByRecursion}
use Rattle.lq_trees.specs.Tree.{Tree}
use Rattle.lq_trees.specs.Change.{replace, replace_each}
use Rattle.lq_trees.specs.Reading.{entries}
use Rattle.lq_terms.specs.declared.nodes.TermId.{TermId}
use Rattle.lq_terms.specs.declared.nodes.Node.{Node}
use Rattle.lq_terms.specs.Terms.{Terms, HasName, IsPart, EachPart, tree_of, trees_by, node_tree}
use Rattle.lq_solving.specs.Stores.{Store as TreeStore, Variable as TreeVariable}
use Rattle.lq_solving.specs.Alike.{same_tree}
use Rattle.lq_solving.specs.Kept.{IsOver, EachIsOver}
use Rattle.lq_solving.proofs.Later.{reads_prod, reads_lam, reads_let, reads_app}
use Rattle.lq_solving.proofs.ReadLaws.{filled_each, open_stays}
use Rattle.lq_solving.proofs.UnifyRows.{each_filled, none_filled}
use Rattle.lq_evars.specs.declared.scopes.Link.{Link}
use Rattle.lq_evars.specs.declared.scopes.Closure.{Closure}
use Rattle.lq_evars.specs.Reading.{as_read}
use Rattle.lq_evars.specs.Scopes.{Scope}
use Rattle.lq_evars.specs.Costs.{steps_each, value_steps, scope_steps, term_steps}
use Rattle.lq_evars.specs.Heads.{unknown, how_many, head_of, parts_in, all_equal}
use Rattle.lq_evars.specs.Closures.{scope_of, closure_tree, closure_steps, depth_of, AroundIn, HasClosure, HasPair, IsSettled, SettledClosure, node_head, beside, closure_parts, paired, AreShallow, same_pairs, pairs_steps}
use Rattle.lq_evars.proofs.CostLaws.{open_steps}
use Rattle.lq_evars.proofs.Given.{plain_read}
use Rattle.lq_evars.proofs.ScopeLaws.{scope_leaves}

module _ (bank : Terms) (s : TreeStore) (ls : List Link) (c : Closure) where
  abbrev around : Scope
  around = scope_of bank ls c.around

  abbrev put_in : Tree → Tree
  put_in t = replace (scope_leaves s around c.base) c.under t

  entries_formed : (ts : List TermId) → entries (replace_each (scope_leaves s around c.base) c.under (filled_each s.variables s.values (trees_by (tree_of bank) ts))) ≡ map (closure_tree bank s ls) (map (beside c) ts)
  unfolding entries
  entries_formed [] = ap (λ z. entries (replace_each (scope_leaves s around c.base) c.under z)) (none_filled s.variables s.values)
  entries_formed (t ∷ ts) =
      ap (λ z. entries (replace_each (scope_leaves s around c.base) c.under z)) (each_filled s.variables s.values (tree_of bank t) (trees_by (tree_of bank) ts))
      ∙ ap (λ us. closure_tree bank s ls (beside c t) ∷ us) (entries_formed ts)

  many_formed : (ts : List TermId) → how_many (replace_each (scope_leaves s around c.base) c.under (filled_each s.variables s.values (trees_by (tree_of bank) ts))) ≡ length ts
  many_formed [] = ap (λ z. how_many (replace_each (scope_leaves s around c.base) c.under z)) (none_filled s.variables s.values)
  many_formed (t ∷ ts) =
      ap (λ z. how_many (replace_each (scope_leaves s around c.base) c.under z)) (each_filled s.variables s.values (tree_of bank t) (trees_by (tree_of bank) ts))
      ∙ ap suc (many_formed ts)

  -- the head of a tree is that of the node, and its parts are the closures'
  abbrev pub IsFormed : Node → Tree → Type 0
  IsFormed node t = (head_of t ≡ node_head bank around c.base c.under node) × (parts_in t ≡ map (closure_tree bank s ls) (closure_parts c node))

  leaf_formed : (node : Node) (t : Tree) → as_read s t ≡ t → IsFormed node (put_in t) → IsFormed node (put_in (as_read s t))
  leaf_formed node t e h = along (λ z. IsFormed node (put_in z)) (sym e) h

  formed_by : (node : Node) → IsSettled s around (c.base + c.under) (node_tree bank node) → IsFormed node (put_in (as_read s (node_tree bank node)))
  formed_by (Node.Rel i) h = leaf_formed (Node.Rel i) (node_tree bank (Node.Rel i)) (plain_read s.variables s.values (node_tree bank (Node.Rel i)) refl) (refl, refl)
  formed_by (Node.Var x) h =
      leaf_formed (Node.Var x) (node_tree bank (Node.Var x)) (plain_read s.variables s.values (node_tree bank (Node.Var x)) refl) (along (λ z. IsFormed (Node.Var x) z) (sym h) (refl, refl))
  formed_by (Node.Sort q) h = leaf_formed (Node.Sort q) (node_tree bank (Node.Sort q)) (plain_read s.variables s.values (node_tree bank (Node.Sort q)) refl) (refl, refl)
  formed_by (Node.Prod x a b) h = along (λ z. IsFormed (Node.Prod x a b) (put_in z)) (sym (reads_prod s.variables s.values _ (tree_of bank a) (tree_of bank b))) (refl, refl)
  formed_by (Node.Lam x a b) h = along (λ z. IsFormed (Node.Lam x a b) (put_in z)) (sym (reads_lam s.variables s.values _ (tree_of bank a) (tree_of bank b))) (refl, refl)
  formed_by (Node.Let x v a b) h = along (λ z. IsFormed (Node.Let x v a b) (put_in z)) (sym (reads_let s.variables s.values _ (tree_of bank v) (tree_of bank a) (tree_of bank b))) (refl, refl)
  formed_by (Node.App f a) h = along (λ z. IsFormed (Node.App f a) (put_in z)) (sym (reads_app s.variables s.values (tree_of bank f) (tree_of bank a))) (refl, refl)
  formed_by (Node.Const x) h = leaf_formed (Node.Const x) (node_tree bank (Node.Const x)) (plain_read s.variables s.values (node_tree bank (Node.Const x)) refl) (refl, refl)
  formed_by (Node.Ind x) h = leaf_formed (Node.Ind x) (node_tree bank (Node.Ind x)) (plain_read s.variables s.values (node_tree bank (Node.Ind x)) refl) (refl, refl)
  formed_by (Node.Ctor x i) h = leaf_formed (Node.Ctor x i) (node_tree bank (Node.Ctor x i)) (plain_read s.variables s.values (node_tree bank (Node.Ctor x i)) refl) (refl, refl)
  formed_by (Node.Elim x q) h = leaf_formed (Node.Elim x q) (node_tree bank (Node.Elim x q)) (plain_read s.variables s.values (node_tree bank (Node.Elim x q)) refl) (refl, refl)
  formed_by (Node.Evar n ts) h =
      along (λ z. IsFormed (Node.Evar n ts) (put_in z)) (sym (open_stays s.variables s.values n (trees_by (tree_of bank) ts) h))
      (ap (unknown n) (many_formed ts), entries_formed ts)

  pub formed : (node : Node) → node_tree bank node ≡ tree_of bank c.term → SettledClosure bank s ls c → IsFormed node (closure_tree bank s ls c)
  formed node e h =
      along (λ z. IsFormed node (put_in (as_read s z))) e (formed_by node (along (IsSettled s around (c.base + c.under)) (sym e) h))

  -- the parts take fewer steps
  abbrev all_steps : List Closure → ℕ
  all_steps [] = 0
  all_steps (d ∷ ds) = closure_steps bank s ls d + all_steps ds

  entries_steps : (ts : List TermId) → all_steps (map (beside c) ts) ≡ steps_each (value_steps s.values) (scope_steps s.values around) (trees_by (tree_of bank) ts)
  entries_steps [] = refl
  entries_steps (t ∷ ts) = omega (arith, entries_steps ts)

  parts_lighter_by : (node : Node) → IsSettled s around (c.base + c.under) (node_tree bank node) → all_steps (closure_parts c node) < term_steps s.values around (node_tree bank node)
  parts_lighter_by (Node.Rel i) h = omega arith
  parts_lighter_by (Node.Var x) h = omega arith
  parts_lighter_by (Node.Sort q) h = omega arith
  parts_lighter_by (Node.Prod x a b) h = omega arith
  parts_lighter_by (Node.Lam x a b) h = omega arith
  parts_lighter_by (Node.Let x v a b) h = omega arith
  parts_lighter_by (Node.App f a) h = omega arith
  parts_lighter_by (Node.Const x) h = omega arith
  parts_lighter_by (Node.Ind x) h = omega arith
  parts_lighter_by (Node.Ctor x i) h = omega arith
  parts_lighter_by (Node.Elim x q) h = omega arith
  parts_lighter_by (Node.Evar n ts) h =
      omega (arith, entries_steps ts, open_steps s.values (λ m v. v) n (steps_each (value_steps s.values) (scope_steps s.values around) (trees_by (tree_of bank) ts)) h)

  pub parts_lighter : (node : Node) → node_tree bank node ≡ tree_of bank c.term → SettledClosure bank s ls c → all_steps (closure_parts c node) < closure_steps bank s ls c
  parts_lighter node e h =
      along (λ z. all_steps (closure_parts c node) < term_steps s.values around z) e (parts_lighter_by node (along (IsSettled s around (c.base + c.under)) (sym e) h))

-- pairs of parts
module _ (bank : Terms) (s : TreeStore) (ls : List Link) (c d : Closure) where
  pub same_paired : (cs ds : List Closure) → same_pairs bank s ls (paired cs ds) ≡ all_equal (map (closure_tree bank s ls) cs) (map (closure_tree bank s ls) ds)
  same_paired [] ds = refl
  same_paired (x ∷ cs) [] = refl
  same_paired (x ∷ cs) (y ∷ ds) = ap (λ b. same_tree (closure_tree bank s ls x) (closure_tree bank s ls y) && b) (same_paired cs ds)

  pub steps_paired : (cs ds : List Closure) → pairs_steps bank s ls (paired cs ds) ≤ all_steps bank s ls c cs + all_steps bank s ls d ds
  steps_paired [] ds = omega arith
  steps_paired (x ∷ cs) [] = omega arith
  steps_paired (x ∷ cs) (y ∷ ds) = omega (arith, steps_paired cs ds)

-- what parts name is there
module _ (bank : Terms) (vs : List TreeVariable) (n : ℕ) where
  entries_there : (c : Closure) → AroundIn n c.around → (whole : TermId) (ts : List TermId) → AllByRecursion (IsPart bank whole) ts → EachIsOver vs (trees_by (tree_of bank) ts) → AllByRecursion (HasClosure bank vs n) (map (beside c) ts)
  entries_there c a whole [] p h = tt
  entries_there c a whole (t ∷ ts) p h = (record { term = record { has = p.0.has; over = h.0 }; around = a }, entries_there c a whole ts p.1 h.1)

  there_by : (c : Closure) → AroundIn n c.around → (whole : TermId) (node : Node) → EachPart (HasName bank) (IsPart bank whole) node → IsOver vs (node_tree bank node) → AllByRecursion (HasClosure bank vs n) (closure_parts c node)
  there_by c a whole (Node.Rel i) p h = tt
  there_by c a whole (Node.Var x) p h = tt
  there_by c a whole (Node.Sort q) p h = tt
  there_by c a whole (Node.Prod x k t) p h =
      (record { term = record { has = p.1.has; over = h.0 }; around = a }, (record { term = record { has = p.2.has; over = h.1 }; around = a }, tt))
  there_by c a whole (Node.Lam x k t) p h =
      (record { term = record { has = p.1.has; over = h.0 }; around = a }, (record { term = record { has = p.2.has; over = h.1 }; around = a }, tt))
  there_by c a whole (Node.Let x v k t) p h = (
    record { term = record { has = p.1.has; over = h.0 }; around = a },
    (record { term = record { has = p.2.has; over = h.1 }; around = a }, (record { term = record { has = p.3.has; over = h.2 }; around = a }, tt)),
  )
  there_by c a whole (Node.App f t) p h =
      (record { term = record { has = p.0.has; over = h.0 }; around = a }, (record { term = record { has = p.1.has; over = h.1 }; around = a }, tt))
  there_by c a whole (Node.Const x) p h = tt
  there_by c a whole (Node.Ind x) p h = tt
  there_by c a whole (Node.Ctor x i) p h = tt
  there_by c a whole (Node.Elim x q) p h = tt
  there_by c a whole (Node.Evar m ts) p h = entries_there c a whole ts p h.2

  pub parts_there : (c : Closure) → HasClosure bank vs n c → (node : Node) → EachPart (HasName bank) (IsPart bank c.term) node → node_tree bank node ≡ tree_of bank c.term → AllByRecursion (HasClosure bank vs n) (closure_parts c node)
  parts_there c h node p e = there_by c h.around c.term node p (along (IsOver vs) (sym e) h.term.over)

  pub pairs_there : (cs ds : List Closure) → AllByRecursion (HasClosure bank vs n) cs → AllByRecursion (HasClosure bank vs n) ds → AllByRecursion (HasPair bank vs n) (paired cs ds)
  pairs_there [] ds h k = tt
  pairs_there (c ∷ cs) [] h k = tt
  pairs_there (c ∷ cs) (d ∷ ds) h k = (record { left = h.0; right = k.0 }, pairs_there cs ds h.1 k.1)

-- each closure stands below at most as many binders as closures stand before it
abbrev pub AreDeep : ℕ → List Closure → Type 0
AreDeep n [] = Unit {0}
AreDeep n (c ∷ cs) = (depth_of c ≤ n) × AreDeep (suc n) cs

entries_deep : (c : Closure) (n : ℕ) (ts : List TermId) → depth_of c ≤ n → AreDeep n (map (beside c) ts)
entries_deep c n [] h = tt
entries_deep c n (t ∷ ts) h = (h, entries_deep c (suc n) ts (omega (arith, h)))

pub parts_deep : (c : Closure) (n : ℕ) (node : Node) → depth_of c ≤ n → AreDeep n (closure_parts c node)
parts_deep c n (Node.Prod x a b) h = (h, (omega (arith, h), tt))
parts_deep c n (Node.Lam x a b) h = (h, (omega (arith, h), tt))
parts_deep c n (Node.Let x v a b) h = (h, (omega (arith, h), (omega (arith, h), tt)))
parts_deep c n (Node.App f a) h = (h, (omega (arith, h), tt))
parts_deep c n (Node.Evar m ts) h = entries_deep c n ts h
parts_deep c n (Node.Rel i) h = tt
parts_deep c n (Node.Var x) h = tt
parts_deep c n (Node.Sort q) h = tt
parts_deep c n (Node.Const x) h = tt
parts_deep c n (Node.Ind x) h = tt
parts_deep c n (Node.Ctor x i) h = tt
parts_deep c n (Node.Elim x q) h = tt

pub pairs_shallow : (n : ℕ) (cs ds : List Closure) → AreDeep n cs → AreDeep n ds → AreShallow n (paired cs ds)
pairs_shallow n [] ds h k = tt
pairs_shallow n (c ∷ cs) [] h k = tt
pairs_shallow n (c ∷ cs) (d ∷ ds) h k = (record { left = h.0; right = k.0 }, pairs_shallow (suc n) cs ds h.1 k.1)
