-- Small numbers of loose bound variables stay small.
use Rattle.std.proofs.Common.{◌≡◌, ℕ, ◌+◌, ◌≤◌, sym, arith, List, [], ◌∷◌, ◌++◌}
use Rattle.std.proofs.Common.{subst as along}
use Rattle.std.specs.List.{AllByRecursion}
use Rattle.lq_trees.specs.Tree.{Tree, Trees}
use Rattle.lq_trees.specs.Index.{Within, EachWithin}
use Rattle.lq_terms.specs.declared.nodes.TermId.{TermId}
use Rattle.lq_terms.specs.declared.nodes.Node.{Node}
use Rattle.lq_terms.specs.Terms.{Terms, HasTerm, IsTerm, Grows, tree_of, trees_by, node_tree}
use Rattle.lq_terms.proofs.Growth.{Grows-trans}
use Rattle.lq_words.specs.Low.{IsLow, IsLowNode, HasStack, low_bound}

-- numbers below a bound are below a greater one
mutual
  pub within_more : (m n : ℕ) (t : Tree) → m ≤ n → Within m t → Within n t
  within_more m n (Tree.Rel i) l h = omega arith
  within_more m n (Tree.Var x) l h = tt
  within_more m n (Tree.Sort s) l h = tt
  within_more m n (Tree.Prod x a b) l h = (within_more m n a l h.0, within_more (m + 1) (n + 1) b (omega arith) h.1)
  within_more m n (Tree.Lam x a b) l h = (within_more m n a l h.0, within_more (m + 1) (n + 1) b (omega arith) h.1)
  within_more m n (Tree.Let x v a b) l h = (within_more m n v l h.0, within_more m n a l h.1, within_more (m + 1) (n + 1) b (omega arith) h.2)
  within_more m n (Tree.App f a) l h = (within_more m n f l h.0, within_more m n a l h.1)
  within_more m n (Tree.Const x) l h = tt
  within_more m n (Tree.Ind x) l h = tt
  within_more m n (Tree.Ctor x k) l h = tt
  within_more m n (Tree.Elim x s) l h = tt
  within_more m n (Tree.Evar k ts) l h = each_within_more m n ts l h

  pub each_within_more : (m n : ℕ) (ts : Trees) → m ≤ n → EachWithin m ts → EachWithin n ts
  each_within_more m n Trees.none l h = tt
  each_within_more m n (Trees.more t ts) l h = (within_more m n t l h.0, each_within_more m n ts l h.1)

-- the same under a binder
pub under : (bank : Terms) (t : TermId) → IsLow bank t → Within (low_bound + 1) (tree_of bank t)
under bank t h = within_more low_bound (low_bound + 1) (tree_of bank t) (omega arith) h.within

pub low_made : (old new : Terms) (node : Node) (t : TermId) → IsLowNode old node → IsTerm new t (node_tree old node) → IsLow new t
low_made old new node t h i = record { has = i.has; within = along (Within low_bound) (sym i.is) h.within }

pub low-grown : (old new : Terms) (t : TermId) → Grows old new → IsLow old t → IsLow new t
low-grown old new t g h = record { has = omega (arith, g.nodes, h.has); within = along (Within low_bound) (sym (g.tree t h.has)) h.within }

pub stack-grown : (old new : Terms) (ts : List TermId) → Grows old new → HasStack old ts → HasStack new ts
stack-grown old new [] g h = tt
stack-grown old new (t ∷ ts) g h = (low-grown old new t g h.0, stack-grown old new ts g h.1)

pub ruleset lows = (Grows-trans, under, low_made, low-grown, stack-grown)

-- one entry more
pub has_pushed : (bank : Terms) (ts us : List TermId) (t : TermId) → us ≡ ts ++ t ∷ [] → AllByRecursion (HasTerm bank) ts → HasTerm bank t → AllByRecursion (HasTerm bank) us
has_pushed bank ts us t e h k = along (λ z. AllByRecursion (HasTerm bank) z) (sym e) (push ts h)
  where
    push : (ts : List TermId) → AllByRecursion (HasTerm bank) ts → AllByRecursion (HasTerm bank) (ts ++ t ∷ [])
    push [] h = (k, tt)
    push (u ∷ us) h = (h.0, push us h.1)

pub few_pushed : (bank : Terms) (n : ℕ) (ts us : List TermId) (t : TermId) → us ≡ ts ++ t ∷ [] → EachWithin n (trees_by (tree_of bank) ts) → Within n (tree_of bank t) → EachWithin n (trees_by (tree_of bank) us)
few_pushed bank n ts us t e h k = along (λ z. EachWithin n (trees_by (tree_of bank) z)) (sym e) (push ts h)
  where
    push : (ts : List TermId) → EachWithin n (trees_by (tree_of bank) ts) → EachWithin n (trees_by (tree_of bank) (ts ++ t ∷ []))
    push [] h = (k, tt)
    push (u ∷ us) h = (h.0, push us h.1)

-- entries of which each has small numbers
pub stack_pushed : (bank : Terms) (ts us : List TermId) (t : TermId) → us ≡ ts ++ t ∷ [] → HasStack bank ts → IsLow bank t → HasStack bank us
stack_pushed bank ts us t e h k = along (HasStack bank) (sym e) (push ts h)
  where
    push : (ts : List TermId) → HasStack bank ts → HasStack bank (ts ++ t ∷ [])
    push [] h = (k, tt)
    push (u ∷ us) h = (h.0, push us h.1)

pub stack_low : (bank : Terms) (n : ℕ) (ts : List TermId) → HasStack bank ts → IsLowNode bank (Node.Evar n ts)
stack_low bank n ts h = record { has = has ts h; within = within ts h }
  where
    has : (ts : List TermId) → HasStack bank ts → AllByRecursion (HasTerm bank) ts
    has [] h = tt
    has (t ∷ ts) h = (h.0.has, has ts h.1)

    within : (ts : List TermId) → HasStack bank ts → EachWithin low_bound (trees_by (tree_of bank) ts)
    within [] h = tt
    within (t ∷ ts) h = (h.0.within, within ts h.1)
