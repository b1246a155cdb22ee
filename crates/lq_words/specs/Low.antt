-- Terms whose loose bound variables have small numbers.
use Rattle.std.specs.Prelude.{ℕ, List}
use Rattle.std.specs.List.{AllByRecursion}
use Rattle.lq_trees.specs.Index.{Within}
use Rattle.lq_terms.specs.declared.nodes.TermId.{TermId}
use Rattle.lq_terms.specs.declared.nodes.Node.{Node}
use Rattle.lq_terms.specs.Terms.{Terms, HasTerm, HasParts, tree_of, node_tree}

-- what the numbers of loose bound variables are below
abbrev pub low_bound : ℕ
low_bound = 1000000

-- a term of the bank with such numbers
pub record IsLow (bank : Terms) (t : TermId) : Type 0 where
  pub has : HasTerm bank t
  pub within : Within low_bound (tree_of bank t)

-- a node of the bank with such numbers
pub record IsLowNode (bank : Terms) (node : Node) : Type 0 where
  pub has : HasParts bank node
  pub within : Within low_bound (node_tree bank node)

-- terms in order, each with such numbers
abbrev pub HasStack : Terms → List TermId → Type 0
HasStack bank ts = AllByRecursion (IsLow bank) ts
