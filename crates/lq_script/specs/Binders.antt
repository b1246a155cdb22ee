-- The printed binders round a term, and what is done on a product.
use Rattle.std.specs.Prelude.{Bool, true, false, List, map, reverse}
use Rattle.lq_trees.specs.Tree.{Name, Tree}
use Rattle.lq_trees.specs.Tree.Tree.{Prod}
use Rattle.lq_terms.specs.declared.nodes.NameId.{NameId}
use Rattle.lq_terms.specs.Terms.{Terms, text_of}

-- the names of the binders, the nearest first: a bank's names list the nearest last
abbrev pub binders_of : Terms → List NameId → List Name
binders_of bank names = map (text_of bank) (reverse names)

-- whether a term is a product
abbrev pub is_product : Tree → Bool
is_product (Prod x A B) = true
is_product _ = false
