-- What is printed of a product that lies in a bank.
use Rattle.std.specs.Prelude.{List, [], ◌∷◌, ℕ}
use Rattle.lq_trees.specs.Tree.{Name, Tree}
use Rattle.lq_terms.specs.Terms.{Terms, HasName, HasTerm, text_of, tree_of}
use Rattle.lq_output.specs.Printing.{printed_name, left_side, arrow_text, forall_text, text_under}
use Rattle.lq_script.specs.declared.printer.Product.{Product}

-- the bank has what the product names
pub record HasProduct (bank : Terms) (p : Product) : Type 0 where
  pub binder : HasName bank p.binder
  pub kind : HasTerm bank p.kind
  pub rest : HasTerm bank p.rest

-- the product's tree
abbrev pub product_of : Terms → Product → Tree
product_of bank p = Tree.Prod (text_of bank p.binder) (tree_of bank p.kind) (tree_of bank p.rest)

-- the text of a product whose variable is used, and of one whose variable is not
abbrev pub used_text : List Name → Name → Tree → Tree → List ℕ
used_text binders x A B = forall_text (printed_name binders x B) (text_under binders A) (text_under (printed_name binders x B ∷ binders) B)

abbrev pub unused_text : List Name → Tree → Tree → List ℕ
unused_text binders A B = arrow_text (left_side A (text_under binders A)) (text_under ([] ∷ binders) B)
