-- Products and local definitions, by places of a bank.
use Rattle.std.specs.Prelude.{◌≡◌, false, Option, Some, None}
use Rattle.lq_trees.specs.Tree.{Tree}
use Rattle.lq_trees.specs.Tree.Tree.{Prod, Let}
use Rattle.lq_terms.specs.declared.nodes.TermId.{TermId}
use Rattle.lq_terms.specs.Terms.{Terms, HasName, HasTerm, text_of, tree_of}
use Rattle.lq_tactics.specs.Primitives.{is_binder}
use Rattle.lq_prims.specs.declared.binders.Binder.{Binder}

-- the product, or the local definition
abbrev pub binder_tree : Terms → Binder → Tree
binder_tree bank (Binder.Product x A B) = Prod (text_of bank x) (tree_of bank A) (tree_of bank B)
binder_tree bank (Binder.Definition x v A B) = Let (text_of bank x) (tree_of bank v) (tree_of bank A) (tree_of bank B)

-- the bank has its parts
abbrev pub HasBinder : Terms → Binder → Type 0
HasBinder bank (Binder.Product x A B) = HasName bank x × HasTerm bank A × HasTerm bank B
HasBinder bank (Binder.Definition x v A B) = HasName bank x × HasTerm bank v × HasTerm bank A × HasTerm bank B

-- the product or local definition that a term is as it stands, if it is one
abbrev pub IsBinderOr : Terms → Option Binder → TermId → Type 0
IsBinderOr bank (Some b) t = HasBinder bank b × (tree_of bank t ≡ binder_tree bank b)
IsBinderOr bank None t = is_binder (tree_of bank t) ≡ false
