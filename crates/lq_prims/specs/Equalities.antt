-- Equalities, by places of a bank.
use Rattle.std.specs.Prelude.{◌≡◌, Bool, false, [], Option, Some, None, codes}
use Rattle.lq_trees.specs.Tree.{Tree, same_name}
use Rattle.lq_trees.specs.Tree.Tree.{Ind}
use Rattle.lq_calculus.specs.Contraction.{spine}
use Rattle.lq_terms.specs.declared.nodes.TermId.{TermId}
use Rattle.lq_terms.specs.Terms.{Terms, HasTerm, tree_of}
use Rattle.lq_tactics.specs.Primitives.{equality_of}
use Rattle.lq_prims.specs.declared.equalities.Equality.{Equality}

-- whether a term is the inductive type `eq`
unfoldable pub is_eq : Tree → Bool
is_eq (Ind x) = same_name x (codes "eq")
is_eq _ = false

-- the bank has its parts
abbrev pub HasEquality : Terms → Equality → Type 0
HasEquality bank e = HasTerm bank e.kind × HasTerm bank e.left × HasTerm bank e.right

-- the equality that a term is as it stands, if it is one
abbrev pub IsEqualityOr : Terms → Option Equality → TermId → Type 0
IsEqualityOr bank (Some e) t = HasEquality bank e × (equality_of (spine (tree_of bank t) []) ≡ Some (tree_of bank e.kind, tree_of bank e.left, tree_of bank e.right))
IsEqualityOr bank None t = equality_of (spine (tree_of bank t) []) ≡ None

-- the application that a term is as it stands, if it is one
abbrev pub IsAppliedOr : Terms → Option (TermId × TermId) → TermId → Type 0
IsAppliedOr bank (Some p) t = HasTerm bank p.0 × HasTerm bank p.1 × (tree_of bank t ≡ Tree.App (tree_of bank p.0) (tree_of bank p.1))
IsAppliedOr bank None t = (f a : Tree) → ¬ (tree_of bank t ≡ Tree.App f a)
