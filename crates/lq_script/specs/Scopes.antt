-- The binders round a part of a written term, and what the part stands for.
use Rattle.std.specs.Prelude.{◌≡◌, List, [], ◌∷◌, ◌++◌, Option, Some, None}
use Rattle.lq_trees.specs.Tree.{Name, Tree}
use Rattle.lq_terms.specs.declared.nodes.NameId.{NameId}
use Rattle.lq_terms.specs.declared.nodes.TermId.{TermId}
use Rattle.lq_terms.specs.Terms.{Terms, HasTerm, text_of, tree_of}

-- the names of binders, the nearest first, which is the last of the list
abbrev pub scope_of : Terms → List NameId → List Name
scope_of bank [] = []
scope_of bank (x ∷ xs) = scope_of bank xs ++ text_of bank x ∷ []

-- a term of the bank for the tree, or none where there is no tree
abbrev pub IsMeant : Terms → Option TermId → Option Tree → Type 0
IsMeant bank None o = o ≡ None
IsMeant bank (Some t) o = HasTerm bank t × (o ≡ Some (tree_of bank t))

-- the type of a constant that stands for a global name, or none where the name is unknown
abbrev pub IsGlobal : Terms → Name → Option TermId → Option (Tree × Tree) → Type 0
IsGlobal bank x None o = o ≡ None
IsGlobal bank x (Some kind) o = HasTerm bank kind × (o ≡ Some (Tree.Const x, tree_of bank kind))
