-- Terms of a store, and what becomes of a head variable that has a value.
use Rattle.std.specs.Prelude.{◌≡◌, ◌<◌, ℕ, Some}
use Rattle.lq_trees.specs.Tree.{Tree, Trees}
use Rattle.lq_trees.specs.Index.{Within}
use Rattle.lq_terms.specs.declared.nodes.TermId.{TermId}
use Rattle.lq_terms.specs.Terms.{Terms, HasTerm, IsTerm, tree_of}
use Rattle.lq_solving.specs.Stores.{Store, body_at, names_at, find_value, read}
use Rattle.lq_solving.specs.Kept.{IsOver}
use Rattle.lq_unify.specs.Heads.{head_rank}

-- a term of the bank over the variables of a store, without loose bound variables
pub record IsOfStore (bank : Terms) (s : Store) (t : TermId) : Type 0 where
  pub has : HasTerm bank t
  pub over : IsOver s.variables (tree_of bank t)
  pub within : Within 0 (tree_of bank t)

-- the second term stands for the value of the variable that the tree is, at its instance, neither of them read
pub record IsHeadValue (s : Store) (head : Tree) (bank : Terms) (t : TermId) : Type 0 where
  pub number : ℕ
  pub entries : Trees
  pub body : Tree
  pub head_is : head ≡ Tree.Evar number entries
  pub found : find_value s.values number ≡ Some body
  pub is : IsTerm bank t (body_at (names_at s.variables number) body entries)
  pub over : IsOver s.variables (body_at (names_at s.variables number) body entries)
  pub within : Within 0 (body_at (names_at s.variables number) body entries)

-- the term has the value of its head variable in that one's place: it reads as the other, and this may be done less often
pub record IsUnfolded (s : Store) (whole : Tree) (bank : Terms) (t : TermId) : Type 0 where
  pub term : IsOfStore bank s t
  pub reads : read s (tree_of bank t) ≡ read s whole
  pub falls : head_rank s.values (tree_of bank t) < head_rank s.values whole
