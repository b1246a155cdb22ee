-- The terms that rows hand in, and a store in a bank.
use Rattle.std.specs.Prelude.{◌≡◌, ◌<◌, ℕ, [], length}
use Rattle.lq_trees.specs.declared.Sort.{Sort as Universe}
use Rattle.lq_trees.specs.Tree.{Tree, none, more}
use Rattle.lq_terms.specs.declared.nodes.TermId.{TermId}
use Rattle.lq_terms.specs.Terms.{Terms, HasTerm, tree_of}
use Rattle.lq_solving.specs.Stores.{names_at}
use Rattle.lq_solving.specs.Kept.{IsStore}
use Rattle.lq_evars.specs.Places.{Places, store_of, HasStore}

-- a term of constructors, sorts, applications and one variable, which has no entries
abbrev pub IsSimple : (variable : ℕ) → Tree → Type 0
IsSimple n (Tree.Sort s) = Unit {0}
IsSimple n (Tree.Ctor c k) = Unit {0}
IsSimple n (Tree.App f a) = IsSimple n f × IsSimple n a
IsSimple n (Tree.Evar m none) = m ≡ n
IsSimple n _ = ⊥

-- such a term of a bank
pub record HasSimple (bank : Terms) (n : ℕ) (t : TermId) : Type 0 where
  pub has : HasTerm bank t
  pub simple : IsSimple n (tree_of bank t)

-- the sort of propositions
pub record IsSort (bank : Terms) (t : TermId) : Type 0 where
  pub has : HasTerm bank t
  pub is : tree_of bank t ≡ Tree.Sort Universe.Base

-- a store that lies in a bank, as its calls keep it
pub record IsKept (bank : Terms) (s : Places) : Type 0 where
  pub has : HasStore bank s
  pub kept : IsStore (store_of bank s)

-- a variable of the store without hypotheses
pub record IsBare (bank : Terms) (s : Places) (n : ℕ) : Type 0 where
  pub inside : n < length (store_of bank s).variables
  pub bare : names_at (store_of bank s).variables n ≡ []
