-- Applications taken apart, and the trees that they stand for.
use Rattle.std.specs.Prelude.{◌≡◌, Bool, true, ◌&&◌, leb, List, ◌∷◌, map, length}
use Rattle.std.specs.List.{AllByRecursion}
use Rattle.lq_trees.specs.Tree.{Tree}
use Rattle.lq_terms.specs.Terms.{Terms, HasTerm, tree_of}
use Rattle.lq_calculus.specs.Contraction.{apply}
use Rattle.lq_solving.specs.Unification.{is_variable, split_last}
use Rattle.lq_unify.specs.declared.spines.Application.{Application}
use Rattle.lq_unify.specs.declared.applications.Split.{Split}

-- the head and the arguments, as trees
abbrev pub application_of : Terms → Application → Tree × List Tree
application_of bank a = (tree_of bank a.head, map (tree_of bank) a.arguments.items)

-- the bank has the head and the arguments
abbrev pub HasApplication : Terms → Application → Type 0
HasApplication bank a = HasTerm bank a.head × AllByRecursion (HasTerm bank) a.arguments.items

-- whether the first is a variable with arguments, and the second has at least as many
abbrev pub splits : Tree × List Tree → Tree × List Tree → Bool
splits p q = is_variable p.0 && leb 1 (length p.1) && leb (length p.1) (length q.1)

-- the second without its last arguments, as many as the first has, and those
abbrev pub other_of : Tree × List Tree → Tree × List Tree → List Tree
other_of p q = apply q.0 (split_last (length p.1) q.1).0 ∷ (split_last (length p.1) q.1).1

-- the lists of a variable with arguments, and of the other side
pub record IsSplit (bank : Terms) (p q : Tree × List Tree) (s : Split) : Type 0 where
  pub fits : splits p q ≡ true
  pub variable : map (tree_of bank) s.variable.items ≡ p.0 ∷ p.1
  pub other : map (tree_of bank) s.other.items ≡ other_of p q
  pub variable_has : AllByRecursion (HasTerm bank) s.variable.items
  pub other_has : AllByRecursion (HasTerm bank) s.other.items
