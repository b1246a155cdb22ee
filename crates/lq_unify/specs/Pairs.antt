-- Pairs of terms of a bank, and the sides that they stand for.
use Rattle.std.specs.Prelude.{◌≡◌, List, [], ◌∷◌}
use Rattle.lq_trees.specs.Tree.{Tree, Context, Hypothesis as TreeHypothesis}
use Rattle.lq_terms.specs.Terms.{Terms, HasTerm, IsTerm, tree_of}
use Rattle.lq_terms.specs.Contexts.{HasAllOf, hypothesis_of}
use Rattle.lq_solving.specs.Unification.{Sides, sides}
use Rattle.lq_unify.specs.declared.pairs.Pair.{Pair}
use Rattle.lq_unify.specs.declared.pairs.Under.{Under}

-- the sides of pairs in a context
abbrev pub pairs_in : Terms → Context → List Pair → List Sides
pairs_in bank g [] = []
pairs_in bank g (p ∷ ps) = sides g (tree_of bank p.left) (tree_of bank p.right) ∷ pairs_in bank g ps

-- the bank has both terms
abbrev pub HasPair : Terms → Pair → Type 0
HasPair bank p = HasTerm bank p.left × HasTerm bank p.right

-- what is under a binder: the hypothesis for its variable, and both terms
pub record IsUnder (bank : Terms) (u : Under) (variable : TreeHypothesis) (first second : Tree) : Type 0 where
  pub has : HasAllOf bank u.variable
  pub is : hypothesis_of bank u.variable ≡ variable
  pub left : IsTerm bank u.pair.left first
  pub right : IsTerm bank u.pair.right second
