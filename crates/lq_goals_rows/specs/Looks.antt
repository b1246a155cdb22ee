-- The terms that rows hand in, and a proof in a bank.
use Rattle.std.specs.Prelude.{◌≡◌, ◌≤◌, ◌<◌, ℕ, suc, List, [], ◌∷◌}
use Rattle.lq_trees.specs.declared.Sort.{Sort as Universe}
use Rattle.lq_trees.specs.Tree.Tree.{Sort}
use Rattle.lq_terms.specs.declared.nodes.TermId.{TermId}
use Rattle.lq_terms.specs.Terms.{Terms, HasTerm, tree_of}
use Rattle.lq_solving.specs.Claims.{IsPlain}
use Rattle.lq_solving.specs.Kept.{IsStore}
use Rattle.lq_evars.specs.Places.{store_of, HasStore}
use Rattle.lq_goals.specs.Held.{Held}

-- a term without variables and hypotheses
pub record HasPlain (bank : Terms) (t : TermId) : Type 0 where
  pub has : HasTerm bank t
  pub plain : IsPlain 0 (tree_of bank t)

-- the sort of propositions
pub record IsSort (bank : Terms) (t : TermId) : Type 0 where
  pub has : HasTerm bank t
  pub is : tree_of bank t ≡ Sort Universe.Base

-- a proof whose store lies in a bank, as its calls keep it
pub record IsKept (bank : Terms) (p : Held) : Type 0 where
  pub has : HasStore bank p.store
  pub kept : IsStore (store_of bank p.store)

-- rising numbers, from the first bound on and below the second
abbrev pub AreRising : ℕ → ℕ → List ℕ → Type 0
AreRising low count [] = Unit {0}
AreRising low count (k ∷ ks) = (low ≤ k) × (k < count) × AreRising (suc k) count ks
