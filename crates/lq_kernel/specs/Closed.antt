-- Terms and contexts without loose bound variables.
use Rattle.std.specs.Prelude.{ℕ, List, Option, Some, None}
use Rattle.std.specs.List.{AllByRecursion}
use Rattle.lq_trees.specs.Index.{Within}
use Rattle.lq_terms.specs.declared.nodes.TermId.{TermId}
use Rattle.lq_terms.specs.declared.nodes.Hypothesis.{Hypothesis}
use Rattle.lq_terms.specs.Terms.{Terms, HasName, HasTerm, tree_of}

-- a term of the bank whose loose bound variables are below n: with 0 it has none
pub record IsScoped (bank : Terms) (n : ℕ) (t : TermId) : Type 0 where
  pub has : HasTerm bank t
  pub within : Within n (tree_of bank t)

-- a body that may be there has none
abbrev pub IsBody : Terms → Option TermId → Type 0
IsBody bank None = Unit {0}
IsBody bank (Some t) = IsScoped bank 0 t

-- a hypothesis of the bank, whose type and body have no loose bound variables
pub record IsHypothesis (bank : Terms) (h : Hypothesis) : Type 0 where
  pub name : HasName bank h.name
  pub body : IsBody bank h.body
  pub kind : IsScoped bank 0 h.kind

abbrev pub IsContext : Terms → List Hypothesis → Type 0
IsContext bank hs = AllByRecursion (IsHypothesis bank) hs
