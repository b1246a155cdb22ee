-- The goals and proofs of a bank over texts and trees, and what callers promise of them.
use Rattle.std.specs.Prelude.{map, Option, Some, None, option_map}
use Rattle.std.specs.List.{AllByRecursion}
use Rattle.lq_terms.specs.Terms.{Terms, HasName, HasTerm, text_of, tree_of}
use Rattle.lq_terms.specs.Contexts.{context_of}
use Rattle.lq_terms.specs.declared.nodes.Hypothesis.{Hypothesis}
use Rattle.lq_terms.specs.declared.nodes.NameId.{NameId}
use Rattle.lq_terms.specs.declared.nodes.TermId.{TermId}
use Rattle.lq_texts.specs.Views.{Goal, View}
use Rattle.lq_goals.specs.declared.views.GoalView.{GoalView}
use Rattle.lq_goals.specs.declared.views.ProofView.{ProofView}

abbrev pub goal_of : Terms → GoalView → Goal
goal_of bank g = record { name = option_map (text_of bank) g.name; context = context_of bank g.context; kind = tree_of bank g.kind }

abbrev pub view_of : Terms → ProofView → View
view_of bank v = record { goals = map (goal_of bank) v.goals.items; shelved = v.shelved }

-- the bank has the name, if there is one
abbrev pub HasNameOr : Terms → Option NameId → Type 0
HasNameOr bank None = Unit {0}
HasNameOr bank (Some x) = HasName bank x

-- the bank has the term, if there is one
abbrev pub HasTermOr : Terms → Option TermId → Type 0
HasTermOr bank None = Unit {0}
HasTermOr bank (Some t) = HasTerm bank t

-- the bank has a hypothesis
pub record HasHypothesis (bank : Terms) (h : Hypothesis) : Type 0 where
  pub name : HasName bank h.name
  pub body : HasTermOr bank h.body
  pub kind : HasTerm bank h.kind

-- the bank has a goal
pub record HasGoal (bank : Terms) (g : GoalView) : Type 0 where
  pub name : HasNameOr bank g.name
  pub context : AllByRecursion (HasHypothesis bank) g.context
  pub kind : HasTerm bank g.kind
