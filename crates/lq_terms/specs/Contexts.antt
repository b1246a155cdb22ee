-- The context of trees that hypotheses of a bank stand for.
use Rattle.std.specs.Prelude.{List, map, Option, Some, None, option_map}
use Rattle.std.specs.List.{AllByRecursion}
use Rattle.lq_trees.specs.Tree.{Hypothesis as TreeHypothesis, Context}
use Rattle.lq_terms.specs.declared.nodes.Hypothesis.{Hypothesis}
use Rattle.lq_terms.specs.declared.nodes.TermId.{TermId}
use Rattle.lq_terms.specs.Terms.{Terms, HasName, HasTerm, text_of, tree_of}

abbrev pub hypothesis_of : Terms → Hypothesis → TreeHypothesis
hypothesis_of bank h = record { name = text_of bank h.name; body = option_map (tree_of bank) h.body; kind = tree_of bank h.kind }

abbrev pub context_of : Terms → List Hypothesis → Context
context_of bank hs = map (hypothesis_of bank) hs

-- the bank has the term, if there is one
abbrev pub HasBody : Terms → Option TermId → Type 0
HasBody bank None = Unit {0}
HasBody bank (Some t) = HasTerm bank t

-- the bank has all that a hypothesis names
pub record HasAllOf (bank : Terms) (h : Hypothesis) : Type 0 where
  pub name : HasName bank h.name
  pub body : HasBody bank h.body
  pub kind : HasTerm bank h.kind

abbrev pub HasContext : Terms → List Hypothesis → Type 0
HasContext bank hs = AllByRecursion (HasAllOf bank) hs
