-- The variables that a term made, and where new goals are made.
use Rattle.std.specs.Prelude.{◌≡◌, false, List, [], ◌∷◌, length}
use Rattle.lq_trees.specs.Fresh.{is_listed}
use Rattle.lq_trees.specs.Ticks.{gives, fails}
use Rattle.lq_terms.specs.declared.nodes.Hypothesis.{Hypothesis}
use Rattle.lq_terms.specs.declared.nodes.TermId.{TermId}
use Rattle.lq_terms.specs.Terms.{Terms, HasTerm, text_of, tree_of}
use Rattle.lq_terms.specs.Contexts.{HasContext, HasAllOf, context_of, hypothesis_of}
use Rattle.lq_solving.specs.Stores.{Store, names_in}
use Rattle.lq_solving.specs.Kept.{IsStore, IsContext, OptionStands, StandsIn}
use Rattle.lq_evars.specs.Places.{Places, store_of, HasStore}
use Rattle.lq_tactics.specs.Rows.{Doing, made_open, variables_left}

-- no variable that was made may be left without a value
unfoldable pub left_work : Store → Store → Doing (Unit {0})
left_work s s1 = elim (made_open s s1) [ [] ↦ gives tt | k ∷ ks ↦ fails (variables_left (length (k ∷ ks))) ]

-- a store and a context in which goals are made
pub record IsIn (bank : Terms) (s : Places) (hs : List Hypothesis) : Type 0 where
  pub store : HasStore bank s
  pub kept : IsStore (store_of bank s)
  pub has : HasContext bank hs
  pub stands : IsContext (store_of bank s) (context_of bank hs)

-- a term stands there
pub record HasIn (bank : Terms) (s : Places) (hs : List Hypothesis) (t : TermId) : Type 0 where
  pub has : HasTerm bank t
  pub stands : StandsIn (store_of bank s) (context_of bank hs) (tree_of bank t)

-- a hypothesis may stand behind the context
pub record MayFollow (bank : Terms) (s : Places) (hs : List Hypothesis) (h : Hypothesis) : Type 0 where
  pub has : HasAllOf bank h
  pub new : is_listed (names_in (context_of bank hs)) (text_of bank h.name) ≡ false
  pub body : OptionStands (store_of bank s) (names_in (context_of bank hs)) (hypothesis_of bank h).body
  pub kind : StandsIn (store_of bank s) (context_of bank hs) (tree_of bank h.kind)
