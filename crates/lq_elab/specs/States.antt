-- What comes next in elaboration, and that it leads to the outcome of the call.
use Rattle.std.specs.Prelude.{◌≡◌, ℕ, List, map, Some, option_map, Result, Ok, Err}
use Rattle.std.specs.List.{AllByRecursion}
use Rattle.lq_trees.specs.Tree.{Name, Tree, value_of}
use Rattle.lq_trees.specs.Index.{Within}
use Rattle.lq_terms.specs.declared.nodes.NameId.{NameId}
use Rattle.lq_terms.specs.declared.nodes.Hypothesis.{Hypothesis}
use Rattle.lq_terms.specs.Terms.{Terms, HasName, HasTerm, text_of, tree_of}
use Rattle.lq_terms.specs.Contexts.{HasBody, HasContext, context_of}
use Rattle.lq_env.specs.Environments.{IsEnv, env_of}
use Rattle.lq_solving.specs.Stores.{Store, names_in}
use Rattle.lq_solving.specs.Kept.{IsOver, IsContext, IsStore, OptionStands, StandsIn}
use Rattle.lq_solving.specs.Claims.{ArePlainDeclarations}
use Rattle.lq_solving.specs.ElabFaults.{Elab}
use Rattle.lq_solving.specs.Elaboration as tree
use Rattle.lq_solving.specs.Elaboration.{Found}
use Rattle.lq_evars.specs.Places.{Places, store_of, HasStore}
use Rattle.lq_typing.specs.declared.faults.ElabFault.{ElabFault}
use Rattle.lq_typing.specs.Refusals.{Refuses}
use Rattle.lq_elab.specs.declared.frames.Frame.{Frame}
use Rattle.lq_elab.specs.declared.scope.Meaning.{Meaning}
use Rattle.lq_elab.specs.declared.sites.Given.{Given}
use Rattle.lq_elab.specs.declared.sites.Site.{Site}
use Rattle.lq_elab.specs.declared.turns.Turn.{Turn}
use Rattle.lq_elab.specs.Waiting.{found_work, asked_work, Leads}
use Rattle.lq_elab.specs.Naming.{meaning}
use Rattle.lq_elab.specs.Views.{asked_tree}
use Rattle.lq_elab.specs.Scopes.{IsScope}
use Rattle.lq_elab.specs.Frames.{spot_of, waits, FramesHold, AllStand}
use Rattle.lq_elab.specs.Answers.{found_of}

-- an Ltac value over trees
abbrev pub given_of : Terms → Given → tree.Given
given_of bank (Given.Term t) = tree.given_term (tree_of bank t)
given_of bank (Given.Name x) = tree.given_name (text_of bank x)
given_of bank Given.Other = tree.given_other

abbrev pub givens_of : Terms → List (NameId × Given) → tree.Givens
givens_of bank vs = map (λ v. (text_of bank v.0, given_of bank v.1)) vs

-- the bank has what a value names
abbrev pub HasGiven : Terms → NameId × Given → Type 0
HasGiven bank (x, Given.Term t) = HasName bank x × HasTerm bank t
HasGiven bank (x, Given.Name y) = HasName bank x × HasName bank y
HasGiven bank (x, Given.Other) = HasName bank x

-- the place of a call over trees
abbrev pub site_of : Terms → Site → tree.Site
site_of bank c = record { env = env_of bank c.env.now; bound = 0; values = givens_of bank c.values.now; outer = context_of bank c.outer.now }

-- what a call's place promises over a store
pub record IsSite (bank : Terms) (s : Store) (c : Site) : Type 0 where
  pub env : IsEnv bank c.env.now
  pub plain : ArePlainDeclarations (env_of bank c.env.now)
  pub outer : HasContext bank c.outer.now
  pub hypotheses : IsContext s (context_of bank c.outer.now)
  pub values : AllByRecursion (HasGiven bank) c.values.now
  pub stand : (x : Name) (t : Tree) → value_of (givens_of bank c.values.now) x ≡ Some (tree.given_term t) → IsOver s.variables t × Within 0 t

-- what is true between two turns
pub record IsState (bank : Terms) (c : Site) (s : Places) (hs : List Hypothesis) (es : List (NameId × Meaning)) (fs : List Frame) : Type 0 where
  pub store : HasStore bank s
  pub kept : IsStore (store_of bank s)
  pub site : IsSite bank (store_of bank s) c
  pub context : HasContext bank hs
  pub hypotheses : IsContext (store_of bank s) (context_of bank hs)
  pub frames : FramesHold bank (site_of bank c) hs fs
  pub stand : AllStand (store_of bank s) (waits bank hs fs)
  pub scope : IsScope bank (meaning (site_of bank c) (spot_of bank hs fs)) es

-- what comes next stands in the context
abbrev pub TurnStands : Terms → Places → List Hypothesis → Turn → Type 0
TurnStands bank s hs (Turn.Ask t w) = HasBody bank w × OptionStands (store_of bank s) (names_in (context_of bank hs)) (option_map (tree_of bank) w)
TurnStands bank s hs (Turn.Found f) =
    HasTerm bank f.term × HasTerm bank f.kind × StandsIn (store_of bank s) (context_of bank hs) (tree_of bank f.term) × StandsIn (store_of bank s) (context_of bank hs) (tree_of bank f.kind)

-- the work that is left at a turn
abbrev pub turn_work : Terms → Site → Places → List Hypothesis → List Frame → Turn → ℕ → Elab Found
turn_work bank c s hs fs (Turn.Ask t w) = asked_work (site_of bank c) (waits bank hs fs) (spot_of bank hs fs) (store_of bank s) (asked_tree t) (option_map (tree_of bank) w)
turn_work bank c s hs fs (Turn.Found f) = found_work (site_of bank c) (waits bank hs fs) (found_of bank s f)

-- what comes next leads to the outcome, or the refusal is true
abbrev pub Goes : Terms → Site → Places → List Hypothesis → List Frame → Result Turn ElabFault → (ℕ → Elab Found) → (budget left : ℕ) → Type 0
Goes bank c s hs fs (Ok t) f budget left = Leads f (turn_work bank c s hs fs t) budget left
Goes bank c s hs fs (Err e) f budget left = Refuses bank e f budget left

-- how much of the turns it takes
abbrev pub due : Turn → ℕ
due (Turn.Ask t w) = 0
due (Turn.Found f) = 1
