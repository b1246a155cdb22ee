-- Elaboration from turn to turn, to its end.
use Rattle.std.specs.Prelude.{◌≡◌, ℕ, List, [], Option, Some, None, Result, Ok, Err}
use Rattle.lq_trees.specs.Ticks.{gives, ◌>>=◌, done, ComesTo}
use Rattle.lq_terms.specs.declared.nodes.NameId.{NameId}
use Rattle.lq_terms.specs.declared.nodes.Hypothesis.{Hypothesis}
use Rattle.lq_terms.specs.Terms.{Terms, HasTerm, tree_of}
use Rattle.lq_terms.specs.Contexts.{context_of}
use Rattle.lq_solving.specs.Stores.{Store, read}
use Rattle.lq_solving.specs.Kept.{StandsIn}
use Rattle.lq_solving.specs.ElabFaults.{Elab, elab_fitting}
use Rattle.lq_solving.specs.Elaboration.{Found as TreeFound}
use Rattle.lq_solving.proofs.ElabKept.{Grown}
use Rattle.lq_evars.specs.Places.{Places, store_of, HasStore}
use Rattle.lq_typing.specs.declared.faults.ElabFault.{ElabFault}
use Rattle.lq_typing.specs.Refusals.{Refuses}
use Rattle.lq_elab.specs.declared.finding.Found.{Found}
use Rattle.lq_elab.specs.declared.frames.Frame.{Frame}
use Rattle.lq_elab.specs.declared.scope.Meaning.{Meaning}
use Rattle.lq_elab.specs.declared.sites.Site.{Site}
use Rattle.lq_elab.specs.declared.turns.Turn.{Turn}
use Rattle.lq_elab.specs.Answers.{found_of}
use Rattle.lq_elab.specs.Continuing.{IsNext}

-- a term was elaborated
abbrev pub IsFound : Turn → Type 0
IsFound (Turn.Ask t w) = ⊥
IsFound (Turn.Found x) = Unit {0}

-- what a turn found
abbrev pub found_at : Turn → Option Found
found_at (Turn.Ask t w) = None
found_at (Turn.Found x) = Some x

-- elaboration goes on with the next turn, or ends with what was found last where nothing waits, or the refusal is true
abbrev pub GoesOn : Terms → Site → Store → Places → List Hypothesis → List (NameId × Meaning) → List Frame → (last : Turn) → Result (Option Turn) ElabFault
    → (ℕ → Elab TreeFound) → (budget left most : ℕ) → Type 0
GoesOn bank c S s hs es fs last (Ok (Some t)) f budget left most = IsNext bank c S s hs es fs t f budget left most
GoesOn bank c S s hs es fs last (Ok None) f budget left most = (fs ≡ []) × IsFound last × IsNext bank c S s hs es fs last f budget left most
GoesOn bank c S s hs es fs last (Err e) f budget left most = Refuses bank e f budget left

-- what was found stands in the goal's context, over a store that has grown, and is what the work comes to
pub record IsEnd (bank : Terms) (c : Site) (S : Store) (s : Places) (x : Found) (f : ℕ → Elab TreeFound) (budget left : ℕ) : Type 0 where
  pub has : HasStore bank s
  pub grown : Grown S (store_of bank s)
  pub term : HasTerm bank x.term
  pub kind : HasTerm bank x.kind
  pub term_stands : StandsIn (store_of bank s) (context_of bank c.outer.now) (tree_of bank x.term)
  pub kind_stands : StandsIn (store_of bank s) (context_of bank c.outer.now) (tree_of bank x.kind)
  pub comes : ComesTo f budget (done (found_of bank s x) left)

-- that, or the refusal is true
abbrev pub Ends : Terms → Site → Store → Places → Result Found ElabFault → (ℕ → Elab TreeFound) → (budget left : ℕ) → Type 0
Ends bank c S s (Ok x) f budget left = IsEnd bank c S s x f budget left
Ends bank c S s (Err e) f budget left = Refuses bank e f budget left

-- what was found, if the term and its type keep within the limits as they read
abbrev pub limits : TreeFound → Elab TreeFound
limits f = elab_fitting (read f.store f.term) >>= λ ok. elab_fitting (read f.store f.kind) >>= λ ok2. gives f
