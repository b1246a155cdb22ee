-- How elaboration goes on from one turn to the next.
use Rattle.std.specs.Prelude.{◌+◌, ◌*◌, ◌≤◌, ℕ, List, Result, Ok, Err}
use Rattle.lq_terms.specs.declared.nodes.NameId.{NameId}
use Rattle.lq_terms.specs.declared.nodes.Hypothesis.{Hypothesis}
use Rattle.lq_terms.specs.Terms.{Terms}
use Rattle.lq_solving.specs.Stores.{Store}
use Rattle.lq_solving.specs.ElabFaults.{Elab}
use Rattle.lq_solving.specs.Elaboration.{Found}
use Rattle.lq_solving.proofs.ElabKept.{Grown}
use Rattle.lq_evars.specs.Places.{Places, store_of}
use Rattle.lq_typing.specs.declared.faults.ElabFault.{ElabFault}
use Rattle.lq_typing.specs.Refusals.{Refuses}
use Rattle.lq_elab.specs.declared.frames.Frame.{Frame}
use Rattle.lq_elab.specs.declared.scope.Meaning.{Meaning}
use Rattle.lq_elab.specs.declared.sites.Site.{Site}
use Rattle.lq_elab.specs.declared.turns.Turn.{Turn}
use Rattle.lq_elab.specs.Waiting.{Leads}
use Rattle.lq_elab.specs.Frames.{weights}
use Rattle.lq_elab.specs.States.{IsState, TurnStands, turn_work, due}

-- the next turn stands in a state that holds, over a store that has grown, and leads to the outcome; it takes no more than so many turns
pub record IsNext (bank : Terms) (c : Site) (S : Store) (s : Places) (hs : List Hypothesis) (es : List (NameId × Meaning)) (fs : List Frame) (t : Turn)
    (f : ℕ → Elab Found) (budget left most : ℕ) : Type 0 where
  pub state : IsState bank c s hs es fs
  pub stands : TurnStands bank s hs t
  pub grown : Grown S (store_of bank s)
  pub falls : weights fs + due t + 4 * left ≤ most
  pub leads : Leads f (turn_work bank c s hs fs t) budget left

-- elaboration goes on with the next turn, or the refusal is true
abbrev pub Continues : Terms → Site → Store → Places → List Hypothesis → List (NameId × Meaning) → List Frame → Result Turn ElabFault
    → (ℕ → Elab Found) → (budget left most : ℕ) → Type 0
Continues bank c S s hs es fs (Ok t) f budget left most = IsNext bank c S s hs es fs t f budget left most
Continues bank c S s hs es fs (Err e) f budget left most = Refuses bank e f budget left
