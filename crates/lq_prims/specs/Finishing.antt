-- The end of a primitive, by places of a bank.
use Rattle.std.specs.Prelude.{◌≡◌, ℕ, List}
use Rattle.lq_terms.specs.Terms.{Terms}
use Rattle.lq_solving.specs.Stores.{count}
use Rattle.lq_states.specs.Goals.{Proof, with_store}
use Rattle.lq_states.specs.Kept.{IsProof, IsSwept}
use Rattle.lq_goals.specs.Held.{Held, proof_of}
use Rattle.lq_tactics.specs.Rows.{Scene, Step, PrimDone}
use Rattle.lq_tactics.proofs.RowsKept.{IsScene, IsStep}
use Rattle.lq_tactics.proofs.StepsKept.{IsThere}

-- The proof has the store of a step on its goal, and the lists that it had before the step.
pub record Finishes (bank : Terms) (q : Held) (goal before : ℕ) (goals : List ℕ) (p : Proof) (c : Scene) (st : Step) : Type 0 where
  pub proof : IsProof p
  pub scene : IsScene c
  pub same : c.store ≡ p.store
  pub at_goal : c.goal ≡ goal
  pub there : IsThere p goal
  pub step : IsStep c st
  pub stored : proof_of bank q ≡ with_store p st.store
  pub left : st.goals ≡ goals
  pub many : count p.store ≡ before
  pub swept : IsSwept p q.given q.seen

-- the proof then, the new goals and those on the shelf
abbrev pub done_with : Terms → Held → (goals shelved : List ℕ) → PrimDone
done_with bank q js ks = record { proof = proof_of bank q; goals = js; shelved = ks }
