-- The lists of a proof after a row.
use Rattle.std.proofs.Common.{◌≡◌, ◌∙◌, ℕ, refl, sym, ap, ap₂, List, [], ◌∷◌, Result, Ok, Err}
use Rattle.std.proofs.Common.{subst as along}
use Rattle.lq_trees.specs.Ticks.{gives, fails}
use Rattle.lq_terms.specs.Terms.{Terms}
use Rattle.lq_solving.specs.Kept.{IsStore}
use Rattle.lq_states.specs.Goals.{Proof, GoalFault, with_store, without, replaced, nothing_focused, too_many_goals}
use Rattle.lq_states.specs.Kept.{IsListed, MayReplace, IsSwept}
use Rattle.lq_evars.specs.Places.{store_of}
use Rattle.lq_goals.specs.declared.proof.GoalFault.{GoalFault as ListFault}
use Rattle.lq_goals.specs.Held.{Held, proof_of, Changes}
use Rattle.lq_tactics.specs.Rows.{Doing, Scene, Step, PrimDone, made_open, listed, goals_exceeded}
use Rattle.lq_tactics.proofs.StepsKept.{IsThere, row_listed, row_may_replace, row_swept}
use Rattle.lq_prims.specs.declared.faults.PrimFault.{PrimFault}
use Rattle.lq_prims.specs.Finishing.{Finishes, done_with}
use Rattle.lq_prims.specs.Refusals.{list_refusal}
use Rattle.lq_prims.specs.Working.{Refuses}
use Rattle.lq_prims.proofs.WorkLaws.{refuses_at_once, no_memory}

-- what the lists come to
abbrev pub list_answer : Result Proof GoalFault → (goals shelved : List ℕ) → Doing PrimDone
list_answer (Ok r) js ks = gives (record { proof = r; goals = js; shelved = ks })
list_answer (Err f) js ks = fails goals_exceeded

module _ (bank : Terms) (q : Held) (goal before : ℕ) (goals : List ℕ) (p : Proof) (c : Scene) (st : Step) (f : Finishes bank q goal before goals p c st) where
  same_store : store_of bank q.store ≡ st.store
  same_store = ap (λ z. z.store) f.stored

  pub store_kept : IsStore (store_of bank q.store)
  store_kept = along IsStore (sym same_store) f.step.grown.store

  at_scene : IsThere p c.goal
  at_scene = along (IsThere p) (sym f.at_goal) f.there

  pub lists_kept : IsListed (proof_of bank q)
  lists_kept = along IsListed (sym f.stored) (row_listed p c st f.proof f.scene f.same at_scene f.step)

  pub swept_still : IsSwept (proof_of bank q) q.given q.seen
  swept_still = along (λ z. IsSwept z q.given q.seen) (sym f.stored) (row_swept p c st f.proof f.scene f.same at_scene f.step q.given q.seen f.swept)

  module _ (items : List ℕ) (is : items ≡ without goals (made_open p.store (store_of bank q.store))) where
    items_are : items ≡ without st.goals (made_open p.store st.store)
    items_are = is ∙ ap₂ (λ js s. without js (made_open p.store s)) (sym f.left) same_store

    pub may_replace : MayReplace (proof_of bank q) (goal ∷ []) goals items
    may_replace =
        along (λ z. MayReplace z (goal ∷ []) goals items) (sym f.stored)
        (along (λ k. MayReplace (with_store p st.store) (k ∷ []) goals items) f.at_goal
        (along (λ js. MayReplace (with_store p st.store) (c.goal ∷ []) js items) f.left
        (along (MayReplace (with_store p st.store) (c.goal ∷ []) st.goals) (sym items_are) (row_may_replace p c st f.proof f.scene f.same at_scene f.step))))

    answer_as : (o : Result Proof GoalFault) (js ks : List ℕ) →
        elim o as (λ z. Doing PrimDone) [ Ok r ↦ gives (record { proof = r; goals = js; shelved = ks }) | Err e ↦ fails goals_exceeded ] ≡ list_answer o js ks
    answer_as (Ok r) js ks = refl
    answer_as (Err e) js ks = refl

    listed_is : listed p goal st ≡ list_answer (replaced (proof_of bank q) (goal ∷ []) goals items) goals items
    unfolding listed
    listed_is =
        answer_as (replaced (with_store p st.store) (goal ∷ []) st.goals (without st.goals (made_open p.store st.store))) st.goals (without st.goals (made_open p.store st.store))
        ∙ ap₂ (λ js ks. list_answer (replaced (with_store p st.store) (goal ∷ []) js ks) js ks) f.left (sym items_are)
        ∙ ap (λ z. list_answer (replaced z (goal ∷ []) goals items) goals items) (sym f.stored)

    pub listed_done : (new : Held) → replaced (proof_of bank q) (goal ∷ []) goals items ≡ Ok (proof_of bank new) → listed p goal st ≡ gives (done_with bank new goals items)
    listed_done new e = listed_is ∙ ap (λ o. list_answer o goals items) e

    pub listed_refused : (x : GoalFault) → replaced (proof_of bank q) (goal ∷ []) goals items ≡ Err x → (b : ℕ) → Refuses bank PrimFault.TooManyGoals (λ n. listed p goal st) b b
    listed_refused x e b = refuses_at_once bank PrimFault.TooManyGoals goals_exceeded (listed p goal st) refl (listed_is ∙ ap (λ o. list_answer o goals items) e) b

    pub listed_fault : (x : ListFault) (new : Held) → Changes bank (Err x) new (replaced (proof_of bank q) (goal ∷ []) goals items) → (b : ℕ) → Refuses bank (list_refusal x) (λ n. listed p goal st) b b
    listed_fault ListFault.NothingFocused new h b = listed_refused nothing_focused h b
    listed_fault ListFault.TooManyGoals new h b = listed_refused too_many_goals h b
    listed_fault ListFault.NoMemory new h b = no_memory bank (λ n. listed p goal st) b b
