-- What unification comes to, as work of a row.
use Rattle.std.proofs.Common.{◌∙◌, ℕ, refl, ap, Bool, Result, Ok, Err, List}
use Rattle.std.proofs.Common.{subst as along}
use Rattle.lq_trees.specs.Ticks.{Paid, Outcome, done, failed, steps_out, faults_as, ComesTo}
use Rattle.lq_unify.proofs.ReduceSteps.{outcome_as, within_faults}
use Rattle.lq_calculus.specs.Declarations.{rules_of}
use Rattle.lq_terms.specs.declared.nodes.NameId.{NameId}
use Rattle.lq_terms.specs.Telling.{Tells}
use Rattle.lq_terms.specs.Terms.{Terms, HasName}
use Rattle.lq_env.specs.declared.environment.Declared.{Declared}
use Rattle.lq_env.specs.Environments.{IsEnv, IsOwn, env_of, telling}
use Rattle.lq_env.proofs.Grown.{env_of-grown, IsEnv-grown}
use Rattle.lq_kernel.proofs.Told.{own}
use Rattle.lq_solving.specs.Unification.{Unify, Answer, unify_too_large, unify_too_deep}
use Rattle.lq_solving.specs.ElabFaults.{unify_fault, by_unify, elab_too_large, elab_too_deep}
use Rattle.lq_evars.specs.Places.{Places}
use Rattle.lq_unify.specs.declared.faults.UnifyFault.{UnifyFault}
use Rattle.lq_unify.specs.Frames.{answer_of}
use Rattle.lq_unify.specs.Telling.{TellsOn}
use Rattle.lq_unify.specs.Turns.{Unifies}
use Rattle.lq_tactics.specs.Rows.{by_elab, elab_work}
use Rattle.lq_prims.specs.Refusals.{unify_refusal, at_fault, ticks_spent}
use Rattle.lq_prims.specs.Working.{Does}
use Rattle.lq_prims.proofs.WorkLaws.{no_memory}

-- the rules of an environment are told, in each later bank
pub env_rules : (bank : Terms) (ds : List (NameId × Declared)) → IsEnv bank ds →
    ((new : Terms) → IsEnv new ds → ((x : NameId) → HasName new x → IsOwn new x) → Tells new (telling ds) (rules_of (env_of new ds))) → TellsOn bank (telling ds) (rules_of (env_of bank ds))
env_rules bank ds h told new grows apart =
    along (λ E. Tells new (telling ds) (rules_of E)) (env_of-grown bank new grows ds h)
    (told new (IsEnv-grown bank new grows ds h) (λ x has. own new x apart has))

pub faults_come : {F G A : Type 0} (h : F → G) (f : ℕ → Paid F A) (b : ℕ) (o : Outcome F A) → ComesTo f b o → ComesTo (λ n. faults_as h (f n)) b (outcome_as h o)
faults_come h f b o c = λ n i. within_faults h b (f n) ∙ ap (outcome_as h) (c n i)

both_come : (f : ℕ → Unify Answer) (b : ℕ) (o : Outcome _ Answer) → ComesTo f b o → ComesTo (λ n. elab_work (by_unify (f n))) b (outcome_as by_elab (outcome_as unify_fault o))
both_come f b o c = faults_come by_elab (λ n. by_unify (f n)) b (outcome_as unify_fault o) (faults_come unify_fault f b o c)

-- by the answer of unification
pub does_unify : (bank : Terms) (new : Places) (f : ℕ → Unify Answer) (b left : ℕ) (q : Result Bool UnifyFault) → Unifies bank new q f b left →
    elim q as (λ z. Type 0) [
      | Ok said ↦ Does bank (answer_of bank new) (Ok said) (λ n. elab_work (by_unify (f n))) b left
      | Err e ↦ Does bank (answer_of bank new) (Err (unify_refusal e)) (λ n. elab_work (by_unify (f n))) b left
    ]
unfolding outcome_as unify_fault
does_unify bank new f b left (Ok said) h = both_come f b (done (answer_of bank new said) left) h
does_unify bank new f b left (Err UnifyFault.StepsOut) h = record { stop = ticks_spent; tells = refl; stops = (both_come f b steps_out h.0, h.1) }
does_unify bank new f b left (Err UnifyFault.TooLarge) h =
    record { stop = at_fault (by_elab elab_too_large); tells = (elab_too_large, refl, refl); stops = both_come f b (failed unify_too_large left) h }
does_unify bank new f b left (Err UnifyFault.TooDeep) h =
    record { stop = at_fault (by_elab elab_too_deep); tells = (elab_too_deep, refl, refl); stops = both_come f b (failed unify_too_deep left) h }
does_unify bank new f b left (Err UnifyFault.NoMemory) h = no_memory bank (λ n. elab_work (by_unify (f n))) b left
