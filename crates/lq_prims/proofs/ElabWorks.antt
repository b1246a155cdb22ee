-- What elaboration and inference come to, as work of a row.
use Rattle.std.proofs.Common.{ℕ, refl}
use Rattle.lq_trees.specs.Ticks.{done, failed, steps_out, ComesTo}
use Rattle.lq_terms.specs.Terms.{Terms, tree_of, text_of}
use Rattle.lq_solving.specs.ElabFaults.{Elab, unknown, found_wanted, no_product, nothing_above, cannot_infer, no_sort, forbidden, name_in_use, elab_too_large, elab_too_deep, full, not_a_term}
use Rattle.lq_typing.specs.declared.faults.ElabFault.{ElabFault}
use Rattle.lq_typing.specs.Refusals.{Refuses as ElabRefuses}
use Rattle.lq_unify.proofs.ReduceSteps.{outcome_as}
use Rattle.lq_tactics.specs.Rows.{by_elab, elab_work}
use Rattle.lq_prims.specs.declared.faults.PrimFault.{PrimFault}
use Rattle.lq_prims.specs.Refusals.{at_fault, ticks_spent, memory_ended}
use Rattle.lq_prims.specs.Working.{Refuses}
use Rattle.lq_prims.proofs.UnifyLaws.{faults_come}

-- a refusal of elaboration is one of the row
pub elab_refused : {A : Type 0} (bank : Terms) (e : ElabFault) (f : ℕ → Elab A) (b left : ℕ) → ElabRefuses bank e f b left → Refuses bank (PrimFault.Elab e) (λ n. elab_work (f n)) b left
unfolding outcome_as
elab_refused bank (ElabFault.Unknown x) f b left h = record { stop = at_fault (by_elab (unknown (text_of bank x))); tells = (unknown (text_of bank x), (h.0, refl), refl); stops = faults_come by_elab f b (failed (unknown (text_of bank x)) left) h.1 }
elab_refused bank (ElabFault.Mismatch t u) f b left h = record { stop = at_fault (by_elab (found_wanted (tree_of bank t) (tree_of bank u))); tells = (found_wanted (tree_of bank t) (tree_of bank u), (h.0, h.1, refl), refl); stops = faults_come by_elab f b (failed (found_wanted (tree_of bank t) (tree_of bank u)) left) h.2 }
elab_refused bank (ElabFault.NotAProduct t) f b left h = record { stop = at_fault (by_elab (no_product (tree_of bank t))); tells = (no_product (tree_of bank t), (h.0, refl), refl); stops = faults_come by_elab f b (failed (no_product (tree_of bank t)) left) h.1 }
elab_refused bank ElabFault.NoSortAbove f b left h = record { stop = at_fault (by_elab nothing_above); tells = (nothing_above, refl, refl); stops = faults_come by_elab f b (failed nothing_above left) h }
elab_refused bank (ElabFault.CannotInfer p) f b left h = record { stop = at_fault (by_elab (cannot_infer p)); tells = (cannot_infer p, refl, refl); stops = faults_come by_elab f b (failed (cannot_infer p) left) h }
elab_refused bank (ElabFault.NotASort t) f b left h = record { stop = at_fault (by_elab (no_sort (tree_of bank t))); tells = (no_sort (tree_of bank t), (h.0, refl), refl); stops = faults_come by_elab f b (failed (no_sort (tree_of bank t)) left) h.1 }
elab_refused bank (ElabFault.ElimForbidden x s) f b left h = record { stop = at_fault (by_elab (forbidden (text_of bank x) s)); tells = (forbidden (text_of bank x) s, (h.0, refl), refl); stops = faults_come by_elab f b (failed (forbidden (text_of bank x) s) left) h.1 }
elab_refused bank (ElabFault.NameInUse x) f b left h = record { stop = at_fault (by_elab (name_in_use (text_of bank x))); tells = (name_in_use (text_of bank x), (h.0, refl), refl); stops = faults_come by_elab f b (failed (name_in_use (text_of bank x)) left) h.1 }
elab_refused bank ElabFault.TooLarge f b left h = record { stop = at_fault (by_elab elab_too_large); tells = (elab_too_large, refl, refl); stops = faults_come by_elab f b (failed elab_too_large left) h }
elab_refused bank ElabFault.TooDeep f b left h = record { stop = at_fault (by_elab elab_too_deep); tells = (elab_too_deep, refl, refl); stops = faults_come by_elab f b (failed elab_too_deep left) h }
elab_refused bank ElabFault.Full f b left h = record { stop = at_fault (by_elab full); tells = (full, refl, refl); stops = faults_come by_elab f b (failed full left) h }
elab_refused bank (ElabFault.NotATerm x) f b left h = record { stop = at_fault (by_elab (not_a_term (text_of bank x))); tells = (not_a_term (text_of bank x), (h.0, refl), refl); stops = faults_come by_elab f b (failed (not_a_term (text_of bank x)) left) h.1 }
elab_refused bank ElabFault.StepsOut f b left h = record { stop = ticks_spent; tells = refl; stops = (faults_come by_elab f b steps_out h.0, h.1) }
elab_refused bank ElabFault.NoMemory f b left h = record { stop = memory_ended; tells = refl; stops = tt }

-- what it finds is found by the row
pub elab_found : {A : Type 0} (f : ℕ → Elab A) (b left : ℕ) (a : A) → ComesTo f b (done a left) → ComesTo (λ n. elab_work (f n)) b (done a left)
unfolding outcome_as
elab_found f b left a h = faults_come by_elab f b (done a left) h
