-- The fault of types that do not unify, and what was found against what is wanted, by the calls.
use Rattle.std.proofs.Common.{◌≡◌, ◌∙◌, ℕ, sym, ap₂, arith, [], ◌∷◌}
use Rattle.std.proofs.Common.{subst as along}
use Rattle.lq_trees.specs.Tree.{Tree}
use Rattle.lq_trees.specs.Ticks.{done, failed, ComesTo}
use Rattle.lq_terms.specs.declared.nodes.TermId.{TermId}
use Rattle.lq_terms.specs.Terms.{Terms, HasTerm, Grows, tree_of}
use Rattle.lq_solving.specs.Stores.{Store, read}
use Rattle.lq_solving.specs.ElabFaults.{elab_fitting, carrying, found_wanted}
use Rattle.lq_evars.specs.Places.{Places, store_of, HasStore}
use Rattle.lq_evars.proofs.Growing.{store_of-grown}
use Rattle.lq_typing.specs.declared.faults.ElabFault.{ElabFault}
use Rattle.lq_typing.specs.Refusals.{Refuses}
use Rattle.lq_elab.proofs.AgreeingLaws.{carries_both, first_passes, second_passes}

-- a fault that is told of the terms themselves is told of what is the same
pub told_of : (bank : Terms) (e : ElabFault) (S : Store) (T0 U0 : Tree) (left : ℕ) → Refuses {A = Store} bank e (λ n. carrying (read S T0 ∷ read S U0 ∷ []) (found_wanted (read S T0) (read S U0))) left left →
    (s : Store) (T U : Tree) → s ≡ S → T ≡ T0 → U ≡ U0 → Refuses {A = Store} bank e (λ n. carrying (read s T ∷ read s U ∷ []) (found_wanted (read s T) (read s U))) left left
told_of bank e S T0 U0 left h s T U es et eu =
    along (λ z. Refuses {A = Store} bank e (λ n. carrying (read z T ∷ read z U ∷ []) (found_wanted (read z T) (read z U))) left left) (sym es)
    (along (λ z. Refuses {A = Store} bank e (λ n. carrying (read S z ∷ read S U ∷ []) (found_wanted (read S z) (read S U))) left left) (sym et)
    (along (λ z. Refuses {A = Store} bank e (λ n. carrying (read S T0 ∷ read S z ∷ []) (found_wanted (read S T0) (read S z))) left left) (sym eu) h))

-- what was read of the first
module _ (old b2 : Terms) (g : Grows old b2) (p : Places) (has : HasStore old p) (found wanted : TermId) (hw : HasTerm old wanted) (f : TermId) (e1 : tree_of b2 f ≡ read (store_of old p) (tree_of old found))
    (a1 : (left : ℕ) → ComesTo (λ n. elab_fitting (read (store_of old p) (tree_of old found))) left (done (tree_of b2 f) left)) where
  first : (left : ℕ) → ComesTo (λ n. elab_fitting (read (store_of old p) (tree_of old found))) left (done (read (store_of old p) (tree_of old found)) left)
  first left = along (λ z. ComesTo (λ n. elab_fitting (read (store_of old p) (tree_of old found))) left (done z left)) e1 (a1 left)

  second_is : read (store_of b2 p) (tree_of b2 wanted) ≡ read (store_of old p) (tree_of old wanted)
  second_is = ap₂ read (store_of-grown old b2 g p has) (g.tree wanted hw)

  pub mismatch_both : (b3 : Terms) → Grows b2 b3 → HasTerm b2 f → (w : TermId) → HasTerm b3 w → tree_of b3 w ≡ read (store_of b2 p) (tree_of b2 wanted) →
      ((left : ℕ) → ComesTo (λ n. elab_fitting (read (store_of b2 p) (tree_of b2 wanted))) left (done (tree_of b3 w) left)) → (s : Store) (T U : Tree) (left : ℕ) → s ≡ store_of old p → T ≡ tree_of old found → U ≡ tree_of old wanted →
      Refuses {A = Store} b3 (ElabFault.Mismatch f w) (λ n. carrying (read s T ∷ read s U ∷ []) (found_wanted (read s T) (read s U))) left left
  mismatch_both b3 h hf w hw3 e2 a2 s T U left es et eu =
      told_of b3 (ElabFault.Mismatch f w) (store_of old p) (tree_of old found) (tree_of old wanted) left (
        omega (arith, hf, h.nodes),
        hw3,
        along (λ z. ComesTo {A = Store} (λ n. carrying (read (store_of old p) (tree_of old found) ∷ read (store_of old p) (tree_of old wanted) ∷ []) (found_wanted (read (store_of old p) (tree_of old found)) (read (store_of old p) (tree_of old wanted)))) left (failed (found_wanted z (tree_of b3 w)) left)) (sym (h.tree f hf ∙ e1))
            (along (λ z. ComesTo {A = Store} (λ n. carrying (read (store_of old p) (tree_of old found) ∷ read (store_of old p) (tree_of old wanted) ∷ []) (found_wanted (read (store_of old p) (tree_of old found)) (read (store_of old p) (tree_of old wanted)))) left (failed (found_wanted (read (store_of old p) (tree_of old found)) z) left)) (sym (e2 ∙ second_is))
            (carries_both b3 (read (store_of old p) (tree_of old found)) (read (store_of old p) (tree_of old wanted)) left (first left) (second left))),
      ) s T U es et eu
    where
      second : (l : ℕ) → ComesTo (λ n. elab_fitting (read (store_of old p) (tree_of old wanted))) l (done (read (store_of old p) (tree_of old wanted)) l)
      second l =
          along (λ X. ComesTo (λ n. elab_fitting X) l (done X l)) second_is
          (along (λ z. ComesTo (λ n. elab_fitting (read (store_of b2 p) (tree_of b2 wanted))) l (done z l)) e2 (a2 l))

  pub mismatch_second : (b3 : Terms) (y : ElabFault) → ((left : ℕ) → Refuses {A = Tree} b3 y (λ n. elab_fitting (read (store_of b2 p) (tree_of b2 wanted))) left left) → (s : Store) (T U : Tree) (left : ℕ) → s ≡ store_of old p → T ≡ tree_of old found → U ≡ tree_of old wanted →
      Refuses {A = Store} b3 y (λ n. carrying (read s T ∷ read s U ∷ []) (found_wanted (read s T) (read s U))) left left
  mismatch_second b3 y h s T U left es et eu =
      told_of b3 y (store_of old p) (tree_of old found) (tree_of old wanted) left
      (second_passes b3 (read (store_of old p) (tree_of old found)) (read (store_of old p) (tree_of old wanted)) left y (first left)
      (along (λ X. Refuses {A = Tree} b3 y (λ n. elab_fitting X) left left) second_is (h left))) s T U es et eu

pub mismatch_first : (b2 : Terms) (y : ElabFault) (S : Store) (T0 U0 : Tree) → ((left : ℕ) → Refuses {A = Tree} b2 y (λ n. elab_fitting (read S T0)) left left) → (s : Store) (T U : Tree) (left : ℕ) → s ≡ S → T ≡ T0 → U ≡ U0 →
    Refuses {A = Store} b2 y (λ n. carrying (read s T ∷ read s U ∷ []) (found_wanted (read s T) (read s U))) left left
mismatch_first b2 y S T0 U0 h s T U left es et eu = told_of b2 y S T0 U0 left (first_passes b2 (read S T0) (read S U0) left y (h left)) s T U es et eu
