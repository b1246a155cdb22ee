-- The arms of a term that is asked for.
use Rattle.std.proofs.Common.{◌≡◌, ◌<◌, ◌+◌, ◌∙◌, ℕ, refl, sym, ap, ap₂, List, Option, Result, Ok, Err, OnOk}
use Rattle.std.proofs.Common.{subst as along}
use Rattle.std.specs.Prelude.{option_map}
use Rattle.lq_trees.specs.Tree.{Name}
use Rattle.lq_trees.specs.Ticks.{fails, failed, steps_out, ComesTo}
use Rattle.lq_trees.proofs.Outcomes.{comes_fails}
use Rattle.lq_terms.specs.declared.nodes.NameId.{NameId}
use Rattle.lq_terms.specs.declared.nodes.TermId.{TermId}
use Rattle.lq_terms.specs.declared.nodes.Hypothesis.{Hypothesis}
use Rattle.lq_terms.specs.Terms.{Terms, Grows, tree_of}
use Rattle.lq_terms.specs.Contexts.{HasBody}
use Rattle.lq_terms.proofs.Tellings.{body-grown}
use Rattle.lq_solving.specs.ElabFaults.{Elab, unknown}
use Rattle.lq_solving.specs.Elaboration.{Found}
use Rattle.lq_solving.specs.Kept.{IsStore}
use Rattle.lq_solving.proofs.ElabKept.{Grown, grown_now}
use Rattle.lq_evars.specs.Places.{Places, store_of, HasStore}
use Rattle.lq_evars.proofs.Growing.{store_of-grown}
use Rattle.lq_elab.specs.declared.frames.Frame.{Frame}
use Rattle.lq_elab.specs.declared.scope.Meaning.{Meaning}
use Rattle.lq_elab.specs.declared.sites.Site.{Site}
use Rattle.lq_elab.specs.declared.turns.Turn.{Turn}
use Rattle.lq_elab.specs.declared.views.Asked.{Asked}
use Rattle.lq_elab.specs.declared.views.View.{View}
use Rattle.lq_elab.specs.Views.{asked_tree, view_tree}
use Rattle.lq_elab.specs.Waiting.{Leads}
use Rattle.lq_elab.specs.Nodes.{node_work}
use Rattle.lq_elab.specs.Frames.{spot_of, waits}
use Rattle.lq_elab.specs.States.{IsState, site_of, turn_work}
use Rattle.lq_elab.proofs.FrameLaws.{spot_grown, waits_grown}
use Rattle.lq_elab.proofs.GoingLaws.{leads_same}
use Rattle.lq_elab.proofs.NodeLaws.{node_leads, node_lacks}
use Rattle.lq_elab.proofs.StateLaws.{site_of_grown}

module _ (old new : Terms) (g : Grows old new) (c : Site) (s : Places) (hs : List Hypothesis) (scope : List (NameId × Meaning)) (fs : List Frame) (h : IsState old c s hs scope fs) (w : Option TermId) (has : HasBody old w) where
  -- the work that is left of a node, in a bank that has grown
  node_grown : (v : View) (n : ℕ) →
      node_work (site_of old c) (waits old hs fs) (spot_of old hs fs) (store_of old s) (option_map (tree_of old) w) v n ≡ node_work (site_of new c) (waits new hs fs) (spot_of new hs fs) (store_of new s) (option_map (tree_of new) w) v n
  node_grown v n =
      ap (λ e. node_work e (waits old hs fs) (spot_of old hs fs) (store_of old s) (option_map (tree_of old) w) v n) (sym (site_of_grown old new g (store_of old s) c h.site))
      ∙ ap₂ (λ vs l. node_work (site_of new c) vs l (store_of old s) (option_map (tree_of old) w) v n) (sym (waits_grown old new g (site_of old c) hs fs h.context h.frames)) (sym (spot_grown old new g (site_of old c) hs fs h.context h.frames))
      ∙ ap₂ (λ S o. node_work (site_of new c) (waits new hs fs) (spot_of new hs fs) S o v n) (sym (store_of-grown old new g s h.store)) (sym (body-grown old new g w has))

  -- a term that is asked for goes on with its node behind the tick
  pub asked_leads : (t : Asked) (v : View) → view_tree v ≡ asked_tree t → (f : ℕ → Elab Found) (b i j : ℕ) → 1 + j ≡ i → Leads f (turn_work old c s hs fs (Turn.Ask t w)) b i →
      Leads f (node_work (site_of new c) (waits new hs fs) (spot_of new hs fs) (store_of new s) (option_map (tree_of new) w) v) b j
  asked_leads t v q f b i j k l =
      leads_same f (node_work (site_of old c) (waits old hs fs) (spot_of old hs fs) (store_of old s) (option_map (tree_of old) w) v)
      (node_work (site_of new c) (waits new hs fs) (spot_of new hs fs) (store_of new s) (option_map (tree_of new) w) v) b j (node_grown v)
      (node_leads (site_of old c) (waits old hs fs) (spot_of old hs fs) (store_of old s) (option_map (tree_of old) w) v (asked_tree t) q f b i j k l)

-- its tick is not there
pub asked_lacks : (bank : Terms) (c : Site) (s : Places) (hs : List Hypothesis) (fs : List Frame) (w : Option TermId) (t : Asked) (v : View) → view_tree v ≡ asked_tree t → (f : ℕ → Elab Found) (b i : ℕ) → i < 1 → Leads f (turn_work bank c s hs fs (Turn.Ask t w)) b i →
    ComesTo f b steps_out
asked_lacks bank c s hs fs w t v q f b i less h = node_lacks (site_of bank c) (waits bank hs fs) (spot_of bank hs fs) (store_of bank s) (option_map (tree_of bank) w) v (asked_tree t) q f b i less h

-- a store in a bank that has grown
pub grown_bank : {A E : Type 0} (r : Result A E) (old new : Terms) → Grows old new → (s : Places) → HasStore old s → IsStore (store_of old s) → OnOk r (Grown (store_of old s) (store_of new s))
grown_bank (Ok x) old new g s has kept = along (λ z. Grown (store_of old s) z) (sym (store_of-grown old new g s has)) (grown_now (store_of old s) kept)
grown_bank (Err e) old new g s has kept = tt

-- a name that nothing bears, as it is kept
pub unknown_comes : (f : ℕ → Elab Found) (b l : ℕ) (x y : Name) → y ≡ x → Leads f (λ n. fails (unknown x)) b l → ComesTo f b (failed (unknown y) l)
unknown_comes f b l x y e h = along (λ z. ComesTo f b (failed (unknown z) l)) (sym e) (h (failed (unknown x) l) (comes_fails (λ n. fails (unknown x)) (unknown x) l (λ n. refl)))
