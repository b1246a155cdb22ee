-- New variables that are asked for.
use Rattle.std.proofs.Common.{◌≡◌, ℕ, refl, sym, ap, ap₂, List, None, Some}
use Rattle.std.proofs.Common.{subst as along}
use Rattle.lq_trees.specs.Tree.{Name, Tree, Context}
use Rattle.lq_trees.specs.Ticks.{fails, ◌>>=◌, done, failed, ComesTo}
use Rattle.lq_trees.proofs.Outcomes.{comes_fails}
use Rattle.lq_terms.specs.declared.nodes.NameId.{NameId}
use Rattle.lq_terms.specs.declared.nodes.Hypothesis.{Hypothesis}
use Rattle.lq_terms.specs.Terms.{Terms, Grows}
use Rattle.lq_solving.specs.Stores.{Store, named_variable}
use Rattle.lq_solving.specs.ElabFaults.{ElabFault as TreeFault, Elab, cannot_infer, name_in_use}
use Rattle.lq_solving.specs.Elaboration.{Site as TreeSite, Found, made, blank_found, named_found}
use Rattle.lq_evars.specs.Places.{Places, store_of}
use Rattle.lq_elab.specs.declared.finding.Found.{Found as CodeFound}
use Rattle.lq_elab.specs.declared.frames.Frame.{Frame}
use Rattle.lq_elab.specs.declared.scope.Meaning.{Meaning}
use Rattle.lq_elab.specs.declared.sites.Site.{Site}
use Rattle.lq_elab.specs.declared.turns.Turn.{Turn}
use Rattle.lq_elab.specs.Answers.{found_of}
use Rattle.lq_elab.specs.Waiting.{Waiting, Leads, found_work}
use Rattle.lq_elab.specs.Nodes.{made_next}
use Rattle.lq_elab.specs.Frames.{waits}
use Rattle.lq_elab.specs.States.{IsState, site_of, turn_work}
use Rattle.lq_elab.proofs.FrameLaws.{waits_grown}
use Rattle.lq_elab.proofs.GoingLaws.{leads_same, leads_done}
use Rattle.lq_elab.proofs.StateLaws.{site_of_grown}

-- what was made comes next
module _ (old new : Terms) (g : Grows old new) (c : Site) (s : Places) (hs : List Hypothesis) (scope : List (NameId × Meaning)) (fs : List Frame) (h : IsState old c s hs scope fs) where
  pub next_found : (s1 : Places) (r : CodeFound) (X : Elab Found) (f : ℕ → Elab Found) (b l : ℕ) → Leads f (made_next (site_of old c) (waits old hs fs) X) b l → ComesTo (λ n. X) l (done (found_of new s1 r) l) → Leads f (turn_work new c s1 hs fs (Turn.Found r)) b l
  next_found s1 r X f b l k a =
      leads_same f (found_work (site_of old c) (waits old hs fs) (found_of new s1 r)) (found_work (site_of new c) (waits new hs fs) (found_of new s1 r)) b l
      (λ n. ap₂ (λ e vs. found_work e vs (found_of new s1 r) n) (sym (site_of_grown old new g (store_of old s) c h.site)) (sym (waits_grown old new g (site_of old c) hs fs h.context h.frames)))
      (leads_done f (λ n. X) (λ z n. found_work (site_of old c) (waits old hs fs) z n) b l l (found_of new s1 r) k a)

module _ (e : TreeSite) (vs : List Waiting) (f : ℕ → Elab Found) (b l : ℕ) where
  fails_next : (y : TreeFault) (n : ℕ) → made_next e vs (fails y) n ≡ fails y
  unfolding ◌>>=◌
  fails_next y n = refl

  pub next_fails : (y : TreeFault) → Leads f (made_next e vs (fails y)) b l → ComesTo f b (failed y l)
  next_fails y h = h (failed y l) (comes_fails (made_next e vs (fails y)) y l (fails_next y))

  module _ (g : Context) (s : Store) where
    blank_is : (p : ℕ) (A : Tree) → blank_found g s p (Some A) ≡ made g s A None
    unfolding blank_found
    blank_is p A = refl

    no_blank : (p : ℕ) → blank_found g s p None ≡ fails (cannot_infer p)
    unfolding blank_found
    no_blank p = refl

    pub blank_leads : (p : ℕ) (A : Tree) → Leads f (made_next e vs (blank_found g s p (Some A))) b l → Leads f (made_next e vs (made g s A None)) b l
    blank_leads p A h = along (λ r. Leads f (made_next e vs r) b l) (blank_is p A) h

    pub blank_fails : (p : ℕ) → Leads f (made_next e vs (blank_found g s p None)) b l → ComesTo f b (failed (cannot_infer p) l)
    blank_fails p h = next_fails (cannot_infer p) (along (λ r. Leads f (made_next e vs r) b l) (no_blank p) h)

    named_is : (x : Name) (p : ℕ) (A : Tree) → named_variable s x ≡ None → named_found g s x p (Some A) ≡ made g s A (Some x)
    unfolding named_found
    named_is x p A q = ap (λ o. elim o as (λ _. Elab Found) [ Some k ↦ fails (name_in_use x) | None ↦ made g s A (Some x) ]) q

    name_used : (x : Name) (p k : ℕ) (A : Tree) → named_variable s x ≡ Some k → named_found g s x p (Some A) ≡ fails (name_in_use x)
    unfolding named_found
    name_used x p k A q = ap (λ o. elim o as (λ _. Elab Found) [ Some k ↦ fails (name_in_use x) | None ↦ made g s A (Some x) ]) q

    no_named_blank : (x : Name) (p : ℕ) → named_found g s x p None ≡ fails (cannot_infer p)
    unfolding named_found
    no_named_blank x p = refl

    pub named_leads : (x : Name) (p : ℕ) (A : Tree) → named_variable s x ≡ None → Leads f (made_next e vs (named_found g s x p (Some A))) b l → Leads f (made_next e vs (made g s A (Some x))) b l
    named_leads x p A q h = along (λ r. Leads f (made_next e vs r) b l) (named_is x p A q) h

    pub used_fails : (x : Name) (p k : ℕ) (A : Tree) → named_variable s x ≡ Some k → Leads f (made_next e vs (named_found g s x p (Some A))) b l → ComesTo f b (failed (name_in_use x) l)
    used_fails x p k A q h = next_fails (name_in_use x) (along (λ r. Leads f (made_next e vs r) b l) (name_used x p k A q) h)

    pub named_fails : (x : Name) (p : ℕ) → Leads f (made_next e vs (named_found g s x p None)) b l → ComesTo f b (failed (cannot_infer p) l)
    named_fails x p h = next_fails (cannot_infer p) (along (λ r. Leads f (made_next e vs r) b l) (no_named_blank x p) h)
