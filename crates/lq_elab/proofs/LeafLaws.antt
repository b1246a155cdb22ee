-- What was found of a leaf stands in the context, and is held against what is wanted.
use Rattle.std.proofs.Common.{◌≡◌, ◌≤◌, ◌∙◌, ℕ, suc, refl, sym, ap, ap₂, arith, true, false, List, Option, ◌⊎◌, inl, inr, Result, Ok, Err, OnOk}
use Rattle.std.proofs.Common.{subst as along}
use Rattle.std.specs.Prelude.{option_map}
use Rattle.std.proofs.lemmas.Bool.{le-ltb}
use Rattle.lq_trees.specs.declared.Sort.{Sort as Universe}
use Rattle.lq_trees.specs.Tree.{Name, Tree}
use Rattle.lq_trees.specs.Tree.Tree.{Sort}
use Rattle.lq_trees.specs.Ticks.{gives, fails, faults_as, ◌>>=◌, done, failed, ComesTo}
use Rattle.lq_trees.proofs.Outcomes.{comes_gives, comes_fails}
use Rattle.lq_calculus.specs.Checking.{Kernel, sort_above, no_sort_above}
use Rattle.lq_calculus.proofs.ConvSound.{Gives, done_gives}
use Rattle.lq_terms.specs.declared.nodes.NameId.{NameId}
use Rattle.lq_terms.specs.declared.nodes.TermId.{TermId}
use Rattle.lq_terms.specs.declared.nodes.Hypothesis.{Hypothesis}
use Rattle.lq_terms.specs.Terms.{Terms, Grows, tree_of}
use Rattle.lq_terms.specs.Contexts.{HasBody, context_of}
use Rattle.lq_terms.proofs.Tellings.{body-grown, context_of-grown}
use Rattle.lq_solving.specs.Stores.{Store, names_in}
use Rattle.lq_solving.specs.Kept.{StandsIn}
use Rattle.lq_solving.specs.ElabFaults.{Elab, by_kernel, kernel_fault, nothing_above}
use Rattle.lq_solving.specs.Elaboration.{Site as TreeSite, Found, found, name_found}
use Rattle.lq_solving.proofs.ElabSettled.{at}
use Rattle.lq_solving.proofs.ElabStands.{IsSite as SiteStands, name_finds}
use Rattle.lq_solving.proofs.InferKept.{above_good}
use Rattle.lq_solving.proofs.Later.{good_stands}
use Rattle.lq_solving.proofs.StandsLaws.{plain_stands}
use Rattle.lq_evars.specs.Places.{Places, store_of}
use Rattle.lq_evars.proofs.Growing.{store_of-grown}
use Rattle.lq_typing.specs.declared.faults.ElabFault.{ElabFault}
use Rattle.lq_typing.specs.Refusals.{Refuses}
use Rattle.lq_elab.specs.declared.frames.Frame.{Frame}
use Rattle.lq_elab.specs.declared.scope.Meaning.{Meaning}
use Rattle.lq_elab.specs.declared.sites.Site.{Site}
use Rattle.lq_elab.specs.declared.turns.Turn.{Turn}
use Rattle.lq_elab.specs.Waiting.{Waiting, Spot, Leads, held_work}
use Rattle.lq_elab.specs.Nodes.{held_leaf, sort_found}
use Rattle.lq_elab.specs.Frames.{spot_of, waits}
use Rattle.lq_elab.specs.States.{IsState, site_of}
use Rattle.lq_elab.proofs.CallLaws.{site_at}
use Rattle.lq_elab.proofs.FrameLaws.{waits_grown, frames_inside}
use Rattle.lq_elab.proofs.GoingLaws.{leads_same, leads_done, leads_failed}
use Rattle.lq_elab.proofs.StateLaws.{site_of_grown}

module _ (bank : Terms) (c : Site) (s : Places) (hs : List Hypothesis) (scope : List (NameId × Meaning)) (fs : List Frame) (h : IsState bank c s hs scope fs) where
  -- the site of the definition's laws
  pub site_stands : SiteStands (site_of bank c) (store_of bank s) (context_of bank hs)
  site_stands = record {
    plain = h.site.plain;
    outer = h.site.hypotheses;
    inside = λ x l. frames_inside bank (site_of bank c) hs fs h.frames x l;
    values = λ x t q. h.site.stand x t q;
  }

  -- what is found of a name stands in the context
  pub name_stand : (bs : List (Name × Name)) (x : Name) (T K : Tree) (i j : ℕ) → ComesTo (λ n. name_found (at n (site_of bank c)) bs (context_of bank hs) (store_of bank s) x) i (done (found (store_of bank s) T K) j) →
      StandsIn (store_of bank s) (context_of bank hs) T × StandsIn (store_of bank s) (context_of bank hs) K
  name_stand bs x T K i j k =
      let q = name_finds (at (suc i) (site_of bank c)) (context_of bank hs) (store_of bank s) (site_at (suc i) (site_of bank c) (store_of bank s) (context_of bank hs) site_stands) h.kept h.hypotheses bs x (found (store_of bank s) T K)
      (done_gives i (name_found (at (suc i) (site_of bank c)) bs (context_of bank hs) (store_of bank s) x) (found (store_of bank s) T K) j (k (suc i) (omega arith))) in
      (q.1, q.2)

  -- a sort stands anywhere
  pub sort_stand : (u : Universe) → StandsIn (store_of bank s) (context_of bank hs) (Sort u)
  sort_stand u = plain_stands (store_of bank s) h.kept (names_in (context_of bank hs)) (Sort u) (record { over = tt; within = tt; holds = tt })

  pub above_stands : (u : Universe) (K : Tree) → sort_above u ≡ gives K → StandsIn (store_of bank s) (context_of bank hs) K
  above_stands u K q =
      good_stands (store_of bank s) h.kept (store_of bank s).values (names_in (context_of bank hs)) K
      (above_good (site_of bank c).env h.site.plain (store_of bank s) h.kept (names_in (context_of bank hs)) u K (along (λ r. Gives r K) (sym q) refl))

-- in a bank that has grown
module _ (old new : Terms) (g : Grows old new) (c : Site) (s : Places) (hs : List Hypothesis) (scope : List (NameId × Meaning)) (fs : List Frame) (h : IsState old c s hs scope fs) where
  store_same : store_of new s ≡ store_of old s
  store_same = store_of-grown old new g s h.store

  context_same : context_of new hs ≡ context_of old hs
  context_same = context_of-grown old new g hs h.context

  -- a term of the new bank
  pub stands_later : (t : TermId) → StandsIn (store_of old s) (context_of old hs) (tree_of new t) → StandsIn (store_of new s) (context_of new hs) (tree_of new t)
  stands_later t k = along (λ z. StandsIn z (context_of new hs) (tree_of new t)) (sym store_same) (along (λ z. StandsIn (store_of old s) z (tree_of new t)) (sym context_same) k)

  pub held_grown : (w : Option TermId) → HasBody old w → (z : Found) (n : ℕ) →
      held_work (site_of new c) (waits new hs fs) (context_of new hs) (option_map (tree_of new) w) z n ≡ held_work (site_of old c) (waits old hs fs) (context_of old hs) (option_map (tree_of old) w) z n
  held_grown w k z n =
      ap (λ e. held_work e (waits new hs fs) (context_of new hs) (option_map (tree_of new) w) z n) (site_of_grown old new g (store_of old s) c h.site)
      ∙ ap₂ (λ v d. held_work (site_of old c) v d (option_map (tree_of new) w) z n) (waits_grown old new g (site_of old c) hs fs h.context h.frames) context_same
      ∙ ap (λ o. held_work (site_of old c) (waits old hs fs) (context_of old hs) o z n) (body-grown old new g w k)

  -- what was found is held against what is wanted
  pub leaf_held : (w : Option TermId) → HasBody old w → (X : ℕ → Elab Found) (t k : TermId) (f : ℕ → Elab Found) (b i j : ℕ) →
      Leads f (held_leaf (site_of old c) (waits old hs fs) (spot_of old hs fs) (store_of old s) (option_map (tree_of old) w) X) b i → ComesTo X i (done (found (store_of old s) (tree_of new t) (tree_of new k)) j) →
      Leads f (held_work (site_of new c) (waits new hs fs) (context_of new hs) (option_map (tree_of new) w) (found (store_of new s) (tree_of new t) (tree_of new k))) b j
  leaf_held w hw X t k f b i j l x =
      leads_same f (held_work (site_of old c) (waits old hs fs) (context_of old hs) (option_map (tree_of old) w) (found (store_of old s) (tree_of new t) (tree_of new k)))
      (held_work (site_of new c) (waits new hs fs) (context_of new hs) (option_map (tree_of new) w) (found (store_of new s) (tree_of new t) (tree_of new k))) b j
      (λ n. ap (λ z. held_work (site_of old c) (waits old hs fs) (context_of old hs) (option_map (tree_of old) w) (found z (tree_of new t) (tree_of new k)) n) (sym store_same)
      ∙ sym (held_grown w hw (found (store_of new s) (tree_of new t) (tree_of new k)) n))
      (leads_done f X (λ z n. held_work (site_of old c) (waits old hs fs) (context_of old hs) (option_map (tree_of old) w) z n) b i j (found (store_of old s) (tree_of new t) (tree_of new k)) l x)

-- ---- a sort

above_is : (r : Kernel Tree) (K : Tree) (s : Store) (u : Universe) → r ≡ gives K → (by_kernel r >>= (λ A. gives (found s (Sort u) A))) ≡ gives (found s (Sort u) K)
unfolding faults_as ◌>>=◌
above_is r K s u q = ap (λ z. by_kernel z >>= (λ A. gives (found s (Sort u) A))) q

none_above : (r : Kernel Tree) (s : Store) (u : Universe) → r ≡ fails no_sort_above → (by_kernel r >>= (λ A. gives (found s (Sort u) A))) ≡ fails nothing_above
unfolding faults_as kernel_fault ◌>>=◌
none_above r s u q = ap (λ z. by_kernel z >>= (λ A. gives (found s (Sort u) A))) q

pub sort_comes_to : (s : Store) (u : Universe) (K : Tree) (b : ℕ) → sort_above u ≡ gives K → ComesTo (λ n. by_kernel (sort_above u) >>= (λ A. gives (found s (Sort u) A))) b (done (found s (Sort u) K) b)
sort_comes_to s u K b q = comes_gives (λ n. by_kernel (sort_above u) >>= (λ A. gives (found s (Sort u) A))) (found s (Sort u) K) b (λ n. above_is (sort_above u) K s u q)

pub sort_fails : (s : Store) (u : Universe) (b : ℕ) → sort_above u ≡ fails no_sort_above → ComesTo (λ n. by_kernel (sort_above u) >>= (λ A. gives (found s (Sort u) A))) b (failed nothing_above b)
sort_fails s u b q = comes_fails (λ n. by_kernel (sort_above u) >>= (λ A. gives (found s (Sort u) A))) nothing_above b (λ n. none_above (sort_above u) s u q)

-- ---- a sort's level

pub last_level : (u : Universe) (i : ℕ) → u ≡ Universe.Level i → 3 ≤ i → sort_above u ≡ fails no_sort_above
unfolding sort_above
last_level u i q l = ap sort_above q ∙ ap (λ b. elim b as (λ _. Kernel Tree) [ true ↦ gives (Sort (Universe.Level (suc i))) | false ↦ fails no_sort_above ]) (le-ltb i 3 l)

-- there is none, or there was no memory
pub sort_refused : (E : TreeSite) (vs : List Waiting) (l : Spot) (s : Store) (w : Option Tree) (u : Universe) (f : ℕ → Elab Found) (b i : ℕ) (bank : Terms) (e : ElabFault) → (e ≡ ElabFault.NoMemory) ⊎ ((e ≡ ElabFault.NoSortAbove) × (sort_above u ≡ fails no_sort_above)) →
    Leads f (held_leaf E vs l s w (λ n. sort_found E vs l s w u)) b i → Refuses bank e f b i
sort_refused E vs l s w u f b i bank e (inl q) h = along (λ z. Refuses bank z f b i) (sym q) tt
sort_refused E vs l s w u f b i bank e (inr q) h =
    along (λ z. Refuses bank z f b i) (sym q.0)
    (leads_failed f (λ n. sort_found E vs l s w u) (λ z n. held_work E vs l.context w z n) b i i nothing_above h (sort_fails s u i q.1))

-- ticks do not come back
pub fewer_then : (q : Result Turn ElabFault) (a b c : ℕ) → OnOk q (a ≤ b) → b ≤ c → OnOk q (a ≤ c)
fewer_then (Ok t) a b c h k = omega (arith, h, k)
fewer_then (Err y) a b c h k = tt
