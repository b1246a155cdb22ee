-- What was found comes next, once it is held against what is wanted.
use Rattle.std.proofs.Common.{◌≤◌, ℕ, suc, sym, arith, List}
use Rattle.std.proofs.Common.{subst as along}
use Rattle.lq_trees.specs.Ticks.{◌>>=◌, done, ComesTo}
use Rattle.lq_trees.proofs.TickLaws.{left_of, within_falls}
use Rattle.lq_terms.specs.declared.nodes.NameId.{NameId}
use Rattle.lq_terms.specs.declared.nodes.TermId.{TermId}
use Rattle.lq_terms.specs.declared.nodes.Hypothesis.{Hypothesis}
use Rattle.lq_terms.specs.Terms.{Terms, HasTerm, Grows, tree_of}
use Rattle.lq_terms.specs.Contexts.{context_of}
use Rattle.lq_solving.specs.Kept.{StandsIn}
use Rattle.lq_solving.specs.Stores.{names_in}
use Rattle.lq_solving.specs.ElabFaults.{Elab}
use Rattle.lq_solving.specs.Elaboration.{Found as TreeFound, found}
use Rattle.lq_solving.proofs.ElabKept.{Grown}
use Rattle.lq_evars.specs.Places.{Places, store_of, HasStore}
use Rattle.lq_evars.proofs.Growing.{store_of-grown}
use Rattle.lq_elab.specs.declared.finding.Found.{Found}
use Rattle.lq_elab.specs.declared.frames.Frame.{Frame}
use Rattle.lq_elab.specs.declared.scope.Meaning.{Meaning}
use Rattle.lq_elab.specs.declared.sites.Site.{Site}
use Rattle.lq_elab.specs.declared.turns.Turn.{Turn}
use Rattle.lq_elab.specs.Waiting.{Leads, found_work}
use Rattle.lq_elab.specs.Frames.{waits}
use Rattle.lq_elab.specs.States.{IsState, site_of, turn_work}
use Rattle.lq_elab.proofs.GoingLaws.{leads_done, leads_same}
use Rattle.lq_elab.proofs.StateLaws.{state_grown, state_later, found_over, stands_grown}

-- work leaves no more ticks than it had
pub comes_fewer : {A : Type 0} (f : ℕ → Elab A) (b left : ℕ) (a : A) → ComesTo f b (done a left) → left ≤ b
unfolding left_of
comes_fewer f b left a h = along (λ o. left_of o ≤ b) (h (suc b) (omega arith)) (within_falls b (f (suc b)))

-- the bank and the store have grown
module _ (old new : Terms) (g : Grows old new) (c : Site) (s s1 : Places) (hs : List Hypothesis) (scope : List (NameId × Meaning)) (fs : List Frame) (h : IsState old c s hs scope fs) (has : HasStore new s1) (grown : Grown (store_of old s) (store_of new s1)) where
  first : IsState new c s hs scope fs
  first = state_grown old new g c s hs scope fs h

  grown_there : Grown (store_of new s) (store_of new s1)
  grown_there = along (λ z. Grown z (store_of new s1)) (sym (store_of-grown old new g s h.store)) grown

  pub state_settled : IsState new c s1 hs scope fs
  state_settled = state_later new c s s1 hs scope fs first has grown_there

  pub stands_settled : (t : TermId) → HasTerm old t → StandsIn (store_of old s) (context_of old hs) (tree_of old t) → StandsIn (store_of new s1) (context_of new hs) (tree_of new t)
  stands_settled t k l = grown_there.keeps (names_in (context_of new hs)) (tree_of new t) (stands_grown old new g c s hs scope fs h t k l)

  -- it leads to the work that is left
  module _ (f : ℕ → Elab TreeFound) (b l m : ℕ) (x : Found) (hx : HasTerm old x.term) (hk : HasTerm old x.kind) (A : ℕ → Elab TreeFound) where
    pub goes_settled : Leads f (λ n. A n >>= (λ z. found_work (site_of old c) (waits old hs fs) z n)) b l →
        ComesTo A l (done (found (store_of new s1) (tree_of old x.term) (tree_of old x.kind)) m) → Leads f (turn_work new c s1 hs fs (Turn.Found x)) b m
    goes_settled k a =
        leads_same f (found_work (site_of old c) (waits old hs fs) (found (store_of new s1) (tree_of old x.term) (tree_of old x.kind))) (turn_work new c s1 hs fs (Turn.Found x)) b m
        (λ n. sym (found_over old new g c s hs scope fs h (store_of new s1) x.term x.kind hx hk n))
        (leads_done f A (λ z n. found_work (site_of old c) (waits old hs fs) z n) b l m (found (store_of new s1) (tree_of old x.term) (tree_of old x.kind)) k a)
