-- What was found against what is wanted, in a bank that has grown, and the store that unification leaves.
use Rattle.std.proofs.Common.{◌≡◌, ◌≤◌, ◌∙◌, ℕ, refl, sym, ap, ap₂, arith, List, [], ◌∷◌, length, Some, Result, Ok, Err}
use Rattle.std.proofs.Common.{subst as along}
use Rattle.lq_trees.specs.Tree.{Tree}
use Rattle.lq_trees.specs.Ticks.{done, ComesTo}
use Rattle.lq_terms.specs.declared.nodes.Hypothesis.{Hypothesis}
use Rattle.lq_terms.specs.declared.nodes.TermId.{TermId}
use Rattle.lq_terms.specs.Terms.{Terms, HasTerm, Grows, tree_of}
use Rattle.lq_terms.specs.Contexts.{HasContext, context_of}
use Rattle.lq_terms.proofs.Tellings.{context_of-grown}
use Rattle.lq_solving.specs.Stores.{Store, read, count, names_at, with_value}
use Rattle.lq_solving.specs.Kept.{IsOver, IsContext, IsStore, StandsIn}
use Rattle.lq_solving.specs.ElabFaults.{elab_fitting}
use Rattle.lq_solving.specs.Elaboration.{Site, found, unified, against}
use Rattle.lq_solving.proofs.ElabKept.{Grown, Newer}
use Rattle.lq_solving.proofs.ElabSettled.{at}
use Rattle.lq_solving.proofs.Later.{Later, now, given_later, later_store, later_keeps, later_variables}
use Rattle.lq_evars.specs.Places.{Places, store_of, HasStore}
use Rattle.lq_evars.proofs.Growing.{store_of-grown}
use Rattle.lq_typing.specs.declared.faults.ElabFault.{ElabFault}
use Rattle.lq_elab.specs.Answers.{Comes}
use Rattle.lq_elab.proofs.AgreeingLaws.{some_agrees, some_refuses}
use Rattle.lq_elab.proofs.AnswerLaws.{comes_as}

newer : {s s1 : Store} → Later s s1 → Newer s s1
unfolding with_value
newer now = ([], refl)
newer (given_later {s1} l k b may) = let q = newer l in (record { id = k; body = b } ∷ q.0, ap (λ z. record { id = k; body = b } ∷ z) q.1)

-- a store with values more has grown
pub later_grown : (s s1 : Store) → IsStore s → Later s s1 → Grown s s1
later_grown s s1 i l = record {
  store = later_store l i;
  keeps = later_keeps l i;
  over = λ t o. along (λ vs. IsOver vs t) (sym (later_variables l)) o;
  more = along (λ vs. count s ≤ length vs) (sym (later_variables l)) (omega arith);
  names = λ k h. ap (λ vs. names_at vs k) (later_variables l);
  newer = newer l;
}

module _ (old new : Terms) (g : Grows old new) (p : Places) (has : HasStore old p) (hs : List Hypothesis) (context : HasContext old hs) where
  pub context_moved : IsContext (store_of old p) (context_of old hs) → IsContext (store_of new p) (context_of new hs)
  context_moved h =
      along (λ z. IsContext z (context_of new hs)) (sym (store_of-grown old new g p has)) (along (IsContext (store_of old p)) (sym (context_of-grown old new g hs context)) h)

  pub stands_moved : (t : TermId) → HasTerm old t → StandsIn (store_of old p) (context_of old hs) (tree_of old t) → StandsIn (store_of new p) (context_of new hs) (tree_of new t)
  stands_moved t k h =
      along (λ z. StandsIn z (context_of new hs) (tree_of new t)) (sym (store_of-grown old new g p has))
      (along (λ z. StandsIn (store_of old p) z (tree_of new t)) (sym (context_of-grown old new g hs context)) (along (StandsIn (store_of old p) (context_of old hs)) (sym (g.tree t k)) h))

  -- unification of the same types
  same_unified : (e : Site) (A B : TermId) → HasTerm old A → HasTerm old B → (n : ℕ) →
      unified (at n e) (context_of old hs) (store_of old p) (tree_of old A) (tree_of old B) ≡ unified (at n e) (context_of new hs) (store_of new p) (tree_of new A) (tree_of new B)
  same_unified e A B ha hb n =
      ap₂ (λ z s. unified (at n e) z s (tree_of old A) (tree_of old B)) (sym (context_of-grown old new g hs context)) (sym (store_of-grown old new g p has))
      ∙ ap₂ (unified (at n e) (context_of new hs) (store_of new p)) (sym (g.tree A ha)) (sym (g.tree B hb))

  -- what was found, once its type was measured
  pub some_answer : (e : Site) (t : Tree) (K W : TermId) → HasTerm old K → HasTerm old W → (b l : ℕ) (later : Terms) (s1 : Places) (q : Result (Unit {0}) ElabFault) → (u : TermId) → tree_of new u ≡ read (store_of old p) (tree_of old K) →
      ((m : ℕ) → ComesTo (λ n. elab_fitting (read (store_of old p) (tree_of old K))) m (done (tree_of new u) m)) →
      Comes later (λ _. store_of later s1) q (λ n. unified (at n e) (context_of new hs) (store_of new p) (tree_of new K) (tree_of new W)) b l →
      Comes later (λ _. found (store_of later s1) t (tree_of old K)) q (λ n. against (at n e) (context_of old hs) (Some (tree_of old W)) (found (store_of old p) t (tree_of old K))) b l
  some_answer e t K W hk hw b l later s1 q u is fits h = go q (comes_as later (λ _. store_of later s1) q (λ n. unified (at n e) (context_of old hs) (store_of old p) (tree_of old K) (tree_of old W)) (λ n. unified (at n e) (context_of new hs) (store_of new p) (tree_of new K) (tree_of new W)) b l (same_unified e K W hk hw) h)
    where
      measured : ComesTo (λ n. elab_fitting (read (store_of old p) (tree_of old K))) b (done (read (store_of old p) (tree_of old K)) b)
      measured = along (λ z. ComesTo (λ n. elab_fitting (read (store_of old p) (tree_of old K))) b (done z b)) is (fits b)

      go : (r : Result (Unit {0}) ElabFault) → Comes later (λ _. store_of later s1) r (λ n. unified (at n e) (context_of old hs) (store_of old p) (tree_of old K) (tree_of old W)) b l →
          Comes later (λ _. found (store_of later s1) t (tree_of old K)) r (λ n. against (at n e) (context_of old hs) (Some (tree_of old W)) (found (store_of old p) t (tree_of old K))) b l
      go (Ok ok) k = some_agrees e (context_of old hs) (store_of old p) t (tree_of old K) b measured (tree_of old W) (store_of later s1) l k
      go (Err y) k = some_refuses e (context_of old hs) (store_of old p) t (tree_of old K) b measured later (tree_of old W) l y k
