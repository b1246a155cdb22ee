-- Each step over terms as they are kept leads on to the outcome of the call.
use Rattle.std.proofs.Common.{◌≡◌, ◌∙◌, ℕ, suc, refl, sym, ap, ap₂, arith, Bool, true, false, List, [], ◌∷◌, Option, Some, None}
use Rattle.std.proofs.Common.{subst as along}
use Rattle.lq_trees.specs.Tree.{Tree, Context}
use Rattle.lq_trees.specs.Ticks.{gives, fails, ◌>>=◌, Outcome, done, failed, steps_out, within, ComesTo}
use Rattle.lq_trees.specs.Rules.{Rules}
use Rattle.lq_trees.proofs.TickLaws.{bind_gives}
use Rattle.lq_trees.proofs.Outcomes.{comes_gives, comes_fails}
use Rattle.lq_solving.specs.Stores.{Store, read}
use Rattle.lq_solving.specs.Kept.{IsStore}
use Rattle.lq_solving.specs.Unification.{UnifyFault, Unify, Answer, Sides, sides, one_variable, by_solving, parts_by_form, unify}
use Rattle.lq_solving.specs.Waiting.{Waiting, parts, reducing, go_on, answered_work, asked_work}
use Rattle.lq_solving.proofs.Later.{Later, now}
use Rattle.lq_solving.proofs.WaitingLaws.{ticked, unpaid, rows_work, no_part, next_part, first_one, first_solved, first_formed, first_none, again_one, again_solved, again_formed, again_none}
use Rattle.lq_unify.specs.Heads.{HasOpenHead}
use Rattle.lq_unify.specs.Unread.{SameParts, SameOption, SameWaiting}
use Rattle.lq_unify.specs.Working.{Leads, IsAnswered, IsAsked, rows_by, IsRowed, IsReducing}
use Rattle.lq_unify.proofs.UnreadLaws.{waiting_later}
use Rattle.lq_unify.proofs.FormsUnread.{same_by_form, same_one_read}

-- work that is the same for each bound
pub comes_same : {A : Type 0} (f g : ℕ → Unify A) (b : ℕ) (o : Outcome UnifyFault A) → ((n : ℕ) → f n ≡ g n) → ComesTo g b o → ComesTo f b o
comes_same f g b o e h = λ n i. ap (within b) (e n) ∙ h n i

module _ (r : Rules) where
  -- ---- the ends

  pub begun : (b : ℕ) (s : Store) (p : Sides) → IsAsked r (λ n. unify r n p.context s p.left p.right) b b s [] p
  unfolding go_on
  begun b s p = record {
    waits = [];
    same = tt;
    meant = p;
    reads = record { context = refl; left = refl; right = refl };
    leads = λ o h. comes_same (λ n. unify r n p.context s p.left p.right) (asked_work r [] p.context s p.left p.right) b o
        (λ n. sym (bind_gives (unify r n p.context s p.left p.right))) h;
  }

  module _ (f : ℕ → Unify Answer) (b : ℕ) where
    pub ended : (l : ℕ) (s : Store) (a : Answer) → IsAnswered r f b l s [] a → ComesTo f b (done a l)
    unfolding go_on
    ended l s a h = by h.waits h.same h.leads
      where
        by : (ws : List Waiting) → SameWaiting s [] ws → Leads f (answered_work r ws a) b l → ComesTo f b (done a l)
        by [] e k = k (done a l) (comes_gives (answered_work r [] a) a l (λ n. refl))
        by (w ∷ ws) e k = absurd e

    -- ---- a call

    pub unpaid_is : (s : Store) (vs : List Waiting) (p : Sides) → IsAsked r f b 0 s vs p → ComesTo f b steps_out
    unpaid_is s vs p h = h.leads steps_out (unpaid r h.waits h.meant.context s h.meant.left h.meant.right)

    pub paid_is : (l : ℕ) (s : Store) (vs : List Waiting) (p : Sides) → IsAsked r f b (suc l) s vs p → IsRowed true r f b l s vs p
    paid_is l s vs p h = record {
      waits = h.waits;
      same = h.same;
      context = h.meant.context;
      reads = h.reads.context;
      leads = λ o k. h.leads o (ticked r h.waits h.meant.context s h.meant.left h.meant.right l o
          (along (λ t. ComesTo (rows_work r h.waits h.meant.context s t (read s h.meant.right)) l o) h.reads.left
          (along (λ u. ComesTo (rows_work r h.waits h.meant.context s (read s p.left) u) l o) h.reads.right k)));
    }

    -- ---- what waits, once there is an answer

    pub next_is : (l : ℕ) (s : Store) (p : Sides) (ps : List Sides) (vs : List Waiting) → IsAnswered r f b l s (parts (p ∷ ps) ∷ vs) (Some s) → IsAsked r f b l s (parts ps ∷ vs) p
    next_is l s p ps vs h = by h.waits h.same h.leads
      where
        by : (ws : List Waiting) → SameWaiting s (parts (p ∷ ps) ∷ vs) ws → Leads f (answered_work r ws (Some s)) b l → IsAsked r f b l s (parts ps ∷ vs) p
        by (parts (q ∷ qs) ∷ ws) e k = record {
          waits = parts qs ∷ ws;
          same = (e.0.1, e.1);
          meant = q;
          reads = e.0.0;
          leads = λ o i. k o (comes_same (answered_work r (parts (q ∷ qs) ∷ ws) (Some s)) (asked_work r (parts qs ∷ ws) q.context s q.left q.right) l o
              (λ n. next_part (unify r n) r n ws s q qs) i);
        }
        by [] e k = absurd e
        by (parts [] ∷ ws) e k = absurd e.0
        by (reducing g s0 t u ∷ ws) e k = absurd e

    pub none_left : (l : ℕ) (s : Store) (vs : List Waiting) → IsAnswered r f b l s (parts [] ∷ vs) (Some s) → IsAnswered r f b l s vs (Some s)
    none_left l s vs h = by h.waits h.same h.leads
      where
        by : (ws : List Waiting) → SameWaiting s (parts [] ∷ vs) ws → Leads f (answered_work r ws (Some s)) b l → IsAnswered r f b l s vs (Some s)
        by (parts [] ∷ ws) e k = record {
          waits = ws;
          same = e.1;
          leads = λ o i. k o (comes_same (answered_work r (parts [] ∷ ws) (Some s)) (answered_work r ws (Some s)) l o (λ n. no_part (unify r n) r n ws s) i);
        }
        by [] e k = absurd e
        by (parts (q ∷ qs) ∷ ws) e k = absurd e.0
        by (reducing g s0 t u ∷ ws) e k = absurd e

    pub skipped : (l : ℕ) (s : Store) (ps : List Sides) (vs : List Waiting) → IsAnswered r f b l s (parts ps ∷ vs) None → IsAnswered r f b l s vs None
    unfolding go_on
    skipped l s ps vs h = by h.waits h.same h.leads
      where
        by : (ws : List Waiting) → SameWaiting s (parts ps ∷ vs) ws → Leads f (answered_work r ws None) b l → IsAnswered r f b l s vs None
        by (parts qs ∷ ws) e k = record { waits = ws; same = e.1; leads = λ o i. k o (comes_same (answered_work r (parts qs ∷ ws) None) (answered_work r ws None) l o (λ n. refl) i) }
        by [] e k = absurd e
        by (reducing g s0 t u ∷ ws) e k = absurd e

    -- a call that went well without weak head forms
    pub passed : (l : ℕ) (s s0 : Store) (g : Context) (t u : Tree) (vs : List Waiting) → IsStore s0 → IsAnswered r f b l s (reducing g s0 t u ∷ vs) (Some s) → IsAnswered r f b l s vs (Some s)
    unfolding go_on
    passed l s s0 g t u vs i h = by h.waits h.same h.leads
      where
        by : (ws : List Waiting) → SameWaiting s (reducing g s0 t u ∷ vs) ws → Leads f (answered_work r ws (Some s)) b l → IsAnswered r f b l s vs (Some s)
        by (reducing f1 s1 T U ∷ ws) e k = record {
          waits = ws;
          same = waiting_later e.1.later i vs ws e.2;
          leads = λ o j. k o (comes_same (answered_work r (reducing f1 s1 T U ∷ ws) (Some s)) (answered_work r ws (Some s)) l o (λ n. refl) j);
        }
        by [] e k = absurd e
        by (parts qs ∷ ws) e k = absurd e

    -- a call that goes back to its store, for its weak head forms
    pub goes_back : (l : ℕ) (s s0 : Store) (g : Context) (t u : Tree) (vs : List Waiting) → IsAnswered r f b l s (reducing g s0 t u ∷ vs) None → IsReducing r f b l s0 vs (sides g t u)
    goes_back l s s0 g t u vs h = by h.waits h.same h.leads
      where
        by : (ws : List Waiting) → SameWaiting s (reducing g s0 t u ∷ vs) ws → Leads f (answered_work r ws None) b l → IsReducing r f b l s0 vs (sides g t u)
        by (reducing f1 s1 T U ∷ ws) e k = record {
          waits = ws;
          same = e.2;
          context = f1;
          reads = e.1.context;
          leads = along (λ w. Leads f (answered_work r (w ∷ ws) None) b l)
              (ap (λ z. reducing f1 z T U) e.0 ∙ ap₂ (λ a c. reducing f1 s0 a c) e.1.left e.1.right) k;
        }
        by [] e k = absurd e
        by (parts qs ∷ ws) e k = absurd e

    -- ---- rows

    module _ (l : ℕ) (s : Store) (i : IsStore s) (vs : List Waiting) (p : Sides) (a : HasOpenHead s.values p.left) (c : HasOpenHead s.values p.right) where
      -- what the definition has where the code has none, or some parts
      none_there : (o q : Option (List Sides)) → SameOption s o q → o ≡ None → q ≡ None
      none_there None None e k = refl
      none_there None (Some qs) e k = absurd e
      none_there (Some ps) q e k = absurd (grind arith)

      some_there : (o q : Option (List Sides)) (ps : List Sides) → SameOption s o q → o ≡ Some ps → (qs : List Sides) × (q ≡ Some qs) × SameParts s ps qs
      some_there (Some xs) (Some qs) ps e k = (qs, refl, along (λ z. SameParts s z qs) (ap (λ z. elim z [ Some y ↦ y | None ↦ xs ]) k) e)
      some_there (Some xs) None ps e k = absurd e
      some_there None q ps e k = absurd (grind arith)

      pub row_one : (first : Bool) (ps : List Sides) → IsRowed first r f b l s vs p → one_variable p.context p.left p.right ≡ Some ps → IsAnswered r f b l s (parts ps ∷ vs) (Some s)
      row_one first ps h e =
          let q = some_there _ _ ps (same_one_read s i p.context h.context h.reads p.left p.right a c) e in
          record { waits = parts q.0 ∷ h.waits; same = (q.2, h.same); leads = λ o k. h.leads o (by first q.0 q.1 o k) }
        where
          by : (first1 : Bool) (qs : List Sides) → one_variable h.context (read s p.left) (read s p.right) ≡ Some qs → (o : Outcome UnifyFault Answer) →
              ComesTo (answered_work r (parts qs ∷ h.waits) (Some s)) l o → ComesTo (rows_by first1 r h.waits h.context s (read s p.left) (read s p.right)) l o
          by true qs e1 o k = comes_same _ (answered_work r (parts qs ∷ h.waits) (Some s)) l o (λ n. first_one (unify r n) r n h.waits h.context s (read s p.left) (read s p.right) qs e1) k
          by false qs e1 o k = comes_same _ (answered_work r (parts qs ∷ h.waits) (Some s)) l o (λ n. again_one (unify r n) r n h.waits h.context s (read s p.left) (read s p.right) qs e1) k

      -- a row that solves leads on to what solving gives
      pub row_solved : (first : Bool) (x : Unify Answer) (h : IsRowed first r f b l s vs p) → one_variable p.context p.left p.right ≡ None → by_solving s (read s p.left) (read s p.right) ≡ Some x →
          Leads f (λ n. x >>= go_on (unify r n) r n h.waits) b l
      row_solved first x h e k = λ o j. h.leads o (by first (none_there _ _ (same_one_read s i p.context h.context h.reads p.left p.right a c) e) o j)
        where
          by : (first1 : Bool) → one_variable h.context (read s p.left) (read s p.right) ≡ None → (o : Outcome UnifyFault Answer) → ComesTo (λ n. x >>= go_on (unify r n) r n h.waits) l o →
              ComesTo (rows_by first1 r h.waits h.context s (read s p.left) (read s p.right)) l o
          by true e1 o j = comes_same _ (λ n. x >>= go_on (unify r n) r n h.waits) l o (λ n. first_solved (unify r n) r n h.waits h.context s (read s p.left) (read s p.right) x e1 k) j
          by false e1 o j = comes_same _ (λ n. x >>= go_on (unify r n) r n h.waits) l o (λ n. again_solved (unify r n) r n h.waits h.context s (read s p.left) (read s p.right) x e1 k) j

      pub solved_yes : (first : Bool) (s1 : Store) → Later s s1 → IsRowed first r f b l s vs p → one_variable p.context p.left p.right ≡ None → by_solving s (read s p.left) (read s p.right) ≡ Some (gives (Some s1)) →
          IsAnswered r f b l s1 vs (Some s1)
      unfolding ◌>>=◌
      solved_yes first s1 later h e k = record { waits = h.waits; same = waiting_later later i vs h.waits h.same; leads = row_solved first (gives (Some s1)) h e k }

      pub solved_no : (first : Bool) → IsRowed first r f b l s vs p → one_variable p.context p.left p.right ≡ None → by_solving s (read s p.left) (read s p.right) ≡ Some (gives None) → IsAnswered r f b l s vs None
      unfolding ◌>>=◌
      solved_no first h e k = record { waits = h.waits; same = h.same; leads = row_solved first (gives None) h e k }

      pub solved_fails : (first : Bool) (y : UnifyFault) → IsRowed first r f b l s vs p → one_variable p.context p.left p.right ≡ None → by_solving s (read s p.left) (read s p.right) ≡ Some (fails y) → ComesTo f b (failed y l)
      unfolding ◌>>=◌
      solved_fails first y h e k = row_solved first (fails y) h e k (failed y l) (comes_fails (λ n. fails y >>= go_on (unify r n) r n h.waits) y l (λ n. refl))

      pub row_formed : (ps : List Sides) → IsRowed true r f b l s vs p → one_variable p.context p.left p.right ≡ None → by_solving s (read s p.left) (read s p.right) ≡ None → parts_by_form p.context p.left p.right ≡ Some ps →
          IsAnswered r f b l s (parts ps ∷ reducing p.context s p.left p.right ∷ vs) (Some s)
      row_formed ps h e k j =
          let q = some_there _ _ ps (same_by_form s i p.context h.context h.reads p.left p.right a c) j in
          let m = none_there _ _ (same_one_read s i p.context h.context h.reads p.left p.right a c) e in record {
            waits = parts q.0 ∷ reducing h.context s (read s p.left) (read s p.right) ∷ h.waits;
            same = (q.2, (refl, record { later = now; context = h.reads; left = refl; right = refl }, h.same));
            leads = λ o y. h.leads o (comes_same _ (answered_work r (parts q.0 ∷ reducing h.context s (read s p.left) (read s p.right) ∷ h.waits) (Some s)) l o
                (λ n. first_formed (unify r n) r n h.waits h.context s (read s p.left) (read s p.right) q.0 m k q.1) y);
          }

      pub form_again : (ps : List Sides) → IsRowed false r f b l s vs p → one_variable p.context p.left p.right ≡ None → by_solving s (read s p.left) (read s p.right) ≡ None → parts_by_form p.context p.left p.right ≡ Some ps →
          IsAnswered r f b l s (parts ps ∷ vs) (Some s)
      form_again ps h e k j =
          let q = some_there _ _ ps (same_by_form s i p.context h.context h.reads p.left p.right a c) j in
          let m = none_there _ _ (same_one_read s i p.context h.context h.reads p.left p.right a c) e in record {
            waits = parts q.0 ∷ h.waits;
            same = (q.2, h.same);
            leads = λ o y. h.leads o (comes_same _ (answered_work r (parts q.0 ∷ h.waits) (Some s)) l o (λ n. again_formed (unify r n) r n h.waits h.context s (read s p.left) (read s p.right) q.0 m k q.1) y);
          }

      pub row_none : IsRowed true r f b l s vs p → one_variable p.context p.left p.right ≡ None → by_solving s (read s p.left) (read s p.right) ≡ None → parts_by_form p.context p.left p.right ≡ None → IsReducing r f b l s vs p
      row_none h e k j =
          let q = none_there _ _ (same_by_form s i p.context h.context h.reads p.left p.right a c) j in
          let m = none_there _ _ (same_one_read s i p.context h.context h.reads p.left p.right a c) e in record {
            waits = h.waits;
            same = h.same;
            context = h.context;
            reads = h.reads;
            leads = λ o y. h.leads o (comes_same _ (answered_work r (reducing h.context s (read s p.left) (read s p.right) ∷ h.waits) None) l o
                (λ n. first_none (unify r n) r n h.waits h.context s (read s p.left) (read s p.right) m k q) y);
          }

      pub none_again : IsRowed false r f b l s vs p → one_variable p.context p.left p.right ≡ None → by_solving s (read s p.left) (read s p.right) ≡ None → parts_by_form p.context p.left p.right ≡ None → IsAnswered r f b l s vs None
      none_again h e k j =
          let q = none_there _ _ (same_by_form s i p.context h.context h.reads p.left p.right a c) j in
          let m = none_there _ _ (same_one_read s i p.context h.context h.reads p.left p.right a c) e in record {
            waits = h.waits;
            same = h.same;
            leads = λ o y. h.leads o (comes_same _ (answered_work r h.waits None) l o (λ n. again_none (unify r n) r n h.waits h.context s (read s p.left) (read s p.right) m k q) y);
          }
