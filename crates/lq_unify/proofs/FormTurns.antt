-- Both weak head forms, and what follows them.
use Rattle.std.proofs.Common.{◌≡◌, ◌∙◌, ℕ, suc, sym, ap, ap₂, arith, true, false, List, None}
use Rattle.std.proofs.Common.{subst as along}
use Rattle.std.proofs.Math.Path.{fun_ext}
use Rattle.lq_trees.specs.Tree.{Tree, Context}
use Rattle.lq_trees.specs.Rules.{Rules}
use Rattle.lq_trees.specs.Ticks.{gives, ◌>>=◌, done, failed, steps_out, ComesTo}
use Rattle.lq_trees.proofs.TickLaws.{bind_bind}
use Rattle.lq_trees.proofs.Outcomes.{comes_then, comes_failed, comes_spent}
use Rattle.lq_calculus.specs.Contraction.{whnf}
use Rattle.lq_calculus.proofs.ConvSound.{gives_bind, done_gives}
use Rattle.lq_terms.specs.declared.nodes.TermId.{TermId}
use Rattle.lq_terms.specs.Terms.{Terms, tree_of}
use Rattle.lq_solving.specs.Stores.{Store, names_in, read, read_context}
use Rattle.lq_solving.specs.Kept.{StandsIn, IsContext, IsStore}
use Rattle.lq_solving.specs.Claims.{ArePlainRules}
use Rattle.lq_solving.specs.Unification.{UnifyFault, Unify, Answer, Sides, sides, row, row_or, unify, unify_fitting}
use Rattle.lq_solving.specs.Waiting.{Waiting, go_on, answered_work}
use Rattle.lq_solving.proofs.WaitingLaws.{reduced_is}
use Rattle.lq_solving.proofs.DoneLaws.{done_reads}
use Rattle.lq_solving.proofs.Good.{IsGood, good_done}
use Rattle.lq_solving.proofs.Later.{good_read, good_stands}
use Rattle.lq_solving.proofs.UnifyProved.{fitting_sound, bodies_stand}
use Rattle.lq_unify.specs.Working.{Leads, IsAnswered, again_work, IsRowed, IsReducing}
use Rattle.lq_unify.specs.Reducing.{one_form, both_forms, are_reduced, Unchanged, Changed}
use Rattle.lq_unify.proofs.StepLaws.{comes_same}

-- both forms, and then more
both_then : {B : Type 0} (r : Rules) (g : Context) (t u : Tree) (n : ℕ) (k : Tree → Tree → Unify B) → (both_forms r g t u n >>= (λ q. k q.0 q.1)) ≡ (whnf r g n t >>= unify_fitting >>= (λ t1. whnf r g n u >>= unify_fitting >>= (λ u1. k t1 u1)))
unfolding one_form both_forms ◌>>=◌
both_then r g t u n k =
    bind_bind (whnf r g n t >>= unify_fitting) (λ t1. whnf r g n u >>= unify_fitting >>= λ u1. gives (t1, u1)) (λ q. k q.0 q.1)
    ∙ ap (λ z. (whnf r g n t >>= unify_fitting) >>= z) (fun_ext (λ t1. bind_bind (whnf r g n u >>= unify_fitting) (λ u1. gives (t1, u1)) (λ q. k q.0 q.1)))

module _ (r : Rules) (f : ℕ → Unify Answer) (b l : ℕ) (s : Store) (vs : List Waiting) (p : Sides) (h : IsReducing r f b l s vs p) where
  -- the sides as read
  abbrev T : Tree
  T = read s p.left

  abbrev U : Tree
  U = read s p.right

  -- what follows
  abbrev after : Context → Tree × Tree → ℕ → Unify Answer
  after g q n = (elim (are_reduced r g T U) as (λ w. Unify Answer) [ true ↦ gives None | false ↦ row_or (unify r n) s (row (unify r n) h.context s q.0 q.1) (gives None) ]) >>= go_on (unify r n) r n h.waits

  whole : Leads f (λ n. both_forms r (read_context s p.context) T U n >>= (λ q. after (read_context s p.context) q n)) b l
  whole = along (λ g. Leads f (λ n. both_forms r g T U n >>= (λ q. after g q n)) b l) (sym h.reads) by
    where
      by : Leads f (λ n. both_forms r (read_context s h.context) T U n >>= (λ q. after (read_context s h.context) q n)) b l
      by o k = h.leads o (comes_same _ (λ n. both_forms r (read_context s h.context) T U n >>= (λ q. after (read_context s h.context) q n)) l o
          (λ n. reduced_is (unify r n) r n h.waits h.context s T U ∙ sym (both_then r (read_context s h.context) T U n (λ t1 u1. after (read_context s h.context) (t1, u1) n))) k)

  pub forms_out : ComesTo (both_forms r (read_context s p.context) T U) l steps_out → ComesTo f b steps_out
  forms_out k = whole steps_out (comes_spent (both_forms r (read_context s p.context) T U) (λ q n. after (read_context s p.context) q n) l k)

  pub forms_fail : (y : UnifyFault) (l1 : ℕ) → ComesTo (both_forms r (read_context s p.context) T U) l (failed y l1) → ComesTo f b (failed y l1)
  forms_fail y l1 k = whole (failed y l1) (comes_failed (both_forms r (read_context s p.context) T U) (λ q n. after (read_context s p.context) q n) l y l1 k)

  then_after : (q : Tree × Tree) (l1 : ℕ) → ComesTo (both_forms r (read_context s p.context) T U) l (done q l1) → Leads f (λ n. after (read_context s p.context) q n) b l1
  then_after q l1 k o m = whole o (comes_then (both_forms r (read_context s p.context) T U) (λ z n. after (read_context s p.context) z n) l q l1 o k m)

  -- neither changed
  pub unchanged_is : (l1 : ℕ) → Unchanged r (read_context s p.context) T U l l1 → IsAnswered r f b l1 s vs None
  unfolding ◌>>=◌
  unchanged_is l1 k = record {
    waits = h.waits;
    same = h.same;
    leads = λ o m. then_after k.forms l1 k.comes o (comes_same (after (read_context s p.context) k.forms) (answered_work r h.waits None) l1 o
        (λ n. ap (λ z. (elim z as (λ w. Unify Answer) [ true ↦ gives None | false ↦ row_or (unify r n) s (row (unify r n) h.context s k.forms.0 k.forms.1) (gives None) ]) >>= go_on (unify r n) r n h.waits) k.same) m);
  }

  -- one changed: the rows again, on forms that read as themselves
  pub changed_is : (bank : Terms) (q : TermId × TermId) (l1 : ℕ) → Changed r (read_context s p.context) T U bank q l l1 → read s (tree_of bank q.0) ≡ tree_of bank q.0 → read s (tree_of bank q.1) ≡ tree_of bank q.1 →
      IsRowed false r f b l1 s vs (sides p.context (tree_of bank q.0) (tree_of bank q.1))
  unfolding ◌>>=◌
  changed_is bank q l1 k e1 e2 = record {
    waits = h.waits;
    same = h.same;
    context = h.context;
    reads = h.reads;
    leads = λ o m. then_after (tree_of bank q.0, tree_of bank q.1) l1 k.comes o (comes_same (after (read_context s p.context) (tree_of bank q.0, tree_of bank q.1)) (again_work r h.waits h.context s (read s (tree_of bank q.0)) (read s (tree_of bank q.1))) l1 o (λ n. by n) m);
  }
    where
      by : (n : ℕ) → after (read_context s p.context) (tree_of bank q.0, tree_of bank q.1) n ≡ again_work r h.waits h.context s (read s (tree_of bank q.0)) (read s (tree_of bank q.1)) n
      by n =
          ap (λ z. (elim z as (λ w. Unify Answer) [ true ↦ gives None | false ↦ row_or (unify r n) s (row (unify r n) h.context s (tree_of bank q.0) (tree_of bank q.1)) (gives None) ]) >>= go_on (unify r n) r n h.waits) k.changed
          ∙ ap₂ (λ x y. row_or (unify r n) s (row (unify r n) h.context s x y) (gives None) >>= go_on (unify r n) r n h.waits) (sym e1) (sym e2)

-- ---- the forms read as themselves, and stand where their terms do

module _ (r : Rules) (plain : ArePlainRules r) (s : Store) (i : IsStore s) (g : Context) (c : IsContext s g) (t u t1 u1 : Tree) (h : StandsIn s g t) (j : StandsIn s g u) (b left : ℕ)
    (k : ComesTo (both_forms r (read_context s g) (read s t) (read s u)) b (done (t1, u1) left)) where
  both_good : IsGood s.variables s.values (names_in g) 0 t1 × IsGood s.variables s.values (names_in g) 0 u1
  unfolding one_form both_forms
  both_good =
      let a = gives_bind (whnf r (read_context s g) (suc b) (read s t) >>= unify_fitting) _ (t1, u1) (done_gives {F = UnifyFault} b (both_forms r (read_context s g) (read s t) (read s u) (suc b)) (t1, u1) left (k (suc b) (omega arith))) in
      let d = gives_bind (whnf r (read_context s g) (suc b) (read s u) >>= unify_fitting) _ (t1, u1) a.2 in (
        along (IsGood s.variables s.values (names_in g) 0) (ap (λ q. q.0) d.2) (fitting_sound r plain s i g (bodies_stand s g c) (suc b) (read s t) a.0 (good_read s i (names_in g) t h) a.1).0,
        along (IsGood s.variables s.values (names_in g) 0) (ap (λ q. q.1) d.2) (fitting_sound r plain s i g (bodies_stand s g c) (suc b) (read s u) d.0 (good_read s i (names_in g) u j) d.1).0,
      )

  pub both_read : (read s t1 ≡ t1) × (read s u1 ≡ u1)
  unfolding read
  both_read = (done_reads s.variables s.values t1 (good_done s.variables s.values (names_in g) 0 t1 both_good.0), done_reads s.variables s.values u1 (good_done s.variables s.values (names_in g) 0 u1 both_good.1))

  pub both_stand : StandsIn s g t1 × StandsIn s g u1
  both_stand = (good_stands s i s.values (names_in g) t1 both_good.0, good_stands s i s.values (names_in g) u1 both_good.1)
