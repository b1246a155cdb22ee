-- Weak head forms of both sides, and what follows them, lead on to the outcome of the call.
use Rattle.std.proofs.Common.{◌≡◌, ◌≤◌, ◌<◌, ◌∙◌, ℕ, zero, suc, refl, sym, ap, ap₂, arith, Bool, true, false, ◌&&◌, List, Option, Some, None}
use Rattle.std.proofs.Common.{subst as along}
use Rattle.lq_trees.specs.declared.Fit.{Fit}
use Rattle.lq_trees.specs.Tree.{Tree, Context}
use Rattle.lq_trees.specs.Size.{fit}
use Rattle.lq_trees.specs.Ticks.{Paid, gives, fails, cut, tick, ◌>>=◌, Outcome, done, failed, steps_out, within, ComesTo, faults_as}
use Rattle.lq_trees.specs.Rules.{Rules}
use Rattle.lq_trees.proofs.TickLaws.{within_falls, left_of}
use Rattle.lq_trees.proofs.Outcomes.{comes_gives, comes_fails, comes_then, comes_failed, comes_spent}
use Rattle.lq_calculus.specs.Contraction.{whnf, contract, head_form}
use Rattle.lq_solving.specs.Stores.{Store, read, read_context}
use Rattle.lq_solving.specs.Unification.{UnifyFault, Unify, Answer, Sides, sides, row, row_or, is_reduced, unify, unify_fitting, unify_too_large, unify_too_deep}
use Rattle.lq_solving.specs.Waiting.{Waiting, go_on, answered_work}
use Rattle.lq_solving.proofs.WaitingLaws.{both_reduced, reduced_is}
use Rattle.lq_unify.specs.Working.{Leads, IsAnswered, again_work, IsRowed, IsReducing}
use Rattle.lq_unify.proofs.StepLaws.{comes_same}

-- ---- a head form never fails, so that its faults are of any type

pub head_faults : {F G : Type 0} (h : F → G) (step : Tree → Option Tree) (n : ℕ) (t : Tree) → faults_as h (head_form step n t) ≡ head_form step n t
unfolding head_form faults_as
head_faults {F} {G} h step zero t = at (step t)
  where
    at : (o : Option Tree) → faults_as h (elim o as (λ z. Paid F Tree) [ None ↦ gives t | Some u ↦ cut ]) ≡ elim o as (λ z. Paid G Tree) [ None ↦ gives t | Some u ↦ cut ]
    at None = refl
    at (Some u) = refl
head_faults {F} {G} h step (suc n) t = at (step t) (λ u. head_faults h step n u)
  where
    at : (o : Option Tree) → ((u : Tree) → faults_as h (head_form step n u) ≡ head_form step n u) →
        faults_as h (elim o as (λ z. Paid F Tree) [ None ↦ gives t | Some u ↦ tick (head_form step n u) ]) ≡ elim o as (λ z. Paid G Tree) [ None ↦ gives t | Some u ↦ tick (head_form step n u) ]
    at None ih = refl
    at (Some u) ih = ap tick (ih u)

-- an outcome with its faults told in another way
unfoldable pub outcome_as : {F G A : Type 0} → (F → G) → Outcome F A → Outcome G A
outcome_as h (done a left) = done a left
outcome_as h (failed f left) = failed (h f) left
outcome_as h steps_out = steps_out

pub within_faults : {F G A : Type 0} (h : F → G) (b : ℕ) (p : Paid F A) → within b (faults_as h p) ≡ outcome_as h (within b p)
unfolding within faults_as outcome_as
within_faults h b (gives a) = refl
within_faults h b (fails f) = refl
within_faults h b cut = refl
within_faults h zero (tick p) = refl
within_faults h (suc b) (tick p) = within_faults h b p

pub form_as : {F G : Type 0} (h : F → G) (step : Tree → Option Tree) (t : Tree) (b : ℕ) (o : Outcome F Tree) → ComesTo (λ n. head_form step n t) b o → ComesTo (λ n. head_form step n t) b (outcome_as h o)
form_as h step t b o k = λ n i. ap (within b) (sym (head_faults h step n t)) ∙ within_faults h b (head_form step n t) ∙ ap (outcome_as h) (k n i)

pub form_done : {F G : Type 0} (h : F → G) (step : Tree → Option Tree) (t u : Tree) (b left : ℕ) → ComesTo {F = F} (λ n. head_form step n t) b (done u left) → ComesTo {F = G} (λ n. head_form step n t) b (done u left)
unfolding outcome_as
form_done h step t u b left k = form_as h step t b (done u left) k

pub form_out : {F G : Type 0} (h : F → G) (step : Tree → Option Tree) (t : Tree) (b : ℕ) → ComesTo {F = F} (λ n. head_form step n t) b steps_out → ComesTo {F = G} (λ n. head_form step n t) b steps_out
unfolding outcome_as
form_out h step t b k = form_as h step t b steps_out k

-- ---- the price tells whether there was a contraction

pub falls : {F : Type 0} (step : Tree → Option Tree) (t u : Tree) (b left : ℕ) → ComesTo {F = F} (λ n. head_form step n t) b (done u left) → left ≤ b
unfolding left_of
falls {F} step t u b left k = along (λ o. left_of o ≤ b) (k (suc b) (omega arith)) (within_falls {F = F} b (head_form step (suc b) t))

no_contraction : (r : Rules) (g : Context) (t : Tree) (o : Option Tree) → contract r g t ≡ o → elim o as (λ z. Bool) [ None ↦ true | Some u ↦ false ] ≡ is_reduced r g t
unfolding is_reduced
no_contraction r g t o e = ap (λ z. elim z as (λ w. Bool) [ None ↦ true | Some u ↦ false ]) (sym e)

pub unpaid_reduced : {F : Type 0} (r : Rules) (g : Context) (t u : Tree) (b : ℕ) → ComesTo {F = F} (λ n. whnf r g n t) b (done u b) → is_reduced r g t ≡ true
unfolding head_form within left_of
unpaid_reduced {F} r g t u b k = at (contract r g t) refl b (k (suc b) (omega arith))
  where
    at : (o : Option Tree) → contract r g t ≡ o → (c : ℕ) → within c (elim o as (λ z. Paid F Tree) [ None ↦ gives t | Some w ↦ tick (head_form (contract r g) b w) ]) ≡ done u c → is_reduced r g t ≡ true
    at None e c h = sym (no_contraction r g t None e)
    at (Some w) e zero h = absurd (grind arith)
    at (Some w) e (suc c) h = absurd (omega (arith, along (λ z. left_of z ≤ c) h (within_falls {F = F} c (head_form (contract r g) b w))))

pub paid_reduced : {F : Type 0} (r : Rules) (g : Context) (t u : Tree) (b left : ℕ) → left < b → ComesTo {F = F} (λ n. whnf r g n t) b (done u left) → is_reduced r g t ≡ false
unfolding head_form within left_of
paid_reduced {F} r g t u b left l k = at (contract r g t) refl (k (suc b) (omega arith))
  where
    at : (o : Option Tree) → contract r g t ≡ o → within b (elim o as (λ z. Paid F Tree) [ None ↦ gives t | Some w ↦ tick (head_form (contract r g) b w) ]) ≡ done u left → is_reduced r g t ≡ false
    at None e h = absurd (omega (arith, l, ap {B = ℕ} (λ o. left_of o) h))
    at (Some w) e h = sym (no_contraction r g t (Some w) e)

-- ---- a weak head form that keeps within the limits

fit_is : (T : Tree) (o : Fit) → fit T ≡ o → elim o as (λ z. Unify Tree) [ Fit.Fits ↦ gives T | Fit.TooLarge ↦ fails unify_too_large | Fit.TooDeep ↦ fails unify_too_deep ] ≡ unify_fitting T
unfolding unify_fitting
fit_is T o e = ap (λ z. elim z as (λ w. Unify Tree) [ Fit.Fits ↦ gives T | Fit.TooLarge ↦ fails unify_too_large | Fit.TooDeep ↦ fails unify_too_deep ]) (sym e)

module _ (r : Rules) (g : Context) (t : Tree) (b left : ℕ) (T : Tree) (k : ComesTo {F = UnifyFault} (λ n. whnf r g n t) b (done T left)) where
  pub form_fits : fit T ≡ Fit.Fits → ComesTo (λ n. whnf r g n t >>= unify_fitting) b (done T left)
  form_fits e = comes_then (λ n. whnf r g n t) (λ u n. unify_fitting u) b T left (done T left) k (comes_gives (λ n. unify_fitting T) T left (λ n. sym (fit_is T Fit.Fits e)))

  pub form_large : fit T ≡ Fit.TooLarge → ComesTo (λ n. whnf r g n t >>= unify_fitting) b (failed unify_too_large left)
  form_large e = comes_then (λ n. whnf r g n t) (λ u n. unify_fitting u) b T left (failed unify_too_large left) k (comes_fails (λ n. unify_fitting T) unify_too_large left (λ n. sym (fit_is T Fit.TooLarge e)))

  pub form_deep : fit T ≡ Fit.TooDeep → ComesTo (λ n. whnf r g n t >>= unify_fitting) b (failed unify_too_deep left)
  form_deep e = comes_then (λ n. whnf r g n t) (λ u n. unify_fitting u) b T left (failed unify_too_deep left) k (comes_fails (λ n. unify_fitting T) unify_too_deep left (λ n. sym (fit_is T Fit.TooDeep e)))

pub form_stops : (r : Rules) (g : Context) (t : Tree) (b : ℕ) → ComesTo {F = UnifyFault} (λ n. whnf r g n t) b steps_out → ComesTo (λ n. whnf r g n t >>= unify_fitting) b steps_out
form_stops r g t b k = comes_spent (λ n. whnf r g n t) (λ u n. unify_fitting u) b k

-- ---- both sides

module _ (r : Rules) (f : ℕ → Unify Answer) (b : ℕ) (l : ℕ) (s : Store) (vs : List Waiting) (p : Sides) (h : IsReducing r f b l s vs p) where
  -- the sides, and their context, as read
  abbrev T : Tree
  T = read s p.left

  abbrev U : Tree
  U = read s p.right

  abbrev G : Context
  G = read_context s h.context

  -- the left form, and the right one
  abbrev left_form : ℕ → Unify Tree
  left_form n = whnf r G n T >>= unify_fitting

  abbrev right_form : ℕ → Unify Tree
  right_form n = whnf r G n U >>= unify_fitting

  -- what follows the right form, and what follows the left one
  abbrev after_both : Tree → Tree → ℕ → Unify Answer
  after_both t1 u1 n = both_reduced (unify r n) r n h.waits h.context s T U t1 u1

  abbrev after_left : Tree → ℕ → Unify Answer
  after_left t1 n = right_form n >>= (λ u1. after_both t1 u1 n)

  whole : Leads f (λ n. left_form n >>= (λ t1. after_left t1 n)) b l
  whole o k = h.leads o (comes_same _ (λ n. left_form n >>= (λ t1. after_left t1 n)) l o (λ n. reduced_is (unify r n) r n h.waits h.context s T U) k)

  -- work of the context of the definition, from that of the context that is kept
  pub in_context : {A : Type 0} (w : Context → ℕ → Unify A) (c : ℕ) (o : Outcome UnifyFault A) → ComesTo (w (read_context s p.context)) c o → ComesTo (w G) c o
  in_context w c o k = along (λ g. ComesTo (w g) c o) h.reads k

  pub left_out : ComesTo {F = UnifyFault} (λ n. whnf r (read_context s p.context) n T) l steps_out → ComesTo f b steps_out
  left_out k = whole steps_out (comes_spent left_form (λ t1 n. after_left t1 n) l (form_stops r G T l (in_context (λ g n. whnf r g n T) l steps_out k)))

  pub left_fails : (y : UnifyFault) (l1 : ℕ) → ComesTo (λ n. whnf r (read_context s p.context) n T >>= unify_fitting) l (failed y l1) → ComesTo f b (failed y l1)
  left_fails y l1 k = whole (failed y l1) (comes_failed left_form (λ t1 n. after_left t1 n) l y l1 (in_context (λ g n. whnf r g n T >>= unify_fitting) l (failed y l1) k))

  -- the left form is there
  module _ (t1 : Tree) (l1 : ℕ) (k : ComesTo (λ n. whnf r (read_context s p.context) n T >>= unify_fitting) l (done t1 l1)) where
    from_left : Leads f (after_left t1) b l1
    from_left o j = whole o (comes_then left_form (λ t2 n. after_left t2 n) l t1 l1 o (in_context (λ g n. whnf r g n T >>= unify_fitting) l (done t1 l1) k) j)

    pub right_out : ComesTo {F = UnifyFault} (λ n. whnf r (read_context s p.context) n U) l1 steps_out → ComesTo f b steps_out
    right_out j = from_left steps_out (comes_spent right_form (λ u1 n. after_both t1 u1 n) l1 (form_stops r G U l1 (in_context (λ g n. whnf r g n U) l1 steps_out j)))

    pub right_fails : (y : UnifyFault) (l2 : ℕ) → ComesTo (λ n. whnf r (read_context s p.context) n U >>= unify_fitting) l1 (failed y l2) → ComesTo f b (failed y l2)
    right_fails y l2 j = from_left (failed y l2) (comes_failed right_form (λ u1 n. after_both t1 u1 n) l1 y l2 (in_context (λ g n. whnf r g n U >>= unify_fitting) l1 (failed y l2) j))

    -- both forms are there
    module _ (u1 : Tree) (l2 : ℕ) (j : ComesTo (λ n. whnf r (read_context s p.context) n U >>= unify_fitting) l1 (done u1 l2)) where
      from_both : Leads f (after_both t1 u1) b l2
      from_both o m = from_left o (comes_then right_form (λ u2 n. after_both t1 u2 n) l1 u1 l2 o (in_context (λ g n. whnf r g n U >>= unify_fitting) l1 (done u1 l2) j) m)

      -- neither changed
      pub unchanged : is_reduced r (read_context s p.context) T ≡ true → is_reduced r (read_context s p.context) U ≡ true → IsAnswered r f b l2 s vs None
      unfolding ◌>>=◌
      unchanged d e = record { waits = h.waits; same = h.same; leads = λ o m. from_both o (comes_same (after_both t1 u1) (answered_work r h.waits None) l2 o (λ n. by n) m) }
        where
          both : is_reduced r G T && is_reduced r G U ≡ true
          both = ap₂ (λ x y. x && y) (ap (λ g. is_reduced r g T) (sym h.reads) ∙ d) (ap (λ g. is_reduced r g U) (sym h.reads) ∙ e)

          by : (n : ℕ) → after_both t1 u1 n ≡ answered_work r h.waits None n
          by n = ap (λ z. (elim z as (λ w. Unify Answer) [ true ↦ gives None | false ↦ row_or (unify r n) s (row (unify r n) h.context s t1 u1) (gives None) ]) >>= go_on (unify r n) r n h.waits) both

      -- one changed: the rows again, on forms that read as themselves
      pub changed : is_reduced r (read_context s p.context) T && is_reduced r (read_context s p.context) U ≡ false → read s t1 ≡ t1 → read s u1 ≡ u1 → IsRowed false r f b l2 s vs (sides p.context t1 u1)
      unfolding ◌>>=◌
      changed d e1 e2 = record {
        waits = h.waits;
        same = h.same;
        context = h.context;
        reads = h.reads;
        leads = λ o m. from_both o (comes_same (after_both t1 u1) (again_work r h.waits h.context s (read s t1) (read s u1)) l2 o (λ n. by n) m);
      }
        where
          both : is_reduced r G T && is_reduced r G U ≡ false
          both = ap (λ g. is_reduced r g T && is_reduced r g U) (sym h.reads) ∙ d

          by : (n : ℕ) → after_both t1 u1 n ≡ again_work r h.waits h.context s (read s t1) (read s u1) n
          by n =
              ap (λ z. (elim z as (λ w. Unify Answer) [ true ↦ gives None | false ↦ row_or (unify r n) s (row (unify r n) h.context s t1 u1) (gives None) ]) >>= go_on (unify r n) r n h.waits) both
              ∙ ap₂ (λ x y. row_or (unify r n) s (row (unify r n) h.context s x y) (gives None) >>= go_on (unify r n) r n h.waits) (sym e1) (sym e2)
