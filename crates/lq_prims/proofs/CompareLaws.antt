-- What a comparison as reduction answers it comes to, where its fault is one of a primitive.
use Rattle.std.proofs.Common.{◌≡◌, ℕ, zero, suc, refl, sym, ◌∙◌, ap, Bool, true, false, List, [], ◌∷◌, Option, Some, None, Result, Ok, Err}
use Rattle.lq_trees.specs.Tree.{Tree, Context}
use Rattle.lq_trees.specs.Ticks.{Paid, gives, fails, cut, tick, ◌>>=◌, Outcome, done, steps_out, within, ComesTo, faults_as}
use Rattle.lq_trees.specs.Rules.{Rules}
use Rattle.lq_calculus.specs.Contraction.{spine, whnf}
use Rattle.lq_calculus.specs.Checking.{KernelFault, conv, pairs, all_compare, compare_left}
use Rattle.lq_calculus.proofs.Comparison.{bind_same}
use Rattle.lq_terms.specs.Terms.{Terms}
use Rattle.lq_reduce.specs.declared.faults.ReduceFault.{ReduceFault}
use Rattle.lq_reduce.specs.Answers.{Compares}
use Rattle.lq_unify.proofs.ReduceSteps.{head_faults, outcome_as, within_faults}
use Rattle.lq_tactics.specs.Rows.{RowFault, goals_exceeded}
use Rattle.lq_prims.specs.Refusals.{reduce_refusal, ticks_spent}
use Rattle.lq_prims.specs.Working.{Does}
use Rattle.lq_prims.proofs.WorkLaws.{no_memory}

module _ {F G : Type 0} (h : F → G) where
  -- faults told in another way, in parts
  pub faults_bind : {A B : Type 0} (r : Paid F A) (k : A → Paid F B) → faults_as h (r >>= k) ≡ (faults_as h r >>= λ a. faults_as h (k a))
  unfolding faults_as ◌>>=◌
  faults_bind (gives a) k = refl
  faults_bind (fails f) k = refl
  faults_bind cut k = refl
  faults_bind (tick r) k = ap tick (faults_bind r k)

  -- comparison has no fault
  all_faults : (v : Tree → Tree → Paid F Bool) (w : Tree → Tree → Paid G Bool) → ((t u : Tree) → faults_as h (v t u) ≡ w t u) → (ps : List (Tree × Tree)) →
      faults_as h (all_compare v ps) ≡ all_compare w ps
  unfolding all_compare faults_as
  all_faults v w e [] = refl
  all_faults v w e (p ∷ ps) =
      faults_bind (v p.0 p.1) _
      ∙ ap (λ z. z >>= λ same. faults_as h (elim same as (λ b. Paid F Bool) [ true ↦ all_compare v ps | false ↦ gives false ])) (e p.0 p.1)
      ∙ bind_same (w p.0 p.1) _ _ (elim [ true ↦ all_faults v w e ps | false ↦ refl ])

  left_faults : (v : Tree → Tree → Paid F Bool) (w : Tree → Tree → Paid G Bool) → ((t u : Tree) → faults_as h (v t u) ≡ w t u) → (o : Option (List (Tree × Tree))) →
      faults_as h (compare_left v o) ≡ compare_left w o
  unfolding compare_left faults_as
  left_faults v w e None = refl
  left_faults v w e (Some ps) = all_faults v w e ps

  pub conv_faults : (r : Rules) (g : Context) (n : ℕ) (t u : Tree) → faults_as h (conv r g n t u) ≡ conv r g n t u
  unfolding conv faults_as
  conv_faults r g zero t u = refl
  conv_faults r g (suc n) t u =
      ap tick (faults_bind (whnf r g n t) _
      ∙ ap (λ z. z >>= λ t1. faults_as h (whnf r g n u >>= λ u1. compare_left (conv r g n) (pairs (spine t1 []) (spine u1 [])))) (head_faults h _ n t)
      ∙ bind_same (whnf r g n t) _ _ (λ t1.
      faults_bind (whnf r g n u) _
      ∙ ap (λ z. z >>= λ u1. faults_as h (compare_left (conv r g n) (pairs (spine t1 []) (spine u1 [])))) (head_faults h _ n u)
      ∙ bind_same (whnf r g n u) _ _ (λ u1. left_faults (conv r g n) (conv r g n) (λ a b. conv_faults r g n a b) (pairs (spine t1 []) (spine u1 [])))))

-- comparison comes to one outcome, whatever its faults are
pub conv_as : {F G : Type 0} (h : F → G) (r : Rules) (g : Context) (t u : Tree) (b : ℕ) (o : Outcome F Bool) → ComesTo (λ n. conv r g n t u) b o →
    ComesTo (λ n. conv r g n t u) b (outcome_as h o)
conv_as h r g t u b o c = λ n i. ap (within b) (sym (conv_faults h r g n t u)) ∙ within_faults h b (conv r g n t u) ∙ ap (outcome_as h) (c n i)

-- by the answer of reduction
pub does_compare : (bank : Terms) (r : Rules) (g : Context) (t u : Tree) (b left : ℕ) (q : Result Bool ReduceFault) →
    Compares {F = KernelFault} q (λ n. conv r g n t u) b left →
    elim q as (λ z. Type 0) [ Ok same ↦ Does bank (λ x. x) (Ok same) (λ n. conv r g n t u) b left | Err e ↦ Does bank (λ x. x) (Err (reduce_refusal e)) (λ n. conv {F = RowFault} r g n t u) b left ]
unfolding outcome_as
does_compare bank r g t u b left (Ok same) h = conv_as {F = KernelFault} {G = RowFault} (λ z. goals_exceeded) r g t u b (done same left) h
does_compare bank r g t u b left (Err ReduceFault.StepsOut) h =
    record { stop = ticks_spent; tells = refl; stops = (conv_as {F = KernelFault} {G = RowFault} (λ z. goals_exceeded) r g t u b steps_out h.0, h.1) }
does_compare bank r g t u b left (Err ReduceFault.TooLarge) h = absurd h
does_compare bank r g t u b left (Err ReduceFault.TooDeep) h = absurd h
does_compare bank r g t u b left (Err ReduceFault.NoMemory) h = no_memory bank (λ n. conv {F = RowFault} r g n t u) b left
