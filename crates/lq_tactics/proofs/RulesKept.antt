-- The primitives of the second table keep what holds of a proof.
use Rattle.std.proofs.Common.{◌≡◌, ◌<◌, ◌+◌, ◌^◌, ◌∙◌, ℕ, suc, refl, sym, ap, arith, true, false, length}
use Rattle.std.proofs.Common.{subst as along}
use Rattle.lq_trees.specs.Ticks.{◌>>=◌, within, done}
use Rattle.lq_trees.proofs.TickLaws.{agree_within}
use Rattle.lq_calculus.specs.Declarations.{Env}
use Rattle.lq_calculus.proofs.ConvSound.{Gives, gives_bind, done_gives}
use Rattle.lq_ast.specs.Syntax.{Rule, elimination_of, induction, destruct, rewrite, rewrite_back, unfold_constant, change, hnf, compute, clear, rename, revert}
use Rattle.lq_ast.specs.Syntax.{generalize}
use Rattle.lq_solving.specs.Stores.{is_open}
use Rattle.lq_solving.specs.Kept.{IsStore}
use Rattle.lq_solving.specs.Claims.{ArePlainDeclarations}
use Rattle.lq_solving.specs.Elaboration.{Givens}
use Rattle.lq_solving.proofs.ElabStands.{deep}
use Rattle.lq_states.specs.Goals.{Proof}
use Rattle.lq_states.specs.Kept.{IsProof}
use Rattle.lq_tactics.specs.Rows.{Scene, Step, PrimDone, rules, head_of, scene, listed}
use Rattle.lq_tactics.specs.Hypotheses.{do_clear, do_rename, do_revert}
use Rattle.lq_tactics.specs.Elimination.{do_elim}
use Rattle.lq_tactics.specs.Rewriting.{do_rewrite, retyped, do_unfold, do_change, do_generalize}
use Rattle.lq_tactics.specs.Rules.{rule_row, run_rule}
use Rattle.lq_tactics.proofs.RulesSettled.{rule_settled}
use Rattle.lq_tactics.proofs.RowsKept.{AreGiven, IsScene, IsStep, scene_is, scene_kept, ended_kept}
use Rattle.lq_tactics.proofs.StepsKept.{scene_valueless, IsThere, row_listed_kept}
use Rattle.lq_tactics.proofs.ApplyKept.{HasRoom}
use Rattle.lq_tactics.proofs.HypothesesKept.{clear_reached, revert_reached}
use Rattle.lq_tactics.proofs.RenameKept.{rename_reached}
use Rattle.lq_tactics.proofs.RetypingKept.{hnf_reached, unfold_reached, change_reached, generalize_reached}
use Rattle.lq_tactics.proofs.ElimKept.{elim_reached}
use Rattle.lq_tactics.proofs.ComputeKept.{compute_reached}
use Rattle.lq_tactics.proofs.RevertingKept.{induction_kept}
use Rattle.lq_tactics.proofs.DestructKept.{destruct_kept}
use Rattle.lq_tactics.proofs.RewriteKept.{rewrite_reached}
use Rattle.lq_tactics.proofs.PrimsKept.{LeavesRoom}

-- the names that a rule makes: one for each node of a term that is written; and two for each argument of a constructor, which are at most 2,000
unfoldable pub names_of_rule : Rule → ℕ
names_of_rule (elimination_of t) = deep t
names_of_rule (destruct t names) = deep t + 4000
names_of_rule (rewrite t) = deep t
names_of_rule (rewrite_back t) = deep t
names_of_rule (change A) = deep A
names_of_rule (generalize t) = deep t
names_of_rule _ = 0

pub rule_kept : (c : Scene) (rule : Rule) (st : Step) → IsScene c → HasRoom c (names_of_rule rule) → Gives (rule_row c rule) st → IsStep c st
unfolding rule_row names_of_rule
rule_kept c (elimination_of t) st s few y = ended_kept c (do_elim c t) st s (λ d z. elim_reached c s t d few z) y
rule_kept c (induction x names) st s few y = induction_kept c x names st s y
rule_kept c (destruct t names) st s few y = destruct_kept c s t names st few y
rule_kept c (rewrite t) st s few y = ended_kept c (do_rewrite c true t) st s (λ d z. rewrite_reached c s true t d few z) y
rule_kept c (rewrite_back t) st s few y = ended_kept c (do_rewrite c false t) st s (λ d z. rewrite_reached c s false t d few z) y
rule_kept c (unfold_constant x) st s few y = ended_kept c (do_unfold c x ((rules c).delta x)) st s (λ d z. unfold_reached c s x ((rules c).delta x) d refl z) y
rule_kept c (change A) st s few y = ended_kept c (do_change c A) st s (λ d z. change_reached c s A d few z) y
rule_kept c hnf st s few y = ended_kept c (head_of c c.store c.kind >>= retyped c c.store) st s (λ d z. hnf_reached c s d z) y
rule_kept c compute st s few y = ended_kept c _ st s (λ d z. compute_reached c s d z) y
rule_kept c (clear x) st s few y = ended_kept c (do_clear c x) st s (λ d z. clear_reached c s x d z) y
rule_kept c (rename x z) st s few y = ended_kept c (do_rename c x z) st s (λ d w. rename_reached c s x z d w) y
rule_kept c (revert x) st s few y = ended_kept c (do_revert c x) st s (λ d z. revert_reached c s x d z) y
rule_kept c (generalize t) st s few y = ended_kept c (do_generalize c t) st s (λ d z. generalize_reached c s t d few z) y

-- ---- a rule on a goal of a proof

module _ (env : Env) (p : Proof) (k : ℕ) (rule : Rule) (vs : Givens) (plain : ArePlainDeclarations env) (h : IsProof p) (i : IsStore p.store) (g : AreGiven p.store vs)
    (there : IsThere p k) (valueless : is_open p.store k ≡ true) where
  -- after the row: the store is one, and the proof stays one
  pub rule_run_kept : (n : ℕ) (d : PrimDone) → LeavesRoom p.store k (names_of_rule rule + n) → Gives (run_rule env n p k rule vs) d →
      IsProof d.proof × IsStore d.proof.store
  unfolding run_rule
  rule_run_kept n d few y =
      let c = gives_bind (scene env n vs p.store k) _ d y in
      let st = gives_bind (rule_row c.0 rule) (listed p k) d c.2 in
      let q = scene_is env n vs p.store k c.0 c.1 in
      let v = scene_valueless p.store k valueless in
      let s = scene_kept env n vs p.store k c.0 plain i g v.0 q in
      let same : c.0.store ≡ p.store = sym (ap (λ z. z.store) q.is) in
      let goal : k ≡ c.0.goal = ap (λ z. z.goal) q.is in
      let step = rule_kept c.0 rule st.0 s (along (λ z. length z.context + names_of_rule rule + z.bound < 10 ^ 64) q.is (omega (arith, few q.variable q.there))) st.1 in
      row_listed_kept p c.0 st.0 h s same (along (IsThere p) goal there) step d (along (λ j. Gives (listed p j st.0) d) goal st.2)

  pub rule_runs_kept : (n budget left : ℕ) (d : PrimDone) → LeavesRoom p.store k (names_of_rule rule + suc budget) → budget < n →
      within budget (run_rule env n p k rule vs) ≡ done d left → IsProof d.proof × IsStore d.proof.store
  rule_runs_kept n budget left d few l e =
      rule_run_kept (suc budget) d few (done_gives budget (run_rule env (suc budget) p k rule vs) d left (agree_within budget _ _ (rule_settled env p k rule vs budget (suc budget) n (omega arith) l) budget (omega arith) ∙ e))
