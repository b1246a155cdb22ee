-- `pose`, step by step.
use Rattle.std.proofs.Common.{◌≡◌, ◌∙◌, refl, sym, ap, ℕ, suc, [], ◌∷◌, None, Result, Ok, Err}
use Rattle.std.specs.Prelude.{IfOk}
use Rattle.lq_trees.specs.Tree.{Name, Tree, Context}
use Rattle.lq_trees.specs.Tree.Tree.{Let}
use Rattle.lq_trees.specs.Change.{close}
use Rattle.lq_trees.specs.Fresh.{under_let}
use Rattle.lq_trees.specs.Ticks.{gives, ◌>>=◌, done, ComesTo}
use Rattle.lq_trees.proofs.Outcomes.{comes_then, comes_gives}
use Rattle.lq_calculus.specs.Declarations.{Env as Environment}
use Rattle.lq_ast.specs.Syntax.{Surface}
use Rattle.lq_terms.specs.Terms.{Terms}
use Rattle.lq_solving.specs.Stores.{Store}
use Rattle.lq_solving.specs.Elaboration.{Found, Givens}
use Rattle.lq_tactics.specs.Rows.{Doing, Scene, Done, done_by, goal_term, new_goal, term_of, unused}
use Rattle.lq_tactics.specs.Primitives.{do_pose}
use Rattle.lq_tactics.proofs.RowsKept.{IsScene, IsReached}
use Rattle.lq_tactics.proofs.ApplyKept.{IsFound}
use Rattle.lq_tactics.proofs.PrimsKept.{pose_reached}
use Rattle.lq_prims.specs.declared.faults.PrimFault.{PrimFault}
use Rattle.lq_prims.specs.Building.{pose_work}
use Rattle.lq_prims.specs.Scenes.{scene_by}
use Rattle.lq_prims.specs.Working.{Refuses, Does}
use Rattle.lq_prims.proofs.TermLaws.{reached_any}
use Rattle.lq_prims.proofs.WorkLaws.{refuses_first, refuses_then, refuses_same, does_same, does_then, does_after, comes_is_given}

module _ (c : ℕ → Scene) (s : Store) (g : Context) (T : Tree) (x : Name) (t A : Tree) (b left : ℕ) where
  abbrev pub pose_first : ℕ → Doing (Store × ℕ)
  pose_first n = new_goal (c n) s (under_let g x t A) T

  abbrev pub pose_last : Store × ℕ → Done
  pose_last r = done_by r.0 (Let x t A (close x (goal_term r.1 (under_let g x t A)))) (r.1 ∷ [])

  pub pose_stops : (bank : Terms) (e : PrimFault) → Refuses bank e pose_first b left → Refuses bank e (λ n. pose_work (c n) s g T x t A) b left
  unfolding pose_work
  pose_stops bank e h = refuses_first bank e pose_first (λ r n. gives (pose_last r)) b left h

  pub pose_done : (r : Store × ℕ) → ComesTo pose_first b (done r left) → ComesTo (λ n. pose_work (c n) s g T x t A) b (done (pose_last r) left)
  unfolding pose_work
  pose_done r h = comes_then pose_first (λ x n. gives (pose_last x)) b r left (done (pose_last r) left) h (comes_gives (λ n. gives (pose_last r)) (pose_last r) left (λ n. refl))

-- a goal behind a local definition, by equal parts
pub pose_as : {X : Type 0} (late : Terms) (tell : X → Done) (r : Result X PrimFault) (c : ℕ → Scene) (s : Store) (g1 g2 : Context) (T1 T2 : Tree) (x1 x2 : Name) (t A : Tree) (b left : ℕ) → g1 ≡ g2 → T1 ≡ T2 → x1 ≡ x2 →
    Does late tell r (λ n. pose_work (c n) s g1 T1 x1 t A) b left → Does late tell r (λ n. pose_work (c n) s g2 T2 x2 t A) b left
pose_as late tell r c s g1 g2 T1 T2 x1 x2 t A b left e f h d =
    does_same late tell r (λ n. pose_work (c n) s g1 T1 x1 t A) (λ n. pose_work (c n) s g2 T2 x2 t A) b left
    (λ n. ap (λ z. pose_work (c n) s z T1 x1 t A) e ∙ ap (λ z. pose_work (c n) s g2 z x1 t A) f ∙ ap (λ z. pose_work (c n) s g2 T2 z t A) h) d

module _ (E : Environment) (s : Store) (k : ℕ) (g : Context) (T : Tree) (vs : Givens) (x : Name) (t : Surface) (b : ℕ) where
  abbrev scenes : ℕ → Scene
  scenes n = scene_by E s k g T vs n

  abbrev pose_terms : ℕ → Doing Found
  pose_terms n = term_of (scenes n) t None

  abbrev pose_after : Found → ℕ → Doing Done
  pose_after f n = unused (scenes n) x >>= λ ok. pose_work (scenes n) f.store g T x f.term f.kind

  do_pose_is : (n : ℕ) → (pose_terms n >>= λ f. pose_after f n) ≡ do_pose (scenes n) x t
  unfolding do_pose pose_work
  do_pose_is n = refl

  unused_is : (n : ℕ) → unused (scenes 0) x ≡ unused (scenes n) x
  unfolding unused
  unused_is n = refl

  pub pose_found : (bank : Terms) (e : PrimFault) (left : ℕ) → Refuses bank e pose_terms b left → Refuses bank e (λ n. do_pose (scenes n) x t) b left
  pose_found bank e left h = refuses_same bank e (λ n. pose_terms n >>= λ f. pose_after f n) (λ n. do_pose (scenes n) x t) b left do_pose_is (refuses_first bank e pose_terms pose_after b left h)

  module _ (l : ℕ) (f : Found) (h : ComesTo pose_terms b (done f l)) where
    pub pose_used : (bank : Terms) (e : PrimFault) → ((a : ℕ) → Refuses bank e (λ n. unused (scenes 0) x) a a) → Refuses bank e (λ n. do_pose (scenes n) x t) b l
    pose_used bank e r =
        refuses_same bank e (λ n. pose_terms n >>= λ f. pose_after f n) (λ n. do_pose (scenes n) x t) b l do_pose_is
        (refuses_then bank e pose_terms pose_after b l l f h (refuses_first bank e (λ n. unused (scenes n) x) (λ ok n. pose_work (scenes n) f.store g T x f.term f.kind) l l
        (refuses_same bank e (λ n. unused (scenes 0) x) (λ n. unused (scenes n) x) l l unused_is (r l))))

    pub pose_free : unused (scenes 0) x ≡ gives x → {X : Type 0} (bank : Terms) (tell : X → Done) (r : Result X PrimFault) (left : ℕ) →
        Does bank tell r (λ n. pose_work (scenes n) f.store g T x f.term f.kind) l left → Does bank tell r (λ n. do_pose (scenes n) x t) b left
    pose_free e bank tell r left d =
        does_same bank tell r (λ n. pose_terms n >>= λ y. pose_after y n) (λ n. do_pose (scenes n) x t) b left do_pose_is
        (does_then bank tell r pose_terms pose_after b l left f h
        (does_after bank tell r (λ n. unused (scenes n) x) (λ ok n. pose_work (scenes n) f.store g T x f.term f.kind) l left x (λ n. sym (unused_is n) ∙ e) d))

  pub pose_reaches : {X : Type 0} (bank : Terms) (tell : X → Done) (r : Result X PrimFault) (left : ℕ) (d : Scene) → Does bank tell r (λ n. do_pose (scenes n) x t) b left → IsScene (scenes (suc b)) → IsFound (scenes (suc b)) t None →
      s ≡ d.store → g ≡ d.context → IfOk r (λ y. IsReached d (tell y))
  pose_reaches bank tell (Ok y) left d h i f e q =
      reached_any (scenes (suc b)) d (tell y) e q (pose_reached (scenes (suc b)) i x t (tell y) f (comes_is_given (λ n. do_pose (scenes n) x t) b left (tell y) h))
  pose_reaches bank tell (Err e) left d h i f p q = tt
