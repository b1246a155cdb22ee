-- The primitives of the first table are settled: every bound above the budget gives one outcome.
use Rattle.std.proofs.Common.{◌<◌, ℕ, zero, suc, Bool, true, false, List, [], ◌∷◌, Option, Some, None}
use Rattle.std.specs.Prelude.{reverse, slice_get}
use Rattle.lq_trees.specs.Tree.{Name, Tree, Context}
use Rattle.lq_trees.specs.Tree.Tree.{Rel, Var, Sort, Prod, Lam, Let, App, Const, Ind, Ctor, Elim, Evar}
use Rattle.lq_trees.specs.Ticks.{gives, ◌>>=◌, Agree, Settled}
use Rattle.lq_trees.proofs.TickLaws.{agree_refl, agree_bind, agree_faults}
use Rattle.lq_calculus.specs.Contraction.{spine}
use Rattle.lq_calculus.specs.Declarations.{Env}
use Rattle.lq_calculus.proofs.Settled.{conv_agree}
use Rattle.lq_ast.specs.Syntax.{Surface, Prim, intro, intros, exact, refine, apply_with, eapply, assumption, constructor, split, to_left, to_right, exists, assert_that, cut_by, pose, exfalso, reflexivity}
use Rattle.lq_solving.specs.Stores.{read, read_context}
use Rattle.lq_solving.specs.ElabFaults.{unify_fault}
use Rattle.lq_solving.specs.Elaboration.{Givens, Found}
use Rattle.lq_solving.proofs.UnifySettled.{unify_agree}
use Rattle.lq_solving.proofs.ElabSettled.{sort_agree}
use Rattle.lq_states.specs.Goals.{Proof}
use Rattle.lq_tactics.specs.Rows.{Doing, Scene, Done, Step, by_elab, site, rules, head_of, done_by, unused, ended, then_next, stays}
use Rattle.lq_tactics.specs.Applying.{Inductive, constructor_at, constructor_found, has_number, goal_inductive, apply_constructor}
use Rattle.lq_tactics.specs.Primitives.{intro_name, under_product, under_value, intro_on, is_binder, binder_form, do_intro, intro_each, intro_all, most_binders, do_exact, do_refine, first_assumption, exists_found, do_exists, type_term, do_assert, do_cut, do_pose, do_exfalso, equality_of, reflexive, do_reflexivity, prim_row, run_prim}
use Rattle.lq_tactics.proofs.RowsSettled.{at, scene_agree, head_of_agree, new_goal_agree, as_goals_agree, term_agree, goal_sort_agree, ended_agree, then_next_agree, apply_found_agree, do_apply_agree, goal_inductive_agree, apply_constructor_agree, numbered_agree}

-- one constructor of a type that has so many
abbrev goal_row : Scene → ℕ → ℕ → Doing Done
goal_row c number k = goal_inductive c >>= has_number number >>= λ d. apply_constructor c d k

module _ (n m b : ℕ) (i : b < n) (j : b < m) where
  pub product_agree : (c : Scene) (x y : Name) (A B : Tree) → Agree b (under_product (at n c) x y A B) (under_product (at m c) x y A B)
  unfolding under_product
  product_agree c x y A B = agree_bind b _ _ _ _ (new_goal_agree n m b i j c c.store _ _) (λ r. agree_refl b _)

  value_agree : (c : Scene) (x y : Name) (v A B : Tree) → Agree b (under_value (at n c) x y v A B) (under_value (at m c) x y v A B)
  unfolding under_value
  value_agree c x y v A B = agree_bind b _ _ _ _ (new_goal_agree n m b i j c c.store _ _) (λ r. agree_refl b _)

  intro_on_agree : (c : Scene) (w : Option Name) (t : Tree) → Agree b (intro_on (at n c) w t) (intro_on (at m c) w t)
  unfolding intro_on intro_name unused
  intro_on_agree c None (Prod x A B) = agree_bind b _ _ _ _ (agree_refl b _) (λ y. product_agree c y y A B)
  intro_on_agree c (Some z) (Prod x A B) = agree_bind b _ _ _ _ (agree_refl b _) (λ y. product_agree c y y A B)
  intro_on_agree c None (Let x v A B) = agree_bind b _ _ _ _ (agree_refl b _) (λ y. value_agree c y y v A B)
  intro_on_agree c (Some z) (Let x v A B) = agree_bind b _ _ _ _ (agree_refl b _) (λ y. value_agree c y y v A B)
  intro_on_agree c w (Rel x) = agree_refl b _
  intro_on_agree c w (Var x) = agree_refl b _
  intro_on_agree c w (Sort x) = agree_refl b _
  intro_on_agree c w (Lam x A t) = agree_refl b _
  intro_on_agree c w (App t u) = agree_refl b _
  intro_on_agree c w (Const x) = agree_refl b _
  intro_on_agree c w (Ind x) = agree_refl b _
  intro_on_agree c w (Ctor x k) = agree_refl b _
  intro_on_agree c w (Elim x s) = agree_refl b _
  intro_on_agree c w (Evar k ts) = agree_refl b _

  pub do_intro_agree : (c : Scene) (w : Option Name) → Agree b (do_intro (at n c) w) (do_intro (at m c) w)
  unfolding do_intro binder_form
  do_intro_agree c w = agree_bind b _ _ _ _ (by (is_binder c.kind)) (λ t. intro_on_agree c w t)
    where
      by : (o : Bool) → Agree b (elim o as (λ z. Doing Tree) [ true ↦ gives c.kind | false ↦ head_of (at n c) c.store c.kind ])
          (elim o as (λ z. Doing Tree) [ true ↦ gives c.kind | false ↦ head_of (at m c) c.store c.kind ])
      by true = agree_refl b _
      by false = head_of_agree n m b i j c c.store c.kind

  intro_each_agree : (xs : List Name) (c : Scene) → Agree b (intro_each xs (at n c)) (intro_each xs (at m c))
  unfolding intro_each
  intro_each_agree [] c = agree_refl b _
  intro_each_agree (x ∷ xs) c =
      agree_bind b _ _ _ _ (ended_agree n m b i j c _ _ (do_intro_agree c (Some x))) (λ st. then_next_agree n m b i j c st _ _ (λ d. intro_each_agree xs d))

  intro_all_agree : (k : ℕ) (c : Scene) → Agree b (intro_all k (at n c)) (intro_all k (at m c))
  unfolding intro_all
  intro_all_agree zero c = agree_refl b _
  intro_all_agree (suc k) c = by (is_binder c.kind) (agree_bind b _ _ _ _ (ended_agree n m b i j c _ _ (do_intro_agree c None)) (λ st. then_next_agree n m b i j c st _ _ (λ d. intro_all_agree k d)))
    where
      more : Scene → Doing Step
      more d = ended d (do_intro d None) >>= λ st. then_next d st (intro_all k)

      by : (o : Bool) → Agree b (more (at n c)) (more (at m c)) →
          Agree b (elim o as (λ z. Doing Step) [ false ↦ gives (stays (at n c)) | true ↦ more (at n c) ]) (elim o as (λ z. Doing Step) [ false ↦ gives (stays (at m c)) | true ↦ more (at m c) ])
      by true h = h
      by false h = agree_refl b _

  exact_agree : (c : Scene) (t : Surface) → Agree b (do_exact (at n c) t) (do_exact (at m c) t)
  unfolding do_exact
  exact_agree c t = agree_bind b _ _ _ _ (term_agree n m b i j c t (Some c.kind)) (λ f. agree_refl b _)

  refine_agree : (c : Scene) (t : Surface) → Agree b (do_refine (at n c) t) (do_refine (at m c) t)
  unfolding do_refine
  refine_agree c t =
      agree_bind b _ _ _ _ (term_agree n m b i j c t (Some c.kind)) (λ f. agree_bind b _ _ _ _ (as_goals_agree n m b i j c f.store _) (λ s. agree_refl b _))

  assumption_agree : (c : Scene) (hs : Context) → Agree b (first_assumption (at n c) hs) (first_assumption (at m c) hs)
  unfolding first_assumption
  assumption_agree c [] = agree_refl b _
  assumption_agree c (h ∷ hs) =
      agree_bind b _ _ _ _ (conv_agree (rules c) (read_context c.store c.context) n m b i j (read c.store h.kind) c.kind) (λ same. by same (assumption_agree c hs))
    where
      by : (o : Bool) → Agree b (first_assumption (at n c) hs) (first_assumption (at m c) hs) →
          Agree b (elim o as (λ z. Doing Done) [ true ↦ gives (done_by c.store (Var h.name) []) | false ↦ first_assumption (at n c) hs ])
          (elim o as (λ z. Doing Done) [ true ↦ gives (done_by c.store (Var h.name) []) | false ↦ first_assumption (at m c) hs ])
      by true k = agree_refl b _
      by false k = k

  exists_found_agree : (c : Scene) (t : Surface) (f : Found) (u : Tree) → Agree b (exists_found (at n c) t f u) (exists_found (at m c) t f u)
  unfolding exists_found
  exists_found_agree c t f (Prod x A B) = agree_bind b _ _ _ _ (term_agree n m b i j c t (Some A)) (λ h. agree_refl b _)
  exists_found_agree c t f (Rel x) = agree_refl b _
  exists_found_agree c t f (Var x) = agree_refl b _
  exists_found_agree c t f (Sort x) = agree_refl b _
  exists_found_agree c t f (Lam x A u) = agree_refl b _
  exists_found_agree c t f (Let x v A u) = agree_refl b _
  exists_found_agree c t f (App u v) = agree_refl b _
  exists_found_agree c t f (Const x) = agree_refl b _
  exists_found_agree c t f (Ind x) = agree_refl b _
  exists_found_agree c t f (Ctor x k) = agree_refl b _
  exists_found_agree c t f (Elim x s) = agree_refl b _
  exists_found_agree c t f (Evar k ts) = agree_refl b _

  exists_agree : (c : Scene) (t : Surface) → Agree b (do_exists (at n c) t) (do_exists (at m c) t)
  unfolding do_exists constructor_found constructor_at
  exists_agree c t =
      agree_bind b _ _ _ _ (agree_bind b _ _ _ _ (goal_inductive_agree n m b i j c) (λ d. agree_refl b _)) (λ d.
      agree_bind b _ _ _ _ (by d (slice_get d.family.constructors 0)) (λ f.
      agree_bind b _ _ _ _ (exists_found_agree c t f f.kind) (λ h. apply_found_agree n m b i j c true h)))
    where
      by : (d : Inductive) (o : Option (Name × Tree)) → Agree b (constructor_found (at n c) d 0 o) (constructor_found (at m c) d 0 o)
      by d None = agree_refl b _
      by d (Some e) = agree_refl b _

  type_term_agree : (c : Scene) (t : Surface) → Agree b (type_term (at n c) t) (type_term (at m c) t)
  unfolding type_term
  type_term_agree c t =
      agree_bind b _ _ _ _ (term_agree n m b i j c t None) (λ f. agree_bind b _ _ _ _ (agree_faults by_elab b _ _ (sort_agree n m b i j (site c) c.context f)) (λ s. agree_refl b _))

  assert_agree : (c : Scene) (x : Name) (t : Surface) → Agree b (do_assert (at n c) x t) (do_assert (at m c) x t)
  unfolding do_assert unused
  assert_agree c x t =
      agree_bind b _ _ _ _ (type_term_agree c t) (λ f. agree_bind b _ _ _ _ (agree_refl b _) (λ ok.
      agree_bind b _ _ _ _ (new_goal_agree n m b i j c f.store _ _) (λ r. agree_bind b _ _ _ _ (new_goal_agree n m b i j c r.0 _ _) (λ q. agree_refl b _))))

  cut_agree : (c : Scene) (t : Surface) → Agree b (do_cut (at n c) t) (do_cut (at m c) t)
  unfolding do_cut
  cut_agree c t =
      agree_bind b _ _ _ _ (term_agree n m b i j c t None) (λ f.
      agree_bind b _ _ _ _ (new_goal_agree n m b i j c f.store _ _) (λ r. agree_bind b _ _ _ _ (new_goal_agree n m b i j c r.0 _ _) (λ q. agree_refl b _)))

  pose_agree : (c : Scene) (x : Name) (t : Surface) → Agree b (do_pose (at n c) x t) (do_pose (at m c) x t)
  unfolding do_pose unused
  pose_agree c x t =
      agree_bind b _ _ _ _ (term_agree n m b i j c t None) (λ f. agree_bind b _ _ _ _ (agree_refl b _) (λ ok.
      agree_bind b _ _ _ _ (new_goal_agree n m b i j c f.store _ _) (λ r. agree_refl b _)))

  exfalso_agree : (c : Scene) → Agree b (do_exfalso (at n c)) (do_exfalso (at m c))
  unfolding do_exfalso
  exfalso_agree c = agree_bind b _ _ _ _ (goal_sort_agree n m b i j c) (λ s. agree_bind b _ _ _ _ (new_goal_agree n m b i j c c.store _ _) (λ r. agree_refl b _))

  reflexive_agree : (c : Scene) (t : Tree) (o : Option (Tree × Tree × Tree)) → Agree b (reflexive (at n c) t o) (reflexive (at m c) t o)
  unfolding reflexive
  reflexive_agree c t None = agree_refl b _
  reflexive_agree c t (Some e) =
      agree_bind b _ _ _ _ (agree_faults by_elab b _ _ (agree_faults unify_fault b _ _ (unify_agree (rules c) n m b i j c.context c.store e.1 e.2))) (λ a. agree_refl b _)

  reflexivity_agree : (c : Scene) → Agree b (do_reflexivity (at n c)) (do_reflexivity (at m c))
  unfolding do_reflexivity
  reflexivity_agree c = agree_bind b _ _ _ _ (head_of_agree n m b i j c c.store c.kind) (λ t. reflexive_agree c t (equality_of (spine t [])))

  constructor_agree : (c : Scene) (number k : ℕ) →
      Agree b (goal_row (at n c) number k) (goal_row (at m c) number k)
  constructor_agree c number k =
      agree_bind b _ _ _ _ (agree_bind b _ _ _ _ (goal_inductive_agree n m b i j c) (λ d. agree_refl b _)) (λ d. apply_constructor_agree n m b i j c d k)

  pub prim_agree : (c : Scene) (prim : Prim) → Agree b (prim_row (at n c) prim) (prim_row (at m c) prim)
  unfolding prim_row
  prim_agree c (intro x) = ended_agree n m b i j c _ _ (do_intro_agree c x)
  prim_agree c (intros []) = intro_all_agree most_binders c
  prim_agree c (intros (x ∷ xs)) = intro_each_agree (x ∷ xs) c
  prim_agree c (exact t) = ended_agree n m b i j c _ _ (exact_agree c t)
  prim_agree c (refine t) = ended_agree n m b i j c _ _ (refine_agree c t)
  prim_agree c (apply_with t) = ended_agree n m b i j c _ _ (do_apply_agree n m b i j c true t)
  prim_agree c (eapply t) = ended_agree n m b i j c _ _ (do_apply_agree n m b i j c false t)
  prim_agree c assumption = ended_agree n m b i j c _ _ (assumption_agree c (reverse c.context))
  prim_agree c (constructor None) = agree_refl b _
  prim_agree c (constructor (Some k)) = ended_agree n m b i j c _ _ (agree_bind b _ _ _ _ (goal_inductive_agree n m b i j c) (λ d. numbered_agree n m b i j c d k))
  prim_agree c split = ended_agree n m b i j c _ _ (constructor_agree c 1 0)
  prim_agree c to_left = ended_agree n m b i j c _ _ (constructor_agree c 2 0)
  prim_agree c to_right = ended_agree n m b i j c _ _ (constructor_agree c 2 1)
  prim_agree c (exists t) = ended_agree n m b i j c _ _ (exists_agree c t)
  prim_agree c (assert_that x A) = ended_agree n m b i j c _ _ (assert_agree c x A)
  prim_agree c (cut_by A) = ended_agree n m b i j c _ _ (cut_agree c A)
  prim_agree c (pose x t) = ended_agree n m b i j c _ _ (pose_agree c x t)
  prim_agree c exfalso = ended_agree n m b i j c _ _ (exfalso_agree c)
  prim_agree c reflexivity = ended_agree n m b i j c _ _ (reflexivity_agree c)

-- a primitive of the first table is settled
pub prim_settled : (env : Env) (p : Proof) (k : ℕ) (prim : Prim) (vs : Givens) → Settled (λ n. run_prim env n p k prim vs)
unfolding run_prim
prim_settled env p k prim vs = λ b n m i j. scene_agree n m b i j env vs p.store k _ _ (λ c. agree_bind b _ _ _ _ (prim_agree n m b i j c prim) (λ st. agree_refl b _))
