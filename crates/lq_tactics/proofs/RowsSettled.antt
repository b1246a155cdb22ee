-- What the rows of both tables have in common is settled: every bound above the budget gives one outcome.
use Rattle.std.proofs.Common.{◌<◌, ℕ, zero, suc, Bool, true, List, [], ◌∷◌, Option, Some, None}
use Rattle.std.specs.Prelude.{slice_get}
use Rattle.lq_trees.specs.Tree.{Name, Tree, Context}
use Rattle.lq_trees.specs.Tree.Tree.{Rel, Var, Sort, Prod, Lam, Let, App, Const, Ind, Ctor, Elim, Evar}
use Rattle.lq_trees.specs.Ticks.{gives, fails, ◌>>=◌, Agree}
use Rattle.lq_trees.proofs.TickLaws.{agree_refl, agree_bind, agree_faults}
use Rattle.lq_calculus.specs.Contraction.{contract, contract_beta, spine}
use Rattle.lq_calculus.specs.Declarations.{Env}
use Rattle.lq_calculus.proofs.Settled.{head_agree, normal_agree}
use Rattle.lq_ast.specs.Syntax.{Surface}
use Rattle.lq_solving.specs.Stores.{Store, Variable, StoreFault, read, read_context, size_fault}
use Rattle.lq_solving.specs.ElabFaults.{unify_fault}
use Rattle.lq_solving.specs.Elaboration.{Givens, Found}
use Rattle.lq_solving.proofs.UnifySettled.{unify_agree}
use Rattle.lq_solving.proofs.ElabSettled.{call_agree, type_agree, form_agree}
use Rattle.lq_tactics.specs.Rows.{Doing, Scene, Done, Step, by_elab, by_store_call, site, rules, needed, head_of, scene_of, scene, new_goal, as_goal, as_goals, ended, term_of, goal_sort, then_on, then_next}
use Rattle.lq_tactics.specs.Applying.{Opening, Openings, not_opened, premise_more, opened_more, open_type, most_premises, first_opening, applied_to, applied_or, apply_found, do_apply, Inductive, inductive_of, inductive_or, goal_inductive, premise_terms, constructor_at, constructor_found, apply_constructor, numbered, constructor_count}

-- the scene with another bound
abbrev pub at : ℕ → Scene → Scene
at n c = record { env = c.env; bound = n; values = c.values; store = c.store; goal = c.goal; context = c.context; kind = c.kind }

module _ (n m b : ℕ) (i : b < n) (j : b < m) where
  pub scene_agree : {A : Type 0} (env : Env) (vs : Givens) (s : Store) (k : ℕ) (f g : Scene → Doing A) → ((c : Scene) → Agree b (f (at n c)) (g (at m c))) →
      Agree b (scene env n vs s k >>= f) (scene env m vs s k >>= g)
  unfolding scene scene_of needed ◌>>=◌
  scene_agree env vs s k f g h = by (slice_get s.variables k)
    where
      known : (v : Variable) (o : Option StoreFault) →
          Agree b ((elim o as (λ z. Doing Tree) [ None ↦ gives (read s v.kind) | Some e ↦ fails (by_store_call e) ] >>= λ T. gives (record { env = env; bound = n; values = vs; store = s; goal = k; context = v.context; kind = T })) >>= f)
          ((elim o as (λ z. Doing Tree) [ None ↦ gives (read s v.kind) | Some e ↦ fails (by_store_call e) ] >>= λ T. gives (record { env = env; bound = m; values = vs; store = s; goal = k; context = v.context; kind = T })) >>= g)
      known v None = h (record { env = env; bound = 0; values = vs; store = s; goal = k; context = v.context; kind = read s v.kind })
      known v (Some e) = agree_refl b _

      by : (o : Option Variable) → Agree b (scene_of env n vs s k o >>= f) (scene_of env m vs s k o >>= g)
      by None = agree_refl b _
      by (Some v) = known v (size_fault (read s v.kind))

  pub head_of_agree : (c : Scene) (s : Store) (t : Tree) → Agree b (head_of (at n c) s t) (head_of (at m c) s t)
  unfolding head_of
  head_of_agree c s t = agree_bind b _ _ _ _ (head_agree (contract (rules c) (read_context s c.context)) n m b i j (read s t)) (λ u. agree_refl b _)

  pub new_goal_agree : (c : Scene) (s : Store) (g : Context) (A : Tree) → Agree b (new_goal (at n c) s g A) (new_goal (at m c) s g A)
  unfolding new_goal
  new_goal_agree c s g A =
      agree_bind b _ _ _ _ (agree_bind b _ _ _ _ (agree_bind b _ _ _ _ (agree_refl b _) (λ t. normal_agree contract_beta n m b i j t)) (λ t. agree_refl b _)) (λ B. agree_refl b _)

  as_goal_agree : (c : Scene) (s : Store) (k : ℕ) (o : Option Variable) → Agree b (as_goal (at n c) s k o) (as_goal (at m c) s k o)
  unfolding as_goal
  as_goal_agree c s k None = agree_refl b _
  as_goal_agree c s k (Some v) =
      agree_bind b _ _ _ _ (agree_bind b _ _ _ _ (agree_bind b _ _ _ _ (agree_refl b _) (λ t. normal_agree contract_beta n m b i j t)) (λ t. agree_refl b _)) (λ B. agree_refl b _)

  pub as_goals_agree : (c : Scene) (s : Store) (ks : List ℕ) → Agree b (as_goals (at n c) s ks) (as_goals (at m c) s ks)
  unfolding as_goals
  as_goals_agree c s [] = agree_refl b _
  as_goals_agree c s (k ∷ ks) = agree_bind b _ _ _ _ (as_goal_agree c s k (slice_get s.variables k)) (λ s1. as_goals_agree c s1 ks)

  pub term_agree : (c : Scene) (t : Surface) (w : Option Tree) → Agree b (term_of (at n c) t w) (term_of (at m c) t w)
  unfolding term_of
  term_agree c t w = agree_faults by_elab b _ _ (call_agree n m b i j (site c) c.store t w)

  pub goal_sort_agree : (c : Scene) → Agree b (goal_sort (at n c)) (goal_sort (at m c))
  unfolding goal_sort
  goal_sort_agree c =
      agree_faults by_elab b _ _ (
      agree_bind b _ _ _ _ (type_agree n m b i j c.env c.store c.context c.kind) (λ K. agree_bind b _ _ _ _ (form_agree n m b i j (site c) c.context c.store K) (λ t. agree_refl b _)))

  pub ended_agree : (c : Scene) (r s : Doing Done) → Agree b r s → Agree b (ended (at n c) r) (ended (at m c) s)
  unfolding ended
  ended_agree c r s h = agree_bind b _ _ _ _ h (λ d. agree_refl b _)

  pub then_on_agree : (env : Env) (vs : Givens) (st : Step) (f g : Scene → Doing Step) → ((c : Scene) → Agree b (f (at n c)) (g (at m c))) →
      Agree b (then_on env n vs st f) (then_on env m vs st g)
  unfolding then_on
  then_on_agree env vs st f g h = by st.goals
    where
      by : (ks : List ℕ) → Agree b (elim ks as (λ z. Doing Step) [ [] ↦ gives st | k ∷ js ↦ scene env n vs st.store k >>= f ])
          (elim ks as (λ z. Doing Step) [ [] ↦ gives st | k ∷ js ↦ scene env m vs st.store k >>= g ])
      by [] = agree_refl b _
      by (k ∷ ks) = scene_agree env vs st.store k f g h

  pub then_next_agree : (c : Scene) (st : Step) (f g : Scene → Doing Step) → ((d : Scene) → Agree b (f (at n d)) (g (at m d))) →
      Agree b (then_next (at n c) st f) (then_next (at m c) st g)
  unfolding then_next
  then_next_agree c st f g h = then_on_agree c.env c.values st f g h

  -- ---- terms applied to a goal

  opened_agree : (c : Scene) (f g : Opening → List Opening → Doing Openings) → ((o : Opening) (os : List Opening) → Agree b (f o os) (g o os)) →
      (o : Opening) (os : List Opening) (t : Tree) → Agree b (opened_more (at n c) f o os t) (opened_more (at m c) g o os t)
  unfolding opened_more premise_more
  opened_agree c f g h o os (Prod x A B) = agree_bind b _ _ _ _ (agree_refl b (premise_more (at n c) o x A B)) (λ p. h p (o ∷ os))
  opened_agree c f g h o os (Rel x) = agree_refl b _
  opened_agree c f g h o os (Var x) = agree_refl b _
  opened_agree c f g h o os (Sort x) = agree_refl b _
  opened_agree c f g h o os (Lam x A t) = agree_refl b _
  opened_agree c f g h o os (Let x v A t) = agree_refl b _
  opened_agree c f g h o os (App t u) = agree_refl b _
  opened_agree c f g h o os (Const x) = agree_refl b _
  opened_agree c f g h o os (Ind x) = agree_refl b _
  opened_agree c f g h o os (Ctor x k) = agree_refl b _
  opened_agree c f g h o os (Elim x s) = agree_refl b _
  opened_agree c f g h o os (Evar k ts) = agree_refl b _

  pub open_type_agree : (c : Scene) (k : ℕ) (o : Opening) (os : List Opening) → Agree b (open_type (at n c) k o os) (open_type (at m c) k o os)
  unfolding open_type
  open_type_agree c zero o os = agree_refl b _
  open_type_agree c (suc k) o os = agree_bind b _ _ _ _ (head_of_agree c o.store o.rest) (λ t. opened_agree c _ _ (open_type_agree c k) o os t)

  pub first_opening_agree : (c : Scene) (T : Tree) (os : List Opening) → Agree b (first_opening (at n c) T os) (first_opening (at m c) T os)
  unfolding first_opening
  first_opening_agree c T [] = agree_refl b _
  first_opening_agree c T (o ∷ os) =
      agree_bind b _ _ _ _ (agree_faults by_elab b _ _ (agree_faults unify_fault b _ _ (unify_agree (rules c) n m b i j c.context o.store o.rest T))) (λ a. by a (first_opening_agree c T os))
    where
      by : (a : Option Store) → Agree b (first_opening (at n c) T os) (first_opening (at m c) T os) →
          Agree b (elim a as (λ z. Doing (Option (Opening × Store))) [ Some s ↦ gives (Some (o, s)) | None ↦ first_opening (at n c) T os ])
          (elim a as (λ z. Doing (Option (Opening × Store))) [ Some s ↦ gives (Some (o, s)) | None ↦ first_opening (at m c) T os ])
      by (Some s) h = agree_refl b _
      by None h = h

  applied_agree : (c : Scene) (strict : Bool) (f : Found) (T : Tree) (o : Option (Opening × Store)) → Agree b (applied_or (at n c) strict f T o) (applied_or (at m c) strict f T o)
  unfolding applied_or applied_to premise_terms
  applied_agree c strict f T None = agree_refl b _
  applied_agree c strict f T (Some p) = agree_bind b _ _ _ _ (agree_refl b _) (λ ok. agree_bind b _ _ _ _ (as_goals_agree c p.1 _) (λ s1. agree_refl b _))

  pub apply_found_agree : (c : Scene) (strict : Bool) (f : Found) → Agree b (apply_found (at n c) strict f) (apply_found (at m c) strict f)
  unfolding apply_found
  apply_found_agree c strict f =
      agree_bind b _ _ _ _ (agree_refl b _) (λ T.
      agree_bind b _ _ _ _ (open_type_agree c most_premises (not_opened f) []) (λ os.
      agree_bind b _ _ _ _ (first_opening_agree c T os.0) (λ o. applied_agree c strict f T o)))

  pub do_apply_agree : (c : Scene) (strict : Bool) (t : Surface) → Agree b (do_apply (at n c) strict t) (do_apply (at m c) strict t)
  unfolding do_apply
  do_apply_agree c strict t = agree_bind b _ _ _ _ (term_agree c t None) (λ f. apply_found_agree c strict f)

  -- ---- inductive types

  pub goal_inductive_agree : (c : Scene) → Agree b (goal_inductive (at n c)) (goal_inductive (at m c))
  unfolding goal_inductive
  goal_inductive_agree c = agree_bind b _ _ _ _ (head_of_agree c c.store c.kind) (λ t. agree_refl b (inductive_or t (inductive_of c.env (spine t []))))

  pub apply_constructor_agree : (c : Scene) (d : Inductive) (k : ℕ) → Agree b (apply_constructor (at n c) d k) (apply_constructor (at m c) d k)
  unfolding apply_constructor constructor_found constructor_at
  apply_constructor_agree c d k = by (slice_get d.family.constructors k)
    where
      by : (o : Option (Name × Tree)) → Agree b (constructor_found (at n c) d k o >>= apply_found (at n c) true) (constructor_found (at m c) d k o >>= apply_found (at m c) true)
      by o = agree_bind b _ _ _ _ (agree_refl b (constructor_found (at n c) d k o)) (λ f. apply_found_agree c true f)

  pub numbered_agree : (c : Scene) (d : Inductive) (k : ℕ) → Agree b (numbered (at n c) d k) (numbered (at m c) d k)
  unfolding numbered
  numbered_agree c d zero = agree_refl b _
  numbered_agree c d (suc k) = apply_constructor_agree c d k

  pub count_agree : (c : Scene) → Agree b (constructor_count (at n c)) (constructor_count (at m c))
  unfolding constructor_count
  count_agree c = agree_bind b _ _ _ _ (goal_inductive_agree c) (λ d. agree_refl b _)
