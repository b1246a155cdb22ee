-- The primitives of the second table are settled: every bound above the budget gives one outcome.
use Rattle.std.proofs.Common.{◌<◌, ℕ, suc, Bool, true, false, ◌||◌, List, [], ◌∷◌, ◌++◌, Option, Some, None}
use Rattle.std.specs.Prelude.{codes, drop, reverse}
use Rattle.lq_trees.specs.Tree.{Name, Tree, Hypothesis}
use Rattle.lq_trees.specs.Tree.Tree.{Rel, Var, Sort, Prod, Lam, Let, App, Const, Ind, Ctor, Elim, Evar}
use Rattle.lq_trees.specs.Ticks.{gives, fails, ◌>>=◌, Agree, Settled}
use Rattle.lq_trees.proofs.TickLaws.{agree_refl, agree_bind, agree_faults}
use Rattle.lq_calculus.specs.Contraction.{contract, spine}
use Rattle.lq_calculus.specs.Declarations.{Env, Family}
use Rattle.lq_calculus.proofs.Settled.{normal_agree, conv_agree}
use Rattle.lq_ast.specs.Syntax.{Surface, Rule, elimination_of, induction, destruct, rewrite, rewrite_back, unfold_constant, change, hnf, compute, clear, rename, revert, generalize}
use Rattle.lq_solving.specs.Occurs.{is_closed, holds_constant, holds_hypothesis}
use Rattle.lq_solving.specs.Stores.{Store, StoreFault, read, read_context, size_fault}
use Rattle.lq_solving.specs.ElabFaults.{unify_fault}
use Rattle.lq_solving.specs.Elaboration.{Givens, Found, found}
use Rattle.lq_solving.proofs.UnifySettled.{unify_agree}
use Rattle.lq_solving.proofs.ElabSettled.{type_agree, agree_ticked}
use Rattle.lq_states.specs.Goals.{Proof}
use Rattle.lq_tactics.specs.Rows.{Doing, Scene, Done, Step, done_by, by_elab, by_store_call, rules, needed, needed_form, new_goal, goal_term, renewed, unused, then_next, ended, still_used, does_not_occur}
use Rattle.lq_tactics.specs.Applying.{Opening, Inductive, inductive_of, inductive_or, most_premises, not_opened, premise_terms}
use Rattle.lq_tactics.specs.Primitives.{do_intro, equality_of}
use Rattle.lq_tactics.specs.Matching.{Place, subterms}
use Rattle.lq_tactics.specs.Exchanging.{first_or}
use Rattle.lq_tactics.specs.Hypotheses.{hypothesis_named, some_holds, without_name, do_clear, reverted_type, reverted_body, do_revert, dependents, revert_each, do_rename}
use Rattle.lq_tactics.specs.Elimination.{predicate_fault, typed_predicate, premise_of, premise_goals, eliminate_at, eliminate, return_each, Naming, branch_name, intro_unnamed, intro_hypothesis, intro_arguments, arguments_in, argument_name, branch, branches, names_agree, eliminate_and_intro, eliminate_hypothesis, reverting, do_induction, destructed, do_destruct, do_elim}
use Rattle.lq_tactics.specs.Rewriting.{first_place, rewritten, rewritten_or, equation_or, do_rewrite, retyped, do_unfold, do_change, do_generalize}
use Rattle.lq_tactics.specs.Rules.{rule_row, run_rule}
use Rattle.lq_tactics.proofs.RowsSettled.{at, scene_agree, head_of_agree, new_goal_agree, as_goals_agree, term_agree, goal_sort_agree, ended_agree, then_next_agree, open_type_agree}
use Rattle.lq_tactics.proofs.PrimsSettled.{do_intro_agree, product_agree}

module _ (n m b : ℕ) (i : b < n) (j : b < m) where
  -- ---- hypotheses

  clear_agree : (c : Scene) (x : Name) → Agree b (do_clear (at n c) x) (do_clear (at m c) x)
  unfolding do_clear hypothesis_named
  clear_agree c x = agree_bind b _ _ _ _ (agree_refl b _) (λ h. by (some_holds c.store x (without_name x c.context) || holds_hypothesis x c.kind))
    where
      more : Scene → Doing Done
      more d = new_goal d d.store (without_name x d.context) d.kind >>= λ r. gives (done_by r.0 (goal_term r.1 (without_name x d.context)) (r.1 ∷ []))

      by : (o : Bool) → Agree b (elim o as (λ z. Doing Done) [ true ↦ fails (still_used x) | false ↦ more (at n c) ]) (elim o as (λ z. Doing Done) [ true ↦ fails (still_used x) | false ↦ more (at m c) ])
      by true = agree_refl b _
      by false = agree_bind b _ _ _ _ (new_goal_agree n m b i j c c.store _ _) (λ r. agree_refl b _)

  revert_agree : (c : Scene) (x : Name) → Agree b (do_revert (at n c) x) (do_revert (at m c) x)
  unfolding do_revert hypothesis_named
  revert_agree c x = agree_bind b _ _ _ _ (agree_refl b _) (λ h. by h (some_holds c.store x (without_name x c.context)))
    where
      more : Hypothesis → Scene → Doing Done
      more h d =
          new_goal d d.store (without_name x d.context) (reverted_type h h.body d.kind) >>= λ r.
          gives (done_by r.0 (reverted_body h h.body (goal_term r.1 (without_name x d.context))) (r.1 ∷ []))

      by : (h : Hypothesis) (o : Bool) → Agree b (elim o as (λ z. Doing Done) [ true ↦ fails (still_used x) | false ↦ more h (at n c) ]) (elim o as (λ z. Doing Done) [ true ↦ fails (still_used x) | false ↦ more h (at m c) ])
      by h true = agree_refl b _
      by h false = agree_bind b _ _ _ _ (new_goal_agree n m b i j c c.store _ _) (λ r. agree_refl b _)

  revert_each_agree : (xs : List Name) (c : Scene) → Agree b (revert_each xs (at n c)) (revert_each xs (at m c))
  unfolding revert_each
  revert_each_agree [] c = agree_refl b _
  revert_each_agree (x ∷ xs) c =
      agree_bind b _ _ _ _ (ended_agree n m b i j c _ _ (revert_agree c x)) (λ st. then_next_agree n m b i j c st _ _ (λ d. revert_each_agree xs d))

  rename_agree : (c : Scene) (x y : Name) → Agree b (do_rename (at n c) x y) (do_rename (at m c) x y)
  unfolding do_rename hypothesis_named unused
  rename_agree c x y =
      agree_bind b _ _ _ _ (agree_refl b _) (λ h. agree_bind b _ _ _ _ (agree_refl b _) (λ ok. agree_bind b _ _ _ _ (new_goal_agree n m b i j c c.store _ _) (λ r. agree_refl b _)))

  -- ---- a scene read anew

  renewed_agree : {A : Type 0} (c : Scene) (s : Store) (f g : Scene → Doing A) → ((d : Scene) → Agree b (f (at n d)) (g (at m d))) →
      Agree b (renewed (at n c) s >>= f) (renewed (at m c) s >>= g)
  unfolding renewed needed ◌>>=◌
  renewed_agree c s f g h = by (size_fault (read s c.kind))
    where
      scene_at : ℕ → Tree → Scene
      scene_at k T = record { env = c.env; bound = k; values = c.values; store = s; goal = c.goal; context = c.context; kind = T }

      by : (o : Option StoreFault) → Agree b ((elim o as (λ z. Doing Tree) [ None ↦ gives (read s c.kind) | Some e ↦ fails (by_store_call e) ] >>= λ T. gives (scene_at n T)) >>= f)
          ((elim o as (λ z. Doing Tree) [ None ↦ gives (read s c.kind) | Some e ↦ fails (by_store_call e) ] >>= λ T. gives (scene_at m T)) >>= g)
      by None = h (scene_at 0 (read s c.kind))
      by (Some e) = agree_refl b _

  -- ---- elimination

  predicate_agree : (c : Scene) (s : Store) (P : Tree) → Agree b (typed_predicate (at n c) s P) (typed_predicate (at m c) s P)
  unfolding typed_predicate
  predicate_agree c s P = agree_bind b _ _ _ _ (agree_faults predicate_fault b _ _ (type_agree n m b i j c.env s c.context P)) (λ K. agree_refl b _)

  premises_agree : (c : Scene) (d : Inductive) (P : Tree) (k : ℕ) (ds : List (Name × Tree)) (s : Store) → Agree b (premise_goals (at n c) d P k ds s) (premise_goals (at m c) d P k ds s)
  unfolding premise_goals
  premises_agree c d P k [] s = agree_refl b _
  premises_agree c d P k (x ∷ xs) s =
      agree_bind b _ _ _ _ (new_goal_agree n m b i j c s c.context (premise_of d P k x.1)) (λ r. agree_bind b _ _ _ _ (premises_agree c d P (suc k) xs r.0) (λ q. agree_refl b _))

  eliminate_at_agree : (c : Scene) (f : Found) (d : Inductive) → Agree b (eliminate_at (at n c) f d) (eliminate_at (at m c) f d)
  unfolding eliminate_at premise_terms
  eliminate_at_agree c f d =
      agree_bind b _ _ _ _ (goal_sort_agree n m b i j c) (λ s. agree_bind b _ _ _ _ (agree_refl b _) (λ ok.
      agree_bind b _ _ _ _ (predicate_agree c c.store _) (λ ok2. agree_bind b _ _ _ _ (premises_agree c d _ 0 d.family.constructors c.store) (λ r. agree_refl b _))))

  eliminate_agree : (c : Scene) (f : Found) → Agree b (eliminate (at n c) f) (eliminate (at m c) f)
  unfolding eliminate
  eliminate_agree c f =
      renewed_agree c f.store _ _ (λ d.
      agree_bind b _ _ _ _ (head_of_agree n m b i j d d.store f.kind) (λ t. agree_bind b _ _ _ _ (agree_refl b (inductive_or t (inductive_of d.env (spine t [])))) (λ e. eliminate_at_agree d f e)))

  return_agree : (xs : List Name) (c : Scene) → Agree b (return_each xs (at n c)) (return_each xs (at m c))
  unfolding return_each
  return_agree [] c = agree_refl b _
  return_agree (x ∷ xs) c =
      agree_bind b _ _ _ _ (ended_agree n m b i j c _ _ (do_intro_agree n m b i j c (Some x))) (λ st. then_next_agree n m b i j c st _ _ (λ d. return_agree xs d))

  unnamed_agree : (c : Scene) (y : Name) (t : Tree) → Agree b (intro_unnamed (at n c) y t) (intro_unnamed (at m c) y t)
  unfolding intro_unnamed
  unnamed_agree c y (Prod x A B) = product_agree n m b i j c y [] A B
  unnamed_agree c y (Rel x) = do_intro_agree n m b i j c (Some y)
  unnamed_agree c y (Var x) = do_intro_agree n m b i j c (Some y)
  unnamed_agree c y (Sort x) = do_intro_agree n m b i j c (Some y)
  unnamed_agree c y (Lam x A t) = do_intro_agree n m b i j c (Some y)
  unnamed_agree c y (Let x v A t) = do_intro_agree n m b i j c (Some y)
  unnamed_agree c y (App t u) = do_intro_agree n m b i j c (Some y)
  unnamed_agree c y (Const x) = do_intro_agree n m b i j c (Some y)
  unnamed_agree c y (Ind x) = do_intro_agree n m b i j c (Some y)
  unnamed_agree c y (Ctor x k) = do_intro_agree n m b i j c (Some y)
  unnamed_agree c y (Elim x s) = do_intro_agree n m b i j c (Some y)
  unnamed_agree c y (Evar k ts) = do_intro_agree n m b i j c (Some y)

  hypothesis_agree : (k : Naming) (ns : List Name) (a : Name) (c : Scene) (f g : List Name → Scene → Doing Step) → ((xs : List Name) (d : Scene) → Agree b (f xs (at n d)) (g xs (at m d))) →
      Agree b (intro_hypothesis k ns a (at n c) f) (intro_hypothesis k ns a (at m c) g)
  unfolding intro_hypothesis branch_name
  hypothesis_agree k ns a c f g h = by k.keeps
    where
      keeping : (List Name → Scene → Doing Step) → Scene → Doing Step
      keeping next d = ended d (do_intro d (Some (branch_name k d (first_or ns (codes "IH" ++ a))))) >>= λ st. then_next d st (next (drop 1 ns))

      clearing : (List Name → Scene → Doing Step) → Scene → Doing Step
      clearing next d =
          let y = branch_name k d (codes "IH") in
          ended d (intro_unnamed d y d.kind) >>= λ st. then_next d st (λ e. ended e (do_clear e y) >>= λ st1. then_next e st1 (next ns))

      by : (o : Bool) → Agree b (elim o as (λ z. Doing Step) [ true ↦ keeping f (at n c) | false ↦ clearing f (at n c) ]) (elim o as (λ z. Doing Step) [ true ↦ keeping g (at m c) | false ↦ clearing g (at m c) ])
      by true = agree_bind b _ _ _ _ (ended_agree n m b i j c _ _ (do_intro_agree n m b i j c (Some _))) (λ st. then_next_agree n m b i j c st _ _ (λ d. h (drop 1 ns) d))
      by false =
          agree_bind b _ _ _ _ (ended_agree n m b i j c _ _ (unnamed_agree c _ c.kind)) (λ st. then_next_agree n m b i j c st _ _ (λ d.
          agree_bind b _ _ _ _ (ended_agree n m b i j d _ _ (clear_agree d _)) (λ st1. then_next_agree n m b i j d st1 _ _ (λ e. h ns e))))

  arguments_agree : (k : Naming) (as_ : List (Name × Bool)) (ns : List Name) (c : Scene) → Agree b (intro_arguments k as_ ns (at n c)) (intro_arguments k as_ ns (at m c))
  unfolding intro_arguments branch_name
  arguments_agree k [] ns c = return_agree k.reverted c
  arguments_agree k (a ∷ as_) ns c =
      agree_bind b _ _ _ _ (ended_agree n m b i j c _ _ (do_intro_agree n m b i j c (Some _))) (λ st. then_next_agree n m b i j c st _ _ (λ d. by a.1 d (arguments_agree k as_)))
    where
      y : Name
      y = branch_name k c (first_or ns (argument_name k.own_name a))

      by : (o : Bool) (d : Scene) → ((xs : List Name) (e : Scene) → Agree b (intro_arguments k as_ xs (at n e)) (intro_arguments k as_ xs (at m e))) →
          Agree b (elim o as (λ z. Doing Step) [ false ↦ intro_arguments k as_ (drop 1 ns) (at n d) | true ↦ intro_hypothesis k (drop 1 ns) y (at n d) (intro_arguments k as_) ])
          (elim o as (λ z. Doing Step) [ false ↦ intro_arguments k as_ (drop 1 ns) (at m d) | true ↦ intro_hypothesis k (drop 1 ns) y (at m d) (intro_arguments k as_) ])
      by true d h = hypothesis_agree k (drop 1 ns) y d _ _ h
      by false d h = h (drop 1 ns) d

  branch_agree : (k : Naming) (o : Option Name) (as_ : List (Name × Bool)) (ns : List Name) (c : Scene) → Agree b (branch k o as_ ns (at n c)) (branch k o as_ ns (at m c))
  unfolding branch
  branch_agree k None as_ ns c = arguments_agree k as_ ns c
  branch_agree k (Some x) as_ ns c =
      agree_bind b _ _ _ _ (ended_agree n m b i j c _ _ (clear_agree c x)) (λ st. then_next_agree n m b i j c st _ _ (λ d. arguments_agree k as_ ns d))

  branches_agree : (c : Scene) (k : Naming) (f : Family) (ds : List (Name × Tree)) (bs : List (List Name)) (ks : List ℕ) (s : Store) →
      Agree b (branches (at n c) k f ds bs ks s) (branches (at m c) k f ds bs ks s)
  unfolding branches
  branches_agree c k f [] bs ks s = agree_refl b _
  branches_agree c k f (d ∷ ds) bs [] s = agree_refl b _
  branches_agree c k f (d ∷ ds) bs (x ∷ ks) s =
      agree_bind b _ _ _ _ (scene_agree n m b i j c.env c.values s x _ _ (λ e. branch_agree k k.own_name (arguments_in f d.1) (first_or bs []) e)) (λ st.
      agree_bind b _ _ _ _ (branches_agree c k f ds (drop 1 bs) ks st.store) (λ rest. agree_refl b _))

  and_intro_agree : (k : Naming) (names : Option (List (List Name))) (f : Found) (c : Scene) → Agree b (eliminate_and_intro k names f (at n c)) (eliminate_and_intro k names f (at m c))
  unfolding eliminate_and_intro
  and_intro_agree k names f c =
      agree_bind b _ _ _ _ (eliminate_agree c f) (λ e. agree_bind b _ _ _ _ (agree_refl b _) (λ st.
      agree_bind b _ _ _ _ (agree_refl b (names_agree k.keeps e.type.family names)) (λ bs. branches_agree c k e.type.family e.type.family.constructors bs st.goals st.store)))

  own_agree : (keeps : Bool) (x : Name) (A : Tree) (ds : List Name) (names : Option (List (List Name))) (c : Scene) →
      Agree b (eliminate_hypothesis keeps x A ds names (at n c)) (eliminate_hypothesis keeps x A ds names (at m c))
  unfolding eliminate_hypothesis
  own_agree keeps x A ds names c = and_intro_agree _ names (found c.store (Var x) A) c

  reverting_agree : (c : Scene) (x : Name) (f g : Tree → List Name → Scene → Doing Step) → ((A : Tree) (ds : List Name) (d : Scene) → Agree b (f A ds (at n d)) (g A ds (at m d))) →
      Agree b (reverting (at n c) x f) (reverting (at m c) x g)
  unfolding reverting hypothesis_named
  reverting_agree c x f g h =
      agree_bind b _ _ _ _ (agree_refl b _) (λ k.
      agree_bind b _ _ _ _ (revert_each_agree (reverse (dependents c.store (x ∷ []) c.context)) c) (λ st. then_next_agree n m b i j c st _ _ (λ d. h k.kind (dependents c.store (x ∷ []) c.context) d)))

  induction_agree : (c : Scene) (x : Name) (names : Option (List (List Name))) → Agree b (do_induction (at n c) x names) (do_induction (at m c) x names)
  unfolding do_induction
  induction_agree c x names = reverting_agree c x _ _ (λ A ds d. agree_ticked b _ _ (own_agree true x A ds names d))

  destructed_agree : (c : Scene) (f : Found) (t : Tree) (names : Option (List (List Name))) → Agree b (destructed (at n c) f t names) (destructed (at m c) f t names)
  unfolding destructed
  destructed_agree c f (Var x) names = renewed_agree c f.store _ _ (λ d. reverting_agree d x _ _ (λ A ds e. own_agree false x A ds names e))
  destructed_agree c f (Rel x) names = and_intro_agree _ names f c
  destructed_agree c f (Sort x) names = and_intro_agree _ names f c
  destructed_agree c f (Prod x A B) names = and_intro_agree _ names f c
  destructed_agree c f (Lam x A t) names = and_intro_agree _ names f c
  destructed_agree c f (Let x v A t) names = and_intro_agree _ names f c
  destructed_agree c f (App t u) names = and_intro_agree _ names f c
  destructed_agree c f (Const x) names = and_intro_agree _ names f c
  destructed_agree c f (Ind x) names = and_intro_agree _ names f c
  destructed_agree c f (Ctor x k) names = and_intro_agree _ names f c
  destructed_agree c f (Elim x s) names = and_intro_agree _ names f c
  destructed_agree c f (Evar k ts) names = and_intro_agree _ names f c

  destruct_agree : (c : Scene) (t : Surface) (names : Option (List (List Name))) → Agree b (do_destruct (at n c) t names) (do_destruct (at m c) t names)
  unfolding do_destruct
  destruct_agree c t names = agree_bind b _ _ _ _ (term_agree n m b i j c t None) (λ f. destructed_agree c f (read f.store f.term) names)

  elim_agree : (c : Scene) (t : Surface) → Agree b (do_elim (at n c) t) (do_elim (at m c) t)
  unfolding do_elim
  elim_agree c t = agree_bind b _ _ _ _ (agree_bind b _ _ _ _ (term_agree n m b i j c t None) (λ f. eliminate_agree c f)) (λ e. agree_refl b _)

  -- ---- rewriting, and another type for the goal

  place_agree : (c : Scene) (s : Store) (side : Tree) (ps : List Place) → Agree b (first_place (at n c) s side ps) (first_place (at m c) s side ps)
  unfolding first_place
  place_agree c s side [] = agree_refl b _
  place_agree c s side (p ∷ ps) =
      by _ _ (is_closed 0 p.1) (place_agree c s side ps)
      (agree_bind b _ _ _ _ (agree_faults by_elab b _ _ (agree_faults unify_fault b _ _ (unify_agree (rules c) n m b i j c.context s p.1 side))) (λ a. found_or a (place_agree c s side ps)))
    where
      found_or : (a : Option Store) → Agree b (first_place (at n c) s side ps) (first_place (at m c) s side ps) →
          Agree b (elim a as (λ z. Doing (Option (Tree × Store))) [ Some s1 ↦ gives (Some (p.1, s1)) | None ↦ first_place (at n c) s side ps ])
          (elim a as (λ z. Doing (Option (Tree × Store))) [ Some s1 ↦ gives (Some (p.1, s1)) | None ↦ first_place (at m c) s side ps ])
      found_or (Some s1) h = agree_refl b _
      found_or None h = h

      by : (r q : Doing (Option (Tree × Store))) (o : Bool) → Agree b (first_place (at n c) s side ps) (first_place (at m c) s side ps) → Agree b r q →
          Agree b (elim o as (λ z. Doing (Option (Tree × Store))) [ false ↦ first_place (at n c) s side ps | true ↦ r ])
          (elim o as (λ z. Doing (Option (Tree × Store))) [ false ↦ first_place (at m c) s side ps | true ↦ q ])
      by r q true h k = k
      by r q false h k = h

  rewritten_agree : (c d : Scene) (forward : Bool) (f : Found) (o : Opening) (e : Tree × Tree × Tree) (t : Tree) → Agree b (rewritten (at n c) (at n d) forward f o e t) (rewritten (at m c) (at m d) forward f o e t)
  unfolding rewritten premise_terms
  rewritten_agree c d forward f o e t =
      agree_bind b _ _ _ _ (goal_sort_agree n m b i j d) (λ u. agree_bind b _ _ _ _ (predicate_agree d d.store _) (λ ok. agree_bind b _ _ _ _ (agree_refl b _) (λ ok2.
      agree_bind b _ _ _ _ (new_goal_agree n m b i j d d.store c.context _) (λ q. agree_bind b _ _ _ _ (as_goals_agree n m b i j d q.0 _) (λ s1. agree_refl b _)))))

  rewritten_or_agree : (c : Scene) (forward : Bool) (f : Found) (o : Opening) (e : Tree × Tree × Tree) (p : Option (Tree × Store)) →
      Agree b (rewritten_or (at n c) forward f o e p) (rewritten_or (at m c) forward f o e p)
  unfolding rewritten_or
  rewritten_or_agree c forward f o e None = agree_refl b _
  rewritten_or_agree c forward f o e (Some p) = renewed_agree c p.1 _ _ (λ d. rewritten_agree c d forward f o e (read p.1 p.0))

  equation_agree : (c : Scene) (forward : Bool) (f : Found) (os : List Opening) (t : Tree) (e : Option (Tree × Tree × Tree)) →
      Agree b (equation_or (at n c) forward f os t e) (equation_or (at m c) forward f os t e)
  unfolding equation_or
  equation_agree c forward f [] t e = agree_refl b _
  equation_agree c forward f (o ∷ os) t None = agree_refl b _
  equation_agree c forward f (o ∷ os) t (Some e) =
      renewed_agree c o.store _ _ (λ d. agree_bind b _ _ _ _ (place_agree c o.store _ (subterms [] d.kind)) (λ p. rewritten_or_agree c forward f o e p))

  rewrite_agree : (c : Scene) (forward : Bool) (t : Surface) → Agree b (do_rewrite (at n c) forward t) (do_rewrite (at m c) forward t)
  unfolding do_rewrite
  rewrite_agree c forward t =
      agree_bind b _ _ _ _ (term_agree n m b i j c t None) (λ f.
      agree_bind b _ _ _ _ (open_type_agree n m b i j c most_premises (not_opened f) []) (λ os. equation_agree c forward f os.0 os.1 (equality_of (spine os.1 []))))

  retyped_agree : (c : Scene) (s : Store) (A : Tree) → Agree b (retyped (at n c) s A) (retyped (at m c) s A)
  unfolding retyped
  retyped_agree c s A = agree_bind b _ _ _ _ (new_goal_agree n m b i j c s c.context A) (λ r. agree_refl b _)

  unfold_agree : (c : Scene) (x : Name) (o : Option Tree) → Agree b (do_unfold (at n c) x o) (do_unfold (at m c) x o)
  unfolding do_unfold
  unfold_agree c x None = agree_refl b _
  unfold_agree c x (Some u) = by _ _ (holds_constant x c.kind) (retyped_agree c c.store _)
    where
      by : (r q : Doing Done) (o : Bool) → Agree b r q → Agree b (elim o as (λ z. Doing Done) [ false ↦ fails (does_not_occur x) | true ↦ r ]) (elim o as (λ z. Doing Done) [ false ↦ fails (does_not_occur x) | true ↦ q ])
      by r q true h = h
      by r q false h = agree_refl b _

  change_agree : (c : Scene) (t : Surface) → Agree b (do_change (at n c) t) (do_change (at m c) t)
  unfolding do_change
  change_agree c t =
      agree_bind b _ _ _ _ (term_agree n m b i j c t None) (λ f.
      agree_bind b _ _ _ _ (conv_agree (rules c) (read_context f.store c.context) n m b i j (read f.store f.term) (read f.store c.kind)) (λ same. by _ _ _ same (retyped_agree c f.store f.term)))
    where
      by : (r q w : Doing Done) (o : Bool) → Agree b r q → Agree b (elim o as (λ z. Doing Done) [ true ↦ r | false ↦ w ]) (elim o as (λ z. Doing Done) [ true ↦ q | false ↦ w ])
      by r q w true h = h
      by r q w false h = agree_refl b _

  generalize_agree : (c : Scene) (t : Surface) → Agree b (do_generalize (at n c) t) (do_generalize (at m c) t)
  unfolding do_generalize
  generalize_agree c t =
      agree_bind b _ _ _ _ (term_agree n m b i j c t None) (λ f.
      renewed_agree c f.store _ _ (λ d. agree_bind b _ _ _ _ (new_goal_agree n m b i j c f.store c.context _) (λ r. agree_refl b _)))

  pub rule_agree : (c : Scene) (rule : Rule) → Agree b (rule_row (at n c) rule) (rule_row (at m c) rule)
  unfolding rule_row
  rule_agree c (elimination_of t) = ended_agree n m b i j c _ _ (elim_agree c t)
  rule_agree c (induction x names) = induction_agree c x names
  rule_agree c (destruct t names) = destruct_agree c t names
  rule_agree c (rewrite t) = ended_agree n m b i j c _ _ (rewrite_agree c true t)
  rule_agree c (rewrite_back t) = ended_agree n m b i j c _ _ (rewrite_agree c false t)
  rule_agree c (unfold_constant x) = ended_agree n m b i j c _ _ (unfold_agree c x ((rules c).delta x))
  rule_agree c (change t) = ended_agree n m b i j c _ _ (change_agree c t)
  rule_agree c hnf = ended_agree n m b i j c _ _ (agree_bind b _ _ _ _ (head_of_agree n m b i j c c.store c.kind) (λ t. retyped_agree c c.store t))
  rule_agree c compute =
      ended_agree n m b i j c _ _ (
      agree_bind b _ _ _ _ (agree_bind b _ _ _ _ (normal_agree (contract (rules c) (read_context c.store c.context)) n m b i j c.kind) (λ t. agree_refl b (needed_form t))) (λ t. retyped_agree c c.store t))
  rule_agree c (clear x) = ended_agree n m b i j c _ _ (clear_agree c x)
  rule_agree c (rename x y) = ended_agree n m b i j c _ _ (rename_agree c x y)
  rule_agree c (revert x) = ended_agree n m b i j c _ _ (revert_agree c x)
  rule_agree c (generalize t) = ended_agree n m b i j c _ _ (generalize_agree c t)

-- a primitive of the second table is settled
pub rule_settled : (env : Env) (p : Proof) (k : ℕ) (rule : Rule) (vs : Givens) → Settled (λ n. run_rule env n p k rule vs)
unfolding run_rule
rule_settled env p k rule vs = λ b n m i j. scene_agree n m b i j env vs p.store k _ _ (λ c. agree_bind b _ _ _ _ (rule_agree n m b i j c rule) (λ st. agree_refl b _))
