-- The primitives of the first table keep what holds of a proof.
use Rattle.std.proofs.Common.{◌≡◌, ◌<◌, ◌+◌, ◌^◌, ◌∙◌, ℕ, suc, refl, sym, ap, arith, Bool, true, false, ◌||◌, List, [], ◌∷◌, ◌++◌, length, reverse, Option, Some, None}
use Rattle.std.proofs.Common.{subst as along}
use Rattle.std.proofs.lemmas.List.{reverse-append}
use Rattle.std.specs.Prelude.{slice_get, codes}
use Rattle.std.specs.List.{AllByRecursion}
use Rattle.lq_trees.specs.Tree.{Name, Tree, Context, Hypothesis, same_name}
use Rattle.lq_trees.specs.Tree.Tree.{Rel, Var, Sort, Prod, Lam, Let, App, Const, Ind, Ctor, Elim, Evar}
use Rattle.lq_trees.specs.Fresh.{is_listed, under, under_let}
use Rattle.lq_trees.specs.Ticks.{gives, fails, ◌>>=◌, within, done}
use Rattle.lq_trees.proofs.TickLaws.{agree_within}
use Rattle.lq_calculus.specs.Contraction.{spine}
use Rattle.lq_calculus.specs.Checking.{conv}
use Rattle.lq_calculus.specs.Declarations.{Env}
use Rattle.lq_calculus.proofs.ConvSound.{Gives, gives_bind, done_gives}
use Rattle.lq_ast.specs.Syntax.{Surface, Prim, intro, intros, exact, refine, apply_with, eapply, assumption, constructor, split, to_left, to_right, exists, assert_that, cut_by, pose, exfalso, reflexivity}
use Rattle.lq_solving.specs.Stores.{Store, Variable, names_in, has_value, is_open, read, read_context}
use Rattle.lq_solving.specs.Kept.{Stands, StandsIn, IsStore}
use Rattle.lq_solving.specs.Claims.{ArePlainDeclarations}
use Rattle.lq_solving.specs.Unification.{UnifyFault, unify}
use Rattle.lq_solving.specs.ElabFaults.{by_unify, unify_fault}
use Rattle.lq_solving.specs.Elaboration.{Givens, Found, found_sort}
use Rattle.lq_solving.proofs.StoreLaws.{context_keeps, all_more}
use Rattle.lq_solving.proofs.InstanceLaws.{is_same}
use Rattle.lq_solving.proofs.OverLaws.{within_more}
use Rattle.lq_solving.proofs.Good.{IsGood, spine_good}
use Rattle.lq_solving.proofs.InferKept.{names_more}
use Rattle.lq_solving.proofs.UnifyForms.{stands_more}
use Rattle.lq_solving.proofs.StandsLaws.{listed_more, StandsUnder, app_stands, lam_stands, let_stands, prod_stands, domain_stands, rest_stands, subst_stands, var_stands}
use Rattle.lq_solving.proofs.Later.{good_stands}
use Rattle.lq_solving.proofs.ElabKept.{grown_now, grown_then, by_gives, unified_grown}
use Rattle.lq_solving.proofs.ElabStands.{Finds, deep}
use Rattle.lq_states.specs.Goals.{Proof}
use Rattle.lq_states.specs.Kept.{times, IsProof}
use Rattle.lq_tactics.specs.Rows.{RowFault, Doing, by_elab, Scene, Done, Step, PrimDone, done_by, site, rules, elab_work, head_of, scene, new_goal, as_goals, made_open, term_of, unused, goal_sort, listed, variables_left, told}
use Rattle.lq_tactics.specs.Applying.{Inductive, goal_inductive, constructor_found, apply_found, numbered, has_number, constructor_at}
use Rattle.lq_tactics.specs.Primitives.{most_binders, do_exact, independent, do_refine, first_assumption, exists_found, do_exists, type_term, do_assert, do_cut, do_pose, do_exfalso, equality_of, reflexive, do_reflexivity, prim_row, run_prim}
use Rattle.lq_tactics.proofs.NumberLists.{made_once, made_new, made_valueless, independent_among}
use Rattle.lq_tactics.proofs.PrimsSettled.{prim_settled}
use Rattle.lq_tactics.proofs.RowsKept.{AreGiven, IsScene, AreNew, IsReached, IsStep, scene_is, scene_kept, head_good, goal_made, same_values, all_retyped, ended_kept}
use Rattle.lq_tactics.proofs.StepsKept.{scene_valueless, IsThere, row_listed_kept}
use Rattle.lq_tactics.proofs.IntroKept.{one_new, two_new, more_context, shut_stands, unused_new, intro_kept, intro_each_kept, intro_all_kept}
use Rattle.lq_tactics.proofs.ApplyKept.{HasRoom, IsFound, sides_stand, term_found, apply_found_reached, apply_reached, told_none}
use Rattle.lq_tactics.proofs.ConstructorsKept.{goal_is_inductive, constructor_finds, numbered_reached, right_number, numbered_row_reached}

-- no new goal
pub none_new : (s s1 : Store) → AreNew s s1 []
unfolding times
none_new s s1 = record { once = λ k. omega arith; inside = λ k l. absurd (omega (arith, l)); valueless = λ k l. absurd (omega (arith, l)); new = λ k l. absurd (omega (arith, l)) }

-- a closed term below a binder
under_more : (s : Store) (xs : List Name) (t : Tree) → Stands s xs t → StandsUnder s xs 1 t
under_more s xs t h = record { over = h.over; within = within_more 0 1 (omega arith) t h.within; holds = h.holds }

constructor_store : (c : Scene) (i : Inductive) (o : Option (Name × Tree)) (f : Found) → Gives (constructor_found c i 0 o) f → f.store ≡ c.store
unfolding constructor_found constructor_at
constructor_store c i None f z = absurd z
constructor_store c i (Some d) f z = sym (ap (λ w. w.store) z)

module _ (c : Scene) (s : IsScene c) where
  -- a term in a context with one more hypothesis
  more_names : (s0 : Store) (h : Hypothesis) (t : Tree) → StandsIn s0 c.context t → Stands s0 (names_in (c.context ++ h ∷ [])) t
  more_names s0 h t k = along (λ xs. Stands s0 xs t) (sym (names_more c.context h)) (stands_more s0 (names_in c.context) (names_in c.context ++ h.name ∷ []) (λ x l. listed_more (names_in c.context) (h.name ∷ []) x l) t k)

  leaf_stands : (s0 : Store) → IsStore s0 → (t : Tree) → IsGood s0.variables [] (names_in c.context) 0 t → StandsIn s0 c.context t
  leaf_stands s0 i t h = good_stands s0 i [] (names_in c.context) t h

  pub exact_reached : (t : Surface) (d : Done) → IsFound c t (Some c.kind) → Gives (do_exact c t) d → IsReached c d
  unfolding do_exact
  exact_reached t d find y =
      let f = gives_bind (term_of c t (Some c.kind)) _ d y in
      let h = find f.0 f.1 in
      at f.0 h (made_open c.store f.0.store) f.2
    where
      at : (f : Found) → Finds c.store c.context f → (ks : List ℕ) →
          Gives {F = RowFault} (elim ks as (λ z. Doing Done) [ [] ↦ gives (done_by f.store f.term []) | k ∷ js ↦ fails (variables_left (length (k ∷ js))) ]) d → IsReached c d
      at f h [] z = along (IsReached c) z (record { grown = h.0; body = h.1; goals = none_new c.store f.store })
      at f h (k ∷ ks) z = absurd z

  pub refine_reached : (t : Surface) (d : Done) → IsFound c t (Some c.kind) → Gives (do_refine c t) d → IsReached c d
  unfolding do_refine
  refine_reached t d find y =
      let f = gives_bind (term_of c t (Some c.kind)) _ d y in
      let h = find f.0 f.1 in
      let made = made_open c.store f.0.store in
      let a = gives_bind (as_goals c f.0.store (independent f.0.store made made)) _ d f.2 in
      let r = all_retyped c f.0.store a.0 (independent f.0.store made made) h.0.store a.1 in
      let among = independent_among f.0.store made made in
      along (IsReached c) a.2 (record {
        grown = grown_then c.store f.0.store a.0 h.0 r.grown;
        body = r.grown.keeps (names_in c.context) f.0.term h.1;
        goals = record {
          once = λ k. omega (arith, among k, made_once c.store f.0.store k);
          inside = λ k l. omega (arith, r.count, (scene_valueless f.0.store k (made_valueless c.store f.0.store k (omega (arith, among k, l)))).0);
          valueless = λ k l. same_values f.0.store a.0 r.values k ∙ (scene_valueless f.0.store k (made_valueless c.store f.0.store k (omega (arith, among k, l)))).1;
          new = λ k l. made_new c.store f.0.store k (omega (arith, among k, l));
        };
      })

  -- the hypotheses that are looked through are those of the context
  pub assumption_reached : (hs : Context) (d : Done) → AllByRecursion (λ h. is_listed (names_in c.context) h.name ≡ true) hs → Gives (first_assumption c hs) d → IsReached c d
  unfolding first_assumption
  assumption_reached [] d l y = absurd y
  assumption_reached (h ∷ hs) d l y =
      let a = gives_bind (conv (rules c) (read_context c.store c.context) c.bound (read c.store h.kind) c.kind) _ d y in at a.0 a.2 (λ z. assumption_reached hs d l.1 z)
    where
      at : (b : Bool) → Gives {F = RowFault} (elim b as (λ z. Doing Done) [ true ↦ gives (done_by c.store (Var h.name) []) | false ↦ first_assumption c hs ]) d → (Gives (first_assumption c hs) d → IsReached c d) → IsReached c d
      at true z ih = along (IsReached c) z (record { grown = grown_now c.store s.store; body = var_stands c.store (names_in c.context) h.name l.0; goals = none_new c.store c.store })
      at false z ih = ih z

  -- ---- `exists`

  exists_finds : (t : Surface) (f h : Found) (T : Tree) → f.store ≡ c.store → Finds c.store c.context f → StandsIn c.store c.context T → ((A : Tree) → StandsIn c.store c.context A → IsFound c t (Some A)) → Gives (exists_found c t f T) h → Finds c.store c.context h
  unfolding exists_found
  exists_finds t f h (Prod x A B) e k p find y =
      let u = gives_bind (term_of c t (Some A)) _ h y in
      let q = find A (domain_stands c.store s.store (names_in c.context) x A B p) u.0 u.1 in
      along (Finds c.store c.context) u.2 (
        q.0,
        app_stands u.0.store q.0.store (names_in c.context) f.term u.0.term (q.0.keeps (names_in c.context) f.term (along (λ z. Stands z (names_in c.context) f.term) e k.1)) q.1,
        subst_stands u.0.store q.0.store (names_in c.context) u.0.term B q.1
            (rest_stands u.0.store q.0.store (names_in c.context) x A B (q.0.keeps (names_in c.context) (Prod x A B) p)),
      )
  exists_finds t f h (Rel x) e k p find y = absurd y
  exists_finds t f h (Var x) e k p find y = absurd y
  exists_finds t f h (Sort x) e k p find y = absurd y
  exists_finds t f h (Lam x A u) e k p find y = absurd y
  exists_finds t f h (Let x v A u) e k p find y = absurd y
  exists_finds t f h (App u v) e k p find y = absurd y
  exists_finds t f h (Const x) e k p find y = absurd y
  exists_finds t f h (Ind x) e k p find y = absurd y
  exists_finds t f h (Ctor x j) e k p find y = absurd y
  exists_finds t f h (Elim x u) e k p find y = absurd y
  exists_finds t f h (Evar j ts) e k p find y = absurd y

  pub exists_reached : (t : Surface) (d : Done) → ((A : Tree) → StandsIn c.store c.context A → IsFound c t (Some A)) → HasRoom c 0 → Gives (do_exists c t) d → IsReached c d
  unfolding do_exists
  exists_reached t d find few y =
      let i = gives_bind (goal_inductive c >>= has_number 1) _ d y in
      let f = gives_bind (constructor_found c i.0 0 (slice_get i.0.family.constructors 0)) _ d i.2 in
      let h = gives_bind (exists_found c t f.0 f.0.kind) (apply_found c true) d f.2 in
      let k = constructor_finds c s i.0 (right_number c s 1 i.0 i.1) 0 f.0 f.1 in
      let e = constructor_store c i.0 (slice_get i.0.family.constructors 0) f.0 f.1 in
      apply_found_reached c s true h.0 d (exists_finds t f.0 h.0 f.0.kind e k (along (λ z. Stands z (names_in c.context) f.0.kind) e k.2) find h.1) few h.2

  -- ---- `assert`, `cut`, `pose`, `exfalso`

  type_found : (A : Surface) (f : Found) → IsFound c A None → Gives (type_term c A) f → Finds c.store c.context f
  unfolding type_term
  type_found A f find y =
      let a = gives_bind (term_of c A None) _ f y in
      let u = gives_bind (elab_work (found_sort (site c) c.context a.0)) _ f a.2 in
      along (Finds c.store c.context) u.2 (find a.0 a.1)

  pub assert_reached : (x : Name) (A : Surface) (d : Done) → IsFound c A None → Gives (do_assert c x A) d → IsReached c d
  unfolding do_assert under
  assert_reached x A d find y =
      let f = gives_bind (type_term c A) _ d y in
      let k = type_found A f.0 find f.1 in
      let n = gives_bind (unused c x) _ d f.2 in
      let r = gives_bind (new_goal c f.0.store c.context f.0.term) _ d n.2 in
      let g = context_keeps c.store f.0.store k.0.keeps [] c.context s.context in
      let m = goal_made c f.0.store c.context f.0.term r.0 k.0.store g k.1 r.1 in
      let h : Hypothesis = record { name = x; body = None; kind = f.0.term } in
      let term = m.grown.keeps (names_in c.context) f.0.term k.1 in
      let kind = m.grown.keeps (names_in c.context) c.kind (k.0.keeps (names_in c.context) c.kind s.kind) in
      let g1 = more_context r.0.0 c.context h (context_keeps f.0.store r.0.0 m.grown.keeps [] c.context g) (unused_new c x n.0 n.1) tt term in
      let q = gives_bind (new_goal c r.0.0 (under c.context x f.0.term) c.kind) _ d r.2 in
      let p = goal_made c r.0.0 (c.context ++ h ∷ []) c.kind q.0 m.grown.store g1 (more_names r.0.0 h c.kind kind) q.1 in
      along (IsReached c) q.2 (record {
        grown = grown_then c.store f.0.store q.0.0 k.0 (grown_then f.0.store r.0.0 q.0.0 m.grown p.grown);
        body = app_stands q.0.0 p.grown.store (names_in c.context) _ _
            (lam_stands q.0.0 p.grown.store (names_in c.context) x f.0.term _ (p.grown.keeps (names_in c.context) f.0.term term) (shut_stands q.0.0 p.grown.store c.context h _ p.term))
            (p.grown.keeps (names_in c.context) _ m.term);
        goals = two_new c.store f.0.store c.context (c.context ++ h ∷ []) r.0 q.0 k.0 k.0.store m p;
      })

  pub cut_reached : (A : Surface) (d : Done) → IsFound c A None → Gives (do_cut c A) d → IsReached c d
  unfolding do_cut
  cut_reached A d find y =
      let f = gives_bind (term_of c A None) _ d y in
      let k = find f.0 f.1 in
      let g = context_keeps c.store f.0.store k.0.keeps [] c.context s.context in
      let kind = k.0.keeps (names_in c.context) c.kind s.kind in
      let r = gives_bind (new_goal c f.0.store c.context (Prod [] f.0.term c.kind)) _ d f.2 in
      let product = prod_stands f.0.store k.0.store (names_in c.context) [] f.0.term c.kind k.1 (under_more f.0.store (names_in c.context) c.kind kind) in
      let m = goal_made c f.0.store c.context (Prod [] f.0.term c.kind) r.0 k.0.store g product r.1 in
      let q = gives_bind (new_goal c r.0.0 c.context f.0.term) _ d r.2 in
      let p = goal_made c r.0.0 c.context f.0.term q.0 m.grown.store (context_keeps f.0.store r.0.0 m.grown.keeps [] c.context g) (m.grown.keeps (names_in c.context) f.0.term k.1) q.1 in
      along (IsReached c) q.2 (record {
        grown = grown_then c.store f.0.store q.0.0 k.0 (grown_then f.0.store r.0.0 q.0.0 m.grown p.grown);
        body = app_stands q.0.0 p.grown.store (names_in c.context) _ _ (p.grown.keeps (names_in c.context) _ m.term) p.term;
        goals = two_new c.store f.0.store c.context c.context r.0 q.0 k.0 k.0.store m p;
      })

  pub pose_reached : (x : Name) (t : Surface) (d : Done) → IsFound c t None → Gives (do_pose c x t) d → IsReached c d
  unfolding do_pose under_let
  pose_reached x t d find y =
      let f = gives_bind (term_of c t None) _ d y in
      let k = find f.0 f.1 in
      let n = gives_bind (unused c x) _ d f.2 in
      let h : Hypothesis = record { name = x; body = Some f.0.term; kind = f.0.kind } in
      let g = more_context f.0.store c.context h (context_keeps c.store f.0.store k.0.keeps [] c.context s.context) (unused_new c x n.0 n.1) k.1 k.2 in
      let r = gives_bind (new_goal c f.0.store (under_let c.context x f.0.term f.0.kind) c.kind) _ d n.2 in
      let m = goal_made c f.0.store (c.context ++ h ∷ []) c.kind r.0 k.0.store g (more_names f.0.store h c.kind (k.0.keeps (names_in c.context) c.kind s.kind)) r.1 in
      along (IsReached c) r.2 (record {
        grown = grown_then c.store f.0.store r.0.0 k.0 m.grown;
        body = let_stands r.0.0 m.grown.store (names_in c.context) x f.0.term f.0.kind _ (m.grown.keeps (names_in c.context) f.0.term k.1) (m.grown.keeps (names_in c.context) f.0.kind k.2)
            (shut_stands r.0.0 m.grown.store c.context h _ m.term);
        goals = one_new c.store f.0.store (c.context ++ h ∷ []) r.0 k.0 k.0.store m;
      })

  pub exfalso_reached : (d : Done) → Gives (do_exfalso c) d → IsReached c d
  unfolding do_exfalso
  exfalso_reached d y =
      let u = gives_bind (goal_sort c) _ d y in
      let r = gives_bind (new_goal c c.store c.context (Ind (codes "False"))) _ d u.2 in
      let m = goal_made c c.store c.context (Ind (codes "False")) r.0 s.store s.context (leaf_stands c.store s.store (Ind (codes "False")) tt) r.1 in
      along (IsReached c) r.2 (record {
        grown = m.grown;
        body = app_stands r.0.0 m.grown.store (names_in c.context) _ _
            (app_stands r.0.0 m.grown.store (names_in c.context) (Elim (codes "False") u.0) _ (leaf_stands r.0.0 m.grown.store (Elim (codes "False") u.0) tt)
            (lam_stands r.0.0 m.grown.store (names_in c.context) [] (Ind (codes "False")) c.kind (leaf_stands r.0.0 m.grown.store (Ind (codes "False")) tt)
            (under_more r.0.0 (names_in c.context) c.kind (m.grown.keeps (names_in c.context) c.kind s.kind)))) m.term;
        goals = one_new c.store c.store c.context r.0 (grown_now c.store s.store) s.store m;
      })

  -- ---- `reflexivity`

  pub reflexive_reached : (t : Tree) (o : Option (Tree × Tree × Tree)) (d : Done) → HasRoom c 0 →
      ((e : Tree × Tree × Tree) → o ≡ Some e → StandsIn c.store c.context e.0 × StandsIn c.store c.context e.1 × StandsIn c.store c.context e.2) → Gives (reflexive c t o) d → IsReached c d
  unfolding reflexive
  reflexive_reached t None d few h y = absurd (told_none (t ∷ []) _ d y)
  reflexive_reached t (Some e) d few h y =
      let u = gives_bind (elab_work (by_unify (unify (rules c) c.bound c.context c.store e.1 e.2))) _ d y in
      at u.0 (by_gives unify_fault (unify (rules c) c.bound c.context c.store e.1 e.2) u.0 (by_gives by_elab (by_unify (unify (rules c) c.bound c.context c.store e.1 e.2)) u.0 u.1)) u.2
    where
      at : (o1 : Option Store) → Gives {F = UnifyFault} (unify (rules c) c.bound c.context c.store e.1 e.2) o1 →
          Gives {F = RowFault} (elim o1 as (λ z. Doing Done) [
            | Some s1 ↦ gives (done_by s1 (App (App (Ctor (codes "eq") 0) e.0) e.1) [])
            | None ↦ told (read c.store e.1 ∷ read c.store e.2 ∷ []) (RowFault.do_not_unify (read c.store e.1) (read c.store e.2))
          ]) d → IsReached c d
      at None k z = absurd (told_none (read c.store e.1 ∷ read c.store e.2 ∷ []) _ d z)
      at (Some s1) k z =
          let p = h e refl in
          let g = unified_grown (rules c) s.plain.rules c.bound c.store s1 c.context e.1 e.2 (omega (arith, few)) s.store s.context p.1 p.2 k in
          along (IsReached c) z (record {
            grown = g;
            body = app_stands s1 g.store (names_in c.context) _ e.1
                (app_stands s1 g.store (names_in c.context) (Ctor (codes "eq") 0) e.0 (leaf_stands s1 g.store (Ctor (codes "eq") 0) tt) (g.keeps (names_in c.context) e.0 p.0)) (g.keeps (names_in c.context) e.1 p.1);
            goals = none_new c.store s1;
          })

  pub reflexivity_reached : (d : Done) → HasRoom c 0 → Gives (do_reflexivity c) d → IsReached c d
  unfolding do_reflexivity
  reflexivity_reached d few y =
      let t = gives_bind (head_of c c.store c.kind) _ d y in
      let good = head_good c s.plain c.store s.store s.context c.kind t.0 s.kind t.1 in
      reflexive_reached t.0 (equality_of (spine t.0 [])) d few
      (λ e q. sides_stand c.store s.store (names_in c.context) (spine t.0 []).0 (spine t.0 []).1 e (spine_good c.store.variables c.store.values (names_in c.context) t.0 [] good tt).1 q) t.2

-- ---- the table

-- the names that a primitive makes: one for each node of a term that is written, or for each binder of the goal's type
unfoldable pub names_made : Prim → ℕ
names_made (intro x) = 1
names_made (intros xs) = most_binders
names_made (exact t) = deep t
names_made (refine t) = deep t
names_made (apply_with t) = deep t
names_made (eapply t) = deep t
names_made (exists t) = deep t
names_made (assert_that x A) = deep A
names_made (cut_by A) = deep A
names_made (pose x t) = deep t
names_made _ = 0

-- the names of a context
all_listed : (xs : List Name) (hs : Context) → ((x : Name) → is_listed (names_in hs) x ≡ true → is_listed xs x ≡ true) → AllByRecursion (λ h. is_listed xs h.name ≡ true) hs
unfolding is_listed
all_listed xs [] f = tt
all_listed xs (h ∷ hs) f = (f h.name (ap (λ b. b || is_listed (names_in hs) h.name) (is_same h.name)), all_listed xs hs (λ x e. f x (later (same_name h.name x) (is_listed (names_in hs) x) e)))
  where
    later : (a b : Bool) → b ≡ true → (a || b) ≡ true
    later true b e = refl
    later false b e = e

all_turned : (P : Hypothesis → Type 0) (hs : Context) → AllByRecursion P hs → AllByRecursion P (reverse hs)
all_turned P [] h = tt
all_turned P (k ∷ hs) h = along (AllByRecursion P) (sym (reverse-append (k ∷ []) hs)) (all_more P (reverse hs) k (all_turned P hs h.1) h.0)

pub prim_kept : (c : Scene) (prim : Prim) (st : Step) → IsScene c → has_value c.store c.goal ≡ false → HasRoom c (names_made prim) → Gives (prim_row c prim) st → IsStep c st
unfolding prim_row names_made
prim_kept c (intro x) st s e few y = intro_kept c x st s (λ z. omega (arith, few)) y
prim_kept c (intros []) st s e few y = intro_all_kept most_binders c st s e (omega (arith, few)) y
prim_kept c (intros (x ∷ xs)) st s e few y = intro_each_kept (x ∷ xs) c st s e y
prim_kept c (exact t) st s e few y = ended_kept c (do_exact c t) st s (λ d z. exact_reached c s t d (λ f q. term_found c s t (Some c.kind) f s.kind few q) z) y
prim_kept c (refine t) st s e few y = ended_kept c (do_refine c t) st s (λ d z. refine_reached c s t d (λ f q. term_found c s t (Some c.kind) f s.kind few q) z) y
prim_kept c (apply_with t) st s e few y = ended_kept c _ st s (λ d z. apply_reached c s true t d (λ f q. term_found c s t None f tt few q) (omega (arith, few)) z) y
prim_kept c (eapply t) st s e few y = ended_kept c _ st s (λ d z. apply_reached c s false t d (λ f q. term_found c s t None f tt few q) (omega (arith, few)) z) y
prim_kept c assumption st s e few y =
    ended_kept c (first_assumption c (reverse c.context)) st s
    (λ d z. assumption_reached c s (reverse c.context) d (all_turned (λ h. is_listed (names_in c.context) h.name ≡ true) c.context (all_listed (names_in c.context) c.context (λ x l. l))) z) y
prim_kept c (constructor None) st s e few y = absurd y
prim_kept c (constructor (Some n)) st s e few y =
    ended_kept c (goal_inductive c >>= λ i. numbered c i n) st s
    (λ d z. let i = gives_bind (goal_inductive c) (λ i. numbered c i n) d z in numbered_reached c s i.0 (goal_is_inductive c s i.0 i.1) n d few i.2) y
prim_kept c split st s e few y = ended_kept c _ st s (λ d z. numbered_row_reached c s 1 0 d few z) y
prim_kept c to_left st s e few y = ended_kept c _ st s (λ d z. numbered_row_reached c s 2 0 d few z) y
prim_kept c to_right st s e few y = ended_kept c _ st s (λ d z. numbered_row_reached c s 2 1 d few z) y
prim_kept c (exists t) st s e few y = ended_kept c (do_exists c t) st s (λ d z. exists_reached c s t d (λ A h f q. term_found c s t (Some A) f h few q) (omega (arith, few)) z) y
prim_kept c (assert_that x A) st s e few y = ended_kept c (do_assert c x A) st s (λ d z. assert_reached c s x A d (λ f q. term_found c s A None f tt few q) z) y
prim_kept c (cut_by A) st s e few y = ended_kept c (do_cut c A) st s (λ d z. cut_reached c s A d (λ f q. term_found c s A None f tt few q) z) y
prim_kept c (pose x t) st s e few y = ended_kept c (do_pose c x t) st s (λ d z. pose_reached c s x t d (λ f q. term_found c s t None f tt few q) z) y
prim_kept c exfalso st s e few y = ended_kept c (do_exfalso c) st s (λ d z. exfalso_reached c s d z) y
prim_kept c reflexivity st s e few y = ended_kept c (do_reflexivity c) st s (λ d z. reflexivity_reached c s d few z) y

-- ---- a primitive on a goal of a proof

-- the context of a goal leaves room for the names that are made
abbrev pub LeavesRoom : Store → ℕ → ℕ → Type 0
LeavesRoom s k n = (v : Variable) → slice_get s.variables k ≡ Some v → length v.context + n < 10 ^ 64

module _ (env : Env) (p : Proof) (k : ℕ) (prim : Prim) (vs : Givens) (plain : ArePlainDeclarations env) (h : IsProof p) (i : IsStore p.store) (g : AreGiven p.store vs)
    (there : IsThere p k) (valueless : is_open p.store k ≡ true) where
  -- after the row: the store is one, the goals may take the goal's place, and the proof stays one
  pub run_kept : (n : ℕ) (d : PrimDone) → LeavesRoom p.store k (names_made prim + n) → Gives (run_prim env n p k prim vs) d → IsProof d.proof × IsStore d.proof.store
  unfolding run_prim
  run_kept n d few y =
      let c = gives_bind (scene env n vs p.store k) _ d y in
      let st = gives_bind (prim_row c.0 prim) (listed p k) d c.2 in
      let q = scene_is env n vs p.store k c.0 c.1 in
      let v = scene_valueless p.store k valueless in
      let s = scene_kept env n vs p.store k c.0 plain i g v.0 q in
      let same : c.0.store ≡ p.store = sym (ap (λ z. z.store) q.is) in
      let goal : k ≡ c.0.goal = ap (λ z. z.goal) q.is in
      let step = prim_kept c.0 prim st.0 s (along (λ z. has_value z.store z.goal ≡ false) q.is v.1)
      (along (λ z. length z.context + names_made prim + z.bound < 10 ^ 64) q.is (omega (arith, few q.variable q.there))) st.1 in
      row_listed_kept p c.0 st.0 h s same (along (IsThere p) goal there) step d (along (λ j. Gives (listed p j st.0) d) goal st.2)

  pub runs_kept : (n budget left : ℕ) (d : PrimDone) → LeavesRoom p.store k (names_made prim + suc budget) → budget < n → within budget (run_prim env n p k prim vs) ≡ done d left → IsProof d.proof × IsStore d.proof.store
  runs_kept n budget left d few l e =
      run_kept (suc budget) d few (done_gives budget (run_prim env (suc budget) p k prim vs) d left (agree_within budget _ _ (prim_settled env p k prim vs budget (suc budget) n (omega arith) l) budget (omega arith) ∙ e))
