-- `exists`, step by step.
use Rattle.std.proofs.Common.{◌≡◌, ◌<◌, ◌^◌, ◌∙◌, ℕ, suc, refl, sym, ap, arith, length, true, false, List, [], Option, Some, None, Result, Ok, Err}
use Rattle.std.proofs.Common.{subst as along}
use Rattle.std.specs.Prelude.{slice_get, IfOk}
use Rattle.lq_trees.specs.Change.{subst}
use Rattle.lq_trees.specs.Hypotheses.{HoldsOnly}
use Rattle.lq_trees.specs.Index.{Within}
use Rattle.lq_trees.specs.Tree.{Name, Tree, Context}
use Rattle.lq_trees.specs.Tree.Tree.{Rel, Var, Sort, Prod, Lam, Let, App, Const, Ind, Ctor, Elim, Evar}
use Rattle.lq_trees.specs.Ticks.{gives, fails, ◌>>=◌, done, ComesTo}
use Rattle.lq_trees.proofs.Outcomes.{comes_fails, comes_gives}
use Rattle.lq_calculus.specs.Declarations.{Env as Environment}
use Rattle.lq_calculus.proofs.Comparison.{bind_same}
use Rattle.lq_calculus.proofs.ConvSound.{Gives, gives_bind}
use Rattle.lq_ast.specs.Syntax.{Surface}
use Rattle.lq_terms.specs.declared.nodes.Hypothesis.{Hypothesis}
use Rattle.lq_terms.specs.declared.nodes.NameId.{NameId}
use Rattle.lq_terms.specs.declared.nodes.TermId.{TermId}
use Rattle.lq_terms.specs.Contexts.{context_of}
use Rattle.lq_terms.specs.Terms.{Terms, IsTerm, Grows, tree_of}
use Rattle.lq_env.specs.declared.environment.Declared.{Declared}
use Rattle.lq_solving.specs.Stores.{Store, names_in}
use Rattle.lq_solving.specs.Kept.{Stands, StandsIn}
use Rattle.lq_solving.specs.Elaboration.{Found, Givens, found}
use Rattle.lq_solving.proofs.ElabKept.{Grown}
use Rattle.lq_solving.proofs.ElabStands.{Finds}
use Rattle.lq_solving.proofs.Good.{IsGood, good_holds, good_within}
use Rattle.lq_solving.proofs.Later.{good_stands}
use Rattle.lq_solving.proofs.StandsLaws.{StandsUnder, app_stands, domain_stands, rest_stands, subst_stands}
use Rattle.lq_evars.specs.Places.{Places, HasStore, store_of}
use Rattle.lq_evars.proofs.Growing.{store_of-grown}
use Rattle.lq_tactics.specs.Applying.{Inductive as TreeInductive, goal_inductive, has_number, constructor_found, constructor_at, apply_found}
use Rattle.lq_tactics.specs.Primitives.{is_binder, exists_found, do_exists}
use Rattle.lq_tactics.specs.Rows.{Doing, Scene, Done, term_of, no_argument}
use Rattle.lq_tactics.proofs.ApplyKept.{apply_found_reached}
use Rattle.lq_tactics.proofs.ConstructorsKept.{IsInductive, constructor_finds, kind_good, right_number}
use Rattle.lq_tactics.proofs.RowsKept.{IsScene, IsReached}
use Rattle.lq_prims.specs.declared.faults.PrimFault.{PrimFault}
use Rattle.lq_prims.specs.declared.inductives.Typed.{Typed}
use Rattle.lq_prims.specs.Existing.{single_work, only_work, argument_work, exists_work, IsFunction, TakesArgument}
use Rattle.lq_prims.specs.Inductives.{found_by, HasTyped}
use Rattle.lq_prims.specs.Making.{IsIn, HasIn}
use Rattle.lq_prims.specs.Scenes.{IsPlaced, context_at, scene_by, scene_in}
use Rattle.lq_prims.specs.Working.{Refuses, Does, Tells}
use Rattle.lq_prims.proofs.MakingLaws.{same_store, same_context, term_later}
use Rattle.lq_prims.proofs.OpenLaws.{then_again}
use Rattle.lq_prims.proofs.SceneLaws.{plain_scene}
use Rattle.lq_prims.proofs.TermLaws.{reached_any}
use Rattle.lq_prims.proofs.WorkLaws.{comes_is_given, refuses_at, refuses_first, refuses_same, does_same, does_then, does_at_once}

-- ---- the only constructor of a type

abbrev at_first : Scene → TreeInductive → Doing Found
at_first c i = constructor_found c i 0 (slice_get i.family.constructors 0)

module _ (c : Scene) (i : TreeInductive) where
  single_is : (has_number 1 i >>= at_first c) ≡ single_work c i
  unfolding single_work
  single_is = refl

  pub single_wrong : (bank : Terms) (x : PrimFault) (b : ℕ) → Refuses bank x (λ n. has_number 1 i) b b → Refuses bank x (λ n. single_work c i) b b
  single_wrong bank x b h =
      refuses_same bank x (λ n. has_number 1 i >>= at_first c) (λ n. single_work c i) b b (λ n. single_is) (refuses_first bank x (λ n. has_number 1 i) (λ j n. at_first c j) b b h)

  pub single_right : has_number 1 i ≡ gives i → at_first c i ≡ single_work c i
  unfolding ◌>>=◌ single_work
  single_right e = sym (ap (λ w. w >>= at_first c) e)

-- it looks at the scene's store alone
same_found : (c d : Scene) → c.store ≡ d.store → (i : TreeInductive) (k : ℕ) (o : Option (Name × Tree)) → constructor_found c i k o ≡ constructor_found d i k o
unfolding constructor_found constructor_at
same_found c d e i k None = refl
same_found c d e i k (Some p) = ap (λ s. gives (constructor_at (record { env = c.env; bound = c.bound; values = c.values; store = s; goal = c.goal; context = c.context; kind = c.kind }) i k p.1)) e

same_single : (c d : Scene) → c.store ≡ d.store → (i : TreeInductive) → single_work c i ≡ single_work d i
unfolding single_work
same_single c d e i = bind_same (has_number 1 i) (at_first c) (at_first d) (λ j. same_found c d e j 0 (slice_get j.family.constructors 0))

-- ---- the only constructor of the goal's type, and what it builds

module _ (E : Environment) (s : Store) (k : ℕ) (g : Context) (T : Tree) (vs : Givens) where
  abbrev at_goal : ℕ → Scene
  at_goal n = scene_by E s k g T vs n

  only_is : (n : ℕ) → (goal_inductive (at_goal n) >>= λ i. single_work (at_goal n) i) ≡ only_work (at_goal n)
  unfolding only_work
  only_is n = refl

  pub only_unfound : (bank : Terms) (x : PrimFault) (b left : ℕ) → Refuses bank x (λ n. goal_inductive (at_goal n)) b left → Refuses bank x (λ n. only_work (at_goal n)) b left
  only_unfound bank x b left h =
      refuses_same bank x (λ n. goal_inductive (at_goal n) >>= λ i. single_work (at_goal n) i) (λ n. only_work (at_goal n)) b left only_is
      (refuses_first bank x (λ n. goal_inductive (at_goal n)) (λ i n. single_work (at_goal n) i) b left h)

  pub only_then : (b l : ℕ) (i : TreeInductive) → ComesTo (λ n. goal_inductive (at_goal n)) b (done i l) → {X : Type 0} (bank : Terms) (tell : X → Found) (r : Result X PrimFault) → Tells bank tell r (single_work (at_goal 0) i) →
      Does bank tell r (λ n. only_work (at_goal n)) b l
  only_then b l i h bank tell r t =
      does_same bank tell r (λ n. goal_inductive (at_goal n) >>= λ j. single_work (at_goal n) j) (λ n. only_work (at_goal n)) b l only_is
      (does_then bank tell r (λ n. goal_inductive (at_goal n)) (λ j n. single_work (at_goal n) j) b l l i h
      (does_same bank tell r (λ n. single_work (at_goal 0) i) (λ n. single_work (at_goal n) i) l l (λ n. same_single (at_goal 0) (at_goal n) refl i) (does_at_once bank tell r (single_work (at_goal 0) i) t l)))

  module _ (t : Surface) where
    -- the definition by these
    exists_is : (n : ℕ) → (only_work (at_goal n) >>= λ f. exists_work (at_goal n) t f) ≡ do_exists (at_goal n) t
    unfolding do_exists only_work single_work exists_work
    exists_is n =
        let c = at_goal n in
        ap (λ w. w >>= λ f. exists_work c t f) (then_again (goal_inductive c) (has_number 1) (at_first c)) ∙ sym (then_again (goal_inductive c >>= has_number 1) (at_first c) (λ f. exists_work c t f))

    pub exists_unfound : (bank : Terms) (x : PrimFault) (b left : ℕ) → Refuses bank x (λ n. only_work (at_goal n)) b left → Refuses bank x (λ n. do_exists (at_goal n) t) b left
    exists_unfound bank x b left h =
        refuses_same bank x (λ n. only_work (at_goal n) >>= λ f. exists_work (at_goal n) t f) (λ n. do_exists (at_goal n) t) b left exists_is
        (refuses_first bank x (λ n. only_work (at_goal n)) (λ f n. exists_work (at_goal n) t f) b left h)

    pub exists_only : (b l : ℕ) (f : Found) → ComesTo (λ n. only_work (at_goal n)) b (done f l) → {X : Type 0} (bank : Terms) (tell : X → Done) (r : Result X PrimFault) (left : ℕ) → Does bank tell r (λ n. exists_work (at_goal n) t f) l left →
        Does bank tell r (λ n. do_exists (at_goal n) t) b left
    exists_only b l f h bank tell r left d =
        does_same bank tell r (λ n. only_work (at_goal n) >>= λ f. exists_work (at_goal n) t f) (λ n. do_exists (at_goal n) t) b left exists_is
        (does_then bank tell r (λ n. only_work (at_goal n)) (λ f n. exists_work (at_goal n) t f) b l left f h d)

    -- ---- a function that takes the written term

    module _ (f : Found) where
      work_is : (n : ℕ) → (exists_found (at_goal n) t f f.kind >>= λ h. apply_found (at_goal n) true h) ≡ exists_work (at_goal n) t f
      unfolding exists_work
      work_is n = refl

      pub not_argued : (bank : Terms) (x : PrimFault) (b left : ℕ) → Refuses bank x (λ n. exists_found (at_goal n) t f f.kind) b left → Refuses bank x (λ n. exists_work (at_goal n) t f) b left
      not_argued bank x b left h =
          refuses_same bank x (λ n. exists_found (at_goal n) t f f.kind >>= λ h. apply_found (at_goal n) true h) (λ n. exists_work (at_goal n) t f) b left work_is
          (refuses_first bank x (λ n. exists_found (at_goal n) t f f.kind) (λ h n. apply_found (at_goal n) true h) b left h)

      pub argued_then : (b l : ℕ) (h : Found) → ComesTo (λ n. exists_found (at_goal n) t f f.kind) b (done h l) → {X : Type 0} (bank : Terms) (tell : X → Done) (r : Result X PrimFault) (left : ℕ) →
          Does bank tell r (λ n. apply_found (at_goal n) true h) l left → Does bank tell r (λ n. exists_work (at_goal n) t f) b left
      argued_then b l h e bank tell r left d =
          does_same bank tell r (λ n. exists_found (at_goal n) t f f.kind >>= λ h. apply_found (at_goal n) true h) (λ n. exists_work (at_goal n) t f) b left work_is
          (does_then bank tell r (λ n. exists_found (at_goal n) t f f.kind) (λ h n. apply_found (at_goal n) true h) b l left h e d)

      -- its type is no product
      no_product : (n : ℕ) (U : Tree) → is_binder U ≡ false → exists_found (at_goal n) t f U ≡ fails no_argument
      unfolding exists_found is_binder
      no_product n (Prod x A B) e = absurd (grind (arith, e))
      no_product n (Let x v A B) e = absurd (grind (arith, e))
      no_product n (Rel i) e = refl
      no_product n (Var x) e = refl
      no_product n (Sort u) e = refl
      no_product n (Lam x A u) e = refl
      no_product n (App u v) e = refl
      no_product n (Const x) e = refl
      no_product n (Ind x) e = refl
      no_product n (Ctor x j) e = refl
      no_product n (Elim x u) e = refl
      no_product n (Evar j ts) e = refl

      pub takes_none : (U : Tree) → is_binder U ≡ false → (bank : Terms) (b : ℕ) → Refuses bank PrimFault.NoArgument (λ n. exists_found (at_goal n) t f U) b b
      takes_none U e bank b =
          refuses_at bank PrimFault.NoArgument no_argument (λ n. exists_found (at_goal n) t f U) b b refl (comes_fails (λ n. exists_found (at_goal n) t f U) no_argument b (λ n. no_product n U e))

      pub takes_none_let : (U : Tree) (x : Name) (v A B : Tree) → U ≡ Let x v A B → (bank : Terms) (b : ℕ) → Refuses bank PrimFault.NoArgument (λ n. exists_found (at_goal n) t f U) b b
      unfolding exists_found
      takes_none_let U x v A B e bank b =
          refuses_at bank PrimFault.NoArgument no_argument (λ n. exists_found (at_goal n) t f U) b b refl (comes_fails (λ n. exists_found (at_goal n) t f U) no_argument b (λ n. ap (exists_found (at_goal n) t f) e))

      -- its type is a product
      pub takes_one : (U : Tree) (x : Name) (A B : Tree) → U ≡ Prod x A B → {X : Type 0} (bank : Terms) (tell : X → Found) (r : Result X PrimFault) (b left : ℕ) → Does bank tell r (λ n. argument_work (at_goal n) t f.term A B) b left →
          Does bank tell r (λ n. exists_found (at_goal n) t f U) b left
      unfolding exists_found argument_work
      takes_one U x A B e bank tell r b left d =
          does_same bank tell r (λ n. argument_work (at_goal n) t f.term A B) (λ n. exists_found (at_goal n) t f U) b left (λ n. ap (exists_found (at_goal n) t f) (sym e)) d

    -- ---- its argument

    module _ (F A B : Tree) where
      abbrev written : ℕ → Doing Found
      written n = term_of (at_goal n) t (Some A)

      abbrev with_it : Found → ℕ → Doing Found
      with_it h n = gives (found h.store (App F h.term) (subst h.term B))

      argument_is : (n : ℕ) → (written n >>= λ h. with_it h n) ≡ argument_work (at_goal n) t F A B
      unfolding argument_work
      argument_is n = refl

      pub argument_unfound : (bank : Terms) (x : PrimFault) (b left : ℕ) → Refuses bank x written b left → Refuses bank x (λ n. argument_work (at_goal n) t F A B) b left
      argument_unfound bank x b left h = refuses_same bank x (λ n. written n >>= λ h. with_it h n) (λ n. argument_work (at_goal n) t F A B) b left argument_is (refuses_first bank x written with_it b left h)

      pub argument_found : (b l : ℕ) (h : Found) → ComesTo written b (done h l) → {X : Type 0} (bank : Terms) (tell : X → Found) (x : X) → tell x ≡ found h.store (App F h.term) (subst h.term B) →
          Does bank tell (Ok x) (λ n. argument_work (at_goal n) t F A B) b l
      argument_found b l h e bank tell x is =
          does_same bank tell (Ok x) (λ n. written n >>= λ h. with_it h n) (λ n. argument_work (at_goal n) t F A B) b l argument_is
          (does_then bank tell (Ok x) written with_it b l l h e (comes_gives (with_it h) (tell x) l (λ n. ap gives (sym is))))

  -- ---- what is reached

  pub found_reaches : {X : Type 0} (bank : Terms) (tell : X → Done) (r : Result X PrimFault) (b left : ℕ) (h : Found) (d : Scene) → Does bank tell r (λ n. apply_found (at_goal n) true h) b left → IsScene (at_goal (suc b)) → Finds s g h →
      length g < 2 ^ 64 → suc b < 2 ^ 65 → s ≡ d.store → g ≡ d.context → IfOk r (λ y. IsReached d (tell y))
  found_reaches bank tell (Ok y) b left h d e i f few m p q =
      reached_any (at_goal (suc b)) d (tell y) p q (apply_found_reached (at_goal (suc b)) i true h (tell y) f (omega (arith, few, m)) (comes_is_given (λ n. apply_found (at_goal n) true h) b left (tell y) e))
  found_reaches bank tell (Err x) b left h d e i f few m p q = tt

-- ---- the only constructor stands, and its type is as it reads

module _ (c : Scene) (q : IsScene c) (i : TreeInductive) (h : IsInductive c i) where
  first_good : (f : Found) (o : Option (Name × Tree)) → slice_get i.family.constructors 0 ≡ o → Gives (constructor_found c i 0 o) f → IsGood c.store.variables c.store.values (names_in c.context) 0 f.kind
  unfolding constructor_found constructor_at
  first_good f None e z = absurd z
  first_good f (Some d) e z = along (λ w. IsGood c.store.variables c.store.values (names_in c.context) 0 w.kind) z (kind_good c q i h 0 d e)

module _ (bank : Terms) (ds : List (NameId × Declared)) (s : Places) (k : ℕ) (T : TermId) (p : IsPlaced bank ds s k T) (b l : ℕ) (new : Terms) (grows : Grows bank new) (f : Typed) (has : HasTyped new f)
    (h : ComesTo (λ n. only_work (scene_in bank ds s k T [] n)) b (done (found_by new (store_of bank s) f) l)) where
  pub only_stands : IsFunction new s (context_at (store_of new s) k) f
  unfolding only_work single_work
  only_stands =
      let c = scene_in bank ds s k T [] (suc b) in
      let q = plain_scene bank ds s k T p (suc b) in
      let d = found_by new (store_of bank s) f in
      let same = sym (store_of-grown bank new grows s p.place.store) in
      let y = comes_is_given (λ n. only_work (scene_in bank ds s k T [] n)) b l d h in
      let i = gives_bind (goal_inductive c >>= has_number 1) (at_first c) d (along (λ w. Gives w d) (then_again (goal_inductive c) (has_number 1) (at_first c)) y) in
      let right = right_number c q 1 i.0 i.1 in
      let finds = constructor_finds c q i.0 right 0 d i.2 in
      record {
        term = has.0;
        kind = has.1;
        stands = along (λ z. StandsIn z (context_at z k) (tree_of new f.term)) same finds.1;
        good = along (λ z. IsGood z.variables z.values (names_in (context_at z k)) 0 (tree_of new f.kind)) same (first_good c q i.0 right d (slice_get i.0.family.constructors 0) refl i.2);
      }

module _ (bank : Terms) (ds : List (NameId × Declared)) (s : Places) (k : ℕ) (T : TermId) (p : IsPlaced bank ds s k T) (b l : ℕ) (new : Terms) (grows : Grows bank new) where
  pub only_stood : (r : Result Typed PrimFault) → IfOk r (HasTyped new) → Does new (found_by new (store_of bank s)) r (λ n. only_work (scene_in bank ds s k T [] n)) b l → IfOk r (IsFunction new s (context_at (store_of new s) k))
  only_stood (Ok f) has h = only_stands bank ds s k T p b l new grows f has h
  only_stood (Err x) has h = tt

-- ---- an argument

-- what is made of terms that stand in a context stands there
module _ (old new : Terms) (grows : Grows old new) (s : Places) (hs : List Hypothesis) (i : IsIn old s hs) where
  stands_made : (t : Tree) → StandsIn (store_of old s) (context_of old hs) t → (u : TermId) → IsTerm new u t → HasIn new s hs u
  stands_made t h u is = record {
    has = is.has;
    stands = along (λ z. StandsIn z (context_of new hs) (tree_of new u)) (sym (same_store old new grows s hs i))
        (along (λ z. StandsIn (store_of old s) z (tree_of new u)) (sym (same_context old new grows s hs i)) (along (StandsIn (store_of old s) (context_of old hs)) (sym is.is) h));
  }

module _ (old : Terms) (s : Places) (hs : List Hypothesis) (i : IsIn old s hs) (F A B : TermId) (q : TakesArgument old s hs F A B) where
  abbrev xs : List Name
  xs = names_in (context_of old hs)

  product : Stands (store_of old s) xs (Prod [] (tree_of old A) (tree_of old B))
  product = good_stands (store_of old s) i.kept (store_of old s).values xs (Prod [] (tree_of old A) (tree_of old B)) q.good

  -- the domain
  pub domain_in : HasIn old s hs A
  domain_in = record { has = q.domain; stands = domain_stands (store_of old s) i.kept xs [] (tree_of old A) (tree_of old B) product }

  module _ (mid : Terms) (grows : Grows old mid) where
    -- the rest below its binder, as it is
    pub rest_held : HoldsOnly (names_in (context_of mid hs)) (tree_of mid B)
    rest_held =
        along (λ z. HoldsOnly (names_in z) (tree_of mid B)) (sym (same_context old mid grows s hs i))
        (along (HoldsOnly xs) (sym (grows.tree B q.rest)) (good_holds (store_of old s).variables (store_of old s).values xs 1 (tree_of old B) q.good.1))

    pub rest_within : Within 1 (tree_of mid B)
    rest_within = along (Within 1) (sym (grows.tree B q.rest)) (good_within (store_of old s).variables (store_of old s).values xs 1 (tree_of old B) q.good.1)

    module _ (s1 : Places) (has : HasStore mid s1) (grown : Grown (store_of old s) (store_of mid s1)) (j : IsIn mid s1 hs) (v : TermId) (h : HasIn mid s1 hs v) (late : Terms) (more : Grows mid late) where
      -- the function with its argument
      pub applied_in : (u : TermId) → IsTerm late u (App (tree_of mid F) (tree_of mid v)) → HasIn late s1 hs u
      applied_in u is =
          stands_made mid late more s1 hs j (App (tree_of mid F) (tree_of mid v))
          (app_stands (store_of mid s1) j.kept (names_in (context_of mid hs)) (tree_of mid F) (tree_of mid v) (term_later old mid grows s hs i s1 has grown F q.function).stands h.stands) u is

      rest_later : StandsUnder (store_of mid s1) (names_in (context_of mid hs)) 1 (tree_of mid B)
      rest_later =
          along (λ z. StandsUnder (store_of mid s1) (names_in z) 1 (tree_of mid B)) (sym (same_context old mid grows s hs i))
          (along (StandsUnder (store_of mid s1) xs 1) (sym (grows.tree B q.rest)) (rest_stands (store_of mid s1) j.kept xs [] (tree_of old A) (tree_of old B) (grown.keeps xs (Prod [] (tree_of old A) (tree_of old B)) product)))

      -- what is left of its type
      pub left_in : (u : TermId) → IsTerm late u (subst (tree_of mid v) (tree_of mid B)) → HasIn late s1 hs u
      left_in u is =
          stands_made mid late more s1 hs j (subst (tree_of mid v) (tree_of mid B)) (subst_stands (store_of mid s1) j.kept (names_in (context_of mid hs)) (tree_of mid v) (tree_of mid B) h.stands rest_later) u is
