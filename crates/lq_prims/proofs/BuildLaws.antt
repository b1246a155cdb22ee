-- What a row builds of new goals, goal by goal.
use Rattle.std.proofs.Common.{◌≡◌, ◌∙◌, refl, sym, ap, ℕ, suc, List, [], ◌∷◌, None, Result, Ok, Err}
use Rattle.lq_trees.specs.Tree.{Tree, Context}
use Rattle.lq_trees.specs.declared.Sort.{Sort as Universe}
use Rattle.lq_trees.specs.Tree.Tree.{Prod, App, Ind}
use Rattle.lq_trees.specs.Ticks.{gives, ◌>>=◌, done, ComesTo}
use Rattle.lq_trees.proofs.Outcomes.{comes_then, comes_gives}
use Rattle.lq_calculus.specs.Declarations.{Env as Environment}
use Rattle.lq_ast.specs.Syntax.{Surface}
use Rattle.lq_terms.specs.Terms.{Terms, tree_of}
use Rattle.lq_solving.specs.Stores.{Store}
use Rattle.lq_solving.specs.Elaboration.{Found, Givens}
use Rattle.lq_tactics.specs.Rows.{Doing, Scene, Done, done_by, goal_term, new_goal, term_of, goal_sort}
use Rattle.lq_tactics.specs.Primitives.{do_cut, do_exfalso}
use Rattle.lq_tactics.proofs.RowsKept.{IsScene, IsReached}
use Rattle.lq_tactics.proofs.ApplyKept.{IsFound}
use Rattle.lq_tactics.proofs.PrimsKept.{cut_reached, exfalso_reached}
use Rattle.lq_prims.proofs.TermLaws.{reached_any}
use Rattle.std.specs.Prelude.{IfOk, codes}
use Rattle.lq_prims.specs.declared.faults.PrimFault.{PrimFault}
use Rattle.lq_evars.specs.Places.{Places, store_of}
use Rattle.lq_prims.specs.declared.building.Built.{Built}
use Rattle.lq_prims.specs.Building.{built_done, cut_work, false_work, from_false}
use Rattle.lq_prims.specs.Scenes.{scene_by}
use Rattle.lq_prims.specs.Working.{Refuses, Does}
use Rattle.lq_prims.proofs.WorkLaws.{refuses_first, refuses_then, refuses_same, does_same, does_then, comes_is_given}

module _ (c : ℕ → Scene) (s : Store) (g : Context) (T t : Tree) (b : ℕ) where
  abbrev cut_first : ℕ → Doing (Store × ℕ)
  cut_first n = new_goal (c n) s g (Prod [] t T)

  abbrev cut_last : Store × ℕ → Store × ℕ → Done
  cut_last r q = done_by q.0 (App (goal_term r.1 g) (goal_term q.1 g)) (r.1 ∷ q.1 ∷ [])

  abbrev cut_rest : Store × ℕ → ℕ → Doing Done
  cut_rest r n = new_goal (c n) r.0 g t >>= λ q. gives (cut_last r q)

  cut_is : (n : ℕ) → (cut_first n >>= λ r. cut_rest r n) ≡ cut_work (c n) s g T t
  unfolding cut_work
  cut_is n = refl

  pub cut_refused : (bank : Terms) (e : PrimFault) (left : ℕ) → Refuses bank e cut_first b left → Refuses bank e (λ n. cut_work (c n) s g T t) b left
  cut_refused bank e left h = refuses_same bank e (λ n. cut_first n >>= λ r. cut_rest r n) (λ n. cut_work (c n) s g T t) b left cut_is (refuses_first bank e cut_first cut_rest b left h)

  module _ (l : ℕ) (r : Store × ℕ) (h : ComesTo cut_first b (done r l)) where
    pub cut_stops : (bank : Terms) (e : PrimFault) (left : ℕ) → Refuses bank e (λ n. new_goal (c n) r.0 g t) l left → Refuses bank e (λ n. cut_work (c n) s g T t) b left
    cut_stops bank e left k =
        refuses_same bank e (λ n. cut_first n >>= λ x. cut_rest x n) (λ n. cut_work (c n) s g T t) b left cut_is
        (refuses_then bank e cut_first cut_rest b l left r h (refuses_first bank e (λ n. new_goal (c n) r.0 g t) (λ q n. gives (cut_last r q)) l left k))

    pub cut_done : (left : ℕ) (q : Store × ℕ) → ComesTo (λ n. new_goal (c n) r.0 g t) l (done q left) → ComesTo (λ n. cut_work (c n) s g T t) b (done (cut_last r q) left)
    unfolding cut_work ◌>>=◌
    cut_done left q k =
        comes_then cut_first cut_rest b r l (done (cut_last r q) left) h
        (comes_then (λ n. new_goal (c n) r.0 g t) (λ x n. gives (cut_last r x)) l q left (done (cut_last r q) left) k (comes_gives (λ n. gives (cut_last r q)) (cut_last r q) left (λ n. refl)))

-- a new goal by equal parts
pub goal_as : {X : Type 0} (late : Terms) (tell : X → Store × ℕ) (r : Result X PrimFault) (c : ℕ → Scene) (s1 s2 : Store) (g1 g2 : Context) (t1 t2 : Tree) (b left : ℕ) → s1 ≡ s2 → g1 ≡ g2 → t1 ≡ t2 →
    Does late tell r (λ n. new_goal (c n) s1 g1 t1) b left → Does late tell r (λ n. new_goal (c n) s2 g2 t2) b left
goal_as late tell r c s1 s2 g1 g2 t1 t2 b left e f h d =
    does_same late tell r (λ n. new_goal (c n) s1 g1 t1) (λ n. new_goal (c n) s2 g2 t2) b left (λ n. ap (λ z. new_goal (c n) z g1 t1) e ∙ ap (λ z. new_goal (c n) s2 z t1) f ∙ ap (new_goal (c n) s2 g2) h) d

-- what was built
pub built_is : (bank : Terms) (p : Places) (b : Built) (s : Store) (t : Tree) (ks : List ℕ) → store_of bank p ≡ s → tree_of bank b.body ≡ t → b.goals.items ≡ ks → done_by s t ks ≡ built_done bank p b
built_is bank p b s t ks e f h = ap (λ z. done_by z t ks) (sym e) ∙ ap (λ z. done_by (store_of bank p) z ks) (sym f) ∙ ap (done_by (store_of bank p) (tree_of bank b.body)) (sym h)

-- ---- `cut`, by its term

module _ (E : Environment) (s : Store) (k : ℕ) (g : Context) (T : Tree) (vs : Givens) (A : Surface) (b : ℕ) where
  abbrev scenes : ℕ → Scene
  scenes n = scene_by E s k g T vs n

  abbrev cut_terms : ℕ → Doing Found
  cut_terms n = term_of (scenes n) A None

  abbrev cut_after : Found → ℕ → Doing Done
  cut_after f n = cut_work (scenes n) f.store g T f.term

  do_cut_is : (n : ℕ) → (cut_terms n >>= λ f. cut_after f n) ≡ do_cut (scenes n) A
  unfolding do_cut cut_work
  do_cut_is n = refl

  pub cut_found : (bank : Terms) (e : PrimFault) (left : ℕ) → Refuses bank e cut_terms b left → Refuses bank e (λ n. do_cut (scenes n) A) b left
  cut_found bank e left h = refuses_same bank e (λ n. cut_terms n >>= λ f. cut_after f n) (λ n. do_cut (scenes n) A) b left do_cut_is (refuses_first bank e cut_terms cut_after b left h)

  pub cut_term : (l : ℕ) (f : Found) → ComesTo cut_terms b (done f l) → (g1 : Context) (T1 : Tree) → g1 ≡ g → T1 ≡ T → {X : Type 0} (bank : Terms) (tell : X → Done) (r : Result X PrimFault) (left : ℕ) →
      Does bank tell r (λ n. cut_work (scenes n) f.store g1 T1 f.term) l left → Does bank tell r (λ n. do_cut (scenes n) A) b left
  cut_term l f h g1 T1 e q bank tell r left d =
      does_same bank tell r (λ n. cut_terms n >>= λ x. cut_after x n) (λ n. do_cut (scenes n) A) b left do_cut_is
      (does_then bank tell r cut_terms cut_after b l left f h
      (does_same bank tell r (λ n. cut_work (scenes n) f.store g1 T1 f.term) (cut_after f) l left (λ n. ap (λ z. cut_work (scenes n) f.store z T1 f.term) e ∙ ap (λ z. cut_work (scenes n) f.store g z f.term) q) d))

  pub cut_reaches : {X : Type 0} (bank : Terms) (tell : X → Done) (r : Result X PrimFault) (left : ℕ) (d : Scene) → Does bank tell r (λ n. do_cut (scenes n) A) b left → IsScene (scenes (suc b)) → IsFound (scenes (suc b)) A None →
      s ≡ d.store → g ≡ d.context → IfOk r (λ x. IsReached d (tell x))
  cut_reaches bank tell (Ok x) left d h i f e q =
      reached_any (scenes (suc b)) d (tell x) e q (cut_reached (scenes (suc b)) i A (tell x) f (comes_is_given (λ n. do_cut (scenes n) A) b left (tell x) h))
  cut_reaches bank tell (Err e) left d h i f p q = tt

-- ---- `exfalso`

module _ (E : Environment) (s : Store) (k : ℕ) (g : Context) (T : Tree) (vs : Givens) (b : ℕ) where
  abbrev at : ℕ → Scene
  at n = scene_by E s k g T vs n

  false_is : (n : ℕ) → (goal_sort (at n) >>= λ u. false_work (at n) s g T u) ≡ do_exfalso (at n)
  unfolding do_exfalso false_work
  false_is n = refl

  pub false_refused : (bank : Terms) (e : PrimFault) (left : ℕ) → Refuses bank e (λ n. goal_sort (at n)) b left → Refuses bank e (λ n. do_exfalso (at n)) b left
  false_refused bank e left h =
      refuses_same bank e (λ n. goal_sort (at n) >>= λ u. false_work (at n) s g T u) (λ n. do_exfalso (at n)) b left false_is (refuses_first bank e (λ n. goal_sort (at n)) (λ u n. false_work (at n) s g T u) b left h)

  pub false_sort : (l : ℕ) (u : Universe) → ComesTo (λ n. goal_sort (at n)) b (done u l) → (g1 : Context) → g1 ≡ g → {X : Type 0} (bank : Terms) (tell : X → Done) (r : Result X PrimFault) (left : ℕ) →
      Does bank tell r (λ n. false_work (at n) s g1 T u) l left → Does bank tell r (λ n. do_exfalso (at n)) b left
  false_sort l u h g1 e bank tell r left d =
      does_same bank tell r (λ n. goal_sort (at n) >>= λ x. false_work (at n) s g T x) (λ n. do_exfalso (at n)) b left false_is
      (does_then bank tell r (λ n. goal_sort (at n)) (λ x n. false_work (at n) s g T x) b l left u h
      (does_same bank tell r (λ n. false_work (at n) s g1 T u) (λ n. false_work (at n) s g T u) l left (λ n. ap (λ z. false_work (at n) s z T u) e) d))

  pub false_reaches : {X : Type 0} (bank : Terms) (tell : X → Done) (r : Result X PrimFault) (left : ℕ) (d : Scene) → Does bank tell r (λ n. do_exfalso (at n)) b left → IsScene (at (suc b)) → s ≡ d.store → g ≡ d.context → IfOk r (λ x. IsReached d (tell x))
  false_reaches bank tell (Ok x) left d h i e q =
      reached_any (at (suc b)) d (tell x) e q (exfalso_reached (at (suc b)) i (tell x) (comes_is_given (λ n. do_exfalso (at n)) b left (tell x) h))
  false_reaches bank tell (Err e) left d h i p q = tt

module _ (c : ℕ → Scene) (s : Store) (g : Context) (T : Tree) (u : Universe) (b left : ℕ) where
  abbrev false_first : ℕ → Doing (Store × ℕ)
  false_first n = new_goal (c n) s g (Ind (codes "False"))

  abbrev false_last : Store × ℕ → Done
  false_last r = done_by r.0 (from_false u T (goal_term r.1 g)) (r.1 ∷ [])

  pub false_stops : (bank : Terms) (e : PrimFault) → Refuses bank e false_first b left → Refuses bank e (λ n. false_work (c n) s g T u) b left
  unfolding false_work
  false_stops bank e h = refuses_first bank e false_first (λ r n. gives (false_last r)) b left h

  pub false_done : (r : Store × ℕ) → ComesTo false_first b (done r left) → ComesTo (λ n. false_work (c n) s g T u) b (done (false_last r) left)
  unfolding false_work
  false_done r h = comes_then false_first (λ x n. gives (false_last x)) b r left (done (false_last r) left) h (comes_gives (λ n. gives (false_last r)) (false_last r) left (λ n. refl))

-- the goal of `exfalso` by equal parts
pub false_as : (c : ℕ → Scene) (s1 s2 : Store) (g : Context) (T1 T2 : Tree) (u : Universe) → s1 ≡ s2 → T1 ≡ T2 → {X : Type 0} (bank : Terms) (tell : X → Done) (r : Result X PrimFault) (b left : ℕ) →
    Does bank tell r (λ n. false_work (c n) s1 g T1 u) b left → Does bank tell r (λ n. false_work (c n) s2 g T2 u) b left
false_as c s1 s2 g T1 T2 u e f bank tell r b left d =
    does_same bank tell r (λ n. false_work (c n) s1 g T1 u) (λ n. false_work (c n) s2 g T2 u) b left (λ n. ap (λ z. false_work (c n) z g T1 u) e ∙ ap (λ z. false_work (c n) s2 g z u) f) d
