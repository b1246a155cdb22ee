-- `assert`, step by step.
use Rattle.std.proofs.Common.{◌≡◌, ◌∙◌, refl, sym, ap, ℕ, suc, [], ◌∷◌, None, Result, Ok, Err}
use Rattle.std.proofs.Common.{subst as along}
use Rattle.std.specs.Prelude.{IfOk}
use Rattle.lq_trees.specs.declared.Sort.{Sort as Universe}
use Rattle.lq_trees.specs.Tree.{Name, Tree, Context}
use Rattle.lq_trees.specs.Tree.Tree.{Lam, App}
use Rattle.lq_trees.specs.Change.{close}
use Rattle.lq_trees.specs.Fresh.{under}
use Rattle.lq_trees.specs.Ticks.{gives, ◌>>=◌, done, ComesTo}
use Rattle.lq_trees.proofs.Outcomes.{comes_then, comes_gives}
use Rattle.lq_calculus.specs.Declarations.{Env as Environment}
use Rattle.lq_calculus.proofs.ConvSound.{Gives, gives_bind}
use Rattle.lq_ast.specs.Syntax.{Surface}
use Rattle.lq_terms.specs.Terms.{Terms}
use Rattle.lq_solving.specs.Stores.{Store}
use Rattle.lq_solving.specs.Elaboration.{Found, Givens, found_sort}
use Rattle.lq_tactics.specs.Rows.{Doing, Scene, Done, done_by, elab_work, goal_term, new_goal, site, term_of, unused}
use Rattle.lq_tactics.specs.Primitives.{do_assert, type_term}
use Rattle.lq_tactics.proofs.RowsKept.{IsScene, IsReached}
use Rattle.lq_tactics.proofs.ApplyKept.{IsFound}
use Rattle.lq_tactics.proofs.PrimsKept.{assert_reached}
use Rattle.lq_prims.specs.declared.faults.PrimFault.{PrimFault}
use Rattle.lq_prims.specs.Building.{assert_work}
use Rattle.lq_prims.specs.Scenes.{scene_by}
use Rattle.lq_prims.specs.Working.{Refuses, Does}
use Rattle.lq_prims.proofs.TermLaws.{reached_any}
use Rattle.lq_prims.proofs.WorkLaws.{refuses_first, refuses_then, refuses_same, does_same, does_then, does_after, comes_is_given}

-- a written type is a written term
pub type_written : (c : Scene) (A : Surface) (f : Found) → Gives (type_term c A) f → Gives (term_of c A None) f
unfolding type_term
type_written c A f y =
    let h = gives_bind (term_of c A None) (λ h. elab_work (found_sort (site c) c.context h) >>= λ u. gives h) f y in
    let u = gives_bind (elab_work (found_sort (site c) c.context h.0)) (λ u. gives h.0) f h.2 in
    along (Gives (term_of c A None)) u.2 h.1

module _ (c : ℕ → Scene) (s : Store) (g : Context) (T : Tree) (x : Name) (A : Tree) (b : ℕ) where
  abbrev assert_first : ℕ → Doing (Store × ℕ)
  assert_first n = new_goal (c n) s g A

  abbrev assert_second : Store × ℕ → ℕ → Doing (Store × ℕ)
  assert_second r n = new_goal (c n) r.0 (under g x A) T

  abbrev assert_last : Store × ℕ → Store × ℕ → Done
  assert_last r q = done_by q.0 (App (Lam x A (close x (goal_term q.1 (under g x A)))) (goal_term r.1 g)) (r.1 ∷ q.1 ∷ [])

  abbrev assert_rest : Store × ℕ → ℕ → Doing Done
  assert_rest r n = assert_second r n >>= λ q. gives (assert_last r q)

  assert_is : (n : ℕ) → (assert_first n >>= λ r. assert_rest r n) ≡ assert_work (c n) s g T x A
  unfolding assert_work
  assert_is n = refl

  pub assert_refused : (bank : Terms) (e : PrimFault) (left : ℕ) → Refuses bank e assert_first b left → Refuses bank e (λ n. assert_work (c n) s g T x A) b left
  assert_refused bank e left h = refuses_same bank e (λ n. assert_first n >>= λ r. assert_rest r n) (λ n. assert_work (c n) s g T x A) b left assert_is (refuses_first bank e assert_first assert_rest b left h)

  module _ (l : ℕ) (r : Store × ℕ) (h : ComesTo assert_first b (done r l)) where
    pub assert_stops : (bank : Terms) (e : PrimFault) (left : ℕ) → Refuses bank e (assert_second r) l left → Refuses bank e (λ n. assert_work (c n) s g T x A) b left
    assert_stops bank e left k =
        refuses_same bank e (λ n. assert_first n >>= λ y. assert_rest y n) (λ n. assert_work (c n) s g T x A) b left assert_is
        (refuses_then bank e assert_first assert_rest b l left r h (refuses_first bank e (assert_second r) (λ q n. gives (assert_last r q)) l left k))

    pub assert_done : (left : ℕ) (q : Store × ℕ) → ComesTo (assert_second r) l (done q left) → ComesTo (λ n. assert_work (c n) s g T x A) b (done (assert_last r q) left)
    unfolding assert_work ◌>>=◌
    assert_done left q k =
        comes_then assert_first assert_rest b r l (done (assert_last r q) left) h
        (comes_then (assert_second r) (λ y n. gives (assert_last r y)) l q left (done (assert_last r q) left) k (comes_gives (λ n. gives (assert_last r q)) (assert_last r q) left (λ n. refl)))

-- the two goals by equal parts
pub assert_as : {X : Type 0} (late : Terms) (tell : X → Done) (r : Result X PrimFault) (c : ℕ → Scene) (s : Store) (g1 g2 : Context) (T1 T2 : Tree) (x1 x2 : Name) (A : Tree) (b left : ℕ) → g1 ≡ g2 → T1 ≡ T2 → x1 ≡ x2 →
    Does late tell r (λ n. assert_work (c n) s g1 T1 x1 A) b left → Does late tell r (λ n. assert_work (c n) s g2 T2 x2 A) b left
assert_as late tell r c s g1 g2 T1 T2 x1 x2 A b left e f h d =
    does_same late tell r (λ n. assert_work (c n) s g1 T1 x1 A) (λ n. assert_work (c n) s g2 T2 x2 A) b left
    (λ n. ap (λ z. assert_work (c n) s z T1 x1 A) e ∙ ap (λ z. assert_work (c n) s g2 z x1 A) f ∙ ap (λ z. assert_work (c n) s g2 T2 z A) h) d

module _ (E : Environment) (s : Store) (k : ℕ) (g : Context) (T : Tree) (vs : Givens) (A : Surface) (b : ℕ) where
  abbrev scenes : ℕ → Scene
  scenes n = scene_by E s k g T vs n

  -- ---- a written type

  abbrev written : ℕ → Doing Found
  written n = term_of (scenes n) A None

  abbrev sort_work : Found → ℕ → Doing Universe
  sort_work f n = elab_work (found_sort (site (scenes n)) g f)

  abbrev sort_then : Found → ℕ → Doing Found
  sort_then f n = sort_work f n >>= λ u. gives f

  type_is : (n : ℕ) → (written n >>= λ f. sort_then f n) ≡ type_term (scenes n) A
  unfolding type_term
  type_is n = refl

  pub type_refused : (bank : Terms) (e : PrimFault) (left : ℕ) → Refuses bank e written b left → Refuses bank e (λ n. type_term (scenes n) A) b left
  type_refused bank e left h = refuses_same bank e (λ n. written n >>= λ f. sort_then f n) (λ n. type_term (scenes n) A) b left type_is (refuses_first bank e written sort_then b left h)

  module _ (l : ℕ) (f : Found) (h : ComesTo written b (done f l)) where
    pub type_unsorted : (bank : Terms) (e : PrimFault) (left : ℕ) → Refuses bank e (sort_work f) l left → Refuses bank e (λ n. type_term (scenes n) A) b left
    type_unsorted bank e left r =
        refuses_same bank e (λ n. written n >>= λ f. sort_then f n) (λ n. type_term (scenes n) A) b left type_is
        (refuses_then bank e written sort_then b l left f h (refuses_first bank e (sort_work f) (λ u n. gives f) l left r))

    pub type_sorted : (u : Universe) (left : ℕ) → ComesTo (sort_work f) l (done u left) → ComesTo (λ n. type_term (scenes n) A) b (done f left)
    unfolding type_term
    type_sorted u left r = comes_then written sort_then b f l (done f left) h (comes_then (sort_work f) (λ v n. gives f) l u left (done f left) r (comes_gives (λ n. gives f) f left (λ n. refl)))

  -- ---- `assert`, by its type

  abbrev types : ℕ → Doing Found
  types n = type_term (scenes n) A

  module _ (x : Name) where
    abbrev assert_after : Found → ℕ → Doing Done
    assert_after f n = unused (scenes n) x >>= λ ok. assert_work (scenes n) f.store g T x f.term

    do_assert_is : (n : ℕ) → (types n >>= λ f. assert_after f n) ≡ do_assert (scenes n) x A
    unfolding do_assert assert_work
    do_assert_is n = refl

    unused_is : (n : ℕ) → unused (scenes 0) x ≡ unused (scenes n) x
    unfolding unused
    unused_is n = refl

    pub assert_found : (bank : Terms) (e : PrimFault) (left : ℕ) → Refuses bank e types b left → Refuses bank e (λ n. do_assert (scenes n) x A) b left
    assert_found bank e left h = refuses_same bank e (λ n. types n >>= λ f. assert_after f n) (λ n. do_assert (scenes n) x A) b left do_assert_is (refuses_first bank e types assert_after b left h)

    module _ (l : ℕ) (f : Found) (h : ComesTo types b (done f l)) where
      pub assert_used : (bank : Terms) (e : PrimFault) → ((a : ℕ) → Refuses bank e (λ n. unused (scenes 0) x) a a) → Refuses bank e (λ n. do_assert (scenes n) x A) b l
      assert_used bank e r =
          refuses_same bank e (λ n. types n >>= λ f. assert_after f n) (λ n. do_assert (scenes n) x A) b l do_assert_is
          (refuses_then bank e types assert_after b l l f h (refuses_first bank e (λ n. unused (scenes n) x) (λ ok n. assert_work (scenes n) f.store g T x f.term) l l
          (refuses_same bank e (λ n. unused (scenes 0) x) (λ n. unused (scenes n) x) l l unused_is (r l))))

      pub assert_free : unused (scenes 0) x ≡ gives x → {X : Type 0} (bank : Terms) (tell : X → Done) (r : Result X PrimFault) (left : ℕ) →
          Does bank tell r (λ n. assert_work (scenes n) f.store g T x f.term) l left → Does bank tell r (λ n. do_assert (scenes n) x A) b left
      assert_free e bank tell r left d =
          does_same bank tell r (λ n. types n >>= λ y. assert_after y n) (λ n. do_assert (scenes n) x A) b left do_assert_is
          (does_then bank tell r types assert_after b l left f h
          (does_after bank tell r (λ n. unused (scenes n) x) (λ ok n. assert_work (scenes n) f.store g T x f.term) l left x (λ n. sym (unused_is n) ∙ e) d))

    pub assert_reaches : {X : Type 0} (bank : Terms) (tell : X → Done) (r : Result X PrimFault) (left : ℕ) (d : Scene) → Does bank tell r (λ n. do_assert (scenes n) x A) b left → IsScene (scenes (suc b)) → IsFound (scenes (suc b)) A None →
        s ≡ d.store → g ≡ d.context → IfOk r (λ y. IsReached d (tell y))
    assert_reaches bank tell (Ok y) left d h i f e q =
        reached_any (scenes (suc b)) d (tell y) e q (assert_reached (scenes (suc b)) i x A (tell y) f (comes_is_given (λ n. do_assert (scenes n) x A) b left (tell y) h))
    assert_reaches bank tell (Err e) left d h i f p q = tt
