-- `refine`, step by step.
use Rattle.std.proofs.Common.{◌≡◌, ◌<◌, ◌≤◌, refl, sym, ap, ℕ, suc, List, Some, Result, Ok, Err, Vec, Global}
use Rattle.std.proofs.Common.{subst as along}
use Rattle.std.specs.Prelude.{IfOk}
use Rattle.std.specs.List.{AllByRecursion}
use Rattle.lq_trees.specs.Tree.{Tree, Context}
use Rattle.lq_trees.specs.Ticks.{gives, ◌>>=◌, done, ComesTo}
use Rattle.lq_trees.proofs.Outcomes.{comes_then, comes_gives}
use Rattle.lq_calculus.specs.Declarations.{Env as Environment}
use Rattle.lq_ast.specs.Syntax.{Surface}
use Rattle.lq_terms.specs.Terms.{Terms}
use Rattle.lq_solving.specs.Stores.{Store, count}
use Rattle.lq_solving.specs.Elaboration.{Found, Givens}
use Rattle.lq_tactics.specs.Rows.{Doing, Scene, Done, done_by, term_of, as_goals, made_open}
use Rattle.lq_tactics.specs.Primitives.{do_refine, independent}
use Rattle.lq_tactics.proofs.RowsKept.{IsScene, IsReached}
use Rattle.lq_tactics.proofs.ApplyKept.{IsFound}
use Rattle.lq_tactics.proofs.PrimsKept.{refine_reached}
use Rattle.lq_prims.specs.declared.faults.PrimFault.{PrimFault}
use Rattle.lq_prims.specs.Building.{free_goals, refine_work}
use Rattle.lq_prims.specs.Scenes.{scene_by}
use Rattle.lq_prims.specs.Working.{Refuses, Does}
use Rattle.lq_prims.proofs.DependLaws.{open_all, free_all}
use Rattle.lq_prims.proofs.TermLaws.{reached_any, so_many}
use Rattle.lq_prims.proofs.WorkLaws.{refuses_first, refuses_same, does_same, does_then, comes_is_given}

-- the goals are variables of the store
pub made_inside : (s s1 : Store) (ks : List ℕ) → ks ≡ made_open s s1 → AllByRecursion (λ k. k < count s1) ks
unfolding made_open
made_inside s s1 ks e = along (AllByRecursion (λ k. k < count s1)) (sym e) (open_all s1 _)

-- those that were made since there were so many, as far as they were found
pub found_inside : (s1 : Store) (before : ℕ) → before ≤ count s1 → (ks : List ℕ) → ((s : Store) → count s ≡ before → ks ≡ made_open s s1) → AllByRecursion (λ k. k < count s1) ks
found_inside s1 before l ks h = let s = so_many s1 before l in made_inside s.0 s1 ks (h s.0 s.1)

pub free_inside : {E : Type 0} (P : ℕ → Type 0) (s : Store) (ks : List ℕ) (r : Result (Vec ℕ Global) E) → AllByRecursion P ks → IfOk r (λ v. v.items ≡ independent s ks ks) → IfOk r (λ v. AllByRecursion P v.items)
free_inside P s ks (Ok v) h e = along (AllByRecursion P) (sym e) (free_all P s ks ks h)
free_inside P s ks (Err x) h e = tt

module _ (c : ℕ → Scene) (s s1 : Store) (t : Tree) (ks : List ℕ) (e : ks ≡ free_goals s s1) (b left : ℕ) where
  abbrev goals_work : ℕ → Doing Store
  goals_work n = as_goals (c n) s1 ks

  abbrev goals_then : Store → ℕ → Doing Done
  goals_then s2 n = gives (done_by s2 t ks)

  refine_is : (n : ℕ) → (goals_work n >>= λ s2. goals_then s2 n) ≡ refine_work (c n) s s1 t
  unfolding refine_work
  refine_is n = ap (λ js. as_goals (c n) s1 js >>= λ s2. gives (done_by s2 t js)) e

  pub refined_not : (bank : Terms) (x : PrimFault) → Refuses bank x goals_work b left → Refuses bank x (λ n. refine_work (c n) s s1 t) b left
  refined_not bank x h = refuses_same bank x (λ n. goals_work n >>= λ s2. goals_then s2 n) (λ n. refine_work (c n) s s1 t) b left refine_is (refuses_first bank x goals_work goals_then b left h)

  pub refined_done : {X : Type 0} (bank : Terms) (tell : X → Done) (x : X) (s2 : Store) → ComesTo goals_work b (done s2 left) → tell x ≡ done_by s2 t ks → Does bank tell (Ok x) (λ n. refine_work (c n) s s1 t) b left
  refined_done bank tell x s2 h is =
      does_same bank tell (Ok x) (λ n. goals_work n >>= λ s2. goals_then s2 n) (λ n. refine_work (c n) s s1 t) b left refine_is
      (comes_then goals_work goals_then b s2 left (done (tell x) left) h (comes_gives (goals_then s2) (tell x) left (λ n. ap gives (sym is))))

module _ (E : Environment) (s : Store) (k : ℕ) (g : Context) (T : Tree) (vs : Givens) (t : Surface) (b : ℕ) where
  abbrev scenes : ℕ → Scene
  scenes n = scene_by E s k g T vs n

  abbrev written : ℕ → Doing Found
  written n = term_of (scenes n) t (Some T)

  abbrev written_then : Found → ℕ → Doing Done
  written_then f n = refine_work (scenes n) s f.store f.term

  do_refine_is : (n : ℕ) → (written n >>= λ f. written_then f n) ≡ do_refine (scenes n) t
  unfolding do_refine refine_work
  do_refine_is n = refl

  pub refine_found : (bank : Terms) (x : PrimFault) (left : ℕ) → Refuses bank x written b left → Refuses bank x (λ n. do_refine (scenes n) t) b left
  refine_found bank x left h = refuses_same bank x (λ n. written n >>= λ f. written_then f n) (λ n. do_refine (scenes n) t) b left do_refine_is (refuses_first bank x written written_then b left h)

  pub refine_term : (l : ℕ) (f : Found) → ComesTo written b (done f l) → {X : Type 0} (bank : Terms) (tell : X → Done) (r : Result X PrimFault) (left : ℕ) → Does bank tell r (λ n. refine_work (scenes n) s f.store f.term) l left →
      Does bank tell r (λ n. do_refine (scenes n) t) b left
  refine_term l f h bank tell r left d =
      does_same bank tell r (λ n. written n >>= λ y. written_then y n) (λ n. do_refine (scenes n) t) b left do_refine_is (does_then bank tell r written written_then b l left f h d)

  pub refine_reaches : {X : Type 0} (bank : Terms) (tell : X → Done) (r : Result X PrimFault) (left : ℕ) (d : Scene) → Does bank tell r (λ n. do_refine (scenes n) t) b left → IsScene (scenes (suc b)) → IsFound (scenes (suc b)) t (Some T) →
      s ≡ d.store → g ≡ d.context → IfOk r (λ y. IsReached d (tell y))
  refine_reaches bank tell (Ok y) left d h i f e q =
      reached_any (scenes (suc b)) d (tell y) e q (refine_reached (scenes (suc b)) i t (tell y) f (comes_is_given (λ n. do_refine (scenes n) t) b left (tell y) h))
  refine_reaches bank tell (Err x) left d h i f p q = tt
