-- Made variables become goals, one by one.
use Rattle.std.proofs.Common.{◌≡◌, ◌∙◌, ℕ, suc, refl, sym, ap, List, [], ◌∷◌, Some, Result, Ok}
use Rattle.std.specs.Prelude.{slice_get}
use Rattle.lq_trees.specs.Tree.{Tree}
use Rattle.lq_trees.specs.Tree.Tree.{Rel}
use Rattle.lq_trees.specs.Ticks.{gives, ◌>>=◌, done, ComesTo}
use Rattle.lq_trees.proofs.Outcomes.{comes_then, comes_gives}
use Rattle.lq_calculus.specs.Contraction.{beta_normal}
use Rattle.lq_terms.specs.Terms.{Terms}
use Rattle.lq_solving.specs.Stores.{Store, Variable, read, with_kind}
use Rattle.lq_solving.specs.Kept.{IsStore}
use Rattle.lq_tactics.specs.Rows.{Doing, Scene, needed, needed_form, as_goal, as_goals}
use Rattle.lq_tactics.proofs.RowsKept.{IsRetyped, retyped}
use Rattle.lq_prims.specs.declared.faults.PrimFault.{PrimFault}
use Rattle.lq_prims.specs.Scenes.{scene_by, normal_work}
use Rattle.lq_prims.specs.Working.{Refuses, Does}
use Rattle.lq_prims.proofs.NeedLaws.{grouped}
use Rattle.lq_prims.proofs.WorkLaws.{refuses_first, refuses_then, refuses_same, does_same, does_then, comes_is_given}

-- what the rest comes to is what the whole comes to
abbrev pub Settles : (whole rest : ℕ → Doing Store) → (budget left : ℕ) → Type 0
Settles whole rest b l = (late : Terms) (s : Store) (q : Result (Unit {0}) PrimFault) (left : ℕ) → Does late (λ u. s) q rest l left → Does late (λ u. s) q whole b left

-- ---- one variable

module _ (c : ℕ → Scene) (bound : (n : ℕ) → (c n).bound ≡ n) (s : Store) (k : ℕ) (v : Variable) (e : slice_get s.variables k ≡ Some v) where
  abbrev goal_work : ℕ → Doing Store
  goal_work n = as_goal (c n) s k (slice_get s.variables k)

  abbrev from_type : Tree → ℕ → Doing Store
  from_type T n = normal_work T n >>= λ B. gives (with_kind s k B)

  regroup : (n : ℕ) → (needed (read s v.kind) >>= λ T. from_type T n) ≡ goal_work n
  unfolding as_goal
  regroup n =
      ap (λ m. needed (read s v.kind) >>= λ T. (beta_normal m T >>= needed_form) >>= λ B. gives (with_kind s k B)) (sym (bound n))
      ∙ grouped (needed (read s v.kind)) (beta_normal (c n).bound) needed_form (λ B. gives (with_kind s k B)) ∙ ap (as_goal (c n) s k) (sym e)

  pub goal_unread : (bank : Terms) (x : PrimFault) (b left : ℕ) → Refuses bank x (λ n. needed (read s v.kind)) b left → Refuses bank x goal_work b left
  goal_unread bank x b left h = refuses_same bank x (λ n. needed (read s v.kind) >>= λ T. from_type T n) goal_work b left regroup (refuses_first bank x (λ n. needed (read s v.kind)) from_type b left h)

  module _ (T : Tree) (q : needed (read s v.kind) ≡ gives T) (b left : ℕ) where
    pub goal_formless : (bank : Terms) (x : PrimFault) → Refuses bank x (normal_work T) b left → Refuses bank x goal_work b left
    goal_formless bank x h =
        refuses_same bank x (λ n. needed (read s v.kind) >>= λ U. from_type U n) goal_work b left regroup
        (refuses_then bank x (λ n. needed (read s v.kind)) from_type b b left T (comes_gives (λ n. needed (read s v.kind)) T b (λ n. q)) (refuses_first bank x (normal_work T) (λ B n. gives (with_kind s k B)) b left h))

    pub goal_settled : (bank : Terms) (B : Tree) → ComesTo (normal_work T) b (done B left) → ComesTo goal_work b (done (with_kind s k B) left)
    goal_settled bank B h =
        does_same {X = Unit {0}} bank (λ u. with_kind s k B) (Ok tt) (λ n. needed (read s v.kind) >>= λ U. from_type U n) goal_work b left regroup
        (comes_then (λ n. needed (read s v.kind)) from_type b T b (done (with_kind s k B) left) (comes_gives (λ n. needed (read s v.kind)) T b (λ n. q))
        (comes_then (normal_work T) (λ B n. gives (with_kind s k B)) b B left (done (with_kind s k B) left) h (comes_gives (λ n. gives (with_kind s k B)) (with_kind s k B) left (λ n. refl))))

-- the store is kept
pub settled_kept : (s s1 : Store) (k b left : ℕ) → IsStore s → ((c : ℕ → Scene) → ((n : ℕ) → (c n).bound ≡ n) → ComesTo (λ n. as_goal (c n) s k (slice_get s.variables k)) b (done s1 left)) → IsRetyped s s1
settled_kept s s1 k b left i h =
    let c = λ (n : ℕ). scene_by [] s 0 [] (Rel 0) [] n in
    retyped (c (suc b)) s s1 k i (comes_is_given (λ n. as_goal (c n) s k (slice_get s.variables k)) b left s1 (h c (λ n. refl)))

-- ---- all of them

module _ (c : ℕ → Scene) (s : Store) (k : ℕ) (ks js : List ℕ) (e : js ≡ k ∷ ks) (b l : ℕ) where
  abbrev first : ℕ → Doing Store
  first n = as_goal (c n) s k (slice_get s.variables k)

  all_is : (n : ℕ) → (first n >>= λ s1. as_goals (c n) s1 ks) ≡ as_goals (c n) s js
  unfolding as_goals
  all_is n = ap (as_goals (c n) s) (sym e)

  pub settle_more : (s1 : Store) → ComesTo first b (done s1 l) → Settles (λ n. as_goals (c n) s js) (λ n. as_goals (c n) s1 ks) b l
  settle_more s1 h late z q left d =
      does_same late (λ u. z) q (λ n. first n >>= λ s2. as_goals (c n) s2 ks) (λ n. as_goals (c n) s js) b left all_is (does_then late (λ u. z) q first (λ s2 n. as_goals (c n) s2 ks) b l left s1 h d)

  pub settle_refused : (bank : Terms) (x : PrimFault) → Refuses bank x first b l → Refuses bank x (λ n. as_goals (c n) s js) b l
  settle_refused bank x h = refuses_same bank x (λ n. first n >>= λ s2. as_goals (c n) s2 ks) (λ n. as_goals (c n) s js) b l all_is (refuses_first bank x first (λ s2 n. as_goals (c n) s2 ks) b l h)

pub settle_end : (c : ℕ → Scene) (s : Store) (js : List ℕ) (b : ℕ) → js ≡ [] → ComesTo (λ n. as_goals (c n) s js) b (done s b)
unfolding as_goals
settle_end c s js b e = comes_gives (λ n. as_goals (c n) s js) s b (λ n. ap (as_goals (c n) s) e)
