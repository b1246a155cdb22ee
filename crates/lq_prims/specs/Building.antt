-- What a row builds of new goals, behind the term that it is given.
use Rattle.std.specs.Prelude.{ℕ, List, [], ◌∷◌}
use Rattle.lq_trees.specs.declared.Sort.{Sort as Universe}
use Rattle.lq_trees.specs.Tree.{Name, Tree, Context}
use Rattle.lq_trees.specs.Tree.Tree.{Prod, Lam, Let, App, Ind, Elim}
use Rattle.lq_trees.specs.Change.{close}
use Rattle.lq_trees.specs.Fresh.{under, under_let}
use Rattle.lq_trees.specs.Ticks.{gives, ◌>>=◌}
use Rattle.std.specs.Prelude.{codes}
use Rattle.lq_terms.specs.Terms.{Terms, tree_of}
use Rattle.lq_solving.specs.Stores.{Store}
use Rattle.lq_evars.specs.Places.{Places, store_of}
use Rattle.lq_tactics.specs.Primitives.{independent}
use Rattle.lq_tactics.specs.Rows.{Doing, Scene, Done, done_by, goal_term, new_goal, as_goals, made_open}
use Rattle.lq_prims.specs.declared.building.Built.{Built}

-- the store then, the goal's body, and the new goals
abbrev pub built_done : Terms → Places → Built → Done
built_done bank s b = done_by (store_of bank s) (tree_of bank b.body) b.goals.items

-- a function from a term to the goal's type, and an argument
unfoldable pub cut_work : Scene → Store → Context → (kind term : Tree) → Doing Done
cut_work c s g T t =
    new_goal c s g (Prod [] t T) >>= λ r.
    new_goal c r.0 g t >>= λ q.
    gives (done_by q.0 (App (goal_term r.1 g) (goal_term q.1 g)) (r.1 ∷ q.1 ∷ []))

-- the proof of whatever a proof of `False` proves
abbrev pub from_false : Universe → (kind term : Tree) → Tree
from_false u T t = App (App (Elim (codes "False") u) (Lam [] (Ind (codes "False")) T)) t

-- one goal, to prove `False`
unfoldable pub false_work : Scene → Store → Context → (kind : Tree) → Universe → Doing Done
false_work c s g T u = new_goal c s g (Ind (codes "False")) >>= λ r. gives (done_by r.0 (from_false u T (goal_term r.1 g)) (r.1 ∷ []))

-- one goal, under a local definition of the term
unfoldable pub pose_work : Scene → Store → Context → (kind : Tree) → Name → (term type : Tree) → Doing Done
pose_work c s g T x t A =
    new_goal c s (under_let g x t A) T >>= λ r.
    gives (done_by r.0 (Let x t A (close x (goal_term r.1 (under_let g x t A)))) (r.1 ∷ []))

-- two goals: a proof of a type, and the goal's type under a hypothesis of that type
unfoldable pub assert_work : Scene → Store → Context → (kind : Tree) → Name → (type : Tree) → Doing Done
assert_work c s g T x A =
    new_goal c s g A >>= λ r.
    new_goal c r.0 (under g x A) T >>= λ q.
    gives (done_by q.0 (App (Lam x A (close x (goal_term q.1 (under g x A)))) (goal_term r.1 g)) (r.1 ∷ q.1 ∷ []))

-- the variables that were made between two stores, but for those on which the type of one of them depends
abbrev pub free_goals : Store → Store → List ℕ
free_goals s s1 = independent s1 (made_open s s1) (made_open s s1)

-- these become goals
unfoldable pub refine_work : Scene → Store → Store → (term : Tree) → Doing Done
refine_work c s s1 t = as_goals c s1 (free_goals s s1) >>= λ s2. gives (done_by s2 t (free_goals s s1))
