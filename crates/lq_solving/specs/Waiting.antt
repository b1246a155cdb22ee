-- Unification as it goes on step by step: what is left to unify, and what is tried where the answer is No.
use Rattle.std.specs.Prelude.{ℕ, List, [], ◌∷◌, Some, None}
use Rattle.lq_trees.specs.Tree.{Tree, Context}
use Rattle.lq_trees.specs.Ticks.{gives, ◌>>=◌}
use Rattle.lq_trees.specs.Rules.{Rules}
use Rattle.lq_solving.specs.Stores.{Store}
use Rattle.lq_solving.specs.Unification.{Unify, Answer, Way, Sides, all_unify, reduced_row, unify}

-- what waits for an answer: parts that are still to be unified, or a call whose sides go to weak head form after a No, with its own store
pub data Waiting : Type 0 where
  parts : List Sides → Waiting
  reducing : Context → Store → Tree → Tree → Waiting

-- what all that waits makes of an answer, the nearest first
unfoldable pub go_on : Way → Rules → ℕ → List Waiting → Answer → Unify Answer
go_on way r n [] a = gives a
go_on way r n (parts ps ∷ ws) None = go_on way r n ws None
go_on way r n (parts ps ∷ ws) (Some s) = all_unify way s ps >>= go_on way r n ws
go_on way r n (reducing g s t u ∷ ws) None = reduced_row way r n g s t u >>= go_on way r n ws
go_on way r n (reducing g s t u ∷ ws) (Some s1) = go_on way r n ws (Some s1)

-- the work that is left once there is an answer
abbrev pub answered_work : Rules → List Waiting → Answer → ℕ → Unify Answer
answered_work r ws a n = go_on (unify r n) r n ws a

-- the work that is left where two terms are to be unified first
abbrev pub asked_work : Rules → List Waiting → Context → Store → Tree → Tree → ℕ → Unify Answer
asked_work r ws g s t u n = unify r n g s t u >>= go_on (unify r n) r n ws
