-- How far the work of a call has come: what waits, with terms as they are kept, and that the rest leads to the call's outcome.
use Rattle.std.specs.Prelude.{◌≡◌, ℕ, Bool, true, false, List, ◌∷◌, None}
use Rattle.lq_trees.specs.Tree.{Tree, Context}
use Rattle.lq_trees.specs.Ticks.{gives, ◌>>=◌, Outcome, ComesTo}
use Rattle.lq_trees.specs.Rules.{Rules}
use Rattle.lq_solving.specs.Stores.{Store, read, read_context}
use Rattle.lq_solving.specs.Unification.{UnifyFault, Unify, Answer, Sides, row, row_or, unify}
use Rattle.lq_solving.specs.Waiting.{Waiting, reducing, go_on, answered_work, asked_work}
use Rattle.lq_solving.proofs.WaitingLaws.{rows_work}
use Rattle.lq_unify.specs.Unread.{SameSides, SameWaiting}

-- what comes leads to what comes of the whole
abbrev pub Leads : (f g : ℕ → Unify Answer) → (budget left : ℕ) → Type 0
Leads f g budget left = (o : Outcome UnifyFault Answer) → ComesTo g left o → ComesTo f budget o

-- there is an answer, so many ticks are left, and these wait
pub record IsAnswered (r : Rules) (f : ℕ → Unify Answer) (budget left : ℕ) (s : Store) (vs : List Waiting) (a : Answer) : Type 0 where
  pub waits : List Waiting
  pub same : SameWaiting s vs waits
  pub leads : Leads f (answered_work r waits a) budget left

-- two terms are to be unified first
pub record IsAsked (r : Rules) (f : ℕ → Unify Answer) (budget left : ℕ) (s : Store) (vs : List Waiting) (p : Sides) : Type 0 where
  pub waits : List Waiting
  pub same : SameWaiting s vs waits
  pub meant : Sides
  pub reads : SameSides s p meant
  pub leads : Leads f (asked_work r waits meant.context s meant.left meant.right) budget left

-- the rows on weak head forms, whose No is final, and what waits
abbrev pub again_work : Rules → List Waiting → Context → Store → Tree → Tree → ℕ → Unify Answer
again_work r ws g s t u n = row_or (unify r n) s (row (unify r n) g s t u) (gives None) >>= go_on (unify r n) r n ws

-- the rows at first, or those on weak head forms
abbrev pub rows_by : Bool → Rules → List Waiting → Context → Store → Tree → Tree → ℕ → Unify Answer
rows_by true r ws g s t u n = rows_work r ws g s t u n
rows_by false r ws g s t u n = again_work r ws g s t u n

-- the rows on two terms come next: at first, or on weak head forms
pub record IsRowed (first : Bool) (r : Rules) (f : ℕ → Unify Answer) (budget left : ℕ) (s : Store) (vs : List Waiting) (p : Sides) : Type 0 where
  pub waits : List Waiting
  pub same : SameWaiting s vs waits
  pub context : Context
  pub reads : read_context s p.context ≡ read_context s context
  pub leads : Leads f (rows_by first r waits context s (read s p.left) (read s p.right)) budget left

-- two terms go to weak head form next
pub record IsReducing (r : Rules) (f : ℕ → Unify Answer) (budget left : ℕ) (s : Store) (vs : List Waiting) (p : Sides) : Type 0 where
  pub waits : List Waiting
  pub same : SameWaiting s vs waits
  pub context : Context
  pub reads : read_context s p.context ≡ read_context s context
  pub leads : Leads f (answered_work r (reducing context s (read s p.left) (read s p.right) ∷ waits) None) budget left
