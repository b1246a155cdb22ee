-- What the end of a proof asks of the kernel.
use Rattle.std.specs.Prelude.{ℕ, zero, suc, Bool, [], ◌∷◌, length}
use Rattle.lq_trees.specs.Tree.{Name, Tree}
use Rattle.lq_trees.specs.Ticks.{fails, ◌>>=◌}
use Rattle.lq_calculus.specs.Declarations.{Env as Environment}
use Rattle.lq_calculus.specs.Checking.{declare_constant}
use Rattle.lq_states.specs.Goals.{Proof, open_count, still_open}
use Rattle.lq_states.specs.Views.{root}
use Rattle.lq_texts.specs.Causes.{open_goals, unresolved}
use Rattle.lq_sessions.specs.Sessions.{Work}
use Rattle.lq_sessions.specs.Declaring.{fitting_work, kernel_work}

-- no goal may be open, no shelved variable without a value, the term as it reads must keep within the limits, and then the kernel is asked
unfoldable pub closing_work : Environment → Name → Tree → Proof → Bool → ℕ → Work Environment
closing_work env x A p opaque n =
    elim (open_count p) [
      | suc k ↦ fails (open_goals (suc k))
      | zero ↦ elim (still_open p.store p.shelf) [
        | k ∷ ks ↦ fails (unresolved (length (k ∷ ks)))
        | [] ↦ fitting_work p.store (root p ∷ []) >>= λ ok. kernel_work (declare_constant env n x A (root p) opaque)
      ]
    ]
