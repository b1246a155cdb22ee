-- A session whose proof is at its end.
use Rattle.std.proofs.Common.{ℕ, zero, suc, Bool, List, [], ◌∷◌, arith}
use Rattle.lq_trees.specs.Tree.{Name, Tree}
use Rattle.lq_trees.specs.Ticks.{fails, ◌>>=◌, done, ComesTo}
use Rattle.lq_calculus.specs.Checking.{declare_constant}
use Rattle.lq_calculus.specs.Declarations.{Env as Environment}
use Rattle.lq_calculus.proofs.ConvSound.{Gives, done_gives, gives_bind}
use Rattle.lq_solving.specs.Claims.{ArePlainDeclarations}
use Rattle.lq_solving.proofs.ElabKept.{by_gives}
use Rattle.lq_elab.proofs.PlainDeclarations.{constant_plain}
use Rattle.lq_states.specs.Goals.{Proof, open_count, still_open}
use Rattle.lq_states.specs.Views.{root}
use Rattle.lq_texts.specs.Causes.{open_goals, unresolved}
use Rattle.lq_sessions.specs.Sessions.{Work}
use Rattle.lq_sessions.specs.Told.{of_kernel}
use Rattle.lq_sessions.specs.Declaring.{fitting_work, kernel_work}
use Rattle.lq_declaring.specs.Closing.{closing_work}

-- the constant of a proof leaves plain declarations
module _ (env new : Environment) (n : ℕ) (x : Name) (A : Tree) (p : Proof) (opaque : Bool) (plain : ArePlainDeclarations env) where
  kernel_asked : Work Environment
  kernel_asked = fitting_work p.store (root p ∷ []) >>= λ ok. kernel_work (declare_constant env n x A (root p) opaque)

  by_shelf : (ks : List ℕ) → Gives (elim ks as (λ z. Work Environment) [ k ∷ js ↦ fails (unresolved (suc (Rattle.std.specs.Prelude.length js))) | [] ↦ kernel_asked ]) new → ArePlainDeclarations new
  unfolding kernel_asked
  by_shelf [] h =
      let b = gives_bind (fitting_work p.store (root p ∷ [])) _ new h in
      constant_plain env n x A (root p) opaque new plain (by_gives of_kernel (declare_constant env n x A (root p) opaque) new b.2)
  by_shelf (k ∷ js) h = absurd h

  by_goals : (m : ℕ) →
      Gives
      (elim m as (λ z. Work Environment) [
        | suc k ↦ fails (open_goals (suc k))
        | zero ↦ elim (still_open p.store p.shelf) as (λ z. Work Environment) [ k ∷ js ↦ fails (unresolved (suc (Rattle.std.specs.Prelude.length js))) | [] ↦ kernel_asked ]
      ]) new → ArePlainDeclarations new
  by_goals zero h = by_shelf (still_open p.store p.shelf) h
  by_goals (suc m) h = absurd h

  pub closing_plain : Gives (closing_work env x A p opaque n) new → ArePlainDeclarations new
  unfolding closing_work kernel_asked
  closing_plain h = by_goals (open_count p) h

pub closing_kept : (env new : Environment) (x : Name) (A : Tree) (p : Proof) (opaque : Bool) (b left : ℕ) → ArePlainDeclarations env → ComesTo (closing_work env x A p opaque) b (done new left) → ArePlainDeclarations new
closing_kept env new x A p opaque b left plain h =
    closing_plain env new (suc b) x A p opaque plain (done_gives b (closing_work env x A p opaque (suc b)) new left (h (suc b) (omega arith)))
