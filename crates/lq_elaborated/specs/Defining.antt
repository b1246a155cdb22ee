-- The work of a definition, part by part.
use Rattle.std.specs.Prelude.{ℕ, [], ◌∷◌, Some, None}
use Rattle.lq_trees.specs.Tree.{Name, Tree}
use Rattle.lq_trees.specs.Ticks.{◌>>=◌}
use Rattle.lq_calculus.specs.Declarations.{Env as Environment}
use Rattle.lq_ast.specs.Syntax.{Surface}
use Rattle.lq_solving.specs.Stores.{Store}
use Rattle.lq_sessions.specs.Sessions.{Work}
use Rattle.lq_sessions.specs.Declaring.{term_work, type_work, constant_work}

-- a body against a type that was elaborated, and the constant
abbrev pub body_work : Environment → Name → Store → Tree → Surface → ℕ → Work Environment
body_work env x s A t n = term_work env n [] s t (Some A) >>= λ b. constant_work env n x b.store A b.term (A ∷ b.term ∷ [])

-- with its type written
abbrev pub written_work : Environment → Name → Store → (kind body : Surface) → ℕ → Work Environment
written_work env x s A t n = type_work env n [] s A >>= λ f. body_work env x f.store f.term t n

-- with the type that is found
abbrev pub found_work : Environment → Name → Store → Surface → ℕ → Work Environment
found_work env x s t n = term_work env n [] s t None >>= λ b. constant_work env n x b.store b.kind b.term (b.term ∷ b.kind ∷ [])
