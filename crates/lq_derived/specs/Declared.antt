-- The declarations with which a script ends.
use Rattle.std.specs.Prelude.{ℕ, List}
use Rattle.lq_calculus.specs.Declarations.{Env}
use Rattle.lq_sessions.specs.Built.{Parts}
use Rattle.lq_sessions.specs.Output.{Ending, accepted, faulted, cut_off, run, prelude, blank, with_budgets, default_budget, env_of}

-- those of an ending of the prelude, or of the script behind it
unfoldable pub behind_declared : Parts → ℕ → ℕ → List ℕ → Ending → Env
behind_declared b steps kernel bytes (accepted s) = env_of (run b bytes (with_budgets steps kernel s)).1
behind_declared b steps kernel bytes (faulted k f) = f.env
behind_declared b steps kernel bytes (cut_off s) = s.env

-- those of a script of these bytes, behind the prelude and under those budgets
unfoldable pub declarations : Parts → (steps kernel : ℕ) → List ℕ → Env
declarations b steps kernel bytes = behind_declared b steps kernel bytes (run b prelude (blank default_budget default_budget)).1
