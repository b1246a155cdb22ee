-- What declarations ask of the kernel once their terms are elaborated, and what they come to.
use Rattle.std.specs.Prelude.{◌≡◌, ℕ, List, [], ◌∷◌, Result, Ok, Err}
use Rattle.lq_trees.specs.Tree.{Tree}
use Rattle.lq_trees.specs.Ticks.{gives, fails, ◌>>=◌, done, ComesTo}
use Rattle.lq_calculus.specs.Declarations.{Env as Environment}
use Rattle.lq_terms.specs.declared.nodes.NameId.{NameId}
use Rattle.lq_terms.specs.declared.nodes.TermId.{TermId}
use Rattle.lq_terms.specs.Terms.{Terms, IsTerm}
use Rattle.lq_env.specs.declared.environment.Declared.{Declared}
use Rattle.lq_env.specs.Environments.{env_of}
use Rattle.lq_solving.specs.Stores.{Store, read}
use Rattle.lq_evars.specs.declared.store.StoreFault.{StoreFault}
use Rattle.lq_print.specs.declared.causes.SentenceCause.{SentenceCause}
use Rattle.lq_print.specs.declared.causes.Cause.{Cause}
use Rattle.lq_texts.specs.Causes.{too_large, too_deep, unresolved}
use Rattle.lq_sessions.specs.Sessions.{Work}
use Rattle.lq_sessions.specs.Declaring.{fitting_work, solved_work}
use Rattle.lq_causes.specs.declared.stops.Stop.{Stop}
use Rattle.lq_causes.specs.Stopping.{Stops}

-- the work comes to the new environment, or what stops it is told
abbrev pub Declares : Terms → Result (Unit {0}) Stop → List (NameId × Declared) → (ℕ → Work Environment) → (budget left : ℕ) → Type 0
Declares bank (Ok ok) new f b left = ComesTo f b (done (env_of bank new) left)
Declares bank (Err stop) new f b left = Stops bank stop f b left

-- so many variables of a store have no value
pub record AreUnsolved (s : Store) (stop : Stop) : Type 0 where
  pub count : ℕ
  pub told : stop ≡ Stop.Refused (Cause.Sentence (SentenceCause.Unresolved count))
  pub work : solved_work s ≡ fails (unresolved count)

-- each variable of a store has a value, or as many have none as are told
abbrev pub IsSolved : Store → Result (Unit {0}) Stop → Type 0
IsSolved s (Ok ok) = solved_work s ≡ gives tt
IsSolved s (Err stop) = AreUnsolved s stop

-- terms pass the limit that a fault tells, as they are read in order
abbrev pub Passes : StoreFault → Store → List Tree → Type 0
Passes StoreFault.TooLarge s ts = fitting_work s ts ≡ fails too_large
Passes StoreFault.TooDeep s ts = fitting_work s ts ≡ fails too_deep
Passes StoreFault.Full s ts = ⊥
Passes StoreFault.NoMemory s ts = Unit {0}

-- two terms as they read, or the limit that one of them passes
abbrev pub ReadsBoth : Terms → Result (TermId × TermId) StoreFault → Store → (first second : Tree) → Type 0
ReadsBoth bank (Ok p) s t u = IsTerm bank p.0 (read s t) × IsTerm bank p.1 (read s u) × (fitting_work s (t ∷ u ∷ []) ≡ gives tt)
ReadsBoth bank (Err e) s t u = Passes e s (t ∷ u ∷ [])

-- what comes behind the look at a store's variables and at the limits of terms
abbrev pub checked_first : Store → List Tree → (ℕ → Work Environment) → ℕ → Work Environment
checked_first s ts k n = solved_work s >>= λ ok. fitting_work s ts >>= λ ok2. k n
