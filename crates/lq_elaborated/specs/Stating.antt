-- The work of a statement, and what the end of elaboration comes to.
use Rattle.std.specs.Prelude.{◌≡◌, ℕ, [], ◌∷◌, Result, Ok, Err}
use Rattle.lq_trees.specs.Tree.{Tree}
use Rattle.lq_trees.specs.Ticks.{gives, ◌>>=◌, done, ComesTo}
use Rattle.lq_calculus.specs.Declarations.{Env as Environment}
use Rattle.lq_ast.specs.Syntax.{Surface}
use Rattle.lq_terms.specs.declared.nodes.TermId.{TermId}
use Rattle.lq_terms.specs.Terms.{Terms, IsTerm, tree_of}
use Rattle.lq_solving.specs.Stores.{Store, no_variables, read}
use Rattle.lq_sessions.specs.Sessions.{Work}
use Rattle.lq_sessions.specs.Declaring.{type_work, solved_work, fitting_work}
use Rattle.lq_causes.specs.declared.stops.Stop.{Stop}
use Rattle.lq_causes.specs.Stopping.{Stops}

-- no variable may be without a value, and the term as it reads keeps within the limits
abbrev pub finished_work : Store → Tree → ℕ → Work Tree
finished_work s t n = solved_work s >>= λ ok. fitting_work s (t ∷ []) >>= λ ok2. gives (read s t)

-- the term of a statement, as it reads
abbrev pub statement_work : Environment → Surface → ℕ → Work Tree
statement_work env A n = type_work env n [] no_variables A >>= λ f. finished_work f.store f.term n

-- a term as it reads, where no variable is without a value and the limits are kept
pub record IsFinished (bank : Terms) (s : Store) (t : Tree) (r : TermId) : Type 0 where
  pub is : IsTerm bank r (read s t)
  pub solved : solved_work s ≡ gives tt
  pub fits : fitting_work s (t ∷ []) ≡ gives tt

abbrev pub Finishes : Terms → Result TermId Stop → Store → Tree → Type 0
Finishes bank (Ok r) s t = IsFinished bank s t r
Finishes bank (Err stop) s t = (left : ℕ) → Stops bank stop (finished_work s t) left left

-- the work comes to the tree of the term, or what stops it is told
abbrev pub States : Terms → Result TermId Stop → (ℕ → Work Tree) → (budget left : ℕ) → Type 0
States bank (Ok r) f b left = ComesTo f b (done (tree_of bank r) left)
States bank (Err stop) f b left = Stops bank stop f b left
