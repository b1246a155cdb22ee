-- What a script writes of its declarations.
use Rattle.std.specs.Prelude.{◌≡◌, ℕ, Bool, List, [], ◌∷◌, ◌++◌, Ok, Err}
use Rattle.lq_trees.specs.declared.Sort.{Sort as Universe}
use Rattle.lq_trees.specs.Tree.{Name, Tree}
use Rattle.lq_calculus.specs.Declarations.{Env, Family, constant, family_entries}
use Rattle.lq_ast.specs.Commands.{Sentence}
use Rattle.lq_meaning.specs.Values.{Text}
use Rattle.lq_sessions.specs.Sessions.{Session, Fault, Done}
use Rattle.lq_sessions.specs.Declaring.{is_defined}
use Rattle.lq_sessions.specs.Sentences.{sentence}
use Rattle.lq_sessions.specs.Built.{Parts}
use Rattle.lq_sessions.specs.Output.{Ending, Run, accepted, faulted, behind, env_of, run, prelude, blank, with_budgets, default_budget}

-- the declarations of a name behind those before: a constant, or a family with its constructors and eliminators
pub data Adds (env : Env) (x : Name) (new : Env) : Type 0 where
  one_constant : (A t : Tree) (opaque : Bool) → new ≡ env ++ (x, constant A t opaque) ∷ [] → Adds env x new
  one_family : (f : Family) (ss : List Universe) → f.name ≡ x → new ≡ env ++ family_entries f ss → Adds env x new

-- an accepted sentence keeps the declarations; or it adds those of a name, and writes the line that says so and nothing else
pub data Reports (env : Env) (t : Text) (new : Env) : Type 0 where
  keeps : new ≡ env → Reports env t new
  declares : (x : Name) → Adds env x new → t ≡ is_defined x → Reports env t new

-- one that is refused keeps them
abbrev pub AreReported : Env → Done → Type 0
AreReported env (t, Ok s) = Reports env t s.env
AreReported env (t, Err f) = f.env ≡ env

-- what is written from a session on, and the ending: sentences that are accepted one after the other, each with its text, then one that is refused or none
pub data Runs : Session → Run → Type 0 where
  ends : (s : Session) (x : Ending) → env_of x ≡ s.env → Runs s ([], x)
  refuses : (s : Session) (x : Sentence) (t : Text) (k : ℕ) (f : Fault) → sentence s x ≡ (t, Err f) → f.env ≡ s.env → Runs s (t, faulted k f)
  accepts : (s next : Session) (x : Sentence) (t : Text) (r : Run) → sentence s x ≡ (t, Ok next) → Reports s.env t next.env → Runs next r → Runs s (behind t r)

-- what is said of each script: behind what is declared before it, under those budgets, its sentences run so
abbrev pub IsReported : Parts → (steps kernel : ℕ) → List ℕ → Type 0
IsReported b steps kernel bytes =
    (s : Session) → (run b prelude (blank default_budget default_budget)).1 ≡ accepted s → Runs (with_budgets steps kernel s) (run b bytes (with_budgets steps kernel s))
