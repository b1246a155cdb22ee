-- Where a row works, by places of a bank.
use Rattle.std.specs.Prelude.{◌≡◌, ◌<◌, ℕ, List, [], length, slice_get, ◌∷◌, ◌++◌, Option, Some, None}
use Rattle.lq_trees.specs.Tree.{Tree, Hypothesis, Context}
use Rattle.lq_trees.specs.Ticks.{◌>>=◌}
use Rattle.lq_calculus.specs.Contraction.{whnf, beta_normal}
use Rattle.lq_calculus.specs.Declarations.{Env as Environment, rules_of}
use Rattle.lq_terms.specs.declared.nodes.NameId.{NameId}
use Rattle.lq_terms.specs.declared.nodes.TermId.{TermId}
use Rattle.lq_terms.specs.Terms.{Terms, HasTerm, tree_of}
use Rattle.lq_env.specs.declared.environment.Declared.{Declared}
use Rattle.lq_env.specs.Environments.{IsEnv, env_of}
use Rattle.lq_solving.specs.Stores.{Store, Variable, read, read_context}
use Rattle.lq_solving.specs.Kept.{IsStore}
use Rattle.lq_solving.specs.Claims.{ArePlainDeclarations}
use Rattle.lq_solving.specs.Elaboration.{Givens}
use Rattle.lq_evars.specs.Places.{Places, store_of, HasStore}
use Rattle.lq_tactics.specs.Rows.{Doing, Scene, Step, needed_form}

-- a scene by its parts
abbrev pub scene_by : Environment → Store → (goal : ℕ) → Context → Tree → Givens → (bound : ℕ) → Scene
scene_by E s k g T vs n = record { env = E; bound = n; values = vs; store = s; goal = k; context = g; kind = T }

-- a step by its parts
abbrev pub step_by : Store → List ℕ → Step
step_by s ks = record { store = s; goals = ks }

-- the weak head form of a term in a context, as read and within the limits
abbrev pub form_work : Environment → Store → Context → Tree → ℕ → Doing Tree
form_work E s g t n = whnf (rules_of E) (read_context s g) n (read s t) >>= needed_form

-- the beta normal form of a term, within the limits
abbrev pub normal_work : Tree → ℕ → Doing Tree
normal_work t n = beta_normal n t >>= needed_form

-- the context of a variable, if there is one
abbrev pub context_in : Option Variable → Context
context_in None = []
context_in (Some v) = v.context

abbrev pub context_at : Store → ℕ → Context
context_at s k = context_in (slice_get s.variables k)

-- the scene of a goal whose type reads as a term
abbrev pub scene_in : Terms → List (NameId × Declared) → Places → (goal : ℕ) → TermId → Givens → (bound : ℕ) → Scene
scene_in bank ds s k T vs n = scene_by (env_of bank ds) (store_of bank s) k (context_at (store_of bank s) k) (tree_of bank T) vs n

-- a context with one hypothesis more
abbrev pub behind : Context → Hypothesis → Context
behind g h = g ++ h ∷ []

-- a store lies in a bank, and has the goal
pub record IsGoal (bank : Terms) (s : Places) (k : ℕ) : Type 0 where
  pub store : HasStore bank s
  pub kept : IsStore (store_of bank s)
  pub goal : k < length s.variables

-- declarations lie in a bank, and name no variable and no hypothesis
pub record IsDeclared (bank : Terms) (ds : List (NameId × Declared)) : Type 0 where
  pub env : IsEnv bank ds
  pub plain : ArePlainDeclarations (env_of bank ds)

-- and a goal's type reads as a term
pub record IsPlaced (bank : Terms) (ds : List (NameId × Declared)) (s : Places) (k : ℕ) (T : TermId) : Type 0 where
  pub declared : IsDeclared bank ds
  pub place : IsGoal bank s k
  pub kind : HasTerm bank T
  pub is : (v : Variable) → slice_get (store_of bank s).variables k ≡ Some v → read (store_of bank s) v.kind ≡ tree_of bank T
