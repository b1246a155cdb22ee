-- A proof on whose goal a primitive is run, by places of a bank.
use Rattle.std.specs.Prelude.{ℕ, List, None}
use Rattle.lq_trees.specs.Ticks.{◌>>=◌}
use Rattle.lq_calculus.specs.Declarations.{Env as Environment}
use Rattle.lq_ast.specs.Syntax.{Prim, constructor}
use Rattle.lq_terms.specs.declared.nodes.NameId.{NameId}
use Rattle.lq_terms.specs.Terms.{Terms}
use Rattle.lq_env.specs.declared.environment.Declared.{Declared}
use Rattle.lq_solving.specs.Stores.{Store}
use Rattle.lq_solving.specs.Elaboration.{Givens}
use Rattle.lq_tactics.specs.Rows.{Doing, scene}
use Rattle.lq_tactics.specs.Applying.{constructor_count}
use Rattle.lq_solving.specs.Kept.{IsStore}
use Rattle.lq_states.specs.Kept.{IsProof, IsSwept}
use Rattle.lq_evars.specs.Places.{HasStore, store_of}
use Rattle.lq_goals.specs.Held.{Held, proof_of}
use Rattle.lq_tactics.proofs.StepsKept.{IsThere}
use Rattle.lq_prims.specs.Scenes.{IsDeclared}

-- a proof lies in a bank with its store, its lists are those of a proof, and goals with a value have left them
pub record IsHeld (bank : Terms) (q : Held) : Type 0 where
  pub store : HasStore bank q.store
  pub kept : IsStore (store_of bank q.store)
  pub proof : IsProof (proof_of bank q)
  pub swept : IsSwept (proof_of bank q) q.given q.seen

-- declarations and such a proof lie in a bank, and a variable is in focus or on the shelf
pub record MayAdvance (bank : Terms) (ds : List (NameId × Declared)) (q : Held) (goal : ℕ) : Type 0 where
  pub declared : IsDeclared bank ds
  pub held : IsHeld bank q
  pub there : IsThere (proof_of bank q) goal

-- how many constructors the type of a variable has
unfoldable pub count_work : Environment → ℕ → Store → (goal : ℕ) → Givens → Doing ℕ
count_work E n s k vs = scene E n vs s k >>= constructor_count

-- a primitive that is no `constructor` without a number
abbrev pub IsNumbered : Prim → Type 0
IsNumbered (constructor None) = ⊥
IsNumbered _ = Unit {0}
