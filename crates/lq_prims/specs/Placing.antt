-- Where a row works: the scene of a goal, by places of a bank.
use Rattle.std.specs.Prelude.{◌≡◌, ℕ, Result, Ok, Err}
use Rattle.lq_trees.specs.Ticks.{gives}
use Rattle.lq_calculus.specs.Declarations.{Env as Environment}
use Rattle.lq_terms.specs.declared.nodes.TermId.{TermId}
use Rattle.lq_terms.specs.Terms.{Terms, tree_of}
use Rattle.lq_solving.specs.Stores.{Store}
use Rattle.lq_solving.specs.Elaboration.{Givens}
use Rattle.lq_tactics.specs.Rows.{scene}
use Rattle.lq_prims.specs.declared.faults.PrimFault.{PrimFault}
use Rattle.lq_prims.specs.Working.{Refuses}
use Rattle.lq_prims.specs.Scenes.{context_at, scene_by}

-- the goal's scene is that of the type that is answered, or the refusal is true
abbrev pub Sets : Terms → Environment → Store → (goal : ℕ) → Givens → Result TermId PrimFault → Type 0
Sets bank E s k vs (Ok T) = (n : ℕ) → scene E n vs s k ≡ gives (scene_by E s k (context_at s k) (tree_of bank T) vs n)
Sets bank E s k vs (Err e) = (b : ℕ) → Refuses bank e (λ n. scene E n vs s k) b b
