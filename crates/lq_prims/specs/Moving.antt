-- One step of `intros`, by places of a bank.
use Rattle.std.specs.Prelude.{ℕ, Option, Result, Ok, Err}
use Rattle.lq_trees.specs.Tree.{Name}
use Rattle.lq_trees.specs.Ticks.{◌>>=◌}
use Rattle.lq_calculus.specs.Declarations.{Env as Environment}
use Rattle.lq_terms.specs.Terms.{Terms, tree_of}
use Rattle.lq_solving.specs.Elaboration.{Givens}
use Rattle.lq_evars.specs.Places.{Places, store_of}
use Rattle.lq_tactics.specs.Rows.{Doing, Scene, Step, ended, then_next}
use Rattle.lq_tactics.specs.Primitives.{do_intro}
use Rattle.lq_prims.specs.declared.faults.PrimFault.{PrimFault}
use Rattle.lq_prims.specs.declared.moving.Placed.{Placed}
use Rattle.lq_prims.specs.Scenes.{context_at, scene_by}
use Rattle.lq_prims.specs.Working.{Refuses, Does}

-- `intro` on a goal, and what follows on the goal that it leaves
abbrev pub step_then : Scene → Option Name → (Scene → Doing Step) → Doing Step
step_then c w next = ended c (do_intro c w) >>= λ st. then_next c st next

-- whatever follows goes on from the goal that is left; or the refusal is true, whatever follows
abbrev pub Moves : Terms → Environment → Places → Givens → Result Placed PrimFault → (ℕ → Scene) → Option Name → (budget left : ℕ) → Type 0
Moves bank E s vs (Ok p) c w b l =
    (next : ℕ → Scene → Doing Step) (late : Terms) (tell : ℕ → Step) (q : Result ℕ PrimFault) (left : ℕ) →
    Does late tell q (λ n. next n (scene_by E (store_of bank s) p.goal (context_at (store_of bank s) p.goal) (tree_of bank p.kind) vs n)) l left →
    Does late tell q (λ n. step_then (c n) w (next n)) b left
Moves bank E s vs (Err e) c w b l = (next : ℕ → Scene → Doing Step) → Refuses bank e (λ n. step_then (c n) w (next n)) b l
