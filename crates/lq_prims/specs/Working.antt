-- What the work of a row comes to, and why it comes to nothing.
use Rattle.std.specs.Prelude.{◌≡◌, ℕ, Result, Ok, Err}
use Rattle.lq_trees.specs.Ticks.{gives, done, failed, steps_out, ComesTo}
use Rattle.lq_terms.specs.Terms.{Terms}
use Rattle.lq_tactics.specs.Rows.{Doing}
use Rattle.lq_prims.specs.declared.faults.PrimFault.{PrimFault}
use Rattle.lq_prims.specs.Refusals.{Stop, at_fault, ticks_spent, memory_ended, TellsStop}

-- The work stops so under a budget, with those ticks left; none is left where one is wanting. Memory may end at any time.
abbrev pub StopsAt : {A : Type 0} → Stop → (ℕ → Doing A) → (budget left : ℕ) → Type 0
StopsAt (at_fault x) f b left = ComesTo f b (failed x left)
StopsAt ticks_spent f b left = ComesTo f b steps_out × (left ≡ 0)
StopsAt memory_ended f b left = Unit {0}

-- the work stops as the refusal tells
pub record Refuses {A : Type 0} (bank : Terms) (e : PrimFault) (f : ℕ → Doing A) (budget left : ℕ) : Type 0 where
  pub stop : Stop
  pub tells : TellsStop bank e stop
  pub stops : StopsAt stop f budget left

-- the work comes to what the answer stands for, or the refusal is true
abbrev pub Does : {X A : Type 0} → Terms → (X → A) → Result X PrimFault → (ℕ → Doing A) → (budget left : ℕ) → Type 0
Does bank tell (Ok x) f b left = ComesTo f b (done (tell x) left)
Does bank tell (Err e) f b left = Refuses bank e f b left

-- work that pays nothing is what the answer stands for, or the refusal is true
abbrev pub Tells : {X A : Type 0} → Terms → (X → A) → Result X PrimFault → Doing A → Type 0
Tells bank tell (Ok x) w = w ≡ gives (tell x)
Tells bank tell (Err e) w = (b : ℕ) → Refuses bank e (λ n. w) b b
