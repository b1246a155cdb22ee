-- What a stop tells of the work of a sentence.
use Rattle.std.specs.Prelude.{◌≡◌, ℕ}
use Rattle.lq_trees.specs.Ticks.{Outcome, failed, steps_out, ComesTo}
use Rattle.lq_terms.specs.Terms.{Terms}
use Rattle.lq_texts.specs.Causes.{Cause as ScriptCause}
use Rattle.lq_sessions.specs.Sessions.{Work}
use Rattle.lq_print.specs.declared.causes.TermCause.{TermCause}
use Rattle.lq_print.specs.declared.causes.Cause.{Cause}
use Rattle.lq_print.specs.Causes.{cause_of, HasCause}
use Rattle.lq_causes.specs.declared.stops.Stop.{Stop}

-- the outcome that a cause tells of a term, with those ticks left: the spent budget, or the failure
abbrev pub term_outcome : {A : Type 0} → Terms → TermCause → ℕ → Outcome ScriptCause A
term_outcome bank TermCause.StepsOut left = steps_out
term_outcome bank c left = failed (cause_of bank (Cause.Term c)) left

-- the outcome that a cause tells
abbrev pub outcome_of : {A : Type 0} → Terms → Cause → ℕ → Outcome ScriptCause A
outcome_of bank (Cause.Term c) left = term_outcome bank c left
outcome_of bank c left = failed (cause_of bank c) left

-- the work comes to what the stop tells, whose names and terms lie in the bank. Memory may end at any time.
abbrev pub Stops : {A : Type 0} → Terms → Stop → (ℕ → Work A) → (budget left : ℕ) → Type 0
Stops bank (Stop.Refused c) f b left = HasCause bank c × ComesTo f b (outcome_of bank c left)
Stops bank Stop.NoMemory f b left = Unit {0}

-- a refusal at no ticks is what the stop tells
abbrev pub Refuses : Terms → Stop → ScriptCause → Type 0
Refuses bank (Stop.Refused c) cause = HasCause bank c × (cause_of bank c ≡ cause)
Refuses bank Stop.NoMemory cause = Unit {0}
