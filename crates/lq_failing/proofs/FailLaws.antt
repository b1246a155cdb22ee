-- `Fail`s one after the other.
use Rattle.std.proofs.Common.{◌≡◌, ◌∙◌, refl, sym, ap, subst, arith, ℕ, zero, suc, ◌+◌, true, false, List, ◌++◌, Option, Some, None, Ok, Err}
use Rattle.lq_terms.specs.Terms.{Terms}
use Rattle.lq_calculus.specs.Declarations.{Env}
use Rattle.lq_print.specs.declared.causes.ScriptCause.{ScriptCause}
use Rattle.lq_print.specs.Causes.{cause_of}
use Rattle.lq_texts.specs.Causes.{has_not_failed}
use Rattle.lq_texts.specs.Views.{fail_text}
use Rattle.lq_ast.specs.Commands.{Statement}
use Rattle.lq_sessions.specs.Sessions.{Session, Fault, Done, fault_in}
use Rattle.lq_sessions.specs.Sentences.{is_spent, failing, statement_done, stated_done}
use Rattle.lq_failing.specs.Fails.{Refused, Came, Kept, fails, Fails}

-- an accepted sentence
pub accepted_fails : (s t : Session) (out : List ℕ) (d : Done) → d ≡ (out, Ok t) → failing s d ≡ (out, Err (fault_in s has_not_failed))
unfolding failing
accepted_fails s t out d e = ap (failing s) e

-- a spent budget
pub spent_fails : (s : Session) (f : Fault) (out : List ℕ) (d : Done) → is_spent f.cause ≡ true → d ≡ (out, Err f) → failing s d ≡ (out, Err f)
unfolding failing
spent_fails s f out d is e = ap (failing s) e ∙ ap (λ b. elim b as (λ _. Done) [ true ↦ (out, Err f) | false ↦ (out ++ fail_text f.env f.cause f.level, Ok s) ]) is

-- another refusal
pub refused_fails : (s : Session) (f : Fault) (out more : List ℕ) (d : Done) → is_spent f.cause ≡ false → more ≡ out ++ fail_text f.env f.cause f.level → d ≡ (out, Err f) → failing s d ≡ (more, Ok s)
unfolding failing
refused_fails s f out more d is same e =
    ap (failing s) e ∙ ap (λ b. elim b as (λ _. Done) [ true ↦ (out, Err f) | false ↦ (out ++ fail_text f.env f.cause f.level, Ok s) ]) is ∙ ap (λ t. (t, Ok s)) (sym same)

pub came_kept : (bank : Terms) (s : Session) (out : List ℕ) (c : Option ScriptCause) (d : Done) → Kept bank s out c d → Came bank s out c d
came_kept bank s out None d k = (s, k)
came_kept bank s out (Some c) d k = k

pub none_fails : (bank : Terms) (s : Session) (out : List ℕ) (c : Option ScriptCause) (d : Done) → Came bank s out c d → Fails bank s out c d 0
unfolding fails
none_fails bank s out c d h = record { came = h; kept = λ k. absurd (omega (arith, k)) }

pub more_fails : (bank : Terms) (s : Session) (out more : List ℕ) (c e : Option ScriptCause) (d : Done) (n : ℕ) → Fails bank s out c d n →
    ((d : Done) → Came bank s out c d → Kept bank s more e (failing s d)) → Fails bank s more e d (suc n)
unfolding fails
more_fails bank s out more c e d n f go = let k = go (fails s n d) f.came in record { came = came_kept bank s more e (failing s (fails s n d)) k; kept = λ h. k }

pub next_fails : (bank : Terms) (s : Session) (out more : List ℕ) (c e : Option ScriptCause) (d : Done) (n : ℕ) → Fails bank s out c d n →
    ((d : Done) → Came bank s out c d → Kept bank s more e (failing s d)) → Fails bank s more e d (n + 1)
next_fails bank s out more c e d n f go =
    let next : n + 1 ≡ suc n = omega arith in subst (Fails bank s more e d) (sym next) (more_fails bank s out more c e d n f go)

-- a sentence with so many `Fail`s before it
pub stated_fails : (s : Session) (k : ℕ) (x : Statement) → stated_done s k x ≡ fails s k (statement_done s x)
unfolding stated_done fails
stated_fails s zero x = refl
stated_fails s (suc k) x = ap (failing s) (stated_fails s k x)

-- ---- one `Fail`

pub came_as : (bank : Terms) (s : Session) (out : List ℕ) (c e : Option ScriptCause) (d : Done) → c ≡ e → Came bank s out c d → Came bank s out e d
came_as bank s out c e d same h = subst (λ o. Came bank s out o d) same h

pub spent_refused : (bank : Terms) (s : Session) (out : List ℕ) (c : ScriptCause) (d : Done) → is_spent (cause_of bank c.cause) ≡ true → Refused bank s out c d → Refused bank s out c (failing s d)
spent_refused bank s out c d is h = spent_fails s (record { cause = cause_of bank c.cause; level = c.level; env = s.env }) out d is h

pub accepted_kept : (bank : Terms) (s : Session) (out : List ℕ) (d : Done) → Came bank s out None d → failing s d ≡ (out, Err (fault_in s has_not_failed))
accepted_kept bank s out d h = accepted_fails s h.0 out d h.1

pub refused_kept : (bank : Terms) (s : Session) (out more : List ℕ) (c : ScriptCause) (e : Env) (d : Done) → e ≡ s.env → is_spent (cause_of bank c.cause) ≡ false →
    more ≡ out ++ fail_text e (cause_of bank c.cause) c.level → Refused bank s out c d → failing s d ≡ (more, Ok s)
refused_kept bank s out more c e d same is wrote h =
    refused_fails s (record { cause = cause_of bank c.cause; level = c.level; env = s.env }) out more d is (wrote ∙ ap (λ x. out ++ fail_text x (cause_of bank c.cause) c.level) same) h
