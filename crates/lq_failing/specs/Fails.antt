-- What a sentence came to, by what it wrote and why it was refused.
use Rattle.std.specs.Prelude.{◌≡◌, ◌<◌, ℕ, zero, suc, List, Option, Some, None, Ok, Err}
use Rattle.lq_terms.specs.Terms.{Terms}
use Rattle.lq_print.specs.declared.causes.ScriptCause.{ScriptCause}
use Rattle.lq_print.specs.Causes.{cause_of, HasCause}
use Rattle.lq_sessions.specs.Sessions.{Session, Done}
use Rattle.lq_sessions.specs.Sentences.{failing}

-- the names and terms of a fault lie in the bank
abbrev pub HasFault : Terms → ScriptCause → Type 0
HasFault bank c = HasCause bank c.cause

-- a sentence that is refused in a session wrote that text
abbrev pub Refused : Terms → Session → List ℕ → ScriptCause → Done → Type 0
Refused bank s out c d = d ≡ (out, Err (record { cause = cause_of bank c.cause; level = c.level; env = s.env }))

-- a sentence wrote that text, and was accepted in some session, or refused
abbrev pub Came : Terms → Session → List ℕ → Option ScriptCause → Done → Type 0
Came bank s out None d = (t : Session) × (d ≡ (out, Ok t))
Came bank s out (Some c) d = Refused bank s out c d

-- the same, and the session is this one
abbrev pub Kept : Terms → Session → List ℕ → Option ScriptCause → Done → Type 0
Kept bank s out None d = d ≡ (out, Ok s)
Kept bank s out (Some c) d = Refused bank s out c d

-- so many `Fail`s before a sentence
unfoldable pub fails : Session → ℕ → Done → Done
fails s zero d = d
fails s (suc n) d = failing s (fails s n d)

-- what comes of so many `Fail`s
pub record Fails (bank : Terms) (s : Session) (out : List ℕ) (c : Option ScriptCause) (d : Done) (n : ℕ) : Type 0 where
  pub came : Came bank s out c (fails s n d)
  pub kept : 0 < n → Kept bank s out c (fails s n d)
