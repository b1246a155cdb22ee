-- What a script has next, as the definition of its output goes through it.
use Rattle.std.specs.Prelude.{◌≡◌, ◌<◌, ◌≤◌, ℕ, [], Result, Ok, Err}
use Rattle.lq_terms.specs.Terms.{Terms}
use Rattle.lq_ast.specs.PlainCommands.{plain_sentence}
use Rattle.lq_print.specs.Causes.{cause_of, HasCause}
use Rattle.lq_causes.specs.declared.stops.Stop.{Stop}
use Rattle.lq_sessions.specs.Sessions.{Session}
use Rattle.lq_sessions.specs.Built.{Parts}
use Rattle.lq_sessions.specs.Output.{Run, cut_off, faulted_by, ran, at_end}
use Rattle.lq_pieces.specs.declared.pieces.Piece.{Piece}

-- runs by what is built, the session, the number of the next sentence, and what comes behind it
abbrev pub Runs : Type 0
Runs = Parts → Session → ℕ → (ℕ → Session → Run) → Run

-- what a piece comes to
unfoldable pub piece_run : Piece → Runs
piece_run (Piece.Sentence x place) b s k go = ran b s k (plain_sentence x) (go place)
piece_run Piece.End b s k go = at_end b s k
piece_run Piece.TooLong b s k go = ([], cut_off s)

-- the runs are those of the piece, or end in the fault that the stop tells. Memory may end at any time.
abbrev pub Comes : Result Piece Stop → Runs → Type 0
Comes (Ok p) r = (b : Parts) (s : Session) (k : ℕ) (go : ℕ → Session → Run) → r b s k go ≡ piece_run p b s k go
Comes (Err (Stop.Refused c)) r = (bank : Terms) → HasCause bank c × ((b : Parts) (s : Session) (k : ℕ) (go : ℕ → Session → Run) → r b s k go ≡ faulted_by s k (cause_of bank c))
Comes (Err Stop.NoMemory) r = Unit {0}

-- a sentence of a text of that length ends behind a place, and in the text
abbrev pub Lies : ℕ → ℕ → Piece → Type 0
Lies from len (Piece.Sentence x place) = (from < place) × (place ≤ len)
Lies from len Piece.End = Unit {0}
Lies from len Piece.TooLong = Unit {0}
