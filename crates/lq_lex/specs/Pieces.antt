-- What the scanner answers, as what a text has next.
use Rattle.std.specs.Prelude.{◌≡◌, ℕ, List, Bool, false, ◌++◌, ◌+◌, ◌≤◌, suc, [], length, Option, Some, None, Result, Ok, Err}
use Rattle.std.specs.declared.alloc.AllocError.{AllocError}
use Rattle.lq_grammar.specs.declared.fault.LexFault.{LexFault}
use Rattle.lq_grammar.specs.declared.fault.LexFault.TheVariants.{BadChar, OpenComment, OpenString, BadNumber, NoMemory}
use Rattle.lq_grammar.specs.Cells.{place, window}
use Rattle.lq_grammar.specs.Cutting.{Next, sentence, finished, longest, gathered, next}
use Rattle.lq_grammar.specs.Settled.{is_settled, settles}
use Rattle.lq_lex.specs.declared.cutting.Candidate.{Candidate}
use Rattle.lq_grammar.specs.Spans.{IsSpread}
use Rattle.lq_lex.specs.declared.piece.Piece.{Piece}
use Rattle.lq_lex.specs.declared.piece.Piece.TheVariants.{Sentence, End, More}
use Rattle.lq_lex.specs.declared.view.View.{View}
use Rattle.lq_lex.specs.Views.{from}

-- a piece is what comes next
abbrev pub IsPiece : Piece → Next → Type 0
IsPiece (Sentence tokens stop) n = n ≡ sentence tokens stop
IsPiece End n = n ≡ finished
IsPiece More n = ⊥

-- so it is, unless there was no memory
abbrev pub Gives : Result Piece AllocError → Next → Type 0
Gives (Ok piece) n = IsPiece piece n
Gives (Err e) n = Unit {0}

-- an answer is what the text has next, unless there was no memory
abbrev pub Cuts : Result Piece LexFault → Result Next LexFault → Type 0
Cuts (Ok (Sentence tokens stop)) r = r ≡ Ok (sentence tokens stop)
Cuts (Ok End) r = r ≡ Ok finished
Cuts (Ok More) r = ⊥
Cuts (Err NoMemory) r = Unit {0}
Cuts (Err (BadChar p)) r = r ≡ Err (BadChar p)
Cuts (Err (OpenComment p)) r = r ≡ Err (OpenComment p)
Cuts (Err (OpenString p)) r = r ≡ Err (OpenString p)
Cuts (Err (BadNumber p)) r = r ≡ Err (BadNumber p)

-- a fault says that no sentence is settled, but want of memory says nothing
abbrev pub Unsettled : LexFault → Bool → Type 0
Unsettled NoMemory settled = Unit {0}
Unsettled (BadChar p) settled = settled ≡ false
Unsettled (OpenComment p) settled = settled ≡ false
Unsettled (OpenString p) settled = settled ≡ false
Unsettled (BadNumber p) settled = settled ≡ false

-- a candidate is what the text has next, and says whether that is settled
abbrev pub Gathers : Result Candidate LexFault → Result Next LexFault → Bool → Type 0
Gathers (Ok found) r settled = Cuts (Ok found.piece) r × (found.settled ≡ settled)
Gathers (Err fault) r settled = Cuts (Err fault) r × Unsettled fault settled

-- where a sentence begins and whether it is settled, or what there is in its place
abbrev pub Begins : View → Result (Option ℕ) LexFault → Result Next LexFault → Bool → Type 0
Begins v (Ok (Some at)) r settled =
    (r ≡ gathered (suc (length v.text.now)) v.text.now [] (window (place (from v at) + longest) (from v at))) × (at ≤ length v.text.now) × (settled ≡ is_settled (suc (length v.text.now)) v.text.now [] (window (place (from v at) + longest) (from v at)))
Begins v (Ok None) r settled = (r ≡ Ok finished) × (settled ≡ false)
Begins v (Err fault) r settled = (r ≡ Err fault) × (settled ≡ false)

-- the answer for a text that may go on: `More` where no settled sentence comes next, else what comes next however the text goes on
abbrev pub Waits : List ℕ → ℕ → Result Piece LexFault → Type 0
Waits text at (Ok More) = settles text at ≡ false
Waits text at (Ok (Sentence tokens stop)) = (more : List ℕ) → Cuts (Ok (Sentence tokens stop)) (next (text ++ more) at)
Waits text at (Ok End) = (more : List ℕ) → Cuts (Ok End) (next (text ++ more) at)
Waits text at (Err fault) = (more : List ℕ) → Cuts (Err fault) (next (text ++ more) at)

-- the tokens of a sentence stand one behind another behind a place, none is empty, and the last ends within the text
abbrev pub Spreads : List ℕ → ℕ → Result Piece LexFault → Type 0
Spreads text from (Ok (Sentence tokens stop)) = IsSpread from (length text) tokens stop
Spreads text from (Ok End) = Unit {0}
Spreads text from (Ok More) = Unit {0}
Spreads text from (Err fault) = Unit {0}
