-- The sentences of a script that stay however its text goes on: each has a character behind its end.
use Rattle.std.specs.Prelude.{ℕ, zero, suc, true, false, List, [], ◌∷◌, ◌++◌, length, Option, Some, None, Result, Ok, Err}
use Rattle.lq_grammar.specs.declared.fault.LexFault.{LexFault}
use Rattle.lq_grammar.specs.Cutting.{Next, sentence as cut_sentence, finished, next}
use Rattle.lq_grammar.specs.Settled.{settles}
use Rattle.lq_sentences.specs.declared.fault.SyntaxFault.{SyntaxFault}
use Rattle.lq_sentences.specs.Reading.{read_sentence}
use Rattle.lq_ast.specs.Commands.{Sentence}
use Rattle.lq_meaning.specs.Values.{Text}
use Rattle.lq_sessions.specs.Sessions.{Session}
use Rattle.lq_sessions.specs.Sentences.{sentence}
use Rattle.lq_sessions.specs.Built.{Parts, sentence_built}

-- what accepted sentences wrote, the session that they reached, the place behind the last of them, and the number of the next one
pub record Reached : Type 0 where
  pub lines : Text
  pub session : Session
  pub place : ℕ
  pub number : ℕ

abbrev pub reached : Text → Session → ℕ → ℕ → Reached
reached t s p k = record { lines = t; session = s; place = p; number = k }

-- lines in front of what is reached
unfoldable pub with_lines : Text → Option Reached → Option Reached
with_lines t None = None
with_lines t (Some r) = Some (reached (t ++ r.lines) r.session r.place r.number)

module _ (b : Parts) where
  -- a sentence that is built and accepted, and then what comes behind it; None after a fault
  unfoldable pub ran_ahead : Session → Sentence → (Session → Option Reached) → Option Reached
  ran_ahead s x go =
      elim (sentence_built b x) [
        | false ↦ None
        | true ↦ elim (sentence s x).1 [ Err f ↦ None | Ok t ↦ with_lines (sentence s x).0 (go t) ]
      ]

  unfoldable pub read_ahead : Session → Result Sentence SyntaxFault → (Session → Option Reached) → Option Reached
  read_ahead s (Err f) go = None
  read_ahead s (Ok x) go = ran_ahead s x go

  unfoldable pub piece_ahead : List ℕ → Session → Result Next LexFault → (ℕ → Session → Option Reached) → Option Reached
  piece_ahead text s (Ok (cut_sentence ts place)) go = read_ahead s (read_sentence text ts) (go place)
  piece_ahead text s _ go = None

  -- what the settled sentences of a text reach from a place on, counted from k, of which there are at most so many
  unfoldable pub ahead : ℕ → List ℕ → ℕ → Session → ℕ → Option Reached
  ahead zero text from s k = Some (reached [] s from k)
  ahead (suc turns) text from s k =
      elim (settles text from) [
        | false ↦ Some (reached [] s from k)
        | true ↦ piece_ahead text s (next text from) (λ place t. ahead turns text place t (suc k))
      ]
