-- What the reader of sentences answers.
use Rattle.std.specs.Prelude.{◌≡◌, ℕ, List, length, Result, Ok, Err}
use Rattle.lq_ast.specs.Commands.{Sentence}
use Rattle.lq_ast.specs.PlainCommands.{plain_sentence}
use Rattle.lq_ast.specs.declared.sentence.Sentence.{Sentence as Code}
use Rattle.lq_grammar.specs.declared.token.Token.{Token}
use Rattle.lq_sentences.specs.Words.{words}
use Rattle.lq_sentences.specs.Places.{IsPlaced}
use Rattle.lq_sentences.specs.declared.fault.SyntaxFault.{SyntaxFault}
use Rattle.lq_sentences.specs.declared.fault.SyntaxFault.TheVariants as fault
use Rattle.lq_phrases.specs.declared.refusal.Refusal.{Refusal}
use Rattle.lq_phrases.specs.declared.refusal.Refusal.TheVariants.{NoMemory, Unexpected, TooNested, Ended}

-- an answer has the tree of the outcome, or is its fault, unless there was no memory
abbrev pub Answers : Result Code SyntaxFault → Result Sentence SyntaxFault → Type 0
Answers (Ok s) outcome = outcome ≡ Ok (plain_sentence s)
Answers (Err fault.NoMemory) outcome = Unit {0}
Answers (Err (fault.Unexpected p)) outcome = outcome ≡ Err (fault.Unexpected p)
Answers (Err (fault.TooNested p)) outcome = outcome ≡ Err (fault.TooNested p)
Answers (Err (fault.EndInside p)) outcome = outcome ≡ Err (fault.EndInside p)
Answers (Err (fault.SentenceTooLong p)) outcome = outcome ≡ Err (fault.SentenceTooLong p)

-- a fault is in its place among the words of the tokens
abbrev pub IsFaultPlaced : List ℕ → List Token → Result Code SyntaxFault → Type 0
IsFaultPlaced text ts (Ok s) = Unit {0}
IsFaultPlaced text ts (Err f) = IsPlaced (length text) (words text ts) f

-- the fault that a refusal is, in a text of that length
abbrev pub Faults : SyntaxFault → ℕ → Refusal → Type 0
Faults f len NoMemory = f ≡ fault.NoMemory
Faults f len (Unexpected p) = f ≡ fault.Unexpected p
Faults f len (TooNested p) = f ≡ fault.TooNested p
Faults f len Ended = f ≡ fault.EndInside len
