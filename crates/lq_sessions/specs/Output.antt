-- What a script's bytes give: the bytes written, and the status.
use Rattle.std.specs.Prelude.{ℕ, zero, suc, Bool, true, false, nat_lt, List, [], ◌∷◌, ◌++◌, length, take, Some, None, Result, Ok, Err, codes}
use Rattle.lq_calculus.specs.Declarations.{Env}
use Rattle.lq_grammar.specs.declared.fault.LexFault.{LexFault}
use Rattle.lq_grammar.specs.declared.token.Token.{Token}
use Rattle.lq_grammar.specs.Cutting.{Next, sentence as cut_sentence, finished, next}
use Rattle.lq_sentences.specs.declared.fault.SyntaxFault.{SyntaxFault}
use Rattle.lq_sentences.specs.declared.fault.SyntaxFault.TheVariants.{Unexpected, TooNested, SentenceTooLong}
use Rattle.lq_sentences.specs.Reading.{read_sentence}
use Rattle.lq_ast.specs.Commands.{Sentence}
use Rattle.lq_meaning.specs.Values.{Text}
use Rattle.lq_sessions.specs.declared.Status.{Status}
use Rattle.lq_texts.specs.Faults.{error_line}
use Rattle.lq_texts.specs.Views.{line}
use Rattle.lq_texts.specs.Causes.{Cause as ScriptCause, open_proof, not_built}
use Rattle.lq_sessions.specs.Told.{lexical, syntactic}
use Rattle.lq_sessions.specs.Sessions.{Session, Fault, fault_in}
use Rattle.lq_sessions.specs.Sentences.{sentence}
use Rattle.lq_sessions.specs.Built.{Parts, sentence_built}
use Rattle.lq_sessions.specs.Rest.{counts, looked_at}

-- how a script ends: accepted, a fault of the sentence of that number, or too long
pub data Ending : Type 0 where
  accepted : Session → Ending
  faulted : ℕ → Fault → Ending
  cut_off : Session → Ending

-- what was written, and how it ends
abbrev pub Run : Type 0
Run = Text × Ending

-- text in front of what is written
abbrev pub behind : Text → Run → Run
behind t r = (t ++ r.0, r.1)

abbrev pub faulted_by : Session → ℕ → ScriptCause → Run
faulted_by s k c = ([], faulted k (fault_in s c))

module _ (b : Parts) where
  -- a sentence that was read, of that number, and then what comes behind it
  unfoldable pub ran : Session → ℕ → Sentence → (Session → Run) → Run
  ran s k x go =
      elim (sentence_built b x) [
        | false ↦ faulted_by s k not_built
        | true ↦ elim (sentence s x).1 [ Err f ↦ ((sentence s x).0, faulted k f) | Ok t ↦ behind (sentence s x).0 (go t) ]
      ]

  unfoldable pub read_and_ran : Session → ℕ → Result Sentence SyntaxFault → (Session → Run) → Run
  read_and_ran s k (Err f) go = faulted_by s k (syntactic f)
  read_and_ran s k (Ok x) go = ran s k x go

  -- the end of a script: no proof may be open
  unfoldable pub at_end : Session → ℕ → Run
  at_end s k = elim s.opened [ None ↦ ([], accepted s) | Some o ↦ faulted_by s k (open_proof o.name) ]

  -- the rest of a text that is cut off: a fault of what can be looked at, else the text is too long
  unfoldable pub rest_read : Session → ℕ → Result Sentence SyntaxFault → Run
  rest_read s k (Err (Unexpected q)) = faulted_by s k (syntactic (Unexpected q))
  rest_read s k (Err (TooNested q)) = faulted_by s k (syntactic (TooNested q))
  rest_read s k (Err (SentenceTooLong q)) = faulted_by s k (syntactic (SentenceTooLong q))
  rest_read s k _ = ([], cut_off s)

  unfoldable pub rest_looked : List ℕ → Session → ℕ → Result (List Token) LexFault → Run
  rest_looked text s k (Err f) = faulted_by s k (lexical f)
  rest_looked text s k (Ok []) = ([], cut_off s)
  rest_looked text s k (Ok (t ∷ ts)) = rest_read s k (read_sentence text (t ∷ ts))

  -- what a text has next, and then what comes behind it; `whole` says whether the text is all there
  unfoldable pub piece_ran : List ℕ → Session → ℕ → Result Next LexFault → (ℕ → Session → Run) → Run
  piece_ran text s k (Err f) go = faulted_by s k (lexical f)
  piece_ran text s k (Ok finished) go = at_end s k
  piece_ran text s k (Ok (cut_sentence ts place)) go = read_and_ran s k (read_sentence text ts) (go place)

  unfoldable pub turn : Bool → List ℕ → ℕ → Session → ℕ → (ℕ → Session → Run) → Run
  turn true text from s k go = piece_ran text s k (next text from) go
  turn false text from s k go =
      elim (counts text (next text from)) [ true ↦ piece_ran text s k (next text from) go | false ↦ rest_looked text s k (looked_at text from) ]

  -- the sentences of a text from a place on, counted from k, of which there are at most so many; the first fault ends it
  unfoldable pub run_from : ℕ → Bool → List ℕ → ℕ → Session → ℕ → Run
  run_from zero whole text from s k = at_end s k
  run_from (suc turns) whole text from s k = turn whole text from s k (λ place t. run_from turns whole text place t (suc k))

  -- a script from a session on, its sentences counted from 1
  unfoldable pub script_run : Bool → List ℕ → Session → Run
  script_run whole text s = run_from (suc (length text)) whole text 0 s 1

  -- the most bytes of a script
  abbrev pub most_bytes : ℕ
  most_bytes = 4194304

  unfoldable pub run : List ℕ → Session → Run
  run bytes s = elim (nat_lt most_bytes (length bytes)) [ true ↦ script_run false (take most_bytes bytes) s | false ↦ script_run true bytes s ]

pub record Output : Type 0 where
  pub text : Text
  pub status : Status

-- the last line, and the status
unfoldable pub last_line : Ending → Text
last_line (accepted s) = []
last_line (faulted k f) = error_line f.env k f.cause f.level
last_line (cut_off s) = line (codes "Error: script longer than 4194304 bytes")

unfoldable pub status_of : Ending → Status
status_of (accepted s) = Status.Done
status_of (faulted k f) = Status.ScriptFault
status_of (cut_off s) = Status.TooLong

unfoldable pub told : Run → Output
told r = record { text = r.0 ++ last_line r.1; status = status_of r.1 }

-- what is run before each script, as sentence 0, with the default budgets; nothing of it is written
abbrev pub prelude : Text
prelude =
    codes "Inductive True : Prop := I : True. "
    ++ codes "Inductive False : Prop := . "
    ++ codes "Inductive and (A B : Prop) : Prop := conj : A -> B -> and A B. "
    ++ codes "Inductive or (A B : Prop) : Prop := or_introl : A -> or A B | or_intror : B -> or A B. "
    ++ codes "Inductive ex (A : Type 0) (P : A -> Prop) : Prop := ex_intro : forall x : A, P x -> ex A P. "
    ++ codes "Inductive eq (A : Type 0) (x : A) : A -> Prop := eq_refl : eq A x x. "
    ++ codes "Inductive nat : Type 0 := O : nat | S : nat -> nat. "
    ++ codes "Inductive bool : Type 0 := true : bool | false : bool. "
    ++ codes "Definition not (A : Prop) : Prop := A -> False. "

abbrev pub default_budget : ℕ
default_budget = 1000000

-- a session without declarations
abbrev pub blank : (steps kernel : ℕ) → Session
blank steps kernel = record { env = []; definitions = []; steps = steps; kernel = kernel; opened = None }

abbrev pub with_budgets : ℕ → ℕ → Session → Session
with_budgets steps kernel s = record { env = s.env; definitions = s.definitions; steps = steps; kernel = kernel; opened = s.opened }

-- a script behind the prelude, under those budgets
unfoldable pub behind_prelude : Parts → ℕ → ℕ → List ℕ → Ending → Output
behind_prelude b steps kernel bytes (accepted s) = told (run b bytes (with_budgets steps kernel s))
behind_prelude b steps kernel bytes (faulted k f) = told ([], faulted 0 f)
behind_prelude b steps kernel bytes (cut_off s) = told ([], cut_off s)

unfoldable pub output : Parts → (steps kernel : ℕ) → List ℕ → Output
output b steps kernel bytes = behind_prelude b steps kernel bytes (run b prelude (blank default_budget default_budget)).1

-- the declarations with which a script ends: those before its first fault
unfoldable pub env_of : Ending → Env
env_of (accepted s) = s.env
env_of (faulted k f) = f.env
env_of (cut_off s) = s.env
