-- What a script's bytes give: the bytes written, and the status.
use Rattle.std.specs.Prelude.{◌≡◌, ℕ, ◌+◌, ◌&&◌, Bool, true, false, nat_lt, List, [], ◌∷◌, ◌++◌, length, Ok, Err, codes, decimal}
use Rattle.lq_output.specs.declared.Status.{Status}
use Rattle.lq_output.specs.Script.{is_blank, cut}
use Rattle.lq_output.specs.Faults.{Fault, not_built}
use Rattle.lq_calculus.specs.Declarations.{Env}
use Rattle.lq_calculus.specs.Typing.{DerivedEnv}
use Rattle.lq_output.specs.Sentences.{Place, outside, State, sentence, fault_text, defined}

pub record Output : Type 0 where
  pub text : List ℕ
  pub status : Status

-- the last line of a script that has a fault, at the sentence of that number
unfoldable pub refused : ℕ → Fault → Output
refused k f = record { text = codes "Error: sentence " ++ decimal k ++ codes ": " ++ fault_text f ++ 10 ∷ []; status = Status.ScriptFault }

-- text in front of an output
unfoldable pub behind : List ℕ → Output → Output
behind text o = record { text = text ++ o.text; status = o.status }

unfoldable pub all_blank : List ℕ → Bool
all_blank [] = true
all_blank (b ∷ bs) = is_blank b && all_blank bs

unfoldable pub is_outside : Place → Bool
is_outside outside = true
is_outside _ = false

-- behind the last sentence: nothing but blanks, and no theorem is begun
unfoldable pub at_end : State → ℕ → List ℕ → Output
at_end s k rest = elim (is_outside s.place && all_blank rest) [ true ↦ record { text = []; status = Status.Done } | false ↦ refused k not_built ]

-- sentences one after the other, counted from k on, each with that budget of the kernel; the first fault ends the run
unfoldable pub run : ℕ → State → ℕ → List (List ℕ) → List ℕ → Output
run budget s k [] rest = at_end s k rest
run budget s k (p ∷ ps) rest = elim (sentence budget s p) [ Ok r ↦ behind r.0 (run budget r.1 (k + 1) ps rest) | Err f ↦ refused k f ]

-- no declarations, and no theorem begun
abbrev pub start : State
start = record { env = []; place = outside }

-- the kernel's budget for a sentence, in ticks
abbrev pub kernel_budget : ℕ
kernel_budget = 1000000

-- the most bytes of a script
abbrev pub most_bytes : ℕ
most_bytes = 4194304

unfoldable pub too_long : Output
too_long = record { text = codes "Error: script longer than 4194304 bytes" ++ 10 ∷ []; status = Status.TooLong }

-- the output of a script, where each sentence has that budget of the kernel
unfoldable pub output : ℕ → List ℕ → Output
output budget bytes = elim (nat_lt most_bytes (length bytes)) [ true ↦ too_long | false ↦ run budget start 1 (cut bytes).sentences (cut bytes).rest ]

-- the declarations with which a run ends
unfoldable pub reached : ℕ → State → List (List ℕ) → Env
reached budget s [] = s.env
reached budget s (p ∷ ps) = elim (sentence budget s p) [ Ok r ↦ reached budget r.1 ps | Err f ↦ s.env ]

-- the declarations of a script: those of its theorems that are accepted, in order
unfoldable pub declarations : ℕ → List ℕ → Env
declarations budget bytes = elim (nat_lt most_bytes (length bytes)) [ true ↦ [] | false ↦ reached budget start (cut bytes).sentences ]

-- a line for each declaration
unfoldable pub reports : Env → List ℕ
reports [] = []
reports (e ∷ env) = defined e.0 ++ reports env

-- what may stand behind the reports: nothing, or one line of an error
pub data IsLastLine : List ℕ → Type 0 where
  no_line : IsLastLine []
  fault_line : (k : ℕ) (f : Fault) → IsLastLine (refused k f).text
  long_line : IsLastLine too_long.text

-- what is said of each script: each report is of a declaration, each declaration is reported, in order, with at most one line
-- behind them; and each declaration's type has a sort and its body has that type by the typing rules, over those before it
pub record HasDerivations (budget : ℕ) (bytes : List ℕ) : Type 0 where
  pub last : List ℕ
  pub is_last : IsLastLine last
  pub text : (output budget bytes).text ≡ reports (declarations budget bytes) ++ last
  pub derived : DerivedEnv (declarations budget bytes)
