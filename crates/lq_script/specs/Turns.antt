-- One sentence after another.
use Rattle.std.specs.Prelude.{◌≡◌, ℕ, Bool, true, false, List, ◌++◌, Ok, Err}
use Rattle.lq_output.specs.Faults.{Fault}
use Rattle.lq_output.specs.Script.{cut}
use Rattle.lq_output.specs.Sentences.{State, sentence}
use Rattle.lq_output.specs.Output.{run, start, at_end, behind, refused, kernel_budget}
use Rattle.lq_script.specs.declared.script.Answer.{Answer}
use Rattle.lq_script.specs.declared.session.Session.{Session}
use Rattle.lq_script.specs.Answers.{as_output}
use Rattle.lq_script.specs.States.{state_of}

-- a sentence is accepted, and writes that text
abbrev pub IsAccepted : Session → Session → List ℕ → List ℕ → Type 0
IsAccepted old new text line = sentence kernel_budget (state_of old) text ≡ Ok (line, state_of new)

-- a sentence has that fault
abbrev pub IsRefused : Session → List ℕ → Fault → Type 0
IsRefused old text fault = sentence kernel_budget (state_of old) text ≡ Err fault

-- the sentence is accepted, and its text is put behind the output so far
pub record Accepts (old new : Session) (text before after : List ℕ) : Type 0 where
  pub line : List ℕ
  pub there : after ≡ before ++ line
  pub accepted : IsAccepted old new text line

-- the sentence of that number is refused, and the line of its fault is put behind the output so far
pub record Refuses (old : Session) (number : ℕ) (text before after : List ℕ) : Type 0 where
  pub fault : Fault
  pub there : after ≡ before ++ (refused number fault).text
  pub refusal : IsRefused old text fault

-- whether the run goes on behind the sentence
abbrev pub Turns : Bool → Session → Session → ℕ → List ℕ → List ℕ → List ℕ → Type 0
Turns true old new number text before after = Accepts old new text before after
Turns false old new number text before after = Refuses old number text before after

-- the answer is what a run of the sentences gives
abbrev pub IsRunOf : List ℕ → Answer → Type 0
IsRunOf bytes a = run kernel_budget start 1 (cut bytes).sentences (cut bytes).rest ≡ as_output a

-- the answer is the text so far and what the end gives
abbrev pub IsEndOf : State → ℕ → List ℕ → List ℕ → Answer → Type 0
IsEndOf s number rest text a = behind text (at_end s number rest) ≡ as_output a
