-- What the answer to a script is.
use Rattle.std.specs.Prelude.{◌≡◌, ℕ, List}
use Rattle.lq_output.specs.Output.{Output, kernel_budget, output}
use Rattle.lq_script.specs.declared.script.Answer.{Answer}

-- the text and the status
abbrev pub as_output : Answer → Output
as_output a = record { text = a.text.items; status = a.status }

-- it is the script's output
abbrev pub IsOutputOf : List ℕ → Answer → Type 0
IsOutputOf bytes a = output kernel_budget bytes ≡ as_output a
