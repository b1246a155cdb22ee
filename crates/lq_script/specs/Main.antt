-- What the top call answers and writes.
use Rattle.std.specs.Prelude.{◌≡◌, ℕ, List, take, Option}
use Rattle.std.specs.Io.KnownBytes.{Appends, IsAtEnd}
use Rattle.lq_output.specs.declared.Status.{Status}
use Rattle.lq_output.specs.declared.Status.TheVariants.{Done, ScriptFault, Usage, ReadFault, WriteFault, NoMemory, TooLong}
use Rattle.lq_output.specs.Output.{kernel_budget, output}
use Rattle.lq_script.specs.Transfer.{AppendsFront}
use Rattle.lq_script.specs.declared.script.Answer.{Answer}

-- all of the script's text was put behind what the sink held, and the status is the script's
abbrev pub GivesAll : List ℕ → Option (List ℕ) → Option (List ℕ) → Status → Type 0
GivesAll bytes before after status = ((output kernel_budget bytes).status ≡ status) × Appends before after (output kernel_budget bytes).text

-- a front of the script's text was put behind what the sink held
abbrev pub GivesFront : List ℕ → Option (List ℕ) → Option (List ℕ) → Type 0
GivesFront bytes before after = (count : ℕ) × Appends before after (take count (output kernel_budget bytes).text)

-- what a status says of a script of these bytes: it is the script's own, with all of its text, but for the three that a fault of
-- a port or want of memory bring, which leave a front of the text
abbrev pub Gives : List ℕ → Option (List ℕ) → Option (List ℕ) → Status → Type 0
Gives bytes before after Done = GivesAll bytes before after Done
Gives bytes before after ScriptFault = GivesAll bytes before after ScriptFault
Gives bytes before after TooLong = GivesAll bytes before after TooLong
Gives bytes before after ReadFault = GivesFront bytes before after
Gives bytes before after WriteFault = GivesFront bytes before after
Gives bytes before after NoMemory = GivesFront bytes before after
Gives bytes before after Usage = ⊥

-- a script that is accepted or has a fault was read to its end
abbrev pub ReadsAll : Status → Option (List ℕ) → Type 0
ReadsAll Done left = IsAtEnd left
ReadsAll ScriptFault left = IsAtEnd left
ReadsAll _ left = Unit {0}

-- a status that a script itself gives
abbrev pub IsVerdict : Status → Type 0
IsVerdict Done = Unit {0}
IsVerdict ScriptFault = Unit {0}
IsVerdict TooLong = Unit {0}
IsVerdict _ = ⊥

-- what handing an answer to a sink does: all of its text is there and the status is its own, or a front of it is there
abbrev pub Delivers : Option (List ℕ) → Option (List ℕ) → Answer → Status → Type 0
Delivers before after a WriteFault = AppendsFront before after a.text.items
Delivers before after a NoMemory = AppendsFront before after a.text.items
Delivers before after a status = (a.status ≡ status) × Appends before after a.text.items
