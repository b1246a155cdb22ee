-- The number of each status, which is the program's exit status.
use Rattle.std.specs.Prelude.{ℕ}
use Rattle.lq_output.specs.declared.Status.{Status}

abbrev pub number_of : Status → ℕ
number_of Status.Done = 0
number_of Status.ScriptFault = 1
number_of Status.Usage = 2
number_of Status.ReadFault = 3
number_of Status.WriteFault = 4
number_of Status.NoMemory = 5
number_of Status.TooLong = 6
