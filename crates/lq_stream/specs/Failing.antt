-- What a stream does next is a failure.
use Rattle.lq_stream.specs.declared.turns.Doing.{Doing}
use Rattle.lq_stream.specs.declared.turns.Doing.TheVariants.{Run as Running, Success, Failure, Look}

-- a failure, or the look for a second success
abbrev pub IsFailing : {A V C : Type 0} → Doing A V C → Type 0
IsFailing (Running a) = ⊥
IsFailing (Success v) = ⊥
IsFailing (Failure k c) = Unit {0}
IsFailing Look = Unit {0}
