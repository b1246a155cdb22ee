use Rattle.lq_stream.specs.Asking.{IsReady}
use Rattle.lq_stream_rows.specs.Acting.{themselves, everything}
use Rattle.lq_stream_rows.proofs.asking.ask_all.Given as goal

-- the stream may be asked
abbrev pub invariant-loop-digit : goal.invariant-loop-digit
invariant-loop-digit g l = IsReady everything themselves l.stream
