use Rattle.std.proofs.Common.{◌≡◌, ◌-◌, ◌≤◌, vec_len}
use Rattle.std.specs.Io.KnownBytes.{Consumes}
use Rattle.lq_script.proofs.transfer.read_script.Given as goal

abbrev pub invariant-loop-script : goal.invariant-loop-script
invariant-loop-script g l = record {
  piece : vec_len l.piece ≡ 65536;
  bound : vec_len l.script ≤ 4194305;
  read : Consumes (g.S.Source.remaining l.initial.source) (g.S.Source.remaining l.source) l.script.items;
  later : g.S.Source.faults l.initial.source ≤ g.S.Source.faults l.source;
}

abbrev pub decreases-loop-script : goal.decreases-loop-script
decreases-loop-script g l = 4194305 - vec_len l.script
