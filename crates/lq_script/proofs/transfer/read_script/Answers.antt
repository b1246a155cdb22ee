use Rattle.std.proofs.Common.{◌≡◌, ◌≤◌, length, arith, ◌∙◌, length-take-le}
use Rattle.lq_script.proofs.Fronts.{front_ended, front_full, loses_more, on_err, reads_more}
use Rattle.lq_script.proofs.transfer.read_script.Goals as goal

pub loop-script-preserved : goal.loop-script-preserved
loop-script-preserved g c =
    let read = c.in_ok-read_piece.ensures in
    let room : length c.read_piece.new.piece ≡ c.min-room.result =
    c.read_piece.auto.piece ∙ length-take-le c.min-room.result c.deref_mut.result.now (omega (arith, c.deref_mut.ensures.len)) in
    record {
      piece = omega arith;
      bound = omega (arith, room, read.len, read.bound);
      read = reads_more _ _ _ c.loop-script.script.items _ c.read_piece.new.script.items c.loop-script.invariant.read read.taken read.script;
      later = omega arith;
    }

pub returns-then-branch-eq0-clause-bytes : goal.returns-then-branch-eq0-clause-bytes
returns-then-branch-eq0-clause-bytes g c =
    let read = c.in_ok-read_piece.ensures in
    let room : length c.read_piece.new.piece ≡ c.min-room.result =
    c.read_piece.auto.piece ∙ length-take-le c.min-room.result c.deref_mut.result.now (omega (arith, c.deref_mut.ensures.len)) in
    let within : length c.read_piece.new.script.items ≤ 4194305 = omega (arith, room, read.len, read.bound, c.read_piece.new.script.ok.0) in
    front_ended 4194305 _ _ c.read_piece.new.script.items
    (reads_more _ _ _ c.loop-script.script.items _ c.read_piece.new.script.items c.loop-script.invariant.read read.taken read.script)
    within (read.end (omega arith) (omega (arith, room)))

pub returns-clause-bytes : goal.returns-clause-bytes
returns-clause-bytes g c =
    let full : length c.loop-script.script.items ≡ 4194305 = omega (arith, c.loop-script.script.ok.0) in
    front_full 4194305 _ _ c.loop-script.script.items c.loop-script.invariant.read full

pub returns-in_err-read_piece-clause-lost : goal.returns-in_err-read_piece-clause-lost
returns-in_err-read_piece-clause-lost g c =
    let room : length c.read_piece.new.piece ≡ c.min-room.result =
    c.read_piece.auto.piece ∙ length-take-le c.min-room.result c.deref_mut.result.now (omega (arith, c.deref_mut.ensures.len)) in
    on_err _ _ (loses_more 4194305 (length c.read_piece.new.piece) _ _ _ c.loop-script.script.items c.loop-script.invariant.read
    (omega (arith, room, c.loop-script.script.ok.0)) c.in_err-read_piece.ensures.lost)
