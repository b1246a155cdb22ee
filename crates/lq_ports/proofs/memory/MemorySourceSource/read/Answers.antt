use Rattle.std.proofs.Common.{◌≤◌, length, arith}
use Rattle.lq_ports.proofs.Fronts.{read_filled}
use Rattle.lq_ports.proofs.memory.MemorySourceSource.read.Goals as goal

pub returns-clause-buffer : goal.returns-clause-buffer
returns-clause-buffer c =
    let room = c.min-room.result in
    let within : room ≤ length c.args.buf.now = omega arith in
    rw (← c.self.view_is) (read_filled c.read.result c.self.inside.still c.args.buf.now c.read.new.buf room within c.read.ensures.ok c.read.ensures.count c.read.ensures.copied)
