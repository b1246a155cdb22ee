use Rattle.std.proofs.Common.{arith}
use Rattle.lq_prims.proofs.rooms.few.Goals as goal

pub returns : goal.returns
returns c = omega (arith, c.requires, c.ranges.count.fits)
