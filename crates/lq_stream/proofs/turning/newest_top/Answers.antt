use Rattle.std.proofs.Common.{rules, ◌≡◌, ◌-◌, ◌<◌, length, arith}
use Rattle.lq_stream.proofs.HeldLaws.{newest_is}
use Rattle.lq_stream.proofs.turning.newest_top.Goals as goal

pub returns-else-is_empty : goal.returns-else-is_empty
returns-else-is_empty c =
    let n : c.len.result ≡ length c.args.tops.now.items = search (rules, c.len.ensures) in
    let e : 0 < c.len.result = search (rules, c.len.ensures, c.is_empty.ensures, c.if-is_empty.false) in
    newest_is 0 c.args.tops.now.items c.index.result.now (c.len.result - 1) (omega arith) c.index.ensures
