use Rattle.std.proofs.Common.{ap, arith}
use Rattle.lq_elab.proofs.ShutSteps.{wide_index, wide_filled}
use Rattle.lq_elab.proofs.shutting.filled_wide.Goals as goal

pub put_for-requires-clause-index : goal.put_for-requires-clause-index
put_for-requires-clause-index c =
    wide_index c.args.bank.now c.name.new.self c.name_under.new.bank c.open.new.bank c.in_ok-unnamed.ensures.grows c.in_ok-name.ensures.grows c.in_ok-opened.ensures.grows c.args.context.now c.in_ok-unnamed.unnamed c.in_ok-name.name c.args.rest c.args.value c.in_ok-opened.opened
    c.requires.context (omega (arith, c.requires.count, c.ranges.count.fits)) c.requires.rest c.requires.within c.requires.holds c.requires.value c.requires.closed c.in_ok-name.ensures.name c.in_ok-opened.ensures.opened
    (omega (arith, ap (λ m. m.depth) c.measure-depth.ensures, ap (λ m. m.depth) c.measure-most.ensures, c.if-depth-gt-MOST_DEPTH.false, c.if-most-depth.false))

pub returns-clause-filled : goal.returns-clause-filled
returns-clause-filled c =
    wide_filled c.args.bank.now c.name.new.self c.name_under.new.bank c.open.new.bank c.in_ok-unnamed.ensures.grows c.in_ok-name.ensures.grows c.in_ok-opened.ensures.grows c.args.context.now c.in_ok-unnamed.unnamed c.in_ok-name.name c.args.rest c.args.value c.in_ok-opened.opened
    c.requires.context (omega (arith, c.requires.count, c.ranges.count.fits)) c.requires.rest c.requires.within c.requires.holds c.requires.value c.requires.closed c.in_ok-name.ensures.name c.in_ok-opened.ensures.opened
    c.put_for.new.bank c.put_for.result c.put_for.ensures.put
