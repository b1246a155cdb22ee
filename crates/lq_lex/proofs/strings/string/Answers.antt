use Rattle.std.proofs.Common.{arith, ◌∙◌, sym}
use Rattle.lq_lex.proofs.StringLaws.{string_goes, string_ends, string_over, string_broken, string_beyond}
use Rattle.lq_lex.proofs.strings.string.Goals as goal

pub returns-then-ends_before : goal.returns-then-ends_before
returns-then-ends_before c =
    let loop = c.loop-c in
    rw (c.token.ensures, loop.invariant.same) (string_ends c.args.view.now c.args.start loop.at c.in-Letter.c c.in-Letter.next loop.closing (sym c.ends_before.ensures ∙ c.if-ends_before.true) c.in-Letter.ensures, loop.invariant.ahead, loop.invariant.within)

pub loop-c-preserved : goal.loop-c-preserved
loop-c-preserved c =
    let loop = c.loop-c in
    record {
      same = loop.invariant.same ∙ rw c.may_close-closing.ensures (string_goes c.args.view.now c.args.start loop.at c.in-Letter.c c.in-Letter.next loop.closing (sym c.ends_before.ensures ∙ c.if-ends_before.false) c.in-Letter.ensures);
      ahead = omega (arith, c.in-Letter.ensures.1, loop.invariant.ahead);
      within = c.in-Letter.ensures.2;
    }

pub returns-in-Over : goal.returns-in-Over
returns-in-Over c =
    let loop = c.loop-c in
    rw (c.ended.ensures, loop.invariant.same) (string_over c.args.view.now c.args.start loop.at loop.closing c.in-Over.ensures loop.invariant.ahead loop.invariant.within)

pub returns-in-Broken : goal.returns-in-Broken
returns-in-Broken c =
    let loop = c.loop-c in
    rw (c.ended-in-Broken.ensures, loop.invariant.same) (string_broken c.args.view.now c.args.start loop.at loop.closing c.in-Broken.ensures loop.invariant.ahead loop.invariant.within)

pub returns-in-Beyond : goal.returns-in-Beyond
returns-in-Beyond c =
    let loop = c.loop-c in
    rw (c.ended-in-Beyond.ensures, c.ends_before-ends.ensures, loop.invariant.same) (string_beyond c.args.view.now c.args.start loop.at c.in-Beyond.c loop.closing c.in-Beyond.ensures loop.invariant.ahead loop.invariant.within)
