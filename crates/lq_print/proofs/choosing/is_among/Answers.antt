use Rattle.std.proofs.Common.{◌<◌, length, sym}
use Rattle.lq_print.proofs.Lists.{all_at}
use Rattle.lq_print.proofs.TableLaws.{text_is}
use Rattle.lq_print.proofs.AmongLaws.{none_among, among_found, among_passed, among_nowhere}
use Rattle.lq_print.proofs.choosing.is_among.Goals as goal

pub returns-in_default : goal.returns-in_default
returns-in_default c = sym (none_among c.args.texts.now c.args.numbers.now c.args.text.now c.in_default.ensures.only c.requires)

pub returns-then-other-number : goal.returns-then-other-number
returns-then-other-number c =
    among_found c.args.texts.now c.args.numbers.now c.loop-other.other-index 0 c.args.text.now c.in-Some.number c.in-Some.ensures.found c.loop-other-test.true
    c.if-other-number.true (text_is c.args.texts.now c.in-Some.number c.args.text.now c.in-Some.ensures.found) c.loop-other.invariant

pub loop-other-preserved : goal.loop-other-preserved
loop-other-preserved c =
    among_passed c.args.texts.now c.args.numbers.now c.loop-other.other-index 0 c.args.text.now c.in-Some.number c.in-Some.ensures.only c.loop-other-test.true
    (all_at (λ k. k < length c.args.texts.now) c.args.numbers.now c.loop-other.other-index 0 c.requires c.loop-other-test.true) c.if-other-number.false c.loop-other.invariant

pub returns : goal.returns
returns c = among_nowhere c.args.texts.now c.args.numbers.now c.loop-other.other-index 0 c.args.text.now c.loop-other-test.false c.loop-other.invariant
