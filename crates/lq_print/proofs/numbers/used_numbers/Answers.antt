use Rattle.std.proofs.Common.{length, arith, refl}
use Rattle.lq_print.specs.Tables.{text_at}
use Rattle.lq_terms.proofs.NumberLaws.{used_none}
use Rattle.lq_print.proofs.NumberLaws.{used_more}
use Rattle.lq_print.proofs.numbers.used_numbers.Goals as goal

pub loop-number-init : goal.loop-number-init
loop-number-init c = used_none c.args.base.now (length c.args.taken.now) c.in_ok-used.used.items (c.in_ok-used.ensures.items_if_clones_equal (λ y h. h))

pub loop-number-preserved : goal.loop-number-preserved
loop-number-preserved c =
    used_more (text_at c.args.texts.now) c.args.taken.now c.loop-number.number-index _ c.loop-number-test.true c.args.base.now (length c.args.taken.now) (omega (arith, c.loop-number.invariant.length, c.loop-number.used.ok, c.loop-number.used.small))
    c.number_behind.result c.text.result.now c.args.base.now c.text.ensures refl c.loop-number.used.items c.mark_number.new.used.items c.number_behind.ensures.is c.number_behind.ensures.only
    c.mark_number.ensures.length c.mark_number.ensures.marked c.mark_number.ensures.kept c.loop-number.invariant
