use Rattle.std.proofs.Common.{length, arith}
use Rattle.lq_terms.specs.Terms.{text_of}
use Rattle.lq_terms.proofs.NumberLaws.{used_none, used_more}
use Rattle.lq_terms.proofs.numbers.used_numbers.Goals as goal

pub loop-name-init : goal.loop-name-init
loop-name-init c = used_none (text_of c.args.bank.now c.args.base) (length c.args.taken.now) c.in_ok-used.used.items (c.in_ok-used.ensures.items_if_clones_equal (λ y h. h))

pub loop-name-preserved : goal.loop-name-preserved
loop-name-preserved c =
    used_more (text_of c.args.bank.now) c.args.taken.now c.loop-name.name-index _ c.loop-name-test.true (text_of c.args.bank.now c.args.base) (length c.args.taken.now) (omega (arith, c.loop-name.invariant.length, c.loop-name.used.ok, c.loop-name.used.small))
    c.number_behind.result c.text.result.now c.text-in-loop-name.result.now c.text.ensures.text c.text-in-loop-name.ensures.text c.loop-name.used.items c.mark_number.new.used.items c.number_behind.ensures.is c.number_behind.ensures.only
    c.mark_number.ensures.length c.mark_number.ensures.marked c.mark_number.ensures.kept c.loop-name.invariant
