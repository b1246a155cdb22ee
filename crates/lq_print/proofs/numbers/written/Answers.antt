use Rattle.std.proofs.Common.{◌∙◌, sym}
use Rattle.lq_terms.proofs.NumberLaws.{decimal_first, read_is, read_only}
use Rattle.lq_print.proofs.numbers.written.Goals as goal

pub returns-then-is_padded-clause-only : goal.returns-then-is_padded-clause-only
returns-then-is_padded-clause-only c k l e =
    absurd (decimal_first k c.args.text.now l e (c.is_padded.ensures.long c.if-is_padded.true) (c.is_padded.ensures.low c.if-is_padded.true))

pub returns-in-Ok-clause-is : goal.returns-in-Ok-clause-is
returns-in-Ok-clause-is c = read_is c.args.text.now c.in-Ok.number c.in-Ok.ensures.value.0 (c.is_padded.ensures.high c.if-is_padded.false)

pub returns-in-Ok-clause-only : goal.returns-in-Ok-clause-only
returns-in-Ok-clause-only c k l e = let read = read_only c.args.text.now c.parse.result k l e c.parse.ensures.value.0 in let is = sym c.in-Ok.is ∙ read in cc

pub returns-in-Err-clause-only : goal.returns-in-Err-clause-only
returns-in-Err-clause-only c k l e = let read = read_only c.args.text.now c.parse.result k l e c.parse.ensures.value.0 in let is = sym c.in-Err.is ∙ read in cc
