use Rattle.std.proofs.Common.{sym, ◌∙◌}
use Rattle.lq_print.specs.Tables.{text_at}
use Rattle.lq_print.proofs.AmongLaws.{taken_first, taken_second}
use Rattle.lq_print.proofs.choosing.is_taken.Goals as goal

pub returns-then-is_among : goal.returns-then-is_among
returns-then-is_among c =
    sym (taken_first (text_at c.args.texts.now) c.args.inside.now c.args.binders.now c.args.text.now (sym c.is_among.ensures ∙ c.if-is_among.true))

pub returns : goal.returns
returns c =
    c.is_among-2.ensures
    ∙ sym (taken_second (text_at c.args.texts.now) c.args.inside.now c.args.binders.now c.args.text.now (sym c.is_among.ensures ∙ c.if-is_among.false))
