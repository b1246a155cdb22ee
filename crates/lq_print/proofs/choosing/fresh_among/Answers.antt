use Rattle.std.proofs.Common.{sym, ◌∙◌}
use Rattle.lq_print.proofs.AmongLaws.{fresh_base, number_as}
use Rattle.lq_print.proofs.choosing.fresh_among.Goals as goal

pub renumbered-requires-clause-taken : goal.renumbered-requires-clause-taken
renumbered-requires-clause-taken c = sym c.is_taken.ensures ∙ c.if-is_taken.true

pub returns-else-is_taken-clause-name : goal.returns-else-is_taken-clause-name
returns-else-is_taken-clause-name c =
    number_as c.add.new.self c.add.result _ _ (fresh_base _ c.args.base.now (sym c.is_taken.ensures ∙ c.if-is_taken.false)) c.add.ensures.added
