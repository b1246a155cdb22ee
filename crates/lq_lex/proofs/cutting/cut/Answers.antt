use Rattle.lq_lex.proofs.CuttingLaws.{cuts_spread, waits_spread}
use Rattle.lq_lex.proofs.cutting.cut.Goals as goal

pub returns-then-ended-clause-spread : goal.returns-then-ended-clause-spread
returns-then-ended-clause-spread c = cuts_spread c.args.text.now c.args.from c.cut_ended.result c.cut_ended.ensures

pub returns-else-ended-clause-spread : goal.returns-else-ended-clause-spread
returns-else-ended-clause-spread c = waits_spread c.args.text.now c.args.from c.cut_open.result c.cut_open.ensures
