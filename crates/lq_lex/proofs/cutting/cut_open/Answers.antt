use Rattle.std.proofs.Common.{◌∙◌, sym, arith}
use Rattle.lq_lex.proofs.CuttingLaws.{waits_settled, settles_behind}
use Rattle.lq_lex.proofs.cutting.cut_open.Goals as goal

pub returns-then-found : goal.returns-then-found
returns-then-found c = waits_settled c.args.text.now c.args.start c.in-Ok.found.piece (omega arith) (sym c.in-Ok.ensures.1 ∙ c.if-found.true) c.in-Ok.ensures.0

pub returns-then-start-text : goal.returns-then-start-text
returns-then-start-text c = settles_behind c.args.text.now c.args.start (omega arith)
