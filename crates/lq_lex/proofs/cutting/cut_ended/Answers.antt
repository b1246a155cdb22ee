use Rattle.std.proofs.Common.{arith}
use Rattle.lq_lex.proofs.CuttingLaws.{next_behind}
use Rattle.lq_lex.proofs.cutting.cut_ended.Goals as goal

pub returns-then-start-text : goal.returns-then-start-text
returns-then-start-text c = next_behind c.args.text.now c.args.start (omega arith)
