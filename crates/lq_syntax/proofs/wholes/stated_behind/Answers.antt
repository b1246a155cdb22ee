use Rattle.lq_syntax.proofs.FailLaws.{stated_ok, stated_fails}
use Rattle.lq_syntax.proofs.wholes.stated_behind.Goals as goal

pub returns-in-Ok : goal.returns-in-Ok
returns-in-Ok c = stated_ok c.args.fails c.args.words.now c.in-Ok.found c.in-Ok.ensures

pub returns-in-Err : goal.returns-in-Err
returns-in-Err c = stated_fails c.args.fails c.args.words.now c.in-Err.refusal c.in-Err.ensures
