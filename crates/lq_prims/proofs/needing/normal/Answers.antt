use Rattle.lq_terms.specs.Terms.{tree_of}
use Rattle.lq_prims.proofs.NeedLaws.{normal_then, normal_err}
use Rattle.lq_prims.proofs.needing.normal.Goals as goal

pub returns-in-Ok-clause-answer : goal.returns-in-Ok-clause-answer
returns-in-Ok-clause-answer g c =
    normal_then c.beta_normal.new.work.bank.now (tree_of c.args.work.now.bank.now c.args.term) c.args.work.now.ticks.now.left c.beta_normal.new.work.ticks.now.left c.in-Ok.form c.fitting.result (tree_of c.beta_normal.new.work.bank.now)
    c.in-Ok.ensures.answer.1 c.fitting.ensures.answer

pub returns-in-Err-clause-answer : goal.returns-in-Err-clause-answer
returns-in-Err-clause-answer g c =
    normal_err c.beta_normal.new.work.bank.now (tree_of c.args.work.now.bank.now c.args.term) c.args.work.now.ticks.now.left c.beta_normal.new.work.ticks.now.left c.in-Err.fault c.from.result c.from.ensures c.in-Err.ensures.answer
