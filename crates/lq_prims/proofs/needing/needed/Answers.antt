use Rattle.lq_terms.specs.Terms.{tree_of}
use Rattle.lq_evars.specs.Places.{store_of}
use Rattle.lq_prims.proofs.NeedLaws.{needed_ok, needed_err}
use Rattle.lq_prims.proofs.needing.needed.Goals as goal

pub returns-in-Ok-clause-answer : goal.returns-in-Ok-clause-answer
returns-in-Ok-clause-answer c = needed_ok c.read.new.bank (store_of c.args.bank.now c.args.store.now) (tree_of c.args.bank.now c.args.term) c.in-Ok.read c.in-Ok.ensures.answer

pub returns-in-Err-clause-answer : goal.returns-in-Err-clause-answer
returns-in-Err-clause-answer c b = needed_err c.read.new.bank (store_of c.args.bank.now c.args.store.now) (tree_of c.args.bank.now c.args.term) c.in-Err.fault c.from.result c.from.ensures c.in-Err.ensures.answer b
