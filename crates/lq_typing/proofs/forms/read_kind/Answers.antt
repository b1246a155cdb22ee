use Rattle.lq_evars.specs.Places.{store_of}
use Rattle.lq_terms.specs.Terms.{tree_of}
use Rattle.lq_typing.proofs.ReadingLaws.{read_fits, read_large, read_deep}
use Rattle.lq_typing.proofs.forms.read_kind.Goals as goal

pub returns-in-Ok-clause-answer : goal.returns-in-Ok-clause-answer
returns-in-Ok-clause-answer c = read_fits (store_of c.args.bank.now c.args.store.now) (tree_of c.args.bank.now c.args.term) c.read.new.bank c.in-Ok.kind c.in-Ok.ensures.answer

pub returns-in-Err-TooLarge-clause-answer : goal.returns-in-Err-TooLarge-clause-answer
returns-in-Err-TooLarge-clause-answer c = read_large (store_of c.args.bank.now c.args.store.now) (tree_of c.args.bank.now c.args.term) (rw c.in-Err-TooLarge.field-0-is at c.in-Err-TooLarge.ensures.answer)

pub returns-in-Err-TooDeep-clause-answer : goal.returns-in-Err-TooDeep-clause-answer
returns-in-Err-TooDeep-clause-answer c = read_deep (store_of c.args.bank.now c.args.store.now) (tree_of c.args.bank.now c.args.term) (rw c.in-Err-TooDeep.field-0-is at c.in-Err-TooDeep.ensures.answer)
