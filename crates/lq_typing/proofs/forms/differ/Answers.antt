use Rattle.lq_evars.specs.Places.{store_of}
use Rattle.lq_solving.specs.Stores.{read}
use Rattle.lq_terms.specs.Terms.{tree_of}
use Rattle.lq_typing.proofs.KindLaws.{differ_large, differ_fits}
use Rattle.lq_typing.proofs.forms.differ.Goals as goal

pub returns-in-Ok-clause-answer : goal.returns-in-Ok-clause-answer
returns-in-Ok-clause-answer c b = differ_fits c.args.bank.now c.read_kind.new.bank c.in-Ok.ensures.grows (store_of c.args.bank.now c.args.store.now) c.args.found c.requires.found (read (store_of c.args.bank.now c.args.store.now) (tree_of c.args.bank.now c.args.written)) c.in-Ok.wanted b c.in-Ok.ensures.answer

pub returns-in-Err-clause-answer : goal.returns-in-Err-clause-answer
returns-in-Err-clause-answer c b = differ_large c.read_kind.new.bank (store_of c.args.bank.now c.args.store.now) (tree_of c.args.bank.now c.args.found) (read (store_of c.args.bank.now c.args.store.now) (tree_of c.args.bank.now c.args.written)) c.in-Err.fault b c.in-Err.ensures.answer
