use Rattle.std.proofs.Common.{sym, Ok, Err}
use Rattle.std.proofs.Common.{subst as along}
use Rattle.lq_terms.specs.Terms.{tree_of}
use Rattle.lq_solving.specs.Stores.{read}
use Rattle.lq_solving.specs.ElabFaults.{elab_fitting}
use Rattle.lq_evars.specs.Places.{store_of}
use Rattle.lq_elab.specs.Answers.{Comes}
use Rattle.lq_elab.proofs.AgreeingLaws.{read_by, read_tree}
use Rattle.lq_elab.proofs.agreeing.measured.Goals as goal

pub returns-in-Ok-clause-answer : goal.returns-in-Ok-clause-answer
returns-in-Ok-clause-answer c = read_by c.read.new.bank (store_of c.args.bank.now c.args.store.now) (tree_of c.args.bank.now c.args.term) (Ok c.in-Ok.term) c.in-Ok.ensures.answer

pub returns-in-Ok-clause-is : goal.returns-in-Ok-clause-is
returns-in-Ok-clause-is c = read_tree c.read.new.bank (store_of c.args.bank.now c.args.store.now) (tree_of c.args.bank.now c.args.term) c.in-Ok.term c.in-Ok.ensures.answer.1

pub returns-in-Err-clause-answer : goal.returns-in-Err-clause-answer
returns-in-Err-clause-answer c = λ left.
    along (λ y. Comes c.read.new.bank (tree_of c.read.new.bank) (Err y) (λ n. elab_fitting (read (store_of c.args.bank.now c.args.store.now) (tree_of c.args.bank.now c.args.term))) left left) (sym c.fault_of.ensures)
    (read_by c.read.new.bank (store_of c.args.bank.now c.args.store.now) (tree_of c.args.bank.now c.args.term) (Err c.in-Err.fault) c.in-Err.ensures.answer left)
