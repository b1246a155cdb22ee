use Rattle.lq_terms.specs.Terms.{tree_of}
use Rattle.lq_solving.specs.Stores.{read}
use Rattle.lq_solving.specs.Unification.{by_right}
use Rattle.lq_evars.specs.Places.{store_of}
use Rattle.lq_unify.proofs.BothLaws.{then_none, then_some, then_fails, not_yes, none_not_yes}
use Rattle.lq_unify.proofs.solving.after_no.Goals as goal

pub returns-in-Some-clause-answer : goal.returns-in-Some-clause-answer
returns-in-Some-clause-answer c = λ w no. then_some c.solve_right.new.bank c.solve_right.new.store w (by_right (store_of c.args.bank.now c.args.store.now) (read (store_of c.args.bank.now c.args.store.now) (tree_of c.args.bank.now c.args.left)) (read (store_of c.args.bank.now c.args.store.now) (tree_of c.args.bank.now c.args.right))) no c.in-Some.answer (rw c.in-Some.is at c.in-Ok.ensures.answer)

pub returns-in-Some-clause-no : goal.returns-in-Some-clause-no
returns-in-Some-clause-no c = λ e. (rw c.in-Some.is at c.in-Ok.ensures.no) (not_yes c.in-Some.answer e)

pub returns-in-None-clause-answer : goal.returns-in-None-clause-answer
returns-in-None-clause-answer c = λ w no. then_none c.solve_right.new.bank c.solve_right.new.store w (by_right (store_of c.args.bank.now c.args.store.now) (read (store_of c.args.bank.now c.args.store.now) (tree_of c.args.bank.now c.args.left)) (read (store_of c.args.bank.now c.args.store.now) (tree_of c.args.bank.now c.args.right))) no (rw c.in-None.is at c.in-Ok.ensures.answer)

pub returns-in-None-clause-no : goal.returns-in-None-clause-no
returns-in-None-clause-no c = λ e. (rw c.in-None.is at c.in-Ok.ensures.no) none_not_yes

pub returns-in-Err-clause-answer : goal.returns-in-Err-clause-answer
returns-in-Err-clause-answer c = λ w no. then_fails c.solve_right.new.bank c.solve_right.new.store w (by_right (store_of c.args.bank.now c.args.store.now) (read (store_of c.args.bank.now c.args.store.now) (tree_of c.args.bank.now c.args.left)) (read (store_of c.args.bank.now c.args.store.now) (tree_of c.args.bank.now c.args.right))) no c.in-Err.fault c.in-Err.ensures.answer
