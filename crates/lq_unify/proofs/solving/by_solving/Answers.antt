use Rattle.std.proofs.Common.{◌∙◌, sym, true, false}
use Rattle.std.proofs.Common.{subst as along}
use Rattle.lq_terms.specs.Terms.{tree_of}
use Rattle.lq_solving.specs.Stores.{read}
use Rattle.lq_solving.specs.Unification.{by_right, by_solving, or_else}
use Rattle.lq_evars.specs.Places.{store_of}
use Rattle.lq_unify.specs.Solving.{SolvesOr, solved}
use Rattle.lq_unify.proofs.BothLaws.{left_none, left_solved, side_variable, some_ok, some_err, yes_or_no}
use Rattle.lq_unify.proofs.solving.by_solving.Goals as goal

pub returns-then-not-is_unknown-clause-answer : goal.returns-then-not-is_unknown-clause-answer
returns-then-not-is_unknown-clause-answer c =
    along (SolvesOr c.solve_right.new.bank c.solve_right.result c.solve_right.new.store)
    (sym (left_none (store_of c.args.bank.now c.args.store.now) (read (store_of c.args.bank.now c.args.store.now) (tree_of c.args.bank.now c.args.left)) (read (store_of c.args.bank.now c.args.store.now) (tree_of c.args.bank.now c.args.right)) (side_variable (store_of c.args.bank.now c.args.store.now) (tree_of c.args.bank.now c.args.left) false c.requires.left_open (sym c.is_unknown.ensures ∙ c.if-not-is_unknown.true)))) c.solve_right.ensures.answer

pub left_first-requires-clause-is : goal.left_first-requires-clause-is
left_first-requires-clause-is c = sym c.is_unknown.ensures ∙ c.if-not-is_unknown.false

pub returns-in-Ok-clause-answer : goal.returns-in-Ok-clause-answer
returns-in-Ok-clause-answer c =
    some_ok c.left_first.new.bank c.left_first.new.store c.in-Ok.answer (or_else (solved (store_of c.args.bank.now c.args.store.now) (read (store_of c.args.bank.now c.args.store.now) (tree_of c.args.bank.now c.args.left)) (read (store_of c.args.bank.now c.args.store.now) (tree_of c.args.bank.now c.args.right))) (by_right (store_of c.args.bank.now c.args.store.now) (read (store_of c.args.bank.now c.args.store.now) (tree_of c.args.bank.now c.args.left)) (read (store_of c.args.bank.now c.args.store.now) (tree_of c.args.bank.now c.args.right)))) (by_solving (store_of c.args.bank.now c.args.store.now) (read (store_of c.args.bank.now c.args.store.now) (tree_of c.args.bank.now c.args.left)) (read (store_of c.args.bank.now c.args.store.now) (tree_of c.args.bank.now c.args.right))) c.in-Ok.ensures.answer
    (left_solved (store_of c.args.bank.now c.args.store.now) (read (store_of c.args.bank.now c.args.store.now) (tree_of c.args.bank.now c.args.left)) (read (store_of c.args.bank.now c.args.store.now) (tree_of c.args.bank.now c.args.right)) (side_variable (store_of c.args.bank.now c.args.store.now) (tree_of c.args.bank.now c.args.left) true c.requires.left_open (sym c.is_unknown.ensures ∙ c.if-not-is_unknown.false)))

pub returns-in-Ok-clause-no : goal.returns-in-Ok-clause-no
returns-in-Ok-clause-no c = yes_or_no c.args.store.now c.left_first.new.store c.in-Ok.answer c.in-Ok.ensures.no

pub returns-in-Err-clause-answer : goal.returns-in-Err-clause-answer
returns-in-Err-clause-answer c =
    some_err c.left_first.new.bank c.left_first.new.store c.in-Err.fault (or_else (solved (store_of c.args.bank.now c.args.store.now) (read (store_of c.args.bank.now c.args.store.now) (tree_of c.args.bank.now c.args.left)) (read (store_of c.args.bank.now c.args.store.now) (tree_of c.args.bank.now c.args.right))) (by_right (store_of c.args.bank.now c.args.store.now) (read (store_of c.args.bank.now c.args.store.now) (tree_of c.args.bank.now c.args.left)) (read (store_of c.args.bank.now c.args.store.now) (tree_of c.args.bank.now c.args.right)))) (by_solving (store_of c.args.bank.now c.args.store.now) (read (store_of c.args.bank.now c.args.store.now) (tree_of c.args.bank.now c.args.left)) (read (store_of c.args.bank.now c.args.store.now) (tree_of c.args.bank.now c.args.right))) c.in-Err.ensures.answer
    (left_solved (store_of c.args.bank.now c.args.store.now) (read (store_of c.args.bank.now c.args.store.now) (tree_of c.args.bank.now c.args.left)) (read (store_of c.args.bank.now c.args.store.now) (tree_of c.args.bank.now c.args.right)) (side_variable (store_of c.args.bank.now c.args.store.now) (tree_of c.args.bank.now c.args.left) true c.requires.left_open (sym c.is_unknown.ensures ∙ c.if-not-is_unknown.false)))
