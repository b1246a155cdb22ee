use Rattle.std.proofs.Common.{◌∙◌, sym, true, false}
use Rattle.lq_terms.specs.Terms.{tree_of}
use Rattle.lq_terms.proofs.Growth.{Grows-refl}
use Rattle.lq_solving.specs.Stores.{read}
use Rattle.lq_solving.specs.Unification.{by_right}
use Rattle.lq_evars.specs.Places.{store_of}
use Rattle.lq_unify.specs.Solving.{solved}
use Rattle.lq_unify.proofs.GivingLaws.{gives_nothing}
use Rattle.lq_unify.proofs.BothLaws.{right_none, right_solved, side_variable, some_ok, some_err, yes_or_no}
use Rattle.lq_unify.proofs.solving.solve_right.Goals as goal

pub returns-then-not-is_unknown-clause-answer : goal.returns-then-not-is_unknown-clause-answer
returns-then-not-is_unknown-clause-answer c = right_none (store_of c.args.bank.now c.args.store.now) (read (store_of c.args.bank.now c.args.store.now) (tree_of c.args.bank.now c.args.left)) (read (store_of c.args.bank.now c.args.store.now) (tree_of c.args.bank.now c.args.right)) (side_variable (store_of c.args.bank.now c.args.store.now) (tree_of c.args.bank.now c.args.right) false c.requires.right_open (sym c.is_unknown.ensures ∙ c.if-not-is_unknown.true))

pub returns-then-not-is_unknown-clause-gives : goal.returns-then-not-is_unknown-clause-gives
returns-then-not-is_unknown-clause-gives c = gives_nothing c.args.bank.now c.args.bank.now (Grows-refl c.args.bank.now) c.args.store.now c.requires.store c.requires.kept

pub solve-requires-clause-is : goal.solve-requires-clause-is
solve-requires-clause-is c = sym c.is_unknown.ensures ∙ c.if-not-is_unknown.false

pub returns-in-Ok-clause-answer : goal.returns-in-Ok-clause-answer
returns-in-Ok-clause-answer c =
    some_ok c.solve.new.bank c.solve.new.store c.in-Ok.answer (solved (store_of c.args.bank.now c.args.store.now) (read (store_of c.args.bank.now c.args.store.now) (tree_of c.args.bank.now c.args.right)) (read (store_of c.args.bank.now c.args.store.now) (tree_of c.args.bank.now c.args.left))) (by_right (store_of c.args.bank.now c.args.store.now) (read (store_of c.args.bank.now c.args.store.now) (tree_of c.args.bank.now c.args.left)) (read (store_of c.args.bank.now c.args.store.now) (tree_of c.args.bank.now c.args.right))) c.in-Ok.ensures.answer
    (right_solved (store_of c.args.bank.now c.args.store.now) (read (store_of c.args.bank.now c.args.store.now) (tree_of c.args.bank.now c.args.left)) (read (store_of c.args.bank.now c.args.store.now) (tree_of c.args.bank.now c.args.right)) (side_variable (store_of c.args.bank.now c.args.store.now) (tree_of c.args.bank.now c.args.right) true c.requires.right_open (sym c.is_unknown.ensures ∙ c.if-not-is_unknown.false)))

pub returns-in-Ok-clause-no : goal.returns-in-Ok-clause-no
returns-in-Ok-clause-no c = yes_or_no c.args.store.now c.solve.new.store c.in-Ok.answer c.in-Ok.ensures.no

pub returns-in-Err-clause-answer : goal.returns-in-Err-clause-answer
returns-in-Err-clause-answer c =
    some_err c.solve.new.bank c.solve.new.store c.in-Err.fault (solved (store_of c.args.bank.now c.args.store.now) (read (store_of c.args.bank.now c.args.store.now) (tree_of c.args.bank.now c.args.right)) (read (store_of c.args.bank.now c.args.store.now) (tree_of c.args.bank.now c.args.left))) (by_right (store_of c.args.bank.now c.args.store.now) (read (store_of c.args.bank.now c.args.store.now) (tree_of c.args.bank.now c.args.left)) (read (store_of c.args.bank.now c.args.store.now) (tree_of c.args.bank.now c.args.right))) c.in-Err.ensures.answer
    (right_solved (store_of c.args.bank.now c.args.store.now) (read (store_of c.args.bank.now c.args.store.now) (tree_of c.args.bank.now c.args.left)) (read (store_of c.args.bank.now c.args.store.now) (tree_of c.args.bank.now c.args.right)) (side_variable (store_of c.args.bank.now c.args.store.now) (tree_of c.args.bank.now c.args.right) true c.requires.right_open (sym c.is_unknown.ensures ∙ c.if-not-is_unknown.false)))
