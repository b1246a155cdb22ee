use Rattle.std.proofs.Common.{◌∙◌, ap, Err, subst, sym}
use Rattle.lq_terms.specs.Terms.{tree_of}
use Rattle.lq_evars.specs.Places.{store_of}
use Rattle.lq_sessions.specs.Declaring.{row_of}
use Rattle.lq_declaring.specs.Rows.{row_in}
use Rattle.lq_declaring.proofs.ConstantLaws.{reads_scoped}
use Rattle.lq_elaborated.specs.Families.{ReadsRow}
use Rattle.lq_elaborated.proofs.ArityLaws.{read_stops, read_is, row_stops, solved_stops, arity_is}
use Rattle.lq_elaborated.proofs.arities.arity_read.Goals as goal

pub returns-in-Err-clause-answer : goal.returns-in-Err-clause-answer
returns-in-Err-clause-answer c =
    subst (λ z. ReadsRow c.read.new.bank (Err z) (store_of c.args.bank.now c.args.store.now) (tree_of c.args.bank.now c.args.arity) c.args.parameters) (sym c.from.ensures)
    (read_stops (store_of c.args.bank.now c.args.store.now) (tree_of c.args.bank.now c.args.arity) c.args.parameters c.read.new.bank c.in-Err.fault c.requires.fits c.in-Err.ensures.answer)

pub row_of-requires : goal.row_of-requires
row_of-requires c = record {
  term = reads_scoped c.read.new.bank (store_of c.args.bank.now c.args.store.now) c.in-Ok.read (tree_of c.args.bank.now c.args.arity) c.requires.kept c.requires.arity.within (read_is (store_of c.args.bank.now c.args.store.now) (tree_of c.args.bank.now c.args.arity) c.args.parameters c.read.new.bank c.in-Ok.read c.requires.fits c.in-Ok.ensures.answer);
}

pub returns-in-Err-row_of-clause-answer : goal.returns-in-Err-row_of-clause-answer
returns-in-Err-row_of-clause-answer c =
    subst (λ z. ReadsRow c.row_of.new.bank (Err z) (store_of c.args.bank.now c.args.store.now) (tree_of c.args.bank.now c.args.arity) c.args.parameters) (sym c.stop_of.ensures)
    (row_stops (store_of c.args.bank.now c.args.store.now) (tree_of c.args.bank.now c.args.arity) c.args.parameters c.row_of.new.bank (tree_of c.read.new.bank c.in-Ok.read) (read_is (store_of c.args.bank.now c.args.store.now) (tree_of c.args.bank.now c.args.arity) c.args.parameters c.read.new.bank c.in-Ok.read c.requires.fits c.in-Ok.ensures.answer).is c.in-Err-row_of.fault c.in-Err-row_of.ensures.row)

pub returns-in-Ok-all_solved-clause-answer : goal.returns-in-Ok-all_solved-clause-answer
returns-in-Ok-all_solved-clause-answer c =
    arity_is (store_of c.args.bank.now c.args.store.now) (tree_of c.args.bank.now c.args.arity) c.args.parameters c.read.new.bank c.row_of.new.bank c.in-Ok-row_of.ensures.grows c.in-Ok.read c.in-Ok-row_of.row (read_is (store_of c.args.bank.now c.args.store.now) (tree_of c.args.bank.now c.args.arity) c.args.parameters c.read.new.bank c.in-Ok.read c.requires.fits c.in-Ok.ensures.answer) c.in-Ok-row_of.ensures.row (c.in-Ok-all_solved.ensures c.args.bank.now c.requires.kept)

pub returns-in-Err-all_solved-clause-answer : goal.returns-in-Err-all_solved-clause-answer
returns-in-Err-all_solved-clause-answer c =
    solved_stops (store_of c.args.bank.now c.args.store.now) (tree_of c.args.bank.now c.args.arity) c.args.parameters c.row_of.new.bank (row_in c.row_of.new.bank c.in-Ok-row_of.row) c.in-Err-all_solved.stop
    (ap (row_of c.args.parameters) (sym (read_is (store_of c.args.bank.now c.args.store.now) (tree_of c.args.bank.now c.args.arity) c.args.parameters c.read.new.bank c.in-Ok.read c.requires.fits c.in-Ok.ensures.answer).is) ∙ c.in-Ok-row_of.ensures.row.1) (c.in-Err-all_solved.ensures c.args.bank.now c.requires.kept)
