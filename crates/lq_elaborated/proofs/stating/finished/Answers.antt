use Rattle.std.proofs.Common.{Err, subst, sym}
use Rattle.lq_terms.specs.Terms.{tree_of}
use Rattle.lq_evars.specs.Places.{store_of}
use Rattle.lq_elaborated.specs.Stating.{Finishes}
use Rattle.lq_elaborated.proofs.StatementLaws.{unsolved_stops, limit_stops, is_finished}
use Rattle.lq_elaborated.proofs.stating.finished.Goals as goal

pub returns-in-Err-clause-answer : goal.returns-in-Err-clause-answer
returns-in-Err-clause-answer c =
    unsolved_stops c.args.bank.now (store_of c.args.bank.now c.args.store.now) (tree_of c.args.bank.now c.args.term) c.in-Err.stop (c.in-Err.ensures c.args.bank.now c.requires.kept)

pub returns-in-Ok-read-clause-answer : goal.returns-in-Ok-read-clause-answer
returns-in-Ok-read-clause-answer c =
    is_finished c.read.new.bank (store_of c.args.bank.now c.args.store.now) (tree_of c.args.bank.now c.args.term) (c.in-Ok.ensures c.args.bank.now c.requires.kept) c.in-Ok-read.read c.in-Ok-read.ensures.answer

pub returns-in-Err-read-clause-answer : goal.returns-in-Err-read-clause-answer
returns-in-Err-read-clause-answer c =
    subst (λ z. Finishes c.read.new.bank (Err z) (store_of c.args.bank.now c.args.store.now) (tree_of c.args.bank.now c.args.term)) (sym c.from.ensures)
    (limit_stops c.read.new.bank (store_of c.args.bank.now c.args.store.now) (tree_of c.args.bank.now c.args.term) (c.in-Ok.ensures c.args.bank.now c.requires.kept) c.in-Err-read.fault c.in-Err-read.ensures.answer)
