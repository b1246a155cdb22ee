use Rattle.std.proofs.Common.{Err, subst, sym}
use Rattle.lq_elaborated.specs.Checking.{ReadsFound}
use Rattle.lq_elaborated.specs.Finding.{found_in}
use Rattle.lq_elaborated.proofs.CheckLaws.{found_stops, found_passes, found_reads}
use Rattle.lq_elaborated.proofs.checking.found_read.Goals as goal

pub returns-then-open-ne0-clause-answer : goal.returns-then-open-ne0-clause-answer
returns-then-open-ne0-clause-answer c s e = found_stops c.args.bank.now s c.args.store.now c.args.found c.args.first e c.args.bank.now c.unsolved_from-open.result c.if-open-ne0.true (c.unsolved_from-open.ensures c.args.bank.now c.requires.kept)

pub returns-in-Ok-clause-answer : goal.returns-in-Ok-clause-answer
returns-in-Ok-clause-answer c s e =
    found_reads c.both_read.new.bank s c.args.store.now c.args.found c.args.first e c.args.bank.now c.unsolved_from-open.result c.if-open-ne0.false (c.unsolved_from-open.ensures c.args.bank.now c.requires.kept)
    (record { term = c.in-Ok.term; kind = c.in-Ok.kind }) c.in-Ok.ensures.read

pub returns-in-Err-clause-answer : goal.returns-in-Err-clause-answer
returns-in-Err-clause-answer c s e =
    subst (λ z. ReadsFound c.both_read.new.bank (Err z) s (found_in c.args.bank.now c.args.store.now c.args.found)) (sym c.from.ensures)
    (found_passes c.both_read.new.bank s c.args.store.now c.args.found c.args.first e c.args.bank.now c.unsolved_from-open.result c.if-open-ne0.false (c.unsolved_from-open.ensures c.args.bank.now c.requires.kept) c.in-Err.fault c.in-Err.ensures.read)
