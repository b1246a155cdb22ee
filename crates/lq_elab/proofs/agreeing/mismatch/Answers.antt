use Rattle.std.proofs.Common.{sym}
use Rattle.std.proofs.Common.{subst as along}
use Rattle.lq_terms.specs.Terms.{tree_of}
use Rattle.lq_solving.specs.Kept.{IsOver, IsStore}
use Rattle.lq_evars.specs.Places.{store_of}
use Rattle.lq_evars.proofs.Growing.{store_of-grown}
use Rattle.lq_elab.proofs.MismatchLaws.{mismatch_both, mismatch_second, mismatch_first}
use Rattle.lq_elab.proofs.agreeing.mismatch.Goals as goal

pub measured-requires-in-Ok-clause-kept : goal.measured-requires-in-Ok-clause-kept
measured-requires-in-Ok-clause-kept c = along IsStore (sym (store_of-grown c.args.bank.now c.measured.new.bank c.in-Ok.ensures.grows c.args.store.now c.requires.store)) c.requires.kept

pub measured-requires-in-Ok-clause-over : goal.measured-requires-in-Ok-clause-over
measured-requires-in-Ok-clause-over c =
    along (λ z. IsOver z.variables (tree_of c.measured.new.bank c.args.wanted)) (sym (store_of-grown c.args.bank.now c.measured.new.bank c.in-Ok.ensures.grows c.args.store.now c.requires.store))
    (along (IsOver (store_of c.args.bank.now c.args.store.now).variables) (sym (c.in-Ok.ensures.grows.tree c.args.wanted c.requires.wanted)) c.requires.wanted_over)

pub returns-in-Ok-measured-clause-answer : goal.returns-in-Ok-measured-clause-answer
returns-in-Ok-measured-clause-answer c =
    mismatch_both c.args.bank.now c.measured.new.bank c.in-Ok.ensures.grows c.args.store.now c.requires.store c.args.found c.args.wanted c.requires.wanted c.in-Ok.found c.in-Ok.ensures.is c.in-Ok.ensures.answer
    c.measured-in-Ok.new.bank c.in-Ok-measured.ensures.grows c.in-Ok.ensures.has c.in-Ok-measured.wanted c.in-Ok-measured.ensures.has c.in-Ok-measured.ensures.is c.in-Ok-measured.ensures.answer

pub returns-in-Err-measured-clause-answer : goal.returns-in-Err-measured-clause-answer
returns-in-Err-measured-clause-answer c =
    mismatch_second c.args.bank.now c.measured.new.bank c.in-Ok.ensures.grows c.args.store.now c.requires.store c.args.found c.args.wanted c.requires.wanted c.in-Ok.found c.in-Ok.ensures.is c.in-Ok.ensures.answer
    c.measured-in-Ok.new.bank c.in-Err-measured.fault c.in-Err-measured.ensures.answer

pub returns-in-Err-clause-answer : goal.returns-in-Err-clause-answer
returns-in-Err-clause-answer c = mismatch_first c.measured.new.bank c.in-Err.fault (store_of c.args.bank.now c.args.store.now) (tree_of c.args.bank.now c.args.found) (tree_of c.args.bank.now c.args.wanted) c.in-Err.ensures.answer
