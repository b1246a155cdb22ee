use Rattle.std.proofs.Common.{sym, arith}
use Rattle.std.proofs.Common.{subst as along}
use Rattle.lq_trees.specs.Index.{Within}
use Rattle.lq_trees.specs.Ticks.{done, ComesTo}
use Rattle.lq_terms.specs.Terms.{tree_of}
use Rattle.lq_solving.specs.ElabFaults.{elab_fitting}
use Rattle.lq_solving.specs.Stores.{read}
use Rattle.lq_evars.specs.Places.{store_of}
use Rattle.lq_evars.proofs.Growing.{HasStore-grown}
use Rattle.lq_typing.specs.Refusals.{Refuses}
use Rattle.lq_elab.specs.Answers.{found_of}
use Rattle.lq_elab.proofs.RunLaws.{limits_pass, term_passes_not, kind_passes_not, fits_of, kept_there, over_there, reads_there}
use Rattle.lq_elab.proofs.elaborating.kept_within.Goals as goal

pub measured-requires-in-Ok : goal.measured-requires-in-Ok
measured-requires-in-Ok c = record {
  store = HasStore-grown c.args.bank.now c.measured.new.bank c.in-Ok.ensures.grows c.args.store.now c.requires.store;
  kept = kept_there c.args.bank.now c.measured.new.bank c.in-Ok.ensures.grows c.args.store.now c.requires.store c.requires.kept;
  term = omega (arith, c.requires.kind, c.in-Ok.ensures.grows.nodes);
  over = over_there c.args.bank.now c.measured.new.bank c.in-Ok.ensures.grows c.args.store.now c.requires.store c.args.found.kind c.requires.kind c.requires.kind_over;
  within = along (Within 0) (sym (c.in-Ok.ensures.grows.tree c.args.found.kind c.requires.kind)) c.requires.kind_within;
}

pub returns-in-Ok-measured-clause-answer : goal.returns-in-Ok-measured-clause-answer
returns-in-Ok-measured-clause-answer c = λ left.
    limits_pass (found_of c.args.bank.now c.args.store.now c.args.found) (tree_of c.measured.new.bank c.in-Ok.field-0) (tree_of c.measured-in-Ok.new.bank c.in-Ok-measured.field-0) left (c.in-Ok.ensures.answer left)
    (along (λ z. ComesTo (λ n. elab_fitting z) left (done (tree_of c.measured-in-Ok.new.bank c.in-Ok-measured.field-0) left)) (reads_there c.args.bank.now c.measured.new.bank c.in-Ok.ensures.grows c.args.store.now c.requires.store c.args.found.kind c.requires.kind) (c.in-Ok-measured.ensures.answer left))

pub returns-in-Ok-measured-clause-term_fits : goal.returns-in-Ok-measured-clause-term_fits
returns-in-Ok-measured-clause-term_fits c = fits_of (read (store_of c.args.bank.now c.args.store.now) (tree_of c.args.bank.now c.args.found.term)) (tree_of c.measured.new.bank c.in-Ok.field-0) 0 (c.in-Ok.ensures.answer 0)

pub returns-in-Ok-measured-clause-kind_fits : goal.returns-in-Ok-measured-clause-kind_fits
returns-in-Ok-measured-clause-kind_fits c =
    fits_of (read (store_of c.args.bank.now c.args.store.now) (tree_of c.args.bank.now c.args.found.kind)) (tree_of c.measured-in-Ok.new.bank c.in-Ok-measured.field-0) 0
    (along (λ z. ComesTo (λ n. elab_fitting z) 0 (done (tree_of c.measured-in-Ok.new.bank c.in-Ok-measured.field-0) 0)) (reads_there c.args.bank.now c.measured.new.bank c.in-Ok.ensures.grows c.args.store.now c.requires.store c.args.found.kind c.requires.kind) (c.in-Ok-measured.ensures.answer 0))

pub returns-in-Err-measured-clause-answer : goal.returns-in-Err-measured-clause-answer
returns-in-Err-measured-clause-answer c = λ left.
    kind_passes_not (found_of c.args.bank.now c.args.store.now c.args.found) (tree_of c.measured.new.bank c.in-Ok.field-0) c.measured-in-Ok.new.bank c.in-Err-measured.fault left (c.in-Ok.ensures.answer left)
    (along (λ z. Refuses c.measured-in-Ok.new.bank c.in-Err-measured.fault (λ n. elab_fitting z) left left) (reads_there c.args.bank.now c.measured.new.bank c.in-Ok.ensures.grows c.args.store.now c.requires.store c.args.found.kind c.requires.kind) (c.in-Err-measured.ensures.answer left))

pub returns-in-Err-clause-answer : goal.returns-in-Err-clause-answer
returns-in-Err-clause-answer c = λ left. term_passes_not (found_of c.args.bank.now c.args.store.now c.args.found) c.measured.new.bank c.in-Err.fault left (c.in-Err.ensures.answer left)
