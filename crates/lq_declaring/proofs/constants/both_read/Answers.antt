use Rattle.std.proofs.Common.{[], ◌∷◌}
use Rattle.lq_terms.specs.Terms.{tree_of}
use Rattle.lq_evars.specs.Places.{store_of}
use Rattle.lq_evars.proofs.Growing.{HasStore-grown}
use Rattle.lq_goals.proofs.Seeing.{readable_grown}
use Rattle.lq_goals.proofs.Viewing.{kept_grown}
use Rattle.lq_declaring.proofs.ConstantLaws.{passes_first, both_read, second_passes}
use Rattle.lq_declaring.proofs.constants.both_read.Goals as goal

pub returns-in-Err-clause-read : goal.returns-in-Err-clause-read
returns-in-Err-clause-read c =
    passes_first c.read.new.bank (store_of c.args.bank.now c.args.store.now) c.in-Err.fault (tree_of c.args.bank.now c.args.first) (tree_of c.args.bank.now c.args.second ∷ []) c.in-Err.ensures.answer

pub read-requires-2-clause-store : goal.read-requires-2-clause-store
read-requires-2-clause-store c = HasStore-grown c.args.bank.now c.read.new.bank c.in-Ok.ensures.grows c.args.store.now c.requires.store

pub read-requires-2-clause-kept : goal.read-requires-2-clause-kept
read-requires-2-clause-kept c = kept_grown c.args.bank.now c.read.new.bank c.in-Ok.ensures.grows c.args.store.now c.requires.store c.requires.kept

pub read-requires-2-clause-over : goal.read-requires-2-clause-over
read-requires-2-clause-over c = (readable_grown c.args.bank.now c.read.new.bank c.in-Ok.ensures.grows c.args.store.now c.requires.store c.args.second c.requires.second).over

pub returns-in-Ok-read-clause-read : goal.returns-in-Ok-read-clause-read
returns-in-Ok-read-clause-read c =
    (both_read c.args.bank.now c.read.new.bank c.read-2.new.bank c.in-Ok.ensures.grows c.in-Ok-read.ensures.grows c.args.store.now c.requires.store c.requires.kept c.args.first c.args.second c.in-Ok.one c.in-Ok-read.two
    c.requires.first c.requires.second c.in-Ok.ensures.answer c.in-Ok-read.ensures.answer).0

pub returns-in-Ok-read-clause-scoped : goal.returns-in-Ok-read-clause-scoped
returns-in-Ok-read-clause-scoped c =
    let all = (both_read c.args.bank.now c.read.new.bank c.read-2.new.bank c.in-Ok.ensures.grows c.in-Ok-read.ensures.grows c.args.store.now c.requires.store c.requires.kept c.args.first c.args.second c.in-Ok.one c.in-Ok-read.two
    c.requires.first c.requires.second c.in-Ok.ensures.answer c.in-Ok-read.ensures.answer) in (all.1, all.2)

pub returns-in-Err-read-clause-read : goal.returns-in-Err-read-clause-read
returns-in-Err-read-clause-read c =
    second_passes c.args.bank.now c.read.new.bank c.read-2.new.bank c.in-Ok.ensures.grows c.args.store.now c.requires.store c.args.first c.args.second c.in-Ok.one c.in-Err-read.fault c.requires.second c.in-Ok.ensures.answer
    c.in-Err-read.ensures.answer
