use Rattle.lq_terms.specs.Terms.{tree_of}
use Rattle.lq_evars.proofs.Known.{read-grown, near-grown, covers-grown}
use Rattle.lq_evars.proofs.reading.build.Goals as goal

pub note-requires-clause-read : goal.note-requires-clause-read
note-requires-clause-read c = read-grown c.args.bank.now c.rebuilt.new.bank c.args.store.now c.args.known.now.entries c.in_ok-answer.ensures.grows c.requires.store c.requires.read

pub note-requires-clause-near : goal.note-requires-clause-near
note-requires-clause-near c =
    near-grown c.args.bank.now c.rebuilt.new.bank c.args.store.now c.args.term (tree_of c.rebuilt.new.bank c.in_ok-answer.answer) c.in_ok-answer.ensures.grows c.requires.store c.requires.part.has c.in_ok-answer.ensures.near

pub returns-clause-covers : goal.returns-clause-covers
returns-clause-covers c =
    covers-grown c.args.bank.now c.rebuilt.new.bank c.args.store.now c.args.term c.args.known.now.entries _ c.note.result c.in_ok-answer.ensures.grows c.requires.read c.requires.part.has c.note.ensures.covers
