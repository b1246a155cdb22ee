use Rattle.std.specs.Prelude.{OnOk}
use Rattle.std.proofs.Common.{subst as along}
use Rattle.lq_terms.specs.Terms.{tree_of}
use Rattle.lq_evars.specs.declared.work.Work.{Work}
use Rattle.lq_evars.specs.Places.{store_of}
use Rattle.lq_evars.specs.Reading.{Asks}
use Rattle.lq_evars.proofs.Stepping.{item_has, plain_near, known_done, done_if, open_if}
use Rattle.lq_evars.proofs.reading.visit.Goals as goal

pub returns-then-is_known-clause-stepped : goal.returns-then-is_known-clause-stepped
returns-then-is_known-clause-stepped c = known_done c.args.bank.now c.args.store.now c.args.work.now.items c.args.term c.args.known.now.entries c.requires (c.is_known.ensures c.args.bank.now c.if-is_known.true)

pub holds_unknown-requires : goal.holds_unknown-requires
holds_unknown-requires c = (item_has c.args.bank.now c.args.store.now c.args.work.now.items (Work.Visit c.args.term) c.args.known.now.entries c.requires).has

pub note-requires-clause-term : goal.note-requires-clause-term
note-requires-clause-term c = (item_has c.args.bank.now c.args.store.now c.args.work.now.items (Work.Visit c.args.term) c.args.known.now.entries c.requires).has

pub note-requires-clause-answer : goal.note-requires-clause-answer
note-requires-clause-answer c = (item_has c.args.bank.now c.args.store.now c.args.work.now.items (Work.Visit c.args.term) c.args.known.now.entries c.requires).has

pub note-requires-clause-near : goal.note-requires-clause-near
note-requires-clause-near c = plain_near c.args.bank.now c.args.store.now c.args.term c.holds_unknown.result c.holds_unknown.ensures c.if-not-holds_unknown.true

pub returns-then-not-holds_unknown-clause-stepped : goal.returns-then-not-holds_unknown-clause-stepped
returns-then-not-holds_unknown-clause-stepped c =
    done_if c.args.bank.now c.note.new.bank c.args.store.now c.args.work.now.items (Work.Visit c.args.term) c.args.known.now.entries c.note.new.known.entries c.note.result c.requires c.note.ensures.grows c.note.ensures.read c.note.ensures.covers

pub push_parts-requires-clause-term : goal.push_parts-requires-clause-term
push_parts-requires-clause-term c = (item_has c.args.bank.now c.args.store.now c.args.work.now.items (Work.Visit c.args.term) c.args.known.now.entries c.requires).has

pub returns-clause-stepped : goal.returns-clause-stepped
returns-clause-stepped c =
    open_if c.args.bank.now c.args.store.now c.args.work.now.items c.push_parts.new.work.items c.args.term c.args.known.now.entries c.push_parts.result c.requires
    (along (λ ws. OnOk c.push_parts.result (Asks c.args.bank.now (store_of c.args.bank.now c.args.store.now).values ws c.push_parts.new.work.items (tree_of c.args.bank.now c.args.term))) c.in_ok-push.ensures.items c.push_parts.ensures)
