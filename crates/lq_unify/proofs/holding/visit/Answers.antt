use Rattle.std.proofs.Common.{◌∙◌, rules, sym, [], ◌≡◌, refl}
use Rattle.std.proofs.Common.{subst as along}
use Rattle.std.specs.Prelude.{OnOk}
use Rattle.lq_terms.specs.Terms.{tree_of}
use Rattle.lq_evars.specs.Places.{store_of}
use Rattle.lq_unify.specs.declared.holding.Look.{Look}
use Rattle.lq_unify.specs.Holding.{AsksFor}
use Rattle.lq_unify.proofs.HoldLaws.{nothing_held}
use Rattle.lq_unify.proofs.LookLaws.{look_has, known_done, done_if, open_if}
use Rattle.lq_unify.proofs.holding.visit.Goals as goal

pub returns-then-is_known : goal.returns-then-is_known
returns-then-is_known c = known_done c.args.bank.now (store_of c.args.bank.now c.args.store.now) c.requires.kept.values c.args.barred c.args.work.now.items c.args.known.now.entries c.args.term c.requires.looking (c.is_known.ensures c.args.bank.now c.if-is_known.true)

pub holds_hypothesis-requires : goal.holds_hypothesis-requires
holds_hypothesis-requires c = (look_has c.args.bank.now (store_of c.args.bank.now c.args.store.now) c.requires.kept.values c.args.barred c.args.work.now.items c.args.known.now.entries (Look.Visit c.args.term) c.requires.looking).has

pub holds_unknown-requires : goal.holds_unknown-requires
holds_unknown-requires c = (look_has c.args.bank.now (store_of c.args.bank.now c.args.store.now) c.requires.kept.values c.args.barred c.args.work.now.items c.args.known.now.entries (Look.Visit c.args.term) c.requires.looking).has

pub note-requires-clause-known : goal.note-requires-clause-known
note-requires-clause-known c = c.requires.looking.held

pub note-requires-clause-holding : goal.note-requires-clause-holding
note-requires-clause-holding c =
    let e : c.new.result.keys ≡ [] = search rules in
    nothing_held c.args.bank.now (store_of c.args.bank.now c.args.store.now) c.args.barred c.args.term _ (look_has c.args.bank.now (store_of c.args.bank.now c.args.store.now) c.requires.kept.values c.args.barred c.args.work.now.items c.args.known.now.entries (Look.Visit c.args.term) c.requires.looking).has
    (sym c.holds_hypothesis.ensures ∙ c.if-not-holds_hypothesis.true) (sym c.holds_unknown.ensures ∙ c.if-not-holds_unknown.true) refl e

pub returns-then-not-holds_unknown : goal.returns-then-not-holds_unknown
returns-then-not-holds_unknown c = done_if c.args.bank.now (store_of c.args.bank.now c.args.store.now) c.requires.kept.values c.args.barred c.args.work.now.items c.args.known.now.entries (Look.Visit c.args.term) c.note.new.known.entries c.note.result c.requires.looking c.note.ensures.held c.note.ensures.covers

pub push_parts-requires-clause-term : goal.push_parts-requires-clause-term
push_parts-requires-clause-term c = (look_has c.args.bank.now (store_of c.args.bank.now c.args.store.now) c.requires.kept.values c.args.barred c.args.work.now.items c.args.known.now.entries (Look.Visit c.args.term) c.requires.looking).has

pub returns : goal.returns
returns c =
    open_if c.args.bank.now (store_of c.args.bank.now c.args.store.now) c.requires.kept.values c.args.barred c.args.work.now.items c.args.known.now.entries c.args.term c.push_parts.new.work.items c.push_parts.result c.requires.looking
    (along (λ ws. OnOk c.push_parts.result (AsksFor c.args.bank.now (store_of c.args.bank.now c.args.store.now).values ws c.push_parts.new.work.items (tree_of c.args.bank.now c.args.term))) c.in_ok-push.ensures.items c.push_parts.ensures)
