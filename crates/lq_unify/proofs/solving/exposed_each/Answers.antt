use Rattle.std.proofs.Common.{rules, sym, arith, [], ◌≡◌}
use Rattle.std.proofs.Common.{subst as along}
use Rattle.std.proofs.lemmas.List.{take_all}
use Rattle.lq_terms.specs.Terms.{tree_of}
use Rattle.lq_terms.proofs.Growth.{Grows-refl, Grows-trans}
use Rattle.lq_evars.specs.Places.{store_of}
use Rattle.lq_unify.specs.Solving.{AreExposed}
use Rattle.lq_unify.proofs.UnsolvableLaws.{store_has, store_kept, entry_of, entry_open, entry_reads, exposed_more}
use Rattle.lq_unify.proofs.solving.exposed_each.Goals as goal

pub loop-entry-init : goal.loop-entry-init
loop-entry-init c =
    let e : c.new-answers.result.items ≡ [] = search rules in
    record {
      grows = Grows-refl c.args.bank.now;
      exposed = along (AreExposed (store_of c.args.bank.now c.args.store.now) c.args.bank.now c.args.bank.now []) (sym e) tt;
    }

pub exposed-requires-clause-store : goal.exposed-requires-clause-store
exposed-requires-clause-store c = store_has c.args.bank.now c.loop-entry.bank c.loop-entry.invariant.grows c.args.store.now c.requires.store

pub exposed-requires-clause-kept : goal.exposed-requires-clause-kept
exposed-requires-clause-kept c = store_kept c.args.bank.now c.loop-entry.bank c.loop-entry.invariant.grows c.args.store.now c.requires.store c.requires.kept

pub exposed-requires-clause-term : goal.exposed-requires-clause-term
exposed-requires-clause-term c = entry_of c.args.bank.now c.loop-entry.bank c.loop-entry.invariant.grows c.args.store.now c.requires.store c.args.entries.now c.loop-entry.entry-index _ c.requires.entries c.loop-entry-test.true

pub loop-entry-preserved : goal.loop-entry-preserved
loop-entry-preserved c = record {
  grows = Grows-trans c.args.bank.now c.loop-entry.bank c.exposed.new.bank c.loop-entry.invariant.grows c.in_ok-answer.ensures.grows;
  exposed = exposed_more (store_of c.args.bank.now c.args.store.now) c.args.bank.now c.loop-entry.bank c.exposed.new.bank c.in_ok-answer.ensures.grows c.args.entries.now c.loop-entry.answers.items c.push.new.self.items c.loop-entry.entry-index _ c.in_ok-answer.answer c.loop-entry-test.true c.loop-entry.invariant.exposed
      c.in_ok-answer.ensures.term.has
      (entry_open c.args.bank.now c.loop-entry.bank c.loop-entry.invariant.grows c.args.store.now c.requires.store (tree_of c.exposed.new.bank c.in_ok-answer.answer) c.in_ok-answer.ensures.open)
      (entry_reads c.args.bank.now c.loop-entry.bank c.loop-entry.invariant.grows c.args.store.now c.requires.store c.args.entries.now c.loop-entry.entry-index _ c.requires.entries c.loop-entry-test.true (tree_of c.exposed.new.bank c.in_ok-answer.answer) c.in_ok-answer.ensures.reads)
      c.in_ok-push.ensures.items;
}

pub returns-clause-exposed : goal.returns-clause-exposed
returns-clause-exposed c =
    along (λ ts. AreExposed (store_of c.args.bank.now c.args.store.now) c.args.bank.now c.loop-entry.bank ts c.loop-entry.answers.items) (take_all c.loop-entry.entry-index c.args.entries.now (omega (arith, c.loop-entry-test.false))) c.loop-entry.invariant.exposed
