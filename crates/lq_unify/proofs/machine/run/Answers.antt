use Rattle.std.proofs.Common.{◌∙◌, sym, arith}
use Rattle.std.proofs.Common.{subst as along}
use Rattle.lq_trees.specs.Ticks.{done, ComesTo}
use Rattle.lq_terms.proofs.Growth.{Grows-trans}
use Rattle.lq_unify.specs.Frames.{answer_of}
use Rattle.lq_unify.proofs.OpenSteps.{since_itself}
use Rattle.lq_unify.proofs.TurnSteps.{rules_grown, tells_grown, run_ends}
use Rattle.lq_unify.proofs.machine.run.Goals as goal

pub turned-requires-clause-rules : goal.turned-requires-clause-rules
turned-requires-clause-rules g c = rules_grown c.args.work.now.bank.now c.turns.work.bank.now c.turns.invariant.grows (g.R.Rules.told c.args.rules.now) c.requires.rules

pub returns-in-Err-clause-answer : goal.returns-in-Err-clause-answer
returns-in-Err-clause-answer g c = λ r f b tells plain h.
    c.in-Err.ensures.goes r f b (tells_grown c.args.work.now.bank.now c.turns.work.bank.now c.turns.invariant.grows (g.R.Rules.told c.args.rules.now) r tells) plain
    (c.turns.invariant.goes r f b tells plain h)

pub turns-preserved : goal.turns-preserved
turns-preserved g c = record {
  is = rw c.in-Ok-Some.field-0-is at c.in-Ok-Some.ensures.is;
  goes = λ r f b tells plain h.
      rw c.in-Ok-Some.field-0-is at (c.in-Ok-Some.ensures.goes r f b (tells_grown c.args.work.now.bank.now c.turns.work.bank.now c.turns.invariant.grows (g.R.Rules.told c.args.rules.now) r tells) plain
      (c.turns.invariant.goes r f b tells plain h));
  since = λ before h. c.in-Ok-Some.ensures.since before (c.turns.invariant.since before h);
  grows = Grows-trans c.args.work.now.bank.now c.turns.work.bank.now c.turned.new.work.bank.now c.turns.invariant.grows c.in-Ok-Some.ensures.grows;
  same_bank = c.in-Ok-Some.ensures.same_bank ∙ c.turns.invariant.same_bank;
  same_ticks = c.in-Ok-Some.ensures.same_ticks ∙ c.turns.invariant.same_ticks;
  budget = c.in-Ok-Some.ensures.budget ∙ c.turns.invariant.budget;
  counted = omega (arith, c.in-Ok-Some.ensures.counted, c.turns.invariant.counted);
}

pub returns-in-Ok-None-clause-answer : goal.returns-in-Ok-None-clause-answer
returns-in-Ok-None-clause-answer g c = λ r f b tells plain h.
    let ended = rw c.in-Ok-None.field-0-is at c.in-Ok-None.ensures.ended in
    along (λ q. ComesTo f b (done (answer_of c.turned.new.work.bank.now c.turned.new.store q) c.turned.new.work.ticks.now.left)) (sym c.said.ensures)
    (run_ends r f b c.turned.new.work.ticks.now.left c.turned.new.work.bank.now c.turned.new.store c.turned.new.context c.turned.new.frames c.turns.next ended.0 ended.1
    (rw c.in-Ok-None.field-0-is at (c.in-Ok-None.ensures.goes r f b (tells_grown c.args.work.now.bank.now c.turns.work.bank.now c.turns.invariant.grows (g.R.Rules.told c.args.rules.now) r tells) plain
    (c.turns.invariant.goes r f b tells plain h))))

pub returns-in-Ok-None-clause-more : goal.returns-in-Ok-None-clause-more
returns-in-Ok-None-clause-more g c =
    (c.in-Ok-None.ensures.since c.args.store.now (c.turns.invariant.since c.args.store.now (since_itself c.args.store.now c.args.frames.now c.requires.frames))).more

pub returns-in-Err-clause-more : goal.returns-in-Err-clause-more
returns-in-Err-clause-more g c =
    (c.in-Err.ensures.since c.args.store.now (c.turns.invariant.since c.args.store.now (since_itself c.args.store.now c.args.frames.now c.requires.frames))).more
