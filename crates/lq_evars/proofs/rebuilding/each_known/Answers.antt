use Rattle.lq_evars.proofs.Known.{in_at, each_more}
use Rattle.lq_evars.proofs.rebuilding.each_known.Goals as goal

pub known_as-answer-requires-clause-known : goal.known_as-answer-requires-clause-known
known_as-answer-requires-clause-known c = in_at c.args.bank.now c.args.parts.now _ c.loop-part.part-index _ c.requires.known c.loop-part-test.true

pub loop-part-preserved : goal.loop-part-preserved
loop-part-preserved c =
    each_more c.args.bank.now c.args.store.now c.args.parts.now c.loop-part.answers c.push.new.self c.known_as-answer.result c.loop-part.part-index _ c.loop-part-test.true c.loop-part.invariant c.known_as-answer.ensures c.in_ok-push.ensures.ok
