use Rattle.lq_words.specs.Low.{low_bound}
use Rattle.lq_words.proofs.Lows.{has_pushed, few_pushed}
use Rattle.lq_words.proofs.terms.variable.Goals as goal

pub loop-preserved : goal.loop-preserved
loop-preserved c = record {
  has = has_pushed c.args.bank.now c.loop.entries c.push.new.self c.args.part c.in_ok-push.ensures.ok c.loop.invariant.has c.requires.has;
  few = few_pushed c.args.bank.now low_bound c.loop.entries c.push.new.self c.args.part c.in_ok-push.ensures.ok c.loop.invariant.few c.requires.within;
}
