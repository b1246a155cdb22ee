use Rattle.lq_words.proofs.Lows.{stack_low}
use Rattle.lq_words.proofs.terms.entered.Goals as goal

pub returns-clause-low : goal.returns-clause-low
returns-clause-low c = stack_low c.args.bank.now c.args.number c.loop.entries c.loop.invariant.entries
