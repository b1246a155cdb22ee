use Rattle.lq_words.proofs.Lows.{stack_pushed}
use Rattle.lq_words.proofs.terms.enter.Goals as goal

pub returns-clause-entries : goal.returns-clause-entries
returns-clause-entries c = stack_pushed c.args.bank.now c.args.entries.now c.push.new.self c.in_ok-part.part c.in_ok-push.ensures.ok c.requires.entries c.in_ok-part.ensures.has
