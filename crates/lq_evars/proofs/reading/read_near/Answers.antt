use Rattle.lq_evars.proofs.Known.{reads-before}
use Rattle.lq_evars.proofs.reading.read_near.Goals as goal

pub returns-clause-near : goal.returns-clause-near
returns-clause-near c = reads-before c.args.bank.now c.run.new.bank c.args.store.now c.args.term c.run.result c.run.ensures.grows c.requires.store c.requires.term c.run.ensures.reads
