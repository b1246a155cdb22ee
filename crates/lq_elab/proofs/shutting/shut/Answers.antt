use Rattle.std.proofs.Common.{ap, arith}
use Rattle.lq_elab.proofs.ShutSteps.{shut_index, shut_is}
use Rattle.lq_elab.proofs.shutting.shut.Goals as goal

pub put_for-requires-clause-index : goal.put_for-requires-clause-index
put_for-requires-clause-index c = shut_index c.args.bank.now c.make.new.self c.in_ok-variable.ensures.grows c.args.term c.args.name c.in_ok-variable.variable c.requires.term c.requires.within c.requires.name c.in_ok-variable.ensures.made (omega (arith, ap (λ m. m.depth) c.measure.ensures, c.if-measure-gt-MOST_DEPTH.false))

pub returns-clause-shut : goal.returns-clause-shut
returns-clause-shut c = shut_is c.args.bank.now c.make.new.self c.in_ok-variable.ensures.grows c.args.term c.args.name c.in_ok-variable.variable c.requires.term c.requires.within c.requires.name c.in_ok-variable.ensures.made c.put_for.new.bank c.put_for.result c.put_for.ensures.put
