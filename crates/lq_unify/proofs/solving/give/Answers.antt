use Rattle.lq_unify.proofs.GivingLaws.{gives_one}
use Rattle.lq_unify.proofs.solving.give.Goals as goal

pub returns-in-Ok-clause-gives : goal.returns-in-Ok-clause-gives
returns-in-Ok-clause-gives c =
    gives_one c.args.bank.now c.assign.new.bank c.assign.ensures.grows c.args.store.now c.requires.store c.args.variable c.args.body c.assign.new.self c.requires.value c.in-Ok.ensures.given c.in-Ok.ensures.told c.in-Ok.ensures.stands c.in-Ok.ensures.has
