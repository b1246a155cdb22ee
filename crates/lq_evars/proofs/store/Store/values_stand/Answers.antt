use Rattle.lq_evars.proofs.Bodies.{bodies_told}
use Rattle.lq_evars.proofs.Standing.{value_stands}
use Rattle.lq_evars.proofs.store.Store.values_stand.Goals as goal

pub returns-clause-stand : goal.returns-clause-stand
returns-clause-stand c bank h i n v e = value_stands bank c.args.self.now h i n v e

pub returns-clause-told : goal.returns-clause-told
returns-clause-told c bank i k = bodies_told bank c.args.self.now k i
