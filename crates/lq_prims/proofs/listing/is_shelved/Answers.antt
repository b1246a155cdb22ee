use Rattle.std.proofs.Common.{arith}
use Rattle.lq_solving.proofs.InstanceLaws.{length_map}
use Rattle.lq_evars.specs.Places.{store_of, variable_of}
use Rattle.lq_prims.proofs.ShelfLaws.{left_none, left_some}
use Rattle.lq_prims.proofs.listing.is_shelved.Goals as goal

pub returns-in-Some : goal.returns-in-Some
returns-in-Some c bank i =
    left_some c.args.goals.now (store_of bank c.args.store.now) bank c.args.variable (omega (arith, c.requires, length_map (variable_of bank) c.args.store.now.variables)) c.value.result c.in-Some.field-0 (c.value.ensures.told bank i) c.in-Some.is

pub returns-in-None : goal.returns-in-None
returns-in-None c bank i =
    left_none c.args.goals.now (store_of bank c.args.store.now) bank c.args.variable (omega (arith, c.requires, length_map (variable_of bank) c.args.store.now.variables)) c.value.result c.has.result (c.value.ensures.told bank i) c.in-None.is c.has.ensures
