use Rattle.lq_prims.specs.Inductives.{inductive_by, found_by}
use Rattle.lq_prims.proofs.ExistLaws.{single_right, single_wrong}
use Rattle.lq_prims.proofs.WorkLaws.{tells_same}
use Rattle.lq_prims.proofs.existing.only_of.Goals as goal

pub returns-in-Ok-clause-answer : goal.returns-in-Ok-clause-answer
returns-in-Ok-clause-answer c s =
    let new = c.constructor_found.new.bank in
    tells_same new (found_by new s.store) c.constructor_found.result _ _ (single_right s (inductive_by c.args.bank.now c.args.inductive.now) c.in-Ok.ensures) (c.constructor_found.ensures.answer s)

pub returns-in-Err-clause-answer : goal.returns-in-Err-clause-answer
returns-in-Err-clause-answer c s b = single_wrong s (inductive_by c.args.bank.now c.args.inductive.now) c.args.bank.now c.in-Err.fault b (c.in-Err.ensures b)
