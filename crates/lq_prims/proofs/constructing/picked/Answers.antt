use Rattle.lq_prims.specs.Inductives.{inductive_by, found_by}
use Rattle.lq_prims.proofs.ConstructLaws.{wanted_refused, wanted_then}
use Rattle.lq_prims.proofs.constructing.picked.Goals as goal

pub returns-in-Ok-clause-answer : goal.returns-in-Ok-clause-answer
returns-in-Ok-clause-answer c s =
    wanted_then s c.args.wanted (inductive_by c.args.bank.now c.args.inductive.now) c.args.number c.numbered.new.bank (found_by c.numbered.new.bank s.store) c.numbered.result c.in-Ok.ensures (c.numbered.ensures.answer s)

pub returns-in-Err-clause-answer : goal.returns-in-Err-clause-answer
returns-in-Err-clause-answer c s b = wanted_refused s c.args.wanted (inductive_by c.args.bank.now c.args.inductive.now) c.args.number c.args.bank.now c.in-Err.fault c.in-Err.ensures b
