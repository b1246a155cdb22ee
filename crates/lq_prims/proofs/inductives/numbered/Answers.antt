use Rattle.std.proofs.Common.{refl}
use Rattle.lq_tactics.specs.Rows.{no_constructor}
use Rattle.lq_prims.specs.declared.faults.PrimFault.{PrimFault}
use Rattle.lq_prims.specs.Inductives.{inductive_by, found_by, numbered_work}
use Rattle.lq_prims.proofs.WorkLaws.{refuses_at_once, tells_same}
use Rattle.lq_prims.proofs.ConstructorLaws.{numbered_none, numbered_some}
use Rattle.lq_prims.proofs.inductives.numbered.Goals as goal

pub returns-then-number-eq0-clause-answer : goal.returns-then-number-eq0-clause-answer
returns-then-number-eq0-clause-answer c s b =
    refuses_at_once c.args.bank.now (PrimFault.NoConstructor 0) (no_constructor 0) (numbered_work s (inductive_by c.args.bank.now c.args.inductive.now) c.args.number) refl
    (numbered_none s (inductive_by c.args.bank.now c.args.inductive.now) c.args.number c.if-number-eq0.true) b

pub returns-else-number-eq0-clause-answer : goal.returns-else-number-eq0-clause-answer
returns-else-number-eq0-clause-answer c s =
    tells_same c.constructor_found.new.bank (found_by c.constructor_found.new.bank s.store) c.constructor_found.result _ _
    (numbered_some s (inductive_by c.args.bank.now c.args.inductive.now) c.args.number c.if-number-eq0.false) (c.constructor_found.ensures.answer s)
