use Rattle.std.proofs.Common.{sym, ap, ◌∙◌, ◌+◌, drop}
use Rattle.lq_calculus.specs.Declarations.{constructors_fault}
use Rattle.lq_env.specs.Families.{family_of, constructors_of}
use Rattle.lq_env.proofs.FaultLaws.{constructors_next, constructors_ended, finds_some, finds_none}
use Rattle.lq_env.proofs.positivity.constructors_fault.Goals as goal

pub returns-in-Some : goal.returns-in-Some
returns-in-Some c =
    let cs = c.constructors-constructor-items.result.now in
    finds_some c.args.bank.now c.in-Some.fault c.in_ok-fault.field-0 _ (constructors_fault (family_of c.args.bank.now c.args.family.now) (constructors_of c.args.bank.now (drop (c.loop-constructor.constructor-index + 1) cs))) _ c.in-Some.is c.in_ok-fault.ensures
    (sym (constructors_next c.args.bank.now (family_of c.args.bank.now c.args.family.now) cs c.loop-constructor.constructor-index c.loop-constructor-test.true) ∙ c.loop-constructor.invariant
    ∙ ap (λ z. constructors_fault (family_of c.args.bank.now c.args.family.now) (constructors_of c.args.bank.now z)) c.constructors-constructor-items.ensures)

pub loop-constructor-preserved : goal.loop-constructor-preserved
loop-constructor-preserved c =
    let cs = c.constructors-constructor-items.result.now in
    finds_none c.args.bank.now c.in_ok-fault.field-0 _ (constructors_fault (family_of c.args.bank.now c.args.family.now) (constructors_of c.args.bank.now (drop (c.loop-constructor.constructor-index + 1) cs))) _ c.in_default.is c.in_ok-fault.ensures
    (sym (constructors_next c.args.bank.now (family_of c.args.bank.now c.args.family.now) cs c.loop-constructor.constructor-index c.loop-constructor-test.true) ∙ c.loop-constructor.invariant)

pub returns : goal.returns
returns c =
    let cs = c.constructors-constructor-items.result.now in
    ap (λ z. constructors_fault (family_of c.args.bank.now c.args.family.now) (constructors_of c.args.bank.now z)) (sym c.constructors-constructor-items.ensures) ∙ sym c.loop-constructor.invariant
    ∙ constructors_ended c.args.bank.now (family_of c.args.bank.now c.args.family.now) cs c.loop-constructor.constructor-index c.loop-constructor-test.false
