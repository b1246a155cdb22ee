use Rattle.std.proofs.Common.{refl, arith}
use Rattle.lq_env.specs.Environments.{env_of}
use Rattle.lq_print.specs.declared.work.Work.{Work}
use Rattle.lq_print.specs.Spelling.{emit, hide}
use Rattle.lq_print.specs.Pieces.{shown_in}
use Rattle.lq_print.specs.Works.{done}
use Rattle.lq_print.proofs.VisitLaws.{on_ok, item_as, turned_plain, closed_product, closed_function, closed_local}
use Rattle.lq_print.proofs.visiting.step.Goals as goal

pub visit-requires-clause-term : goal.visit-requires-clause-term
visit-requires-clause-term c = rw c.in-Visit.is at c.requires.item

pub returns-in-Visit : goal.returns-in-Visit
returns-in-Visit c = item_as c.args.bank.now (env_of c.args.bank.now c.args.env.now) c.args.work.now.items _ c.args.spelling.now c.visit.new.spelling _ _ _ c.in-Visit.is c.visit.ensures

pub returns-in-Product : goal.returns-in-Product
returns-in-Product c =
    let has = rw c.in-Product.is at c.requires.item in
    item_as c.args.bank.now (env_of c.args.bank.now c.args.env.now) c.args.work.now.items _ c.args.spelling.now c.close-binder.new.spelling _ _ _ c.in-Product.is
    (on_ok c.put_kind.result c.put_kind.ensures
    (λ is. closed_product c.args.bank.now (env_of c.args.bank.now c.args.env.now) c.args.work.now.items c.put_kind.new.work.items c.args.spelling.now c.close-binder.new.spelling c.in-Product.scope c.close-binder.result (c.close-binder.ensures.binder c.args.bank.now has) (c.close-binder.ensures.leaves c.args.bank.now c.requires.spelling) has.kind is))

pub returns-in-Function : goal.returns-in-Function
returns-in-Function c =
    let has = rw c.in-Function.is at c.requires.item in
    item_as c.args.bank.now (env_of c.args.bank.now c.args.env.now) c.args.work.now.items _ c.args.spelling.now c.close-binder-in-Function.new.spelling _ _ _ c.in-Function.is
    (on_ok c.put_kind-in-Function.result c.put_kind-in-Function.ensures
    (λ is. closed_function c.args.bank.now (env_of c.args.bank.now c.args.env.now) c.args.work.now.items c.put_kind-in-Function.new.work.items c.args.spelling.now c.close-binder-in-Function.new.spelling c.in-Function.scope c.close-binder-in-Function.result (c.close-binder-in-Function.ensures.binder c.args.bank.now has) (c.close-binder-in-Function.ensures.leaves c.args.bank.now c.requires.spelling) has.kind is))

pub returns-in-Local : goal.returns-in-Local
returns-in-Local c =
    let has = rw c.in-Local.is at c.requires.item in
    item_as c.args.bank.now (env_of c.args.bank.now c.args.env.now) c.args.work.now.items _ c.args.spelling.now c.close-binder-in-Local.new.spelling _ _ _ c.in-Local.is
    (on_ok c.put_kind_and_value.result c.put_kind_and_value.ensures
    (λ is. closed_local c.args.bank.now (env_of c.args.bank.now c.args.env.now) c.args.work.now.items c.put_kind_and_value.new.work.items c.args.spelling.now c.close-binder-in-Local.new.spelling c.in-Local.scope c.close-binder-in-Local.result (c.close-binder-in-Local.ensures.binder c.args.bank.now has.0) (c.close-binder-in-Local.ensures.leaves c.args.bank.now c.requires.spelling)
    c.in-Local.value has.0.kind has.1 is))

pub returns-in-Emit : goal.returns-in-Emit
returns-in-Emit c =
    let has = rw c.in-Emit.is at c.requires.item in
    item_as c.args.bank.now (env_of c.args.bank.now c.args.env.now) c.args.work.now.items _ c.args.spelling.now c.emit.new.spelling _ _ _ c.in-Emit.is
    (on_ok c.emit.result c.emit.ensures
    (λ s. turned_plain c.args.bank.now (env_of c.args.bank.now c.args.env.now) c.args.work.now.items c.args.spelling.now c.emit.new.spelling (emit (shown_in c.args.bank.now c.args.spelling.now.texts c.args.spelling.now.names.items c.in-Emit.piece))
    (done c.args.bank.now (env_of c.args.bank.now c.args.env.now) c.args.spelling.now (Work.Emit c.in-Emit.piece)) 1 (omega arith) (λ z. refl) (s c.args.bank.now c.requires.spelling has)))

pub returns-in-Hide : goal.returns-in-Hide
returns-in-Hide c =
    item_as c.args.bank.now (env_of c.args.bank.now c.args.env.now) c.args.work.now.items _ c.args.spelling.now c.hide.new.spelling _ _ _ c.in-Hide.is
    (on_ok c.hide.result c.hide.ensures
    (λ s. turned_plain c.args.bank.now (env_of c.args.bank.now c.args.env.now) c.args.work.now.items c.args.spelling.now c.hide.new.spelling (hide c.in-Hide.number c.in-Hide.pieces)
    (done c.args.bank.now (env_of c.args.bank.now c.args.env.now) c.args.spelling.now (Work.Hide c.in-Hide.number c.in-Hide.pieces)) 1 (omega arith) (λ z. refl) (s c.args.bank.now c.requires.spelling)))
