use Rattle.std.proofs.Common.{◌∙◌, ap, ◌++◌}
use Rattle.std.specs.Prelude.{map}
use Rattle.lq_terms.specs.Terms.{tree_of}
use Rattle.lq_evars.specs.declared.work.Work.{Work}
use Rattle.lq_evars.specs.Places.{store_of, value_at}
use Rattle.lq_evars.specs.Turns.{parts_of}
use Rattle.lq_evars.specs.Reading.{with_term}
use Rattle.lq_evars.proofs.Asking.{asks_two, asks_three, asks_variable}
use Rattle.lq_evars.proofs.reading.push_parts.Goals as goal

pub returns-in_ok-push_two-in-Prod : goal.returns-in_ok-push_two-in-Prod
returns-in_ok-push_two-in-Prod c =
    let parts = rw c.in-Prod.is at c.node.ensures.parts in
    asks_two c.args.bank.now (store_of c.args.bank.now c.args.store.now).values c.args.work.now.items c.push_two.new.work.items (tree_of c.args.bank.now c.args.term) c.in-Prod.kind c.in-Prod.rest
    c.in_ok-push_two-in-Prod.ensures parts.1.has parts.2.has (ap (parts_of (store_of c.args.bank.now c.args.store.now).values) (rw c.in-Prod.is at c.node.ensures.tree))

pub returns-in_ok-push_two-in-Lam : goal.returns-in_ok-push_two-in-Lam
returns-in_ok-push_two-in-Lam c =
    let parts = rw c.in-Lam.is at c.node.ensures.parts in
    asks_two c.args.bank.now (store_of c.args.bank.now c.args.store.now).values c.args.work.now.items c.push_two-in-Lam.new.work.items (tree_of c.args.bank.now c.args.term) c.in-Lam.kind c.in-Lam.rest
    c.in_ok-push_two-in-Lam.ensures parts.1.has parts.2.has (ap (parts_of (store_of c.args.bank.now c.args.store.now).values) (rw c.in-Lam.is at c.node.ensures.tree))

pub returns-in_ok-push_three-in-Let : goal.returns-in_ok-push_three-in-Let
returns-in_ok-push_three-in-Let c =
    let parts = rw c.in-Let.is at c.node.ensures.parts in
    asks_three c.args.bank.now (store_of c.args.bank.now c.args.store.now).values c.args.work.now.items c.push_three.new.work.items (tree_of c.args.bank.now c.args.term) c.in-Let.value c.in-Let.kind c.in-Let.rest
    c.in_ok-push_three-in-Let.ensures parts.1.has parts.2.has parts.3.has (ap (parts_of (store_of c.args.bank.now c.args.store.now).values) (rw c.in-Let.is at c.node.ensures.tree))

pub returns-in_ok-push_two-in-App : goal.returns-in_ok-push_two-in-App
returns-in_ok-push_two-in-App c =
    let parts = rw c.in-App.is at c.node.ensures.parts in
    asks_two c.args.bank.now (store_of c.args.bank.now c.args.store.now).values c.args.work.now.items c.push_two-in-App.new.work.items (tree_of c.args.bank.now c.args.term) c.in-App.function c.in-App.argument
    c.in_ok-push_two-in-App.ensures parts.0.has parts.1.has (ap (parts_of (store_of c.args.bank.now c.args.store.now).values) (rw c.in-App.is at c.node.ensures.tree))

pub returns-in_ok-push_variable-in-Evar : goal.returns-in_ok-push_variable-in-Evar
returns-in_ok-push_variable-in-Evar c =
    asks_variable c.args.bank.now c.args.store.now c.args.work.now.items c.push_variable.new.work.items c.args.term c.in-Evar.variable c.in-Evar.parts c.requires.store c.requires.kept
    (c.in_ok-push_variable-in-Evar.ensures ∙ ap (λ ts. c.args.work.now.items ++ map Work.Visit (with_term (value_at c.args.store.now c.in-Evar.variable) ts)) c.terms.ensures)
    (rw c.in-Evar.is at c.node.ensures.parts) (rw c.in-Evar.is at c.node.ensures.tree)
