use Rattle.std.proofs.Common.{refl, arith}
use Rattle.lq_terms.specs.Terms.{tree_of}
use Rattle.lq_prims.proofs.HoldLaws.{unknown_free, app_first, app_second, two_first, two_second, let_first, let_second, let_third, evar_here, evar_found, evar_none, next_on}
use Rattle.lq_prims.proofs.holding.+holds.Goals as goal

pub returns-then-not-holds_unknown : goal.returns-then-not-holds_unknown
returns-then-not-holds_unknown t c = unknown_free c.args.variable (tree_of c.args.bank.now c.args.term) c.holds_unknown.result c.holds_unknown.ensures c.if-not-holds_unknown.true

pub returns-then-found-variable : goal.returns-then-found-variable
returns-then-found-variable t c = evar_here c.args.variable c.args.bank.now c.node.result.now c.args.term c.node.ensures.tree c.in-Evar.found c.in-Evar.entries c.in-Evar.is c.if-found-variable.true

pub loop-entry-init : goal.loop-entry-init
loop-entry-init t c = refl

pub returns-then-holds-4 : goal.returns-then-holds-4
returns-then-holds-4 t c =
    evar_found c.args.variable c.args.bank.now c.node.result.now c.args.term c.node.ensures.tree c.in-Evar.found c.in-Evar.entries c.terms-entry-items.result.now c.loop-entry.entry-index c.holds-in-loop-entry.result
    c.in-Evar.is c.if-found-variable.false c.terms-entry-items.ensures c.loop-entry-test.true c.loop-entry.invariant c.if-holds-4.true c.holds-in-loop-entry.ensures

pub loop-entry-preserved : goal.loop-entry-preserved
loop-entry-preserved t c =
    next_on c.args.variable c.args.bank.now c.terms-entry-items.result.now c.loop-entry.entry-index c.holds-in-loop-entry.result c.loop-entry-test.true c.if-holds-4.false c.holds-in-loop-entry.ensures c.loop-entry.invariant

pub returns-after-loop-entry : goal.returns-after-loop-entry
returns-after-loop-entry t c =
    evar_none c.args.variable c.args.bank.now c.node.result.now c.args.term c.node.ensures.tree c.in-Evar.found c.in-Evar.entries c.terms-entry-items.result.now c.loop-entry.entry-index c.in-Evar.is c.if-found-variable.false
    c.terms-entry-items.ensures (omega (arith, c.loop-entry-test.false)) c.loop-entry.invariant

pub returns-then-holds : goal.returns-then-holds
returns-then-holds t c =
    let_first c.args.variable c.args.bank.now c.node.result.now c.args.term c.node.ensures.tree c.in-Let.field-0 c.in-Let.value c.in-Let.kind c.in-Let.rest c.holds.result c.in-Let.is c.if-holds.true c.holds.ensures

pub returns-then-holds-2 : goal.returns-then-holds-2
returns-then-holds-2 t c =
    let_second c.args.variable c.args.bank.now c.node.result.now c.args.term c.node.ensures.tree c.in-Let.field-0 c.in-Let.value c.in-Let.kind c.in-Let.rest c.holds.result c.holds-else-holds.result c.in-Let.is c.if-holds.false
    c.holds.ensures c.if-holds-2.true c.holds-else-holds.ensures

pub returns-else-holds-2 : goal.returns-else-holds-2
returns-else-holds-2 t c =
    let_third c.args.variable c.args.bank.now c.node.result.now c.args.term c.node.ensures.tree c.in-Let.field-0 c.in-Let.value c.in-Let.kind c.in-Let.rest c.holds.result c.holds-else-holds.result c.holds-else-holds-2.result
    c.in-Let.is c.if-holds.false c.holds.ensures c.if-holds-2.false c.holds-else-holds.ensures c.holds-else-holds-2.ensures

pub returns-then-holds-3 : goal.returns-then-holds-3
returns-then-holds-3 t c =
    app_first c.args.variable c.args.bank.now c.node.result.now c.args.term c.node.ensures.tree c.in-App.function c.in-App.argument c.holds-in-App.result c.in-App.is c.if-holds-3.true c.holds-in-App.ensures

pub returns-else-holds-3 : goal.returns-else-holds-3
returns-else-holds-3 t c =
    app_second c.args.variable c.args.bank.now c.node.result.now c.args.term c.node.ensures.tree c.in-App.function c.in-App.argument c.holds-in-App.result c.holds-else-holds-3.result c.in-App.is c.if-holds-3.false
    c.holds-in-App.ensures c.holds-else-holds-3.ensures

pub returns-then-holds-5 : goal.returns-then-holds-5
returns-then-holds-5 t c =
    two_first c.args.variable c.args.bank.now c.node.result.now c.args.term c.node.ensures.tree c.in-Prod.kind c.in-Prod.rest c.holds-in-Prod.result c.in-Prod.is c.if-holds-5.true c.holds-in-Prod.ensures

pub returns-else-holds-5 : goal.returns-else-holds-5
returns-else-holds-5 t c =
    two_second c.args.variable c.args.bank.now c.node.result.now c.args.term c.node.ensures.tree c.in-Prod.kind c.in-Prod.rest c.holds-in-Prod.result c.holds-else-holds-5.result c.in-Prod.is c.if-holds-5.false
    c.holds-in-Prod.ensures c.holds-else-holds-5.ensures
