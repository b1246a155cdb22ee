use Rattle.std.proofs.Common.{rules, ◌≡◌, ◌∙◌, true, false, sym, subst, arith, Ok, Err}
use Rattle.std.specs.Prelude.{is_some}
use Rattle.lq_terms.specs.Terms.{tree_of}
use Rattle.lq_solving.specs.Occurs.{holds_variable}
use Rattle.lq_solving.specs.Stores.{has_value, assigned}
use Rattle.lq_solving.specs.Kept.{IsStore}
use Rattle.lq_solving.proofs.StoreLaws.{MayBeGiven}
use Rattle.lq_solving.proofs.InstanceLaws.{length_map}
use Rattle.lq_evars.specs.Places.{store_of, variable_of}
use Rattle.lq_evars.specs.Reading.{Gives}
use Rattle.lq_evars.proofs.Growing.{store_of-grown, HasStore-grown}
use Rattle.lq_prims.proofs.GiveLaws.{read_refused, too_large, left_true, right_true, value_is, body_value, assign_refused, assign_given}
use Rattle.lq_prims.proofs.giving.give.Goals as goal
use Rattle.lq_prims.proofs.giving.give.Goals.{then-is_some-via-then-is_some, then-is_some-via-else-is_some+then-holds}

pub returns-in_err-read-clause-answer : goal.returns-in_err-read-clause-answer
returns-in_err-read-clause-answer c ks =
    read_refused c.read.new.bank c.read.new.bank c.args.store.now (store_of c.args.bank.now c.args.store.now) c.args.goal (tree_of c.args.bank.now c.args.body) c.in_err-read.field-0.0 c.from_residual.result c.from_residual.ensures.1
    c.in_err-read.ensures.answer ks

pub returns-then-is_some-clause-answer : goal.returns-then-is_some-clause-answer
returns-then-is_some-clause-answer c ks b =
    let s = c.args.store.now in
    let old = c.args.bank.now in
    let u = tree_of c.read.new.bank c.in_ok-read.read in
    let has = value_is old (store_of old s) c.args.goal c.value.result (c.value.ensures.told old c.requires.kept) in
    too_large c.read.new.bank (store_of old s) c.args.goal (tree_of old c.args.body) u c.in_ok-read.ensures.answer.1 (elim c.then-is_some.branch [
      | then-is_some-via-then-is_some w ↦
          let t : is_some c.value.result ≡ true = search (rules, c.is_some.ensures, w.if-is_some.true) in
          left_true (has_value (store_of old s) c.args.goal) (holds_variable c.args.goal u) (has ∙ t)
      | then-is_some-via-else-is_some+then-holds w ↦ right_true (has_value (store_of old s) c.args.goal) (holds_variable c.args.goal u) (sym w.holds.ensures ∙ w.if-holds.true)
    ]) ks b

pub assign-requires-clause-store : goal.assign-requires-clause-store
assign-requires-clause-store c = HasStore-grown c.args.bank.now c.read.new.bank c.in_ok-read.ensures.grows c.args.store.now c.requires.store

pub assign-requires-clause-kept : goal.assign-requires-clause-kept
assign-requires-clause-kept c = subst IsStore (sym (store_of-grown c.args.bank.now c.read.new.bank c.in_ok-read.ensures.grows c.args.store.now c.requires.store)) c.requires.kept

pub assign-requires-clause-value : goal.assign-requires-clause-value
assign-requires-clause-value c =
    let s = c.args.store.now in
    let old = c.args.bank.now in
    let u = tree_of c.read.new.bank c.in_ok-read.read in
    let has = value_is old (store_of old s) c.args.goal c.value.result (c.value.ensures.told old c.requires.kept) in
    let none : is_some c.value.result ≡ false = search (rules, c.is_some.ensures, c.if-is_some.false) in
    subst (λ z. MayBeGiven z c.args.goal u) (sym (store_of-grown old c.read.new.bank c.in_ok-read.ensures.grows s c.requires.store))
    (body_value (store_of old s) c.args.goal (tree_of old c.args.body) u c.requires.kept (omega (arith, c.requires.goal, length_map (variable_of old) s.variables)) c.requires.stands c.in_ok-read.ensures.answer.1 (has ∙ none) (sym c.holds.ensures ∙ c.if-holds.false))

pub returns-in_err-assign-clause-answer : goal.returns-in_err-assign-clause-answer
returns-in_err-assign-clause-answer c ks =
    let s = c.args.store.now in
    let old = c.args.bank.now in
    let u = tree_of c.read.new.bank c.in_ok-read.read in
    let same = store_of-grown old c.read.new.bank c.in_ok-read.ensures.grows s c.requires.store in
    assign_refused c.assign.new.bank c.assign.new.bank c.assign.new.self (store_of old s) c.args.goal (tree_of old c.args.body) u c.in_err-assign.field-0.0 c.from_residual-in_err-assign.result c.requires.kept c.requires.stands
    c.in_ok-read.ensures.answer.1 c.from_residual-in_err-assign.ensures.1 (subst (λ z. Gives c.assign.new.bank (Err c.in_err-assign.field-0.0) c.assign.new.self (assigned z c.args.goal u)) same c.in_err-assign.ensures.told) ks

pub returns-clause-answer : goal.returns-clause-answer
returns-clause-answer c ks =
    let s = c.args.store.now in
    let old = c.args.bank.now in
    let u = tree_of c.read.new.bank c.in_ok-read.read in
    let has = value_is old (store_of old s) c.args.goal c.value.result (c.value.ensures.told old c.requires.kept) in
    let none : is_some c.value.result ≡ false = search (rules, c.is_some.ensures, c.if-is_some.false) in
    let same = store_of-grown old c.read.new.bank c.in_ok-read.ensures.grows s c.requires.store in
    assign_given (store_of old s) (store_of c.assign.new.bank c.assign.new.self) c.args.goal (tree_of old c.args.body) u c.requires.kept c.requires.stands c.in_ok-read.ensures.answer.1 (has ∙ none) (sym c.holds.ensures ∙ c.if-holds.false)
    (subst (λ z. assigned z c.args.goal u ≡ Ok (store_of c.assign.new.bank c.assign.new.self)) same c.in_ok-assign.ensures.told) ks
