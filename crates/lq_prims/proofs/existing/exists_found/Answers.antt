use Rattle.std.proofs.Common.{◌∙◌, ap}
use Rattle.std.proofs.Common.{subst as along}
use Rattle.lq_ast.specs.Plain.{plain}
use Rattle.lq_terms.specs.Contexts.{context_of}
use Rattle.lq_terms.specs.Terms.{tree_of, text_of}
use Rattle.lq_env.specs.Environments.{env_of}
use Rattle.lq_solving.specs.Stores.{names_in}
use Rattle.lq_solving.proofs.Good.{IsGood}
use Rattle.lq_evars.specs.Places.{store_of}
use Rattle.lq_elab.specs.States.{givens_of}
use Rattle.lq_prims.specs.Binders.{HasBinder, binder_tree}
use Rattle.lq_prims.specs.Inductives.{found_by}
use Rattle.lq_prims.specs.Scenes.{context_at}
use Rattle.lq_prims.proofs.ExistLaws.{takes_none, takes_none_let, takes_one}
use Rattle.lq_prims.proofs.existing.exists_found.Goals as goal

pub with_argument-requires-clause-takes : goal.with_argument-requires-clause-takes
with_argument-requires-clause-takes g c =
    let bank = c.args.work.now.bank.now in
    let S = store_of bank c.args.store.now in
    let h = along (HasBinder bank) c.in-Some-Product.field-0-is c.in-Some-Product.ensures.0 in
    record {
      function = record { has = c.requires.function.term; stands = c.requires.function.stands };
      domain = h.1;
      rest = h.2;
      good = along (IsGood S.variables S.values (names_in (context_of bank c.args.context.now)) 0) (c.in-Some-Product.ensures.1 ∙ ap (binder_tree bank) c.in-Some-Product.field-0-is) c.requires.function.good;
    }

pub returns-in-Some-Product-clause-answer : goal.returns-in-Some-Product-clause-answer
returns-in-Some-Product-clause-answer g c T =
    let bank = c.args.work.now.bank.now in
    let S = store_of bank c.args.store.now in
    let new = c.with_argument.new.work.bank.now in
    takes_one (env_of bank c.args.env.now) S c.args.goal (context_at S c.args.goal) T (givens_of bank c.args.values.now) (plain c.args.term.now) (found_by bank S c.args.function) (tree_of bank c.args.function.kind)
    (text_of bank c.in-Some-Product._name) (tree_of bank c.in-Some-Product.domain) (tree_of bank c.in-Some-Product.rest) (c.in-Some-Product.ensures.1 ∙ ap (binder_tree bank) c.in-Some-Product.field-0-is) new
    (found_by new (store_of new c.with_argument.new.store)) c.with_argument.result c.args.work.now.ticks.now.left c.with_argument.new.work.ticks.now.left (c.with_argument.ensures.answer T)

pub returns-in-Some-Definition-clause-answer : goal.returns-in-Some-Definition-clause-answer
returns-in-Some-Definition-clause-answer g c T =
    let bank = c.args.work.now.bank.now in
    let S = store_of bank c.args.store.now in
    takes_none_let (env_of bank c.args.env.now) S c.args.goal (context_at S c.args.goal) T (givens_of bank c.args.values.now) (plain c.args.term.now) (found_by bank S c.args.function) (tree_of bank c.args.function.kind)
    (text_of bank c.in-Some-Definition._name) (tree_of bank c.in-Some-Definition._value) (tree_of bank c.in-Some-Definition._kind) (tree_of bank c.in-Some-Definition._rest)
    (c.in-Some-Definition.ensures.1 ∙ ap (binder_tree bank) c.in-Some-Definition.field-0-is) bank c.args.work.now.ticks.now.left

pub returns-in-None-clause-answer : goal.returns-in-None-clause-answer
returns-in-None-clause-answer g c T =
    let bank = c.args.work.now.bank.now in
    let S = store_of bank c.args.store.now in
    takes_none (env_of bank c.args.env.now) S c.args.goal (context_at S c.args.goal) T (givens_of bank c.args.values.now) (plain c.args.term.now) (found_by bank S c.args.function) (tree_of bank c.args.function.kind)
    c.in-None.ensures bank c.args.work.now.ticks.now.left
