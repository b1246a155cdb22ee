use Rattle.std.proofs.Common.{sym, ◌∙◌, ap, Ok}
use Rattle.std.proofs.Common.{subst as along}
use Rattle.lq_calculus.specs.Declarations.{rules_of}
use Rattle.lq_terms.specs.Terms.{tree_of}
use Rattle.lq_terms.specs.Contexts.{context_of}
use Rattle.lq_env.specs.Environments.{env_of}
use Rattle.lq_solving.specs.Kept.{IsOver}
use Rattle.lq_solving.specs.Unification.{unify}
use Rattle.lq_evars.specs.Places.{store_of}
use Rattle.lq_evars.proofs.Growing.{store_of-grown}
use Rattle.lq_unify.specs.Turns.{Unifies}
use Rattle.lq_typing.specs.Refusals.{Refuses}
use Rattle.lq_solving.specs.Elaboration.{unified}
use Rattle.lq_solving.proofs.ElabSettled.{at}
use Rattle.lq_elab.proofs.AgreeingLaws.{env_rules, yes_unified, no_unified, stops_unified}
use Rattle.lq_elab.proofs.AgreedLaws.{later_grown}
use Rattle.lq_elab.proofs.agreeing.unified_in.Goals as goal

pub unify-requires-clause-rules : goal.unify-requires-clause-rules
unify-requires-clause-rules g c = record {
  has = c.computes.ensures.has c.args.work.now.bank.now c.requires.env;
  rules = rules_of (env_of c.args.work.now.bank.now c.args.env.now);
  tells = env_rules c.args.work.now.bank.now c.args.env.now c.requires.env c.computes.ensures.told;
  plain = c.requires.plain.rules;
}

pub mismatch-requires-clause-found_over : goal.mismatch-requires-clause-found_over
mismatch-requires-clause-found_over g c =
    along (λ z. IsOver z.variables (tree_of c.unify.new.work.bank.now c.args.found)) (sym (ap (store_of c.unify.new.work.bank.now) (c.in-Ok-false.ensures.same c.in-Ok-false.field-0-test) ∙ store_of-grown c.args.work.now.bank.now c.unify.new.work.bank.now c.in-Ok-false.ensures.grows c.args.store.now c.requires.store))
    (along (IsOver (store_of c.args.work.now.bank.now c.args.store.now).variables) (sym (c.in-Ok-false.ensures.grows.tree c.args.found c.requires.found)) c.requires.found_stands.over)

pub mismatch-requires-clause-wanted_over : goal.mismatch-requires-clause-wanted_over
mismatch-requires-clause-wanted_over g c =
    along (λ z. IsOver z.variables (tree_of c.unify.new.work.bank.now c.args.wanted)) (sym (ap (store_of c.unify.new.work.bank.now) (c.in-Ok-false.ensures.same c.in-Ok-false.field-0-test) ∙ store_of-grown c.args.work.now.bank.now c.unify.new.work.bank.now c.in-Ok-false.ensures.grows c.args.store.now c.requires.store))
    (along (IsOver (store_of c.args.work.now.bank.now c.args.store.now).variables) (sym (c.in-Ok-false.ensures.grows.tree c.args.wanted c.requires.wanted)) c.requires.wanted_stands.over)

pub returns-in-Ok-true-clause-answer : goal.returns-in-Ok-true-clause-answer
returns-in-Ok-true-clause-answer g c = λ e x.
    yes_unified (env_of c.args.work.now.bank.now c.args.env.now) (context_of c.args.work.now.bank.now c.args.context.now) (store_of c.args.work.now.bank.now c.args.store.now) (tree_of c.args.work.now.bank.now c.args.found) (tree_of c.args.work.now.bank.now c.args.wanted) c.args.work.now.ticks.now.left c.unify.new.work.ticks.now.left (store_of c.unify.new.work.bank.now c.unify.new.store)
    (along (λ o. Unifies c.unify.new.work.bank.now c.unify.new.store (Ok o) (λ n. unify (rules_of (env_of c.args.work.now.bank.now c.args.env.now)) n (context_of c.args.work.now.bank.now c.args.context.now) (store_of c.args.work.now.bank.now c.args.store.now) (tree_of c.args.work.now.bank.now c.args.found) (tree_of c.args.work.now.bank.now c.args.wanted)) c.args.work.now.ticks.now.left c.unify.new.work.ticks.now.left) c.in-Ok-true.field-0-test (c.in-Ok-true.ensures.answer (rules_of (env_of c.args.work.now.bank.now c.args.env.now)) (env_rules c.args.work.now.bank.now c.args.env.now c.requires.env c.computes.ensures.told) c.requires.plain.rules)) e x

pub returns-in-Ok-true-clause-grown : goal.returns-in-Ok-true-clause-grown
returns-in-Ok-true-clause-grown g c = later_grown (store_of c.args.work.now.bank.now c.args.store.now) (store_of c.unify.new.work.bank.now c.unify.new.store) c.requires.kept c.in-Ok-true.ensures.later

pub returns-in-Ok-false-clause-answer : goal.returns-in-Ok-false-clause-answer
returns-in-Ok-false-clause-answer g c = λ e x.
    no_unified (env_of c.args.work.now.bank.now c.args.env.now) (context_of c.args.work.now.bank.now c.args.context.now) (store_of c.args.work.now.bank.now c.args.store.now) (tree_of c.args.work.now.bank.now c.args.found) (tree_of c.args.work.now.bank.now c.args.wanted) c.args.work.now.ticks.now.left c.unify.new.work.ticks.now.left c.mismatch.new.bank c.mismatch.result
    (along (λ o. Unifies c.unify.new.work.bank.now c.unify.new.store (Ok o) (λ n. unify (rules_of (env_of c.args.work.now.bank.now c.args.env.now)) n (context_of c.args.work.now.bank.now c.args.context.now) (store_of c.args.work.now.bank.now c.args.store.now) (tree_of c.args.work.now.bank.now c.args.found) (tree_of c.args.work.now.bank.now c.args.wanted)) c.args.work.now.ticks.now.left c.unify.new.work.ticks.now.left) c.in-Ok-false.field-0-test (c.in-Ok-false.ensures.answer (rules_of (env_of c.args.work.now.bank.now c.args.env.now)) (env_rules c.args.work.now.bank.now c.args.env.now c.requires.env c.computes.ensures.told) c.requires.plain.rules))
    (c.mismatch.ensures.answer (store_of c.args.work.now.bank.now c.args.store.now) (tree_of c.args.work.now.bank.now c.args.found) (tree_of c.args.work.now.bank.now c.args.wanted) c.unify.new.work.ticks.now.left (sym (ap (store_of c.unify.new.work.bank.now) (c.in-Ok-false.ensures.same c.in-Ok-false.field-0-test) ∙ store_of-grown c.args.work.now.bank.now c.unify.new.work.bank.now c.in-Ok-false.ensures.grows c.args.store.now c.requires.store)) (sym (c.in-Ok-false.ensures.grows.tree c.args.found c.requires.found)) (sym (c.in-Ok-false.ensures.grows.tree c.args.wanted c.requires.wanted))) e x

pub returns-in-Err-clause-answer : goal.returns-in-Err-clause-answer
returns-in-Err-clause-answer g c = λ e x.
    along (λ y. Refuses c.unify.new.work.bank.now y (λ n. unified (at n e) (context_of c.args.work.now.bank.now c.args.context.now) (store_of c.args.work.now.bank.now c.args.store.now) (tree_of c.args.work.now.bank.now c.args.found) (tree_of c.args.work.now.bank.now c.args.wanted)) c.args.work.now.ticks.now.left c.unify.new.work.ticks.now.left) (sym c.unify_fault_of.ensures)
    (stops_unified (env_of c.args.work.now.bank.now c.args.env.now) (context_of c.args.work.now.bank.now c.args.context.now) (store_of c.args.work.now.bank.now c.args.store.now) (tree_of c.args.work.now.bank.now c.args.found) (tree_of c.args.work.now.bank.now c.args.wanted) c.args.work.now.ticks.now.left c.unify.new.work.ticks.now.left c.unify.new.work.bank.now c.in-Err.fault (c.in-Err.ensures.answer (rules_of (env_of c.args.work.now.bank.now c.args.env.now)) (env_rules c.args.work.now.bank.now c.args.env.now c.requires.env c.computes.ensures.told) c.requires.plain.rules) e x)
