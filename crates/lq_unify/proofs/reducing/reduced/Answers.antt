use Rattle.std.proofs.Common.{arith}
use Rattle.lq_terms.specs.Contexts.{context_of}
use Rattle.lq_terms.specs.Terms.{tree_of}
use Rattle.lq_terms.proofs.Tellings.{HasContext-grown}
use Rattle.lq_solving.specs.Stores.{read, read_context}
use Rattle.lq_evars.specs.Places.{store_of}
use Rattle.lq_unify.proofs.TurnSteps.{rules_grown}
use Rattle.lq_unify.proofs.OneForm.{first_stops, kept_later, context_later, stands_later, both_stop, both_same, both_change}
use Rattle.lq_unify.proofs.reducing.reduced.Goals as goal

pub one_form-requires-in-Ok-clause-kept : goal.one_form-requires-in-Ok-clause-kept
one_form-requires-in-Ok-clause-kept g c = kept_later c.args.work.now.bank.now c.one_form.new.work.bank.now c.in-Ok.ensures.grows c.args.store.now c.args.context.now c.requires.store c.requires.context c.requires.kept

pub one_form-requires-in-Ok-clause-context : goal.one_form-requires-in-Ok-clause-context
one_form-requires-in-Ok-clause-context g c = HasContext-grown c.args.work.now.bank.now c.one_form.new.work.bank.now c.in-Ok.ensures.grows c.args.context.now c.requires.context

pub one_form-requires-in-Ok-clause-hypotheses : goal.one_form-requires-in-Ok-clause-hypotheses
one_form-requires-in-Ok-clause-hypotheses g c = context_later c.args.work.now.bank.now c.one_form.new.work.bank.now c.in-Ok.ensures.grows c.args.store.now c.args.context.now c.requires.store c.requires.context c.requires.hypotheses

pub one_form-requires-in-Ok-clause-stands : goal.one_form-requires-in-Ok-clause-stands
one_form-requires-in-Ok-clause-stands g c = stands_later c.args.work.now.bank.now c.one_form.new.work.bank.now c.in-Ok.ensures.grows c.args.store.now c.args.context.now c.requires.store c.requires.context c.args.right c.requires.right c.requires.right_stands

pub one_form-requires-in-Ok-clause-rules : goal.one_form-requires-in-Ok-clause-rules
one_form-requires-in-Ok-clause-rules g c = rules_grown c.args.work.now.bank.now c.one_form.new.work.bank.now c.in-Ok.ensures.grows (g.R.Rules.told c.args.rules.now) c.requires.rules

pub returns-then-work-budget-clause-answer : goal.returns-then-work-budget-clause-answer
returns-then-work-budget-clause-answer g c = both_same c.args.work.now.bank.now c.one_form.new.work.bank.now c.one_form-in-Ok.new.work.bank.now c.in-Ok.ensures.grows c.in-Ok-one_form.ensures.grows (g.R.Rules.told c.args.rules.now) c.args.store.now c.args.context.now c.requires.store c.requires.context c.args.left c.args.right c.requires.right c.args.work.now.ticks.now.left c.one_form.new.work.ticks.now.left c.one_form-in-Ok.new.work.ticks.now.left c.in-Ok.first c.in-Ok-one_form.second c.in-Ok.ensures.has c.in-Ok.ensures.answer c.in-Ok-one_form.ensures.answer (omega (arith, c.if-work-budget.true))

pub returns-else-work-budget-clause-answer : goal.returns-else-work-budget-clause-answer
returns-else-work-budget-clause-answer g c = both_change c.args.work.now.bank.now c.one_form.new.work.bank.now c.one_form-in-Ok.new.work.bank.now c.in-Ok.ensures.grows c.in-Ok-one_form.ensures.grows (g.R.Rules.told c.args.rules.now) c.args.store.now c.args.context.now c.requires.store c.requires.context c.args.left c.args.right c.requires.right c.args.work.now.ticks.now.left c.one_form.new.work.ticks.now.left c.one_form-in-Ok.new.work.ticks.now.left c.in-Ok.first c.in-Ok-one_form.second c.in-Ok.ensures.has c.in-Ok.ensures.answer c.in-Ok-one_form.ensures.answer (λ e. omega (arith, e, c.if-work-budget.false))

pub returns-in-Err-one_form-clause-answer : goal.returns-in-Err-one_form-clause-answer
returns-in-Err-one_form-clause-answer g c = both_stop c.args.work.now.bank.now c.one_form.new.work.bank.now c.one_form-in-Ok.new.work.bank.now c.in-Ok.ensures.grows c.in-Err-one_form.ensures.grows (g.R.Rules.told c.args.rules.now) c.args.store.now c.args.context.now c.requires.store c.requires.context c.args.left c.args.right c.requires.right c.args.work.now.ticks.now.left c.one_form.new.work.ticks.now.left c.one_form-in-Ok.new.work.ticks.now.left c.in-Ok.first c.in-Err-one_form.fault c.in-Ok.ensures.answer c.in-Err-one_form.ensures.answer

pub returns-in-Err-clause-answer : goal.returns-in-Err-clause-answer
returns-in-Err-clause-answer g c = λ r tells plain.
    first_stops r (read_context (store_of c.args.work.now.bank.now c.args.store.now) (context_of c.args.work.now.bank.now c.args.context.now)) (read (store_of c.args.work.now.bank.now c.args.store.now) (tree_of c.args.work.now.bank.now c.args.left)) (read (store_of c.args.work.now.bank.now c.args.store.now) (tree_of c.args.work.now.bank.now c.args.right)) c.args.work.now.ticks.now.left c.one_form.new.work.bank.now c.in-Err.fault c.one_form.new.work.ticks.now.left (c.in-Err.ensures.answer r tells plain)
