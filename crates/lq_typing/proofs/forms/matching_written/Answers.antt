use Rattle.std.proofs.Common.{ap}
use Rattle.lq_env.specs.Environments.{env_of}
use Rattle.lq_evars.specs.Places.{store_of}
use Rattle.lq_evars.proofs.Growing.{store_of-grown, HasStore-grown}
use Rattle.lq_inference.specs.Inference.{matching_by}
use Rattle.lq_kernel.specs.Answers.{Checks}
use Rattle.lq_kernel.proofs.Goes.{err_out}
use Rattle.lq_kernel.proofs.FormLaws.{written_out, written_yes, written_no}
use Rattle.lq_solving.specs.Inference.{by_store_types}
use Rattle.lq_solving.specs.Stores.{read, read_context}
use Rattle.lq_terms.specs.Contexts.{context_of}
use Rattle.lq_terms.specs.Terms.{tree_of}
use Rattle.lq_typing.proofs.KindLaws.{kept_grown, over_grown, within_grown, read_later}
use Rattle.lq_typing.proofs.forms.matching_written.Goals as goal

pub returns-in_err-same-clause-answer : goal.returns-in_err-same-clause-answer
returns-in_err-same-clause-answer g c =
    err_out (λ z. Checks c.compares.new.work.bank.now z (λ n. matching_by (by_store_types (store_of c.args.work.now.bank.now c.args.store.now)) (env_of c.args.work.now.bank.now c.args.env.now) n (read_context (store_of c.args.work.now.bank.now c.args.store.now) (context_of c.args.work.now.bank.now c.args.context.now)) (tree_of c.args.work.now.bank.now c.args.found) (read (store_of c.args.work.now.bank.now c.args.store.now) (tree_of c.args.work.now.bank.now c.args.wanted))) c.args.work.now.ticks.now.left c.compares.new.work.ticks.now.left) c.from_residual.result c.in_err-same.field-0.0 c.from_residual.ensures.1
    (written_out (by_store_types (store_of c.args.work.now.bank.now c.args.store.now)) (env_of c.args.work.now.bank.now c.args.env.now) (read_context (store_of c.args.work.now.bank.now c.args.store.now) (context_of c.args.work.now.bank.now c.args.context.now)) (tree_of c.args.work.now.bank.now c.args.found) (read (store_of c.args.work.now.bank.now c.args.store.now) (tree_of c.args.work.now.bank.now c.args.wanted)) c.compares.new.work.bank.now c.args.work.now.ticks.now.left c.compares.new.work.ticks.now.left c.in_err-same.field-0.0 c.in_err-same.ensures.answer)

pub returns-then-same-clause-answer : goal.returns-then-same-clause-answer
returns-then-same-clause-answer g c = written_yes (by_store_types (store_of c.args.work.now.bank.now c.args.store.now)) (env_of c.args.work.now.bank.now c.args.env.now) (read_context (store_of c.args.work.now.bank.now c.args.store.now) (context_of c.args.work.now.bank.now c.args.context.now)) (tree_of c.args.work.now.bank.now c.args.found) (read (store_of c.args.work.now.bank.now c.args.store.now) (tree_of c.args.work.now.bank.now c.args.wanted)) c.compares.new.work.bank.now c.args.work.now.ticks.now.left c.compares.new.work.ticks.now.left c.in_ok-same.same c.if-same.true c.in_ok-same.ensures.answer

pub differ-requires-clause-kept : goal.differ-requires-clause-kept
differ-requires-clause-kept g c = kept_grown c.args.work.now.bank.now c.compares.new.work.bank.now c.in_ok-same.ensures.grows c.args.store.now c.requires.site.lent.store c.requires.site.lent.kept

pub differ-requires-clause-store : goal.differ-requires-clause-store
differ-requires-clause-store g c = HasStore-grown c.args.work.now.bank.now c.compares.new.work.bank.now c.in_ok-same.ensures.grows c.args.store.now c.requires.site.lent.store

pub differ-requires-clause-over : goal.differ-requires-clause-over
differ-requires-clause-over g c = over_grown c.args.work.now.bank.now c.compares.new.work.bank.now c.in_ok-same.ensures.grows c.args.store.now c.requires.site.lent.store c.args.wanted c.requires.has_wanted c.requires.wanted.over

pub differ-requires-clause-closed : goal.differ-requires-clause-closed
differ-requires-clause-closed g c = within_grown c.args.work.now.bank.now c.compares.new.work.bank.now c.in_ok-same.ensures.grows 0 c.args.wanted c.requires.has_wanted c.requires.wanted.within

pub returns-else-same-clause-answer : goal.returns-else-same-clause-answer
returns-else-same-clause-answer g c =
    written_no (by_store_types (store_of c.args.work.now.bank.now c.args.store.now)) (env_of c.args.work.now.bank.now c.args.env.now) (read_context (store_of c.args.work.now.bank.now c.args.store.now) (context_of c.args.work.now.bank.now c.args.context.now)) (tree_of c.args.work.now.bank.now c.args.found) (read (store_of c.args.work.now.bank.now c.args.store.now) (tree_of c.args.work.now.bank.now c.args.wanted)) c.differ.new.bank c.args.work.now.ticks.now.left c.compares.new.work.ticks.now.left (by_store_types (store_of c.compares.new.work.bank.now c.args.store.now)) (tree_of c.compares.new.work.bank.now c.args.found)
    (read (store_of c.compares.new.work.bank.now c.args.store.now) (tree_of c.compares.new.work.bank.now c.args.wanted)) c.differ.result c.in_ok-same.same c.if-same.false (ap (λ z. by_store_types z) (store_of-grown c.args.work.now.bank.now c.compares.new.work.bank.now c.in_ok-same.ensures.grows c.args.store.now c.requires.site.lent.store))
    (c.in_ok-same.ensures.grows.tree c.args.found c.requires.found.has) (read_later c.args.work.now.bank.now c.compares.new.work.bank.now c.in_ok-same.ensures.grows c.args.store.now c.requires.site.lent.store c.args.wanted c.requires.has_wanted) c.in_ok-same.ensures.answer (c.differ.ensures.answer c.compares.new.work.ticks.now.left)
