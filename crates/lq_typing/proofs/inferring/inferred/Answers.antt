use Rattle.std.proofs.Common.{subst as along}
use Rattle.lq_env.specs.Environments.{env_of}
use Rattle.lq_evars.specs.Places.{store_of}
use Rattle.lq_terms.specs.Contexts.{context_of}
use Rattle.lq_terms.specs.Terms.{tree_of}
use Rattle.lq_kernel.specs.declared.faults.KernelFault.{KernelFault}
use Rattle.lq_solving.specs.Inference.{infer_open}
use Rattle.lq_typing.specs.Kinds.{Comes}
use Rattle.lq_typing.proofs.RunLaws.{comes_out, begin_turn}
use Rattle.lq_typing.proofs.inferring.inferred.Goals as goal

pub returns-in_err-lent-clause-answer : goal.returns-in_err-lent-clause-answer
returns-in_err-lent-clause-answer g c = comes_out c.args.work.now.bank.now c.from_residual.result KernelFault.NoMemory _ c.args.work.now.ticks.now.left c.args.work.now.ticks.now.left c.from_residual.ensures.1 tt

pub started-requires-clause-lent : goal.started-requires-clause-lent
started-requires-clause-lent g c = c.requires.site.lent

pub started-requires-clause-turn : goal.started-requires-clause-turn
started-requires-clause-turn g c = begin_turn c.args.work.now.bank.now c.args.store.now c.args.context.now c.in_ok-lent.lent c.args.term c.in_ok-lent.ensures c.requires.site.has c.requires.site.context c.requires.has c.requires.term

pub returns-clause-answer : goal.returns-clause-answer
returns-clause-answer g c =
    along (λ z. Comes c.started.new.work.bank.now c.started.result (λ n. infer_open (env_of c.args.work.now.bank.now c.args.env.now) n (store_of c.args.work.now.bank.now c.args.store.now) (context_of c.args.work.now.bank.now z) (tree_of c.args.work.now.bank.now c.args.term))
    c.args.work.now.ticks.now.left c.started.new.work.ticks.now.left) c.in_ok-lent.ensures c.started.ensures.answer
