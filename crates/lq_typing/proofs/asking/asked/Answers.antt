use Rattle.std.proofs.Common.{sym}
use Rattle.std.proofs.Common.{subst as along}
use Rattle.lq_env.specs.Environments.{env_of}
use Rattle.lq_env.proofs.Grown.{env_of-grown}
use Rattle.lq_evars.proofs.Growing.{store_of-grown}
use Rattle.lq_kernel.specs.declared.faults.KernelFault.{KernelFault}
use Rattle.lq_terms.specs.Terms.{tree_of}
use Rattle.lq_typing.specs.declared.waiting.Turn.{Turn}
use Rattle.lq_typing.specs.Frames.{turn_work}
use Rattle.lq_typing.specs.Going.{Goes, IsOpen}
use Rattle.lq_typing.proofs.TurnLaws.{lent_grown, term_asked}
use Rattle.lq_typing.proofs.AskLaws.{shown_turn, shown_same}
use Rattle.lq_typing.proofs.StopLaws.{goes_out}
use Rattle.lq_typing.proofs.asking.asked.Goals as goal

pub shown-requires-clause-term : goal.shown-requires-clause-term
shown-requires-clause-term g c = term_asked c.args.work.now.bank.now c.args.store.now c.args.context.now c.args.waiting.now c.args.term c.requires.turn

pub returns-in_err-term-clause-goes : goal.returns-in_err-term-clause-goes
returns-in_err-term-clause-goes g c = goes_out c.shown.new.bank c.args.store.now (env_of c.args.work.now.bank.now c.args.env.now) c.args.context.now c.args.waiting.now (turn_work c.args.work.now.bank.now c.args.store.now (env_of c.args.work.now.bank.now c.args.env.now) c.args.context.now c.args.waiting.now (Turn.Ask c.args.term)) c.args.work.now.ticks.now.left c.args.work.now.ticks.now.left c.from_residual.result KernelFault.NoMemory c.from_residual.ensures.1 tt

pub asked_node-requires-clause-lent : goal.asked_node-requires-clause-lent
asked_node-requires-clause-lent g c = lent_grown c.args.work.now.bank.now c.shown.new.bank c.in_ok-term.ensures.grows c.args.env.now c.args.store.now c.requires.lent

pub asked_node-requires-clause-turn : goal.asked_node-requires-clause-turn
asked_node-requires-clause-turn g c = shown_turn c.args.work.now.bank.now c.args.store.now (env_of c.args.work.now.bank.now c.args.env.now) c.args.context.now c.args.waiting.now c.requires.lent.store c.requires.lent.kept c.args.term c.requires.turn c.shown.new.bank c.in_ok-term.ensures.grows c.in_ok-term.term c.in_ok-term.ensures.term c.in_ok-term.ensures.reads

pub asked_node-requires-clause-open : goal.asked_node-requires-clause-open
asked_node-requires-clause-open g c = along (λ z. IsOpen z.values (tree_of c.shown.new.bank c.in_ok-term.term)) (sym (store_of-grown c.args.work.now.bank.now c.shown.new.bank c.in_ok-term.ensures.grows c.args.store.now c.requires.lent.store)) c.in_ok-term.ensures.open

pub returns-clause-goes : goal.returns-clause-goes
returns-clause-goes g c =
    shown_same c.args.work.now.bank.now c.args.store.now (env_of c.args.work.now.bank.now c.args.env.now) c.args.context.now c.args.waiting.now c.requires.lent.store c.requires.lent.kept c.args.term c.requires.turn c.shown.new.bank c.in_ok-term.ensures.grows c.in_ok-term.term c.in_ok-term.ensures.term c.in_ok-term.ensures.reads c.asked_node.new.work.bank.now c.asked_node.result c.args.context.now c.asked_node.new.waiting c.args.work.now.ticks.now.left c.asked_node.new.work.ticks.now.left
    (along (λ z. Goes c.asked_node.new.work.bank.now c.args.store.now z c.args.context.now c.asked_node.new.waiting c.asked_node.result (turn_work c.shown.new.bank c.args.store.now z c.args.context.now c.args.waiting.now (Turn.Ask c.in_ok-term.term)) c.args.work.now.ticks.now.left c.asked_node.new.work.ticks.now.left) (env_of-grown c.args.work.now.bank.now c.shown.new.bank c.in_ok-term.ensures.grows c.args.env.now c.requires.lent.env) c.asked_node.ensures.goes)
