use Rattle.std.proofs.Common.{◌≡◌, ◌+◌, ◌*◌, length}
use Rattle.lq_terms.specs.Terms.{Grows}
use Rattle.lq_env.specs.Environments.{env_of}
use Rattle.lq_typing.specs.declared.waiting.Turn.{Turn}
use Rattle.lq_typing.specs.Typing.{Leads}
use Rattle.lq_typing.specs.Frames.{turn_work, IsTurn, due}
use Rattle.lq_typing.specs.Sites.{IsLent}
use Rattle.lq_typing.proofs.machine.run.Given as goal

abbrev pub invariant-turns : goal.invariant-turns
invariant-turns g l = record {
  lent : IsLent l.work.bank.now l.env l.store;
  is : IsTurn l.work.bank.now l.store l.context l.waiting l.turn;
  leads : Leads (turn_work l.fn.work.bank.now l.store (env_of l.fn.work.bank.now l.env) l.fn.context l.fn.waiting (Turn.Ask l.fn.term)) (turn_work l.work.bank.now l.store (env_of l.fn.work.bank.now l.env) l.context l.waiting l.turn) l.fn.work.ticks.now.left l.work.ticks.now.left;
  grows : Grows l.fn.work.bank.now l.work.bank.now;
  same_bank : l.work.bank.ghost_name ≡ l.fn.work.bank.ghost_name;
  same_ticks : l.work.ticks.ghost_name ≡ l.fn.work.ticks.ghost_name;
  budget : l.work.ticks.now.left + l.work.ticks.now.spent ≡ l.fn.work.ticks.now.left + l.fn.work.ticks.now.spent;
  counted : l.steps + l.fn.work.ticks.now.spent ≡ l.fn.steps + l.work.ticks.now.spent;
}

abbrev pub decreases-turns : goal.decreases-turns
decreases-turns g l = 4 * l.work.ticks.now.left + length l.waiting + due l.turn
