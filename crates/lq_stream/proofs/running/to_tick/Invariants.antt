use Rattle.std.proofs.Common.{◌≡◌, ◌≤◌, ◌+◌, ℕ, length}
use Rattle.lq_runs.specs.Runs.{Run}
use Rattle.lq_stream.specs.Reading.{stack_at, choices_of}
use Rattle.lq_stream.specs.Holding.{HasDoing}
use Rattle.lq_stream.specs.Places.{Held}
use Rattle.lq_stream.specs.Turning.{Goes, Works, doing_turns}
use Rattle.lq_stream.proofs.running.to_tick.Given as goal

abbrev pub invariant-turns : goal.invariant-turns
invariant-turns g l = record {
  later : g.M.Machine.later l.fn.machine l.machine;
  held : Held (g.M.Machine.known l.machine) l.stacks.links.items l.stacks.choices.items l.stacks.tops.items;
  doing : HasDoing (g.M.Machine.known l.machine) l.doing;
  place : l.place ≤ length l.stacks.links.items;
  leads : (f : ℕ → Run g.M.Machine.Message g.M.Machine.CauseTree g.M.Machine.State g.M.Machine.ValueTree) → Works g.M.Machine.rank g.M.Machine.rest_rank (g.M.Machine.does l.fn.machine)
      (record { told = g.M.Machine.told l.fn.machine; state = g.M.Machine.state l.fn.machine; messages = g.M.Machine.messages l.fn.machine; left = l.fn.ticks.left; links = l.fn.stacks.links.items; choices = l.fn.stacks.choices.items }) l.fn.start l.fn.at f →
      (h : ℕ → Run g.M.Machine.Message g.M.Machine.CauseTree g.M.Machine.State g.M.Machine.ValueTree) × Works g.M.Machine.rank g.M.Machine.rest_rank (g.M.Machine.does l.fn.machine)
      (record { told = g.M.Machine.told l.machine; state = g.M.Machine.state l.machine; messages = g.M.Machine.messages l.machine; left = l.ticks.left; links = l.stacks.links.items; choices = l.stacks.choices.items }) l.doing l.place h
      × Goes l.fn.ticks.left (g.M.Machine.messages l.fn.machine) f l.ticks.left (g.M.Machine.messages l.machine) h;
  unspent : l.ticks.left ≡ l.whole;
  whole : l.whole ≡ l.fn.ticks.left;
  left : l.ticks.left + l.ticks.spent ≡ l.fn.ticks.left + l.fn.ticks.spent;
  counted : l.steps + l.fn.ticks.spent ≡ l.fn.steps + l.ticks.spent;
}

abbrev pub decreases-turns : goal.decreases-turns
decreases-turns g l = doing_turns g.M.Machine.rank g.M.Machine.rest_rank (g.M.Machine.told l.machine) l.doing (stack_at (g.M.Machine.told l.machine).rest l.stacks.links.items l.place) (choices_of (g.M.Machine.told l.machine) l.stacks.links.items l.stacks.choices.items)
