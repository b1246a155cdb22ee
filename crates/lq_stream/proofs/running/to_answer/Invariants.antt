use Rattle.std.proofs.Common.{◌≡◌, ◌≤◌, ◌+◌, ℕ, length}
use Rattle.lq_runs.specs.Runs.{Run}
use Rattle.lq_stream.specs.Holding.{HasDoing}
use Rattle.lq_stream.specs.Places.{Held}
use Rattle.lq_stream.specs.Turning.{Goes, Works}
use Rattle.lq_stream.proofs.running.to_answer.Given as goal

abbrev pub invariant-ticks : goal.invariant-ticks
invariant-ticks g l = record {
  later : g.M.Machine.later l.fn.machine l.machine;
  held : Held (g.M.Machine.known l.machine) l.stacks.links.items l.stacks.choices.items l.stacks.tops.items;
  doing : HasDoing (g.M.Machine.known l.machine) l.doing;
  place : l.place ≤ length l.stacks.links.items;
  leads : (f : ℕ → Run g.M.Machine.Message g.M.Machine.CauseTree g.M.Machine.State g.M.Machine.ValueTree) → Works g.M.Machine.rank g.M.Machine.rest_rank (g.M.Machine.does l.fn.machine)
      (record { told = g.M.Machine.told l.fn.machine; state = g.M.Machine.state l.fn.machine; messages = g.M.Machine.messages l.fn.machine; left = l.fn.ticks.left; links = l.fn.stacks.links.items; choices = l.fn.stacks.choices.items }) l.fn.start 0 f →
      (h : ℕ → Run g.M.Machine.Message g.M.Machine.CauseTree g.M.Machine.State g.M.Machine.ValueTree) × Works g.M.Machine.rank g.M.Machine.rest_rank (g.M.Machine.does l.fn.machine)
      (record { told = g.M.Machine.told l.machine; state = g.M.Machine.state l.machine; messages = g.M.Machine.messages l.machine; left = l.ticks.left; links = l.stacks.links.items; choices = l.stacks.choices.items }) l.doing l.place h
      × Goes l.fn.ticks.left (g.M.Machine.messages l.fn.machine) f l.ticks.left (g.M.Machine.messages l.machine) h;
  stop : g.P.Stop.later l.fn.stop l.stop;
  running : g.P.Stop.told l.stop → ⊥;
  left : l.ticks.left + l.ticks.spent ≡ l.fn.ticks.left + l.fn.ticks.spent;
  counted : l.steps + l.fn.ticks.spent ≡ l.fn.steps + l.ticks.spent;
}

abbrev pub decreases-ticks : goal.decreases-ticks
decreases-ticks g l = l.ticks.left
