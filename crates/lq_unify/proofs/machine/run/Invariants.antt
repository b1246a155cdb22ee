use Rattle.std.proofs.Common.{◌≡◌, ◌+◌, ◌*◌, ℕ, []}
use Rattle.lq_trees.specs.Rules.{Rules}
use Rattle.lq_terms.specs.Terms.{Grows}
use Rattle.lq_solving.specs.Claims.{ArePlainRules}
use Rattle.lq_solving.specs.Unification.{Unify, Answer}
use Rattle.lq_evars.specs.Places.{Places, store_of}
use Rattle.lq_unify.specs.Telling.{TellsOn}
use Rattle.lq_unify.specs.Working.{IsAsked}
use Rattle.lq_unify.specs.Frames.{IsSince, sides_in, turns}
use Rattle.lq_unify.specs.Turns.{IsNext, Goes, due}
use Rattle.lq_unify.proofs.machine.run.Given as goal

abbrev pub invariant-turns : goal.invariant-turns
invariant-turns g l = record {
  is : IsNext l.work.bank.now l.store l.context l.frames l.next;
  goes : (r : Rules) (f : ℕ → Unify Answer) (budget : ℕ) → TellsOn l.fn.work.bank.now (g.R.Rules.told l.rules) r → ArePlainRules r
      → IsAsked r f budget l.fn.work.ticks.now.left (store_of l.fn.work.bank.now l.fn.store) [] (sides_in l.fn.work.bank.now l.fn.context l.fn.pair)
      → Goes r f budget l.work.ticks.now.left l.work.bank.now l.store l.context l.frames l.next;
  since : (before : Places) → IsSince before l.fn.store l.fn.frames → IsSince before l.store l.frames;
  grows : Grows l.fn.work.bank.now l.work.bank.now;
  same_bank : l.work.bank.ghost_name ≡ l.fn.work.bank.ghost_name;
  same_ticks : l.work.ticks.ghost_name ≡ l.fn.work.ticks.ghost_name;
  budget : l.work.ticks.now.left + l.work.ticks.now.spent ≡ l.fn.work.ticks.now.left + l.fn.work.ticks.now.spent;
  counted : l.steps + l.fn.work.ticks.now.spent ≡ l.fn.steps + l.work.ticks.now.spent;
}

abbrev pub decreases-turns : goal.decreases-turns
decreases-turns g l = 8 * l.work.ticks.now.left + turns l.frames + due l.next
