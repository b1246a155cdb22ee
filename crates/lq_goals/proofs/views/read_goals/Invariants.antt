use Rattle.std.proofs.Common.{◌≡◌, take, None}
use Rattle.lq_terms.specs.Terms.{Grows}
use Rattle.lq_evars.specs.Places.{store_of}
use Rattle.lq_states.specs.Views.{views, all_terms, first_unfit}
use Rattle.lq_goals.specs.Seen.{AreViews}
use Rattle.lq_goals.proofs.views.read_goals.Given as goal

-- those before are read, and none of their terms passes a limit
abbrev pub invariant-loop-goal : goal.invariant-loop-goal
invariant-loop-goal l = record {
  read : AreViews l.bank (views (store_of l.initial.bank l.store) (take l.goal-index l.goals)) l.read.items;
  fit : first_unfit (all_terms (views (store_of l.initial.bank l.store) (take l.goal-index l.goals))) ≡ None;
  grows : Grows l.initial.bank l.bank;
}
