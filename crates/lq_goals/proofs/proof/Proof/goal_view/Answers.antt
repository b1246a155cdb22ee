use Rattle.std.proofs.Common.{subst, sym, ap, length, ◌<◌, ◌≡◌, Some}
use Rattle.lq_evars.specs.Places.{store_of}
use Rattle.lq_states.specs.Views.{goal_view}
use Rattle.lq_goals.proofs.ViewingGoals.{goal_shows}
use Rattle.lq_goals.proofs.proof.Proof.goal_view.Goals as goal

pub returns-clause-told : goal.returns-clause-told
returns-clause-told c =
    goal_shows c.args.bank.now c.read_goal.new.bank c.args.self.now.store c.args.goal c.requires.goal c.read_goal.result
    (λ g e. c.read_goal.ensures.told g (subst (λ s. goal_view (store_of c.args.bank.now s) c.args.goal ≡ Some g) (sym c.store.ensures) e))
