use Rattle.std.proofs.Common.{rules, ◌∙◌}
use Rattle.std.proofs.lemmas.Fn.{filter_same}
use Rattle.lq_evars.specs.Places.{value_at}
use Rattle.lq_goals.specs.Held.{is_missing}
use Rattle.lq_goals.proofs.ListLoops.{kept_open}
use Rattle.lq_goals.proofs.lists.sweep.Goals as goal

pub returns : goal.returns
returns c =
    filter_same _ (λ j. is_missing (value_at c.args.store.now j)) _ (λ x b f' k. search rules) _ _ c.retain.ensures.filtered ∙ kept_open c.args.store.now c.args.goals.now.items
