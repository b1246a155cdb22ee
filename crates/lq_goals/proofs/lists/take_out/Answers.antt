use Rattle.std.proofs.Common.{rules, ◌∙◌}
use Rattle.std.specs.Prelude.{not}
use Rattle.std.proofs.lemmas.Fn.{filter_same}
use Rattle.lq_states.specs.Goals.{has}
use Rattle.lq_goals.proofs.ListLoops.{kept_without}
use Rattle.lq_goals.proofs.lists.take_out.Goals as goal

pub returns : goal.returns
returns c =
    filter_same _ (λ j. not (has c.args.taken.now j)) _ (λ x b f' k. search rules) _ _ c.retain.ensures.filtered ∙ kept_without c.args.taken.now c.args.goals.now.items
