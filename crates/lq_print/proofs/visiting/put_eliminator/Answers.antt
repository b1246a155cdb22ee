use Rattle.std.proofs.Common.{◌∙◌}
use Rattle.lq_print.proofs.VisitLaws.{on_ok, name_as}
use Rattle.lq_print.proofs.visiting.put_eliminator.Goals as goal

pub returns : goal.returns
returns c =
    on_ok c.put_name.result c.put_name.ensures
    (λ s. name_as c.args.bank.now c.args.spelling.now c.put_name.new.spelling _ _ (c.as_str.ensures.value ∙ c.in_ok-text.ensures)
    (s c.args.bank.now c.requires.spelling))
