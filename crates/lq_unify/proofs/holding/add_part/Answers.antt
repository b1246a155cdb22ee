use Rattle.std.proofs.Common.{◌∙◌, sym, ap, ◌||◌}
use Rattle.lq_unify.specs.Holding.{tells}
use Rattle.lq_unify.proofs.holding.add_part.Goals as goal

pub returns-clause-told : goal.returns-clause-told
returns-clause-told c = λ m. c.in_ok-add_all.ensures.told m ∙ ap (λ b. tells c.args.bank.now m c.args.all.now || b) (sym (c.known_holding-holding.ensures.is m))
