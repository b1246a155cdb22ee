use Rattle.std.proofs.Common.{◌∙◌, ap, ◌||◌}
use Rattle.lq_unify.specs.Holding.{one_marked}
use Rattle.lq_unify.proofs.HoldLaws.{both_told}
use Rattle.lq_unify.proofs.holding.add_all.Goals as goal

pub returns-clause-told : goal.returns-clause-told
returns-clause-told c = λ m.
    c.in_ok-add_names.ensures.told m
    ∙ ap (λ b. (b || one_marked c.args.bank.now m c.args.all.now.names.keys) || one_marked c.args.bank.now m c.as_slice.result.now) c.either-all.ensures
    ∙ ap (λ xs. ((c.args.all.now.variable || c.args.part.now.variable) || one_marked c.args.bank.now m c.args.all.now.names.keys) || one_marked c.args.bank.now m xs) c.as_slice.ensures.keys
    ∙ both_told c.args.all.now.variable c.args.part.now.variable (one_marked c.args.bank.now m c.args.all.now.names.keys) (one_marked c.args.bank.now m c.args.part.now.names.keys)
