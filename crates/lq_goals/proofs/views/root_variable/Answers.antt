use Rattle.std.proofs.Common.{sym, subst, ◌∙◌}
use Rattle.lq_terms.specs.Contexts.{HasContext}
use Rattle.lq_goals.proofs.RootLaws.{root_made}
use Rattle.lq_goals.proofs.ViewingGoals.{variable_at, context_there}
use Rattle.lq_goals.proofs.views.root_variable.Goals as goal

pub own_instance-requires : goal.own_instance-requires
own_instance-requires c =
    let v = variable_at c.args.store.now 0 c.requires.rooted in
    subst (HasContext c.args.bank.now) (sym (c.hypotheses.ensures ∙ c.context.ensures.place v.0 v.1)) (context_there c.args.bank.now c.args.store.now c.requires.store 0 v.0 v.1)

pub returns-clause-is : goal.returns-clause-is
returns-clause-is c =
    let v = variable_at c.args.store.now 0 c.requires.rooted in
    root_made c.args.bank.now c.own_instance.new.bank c.make.new.self c.own_instance.ensures.grows c.make.ensures.grows c.args.store.now c.requires.store v.0 v.1
    (context_there c.args.bank.now c.args.store.now c.requires.store 0 v.0 v.1) c.hypotheses.result.now (c.hypotheses.ensures ∙ c.context.ensures.place v.0 v.1)
    c.in_ok-entries.entries c.in_ok-entries.ensures.own c.make.result c.make.ensures.made
