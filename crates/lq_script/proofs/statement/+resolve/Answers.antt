use Rattle.std.proofs.Common.{◌∙◌, ap, subst}
use Rattle.lq_output.specs.Steps.{resolved}
use Rattle.lq_env.specs.Environments.{env_of}
use Rattle.lq_script.specs.Syntax.{plain_surface}
use Rattle.lq_script.specs.Scopes.{scope_of, IsMeant}
use Rattle.lq_script.proofs.Meanings.{scope_push}
use Rattle.lq_script.proofs.Products.{kind_missing, rest_missing, both_there}
use Rattle.lq_script.proofs.statement.+resolve.Goals as goal

pub product-returns-in_default-clause-answer : goal.product-returns-in_default-clause-answer
product-returns-in_default-clause-answer t c =
    kind_missing c.args.bank.now c.name.new.self c.resolve.new.bank c.args.env.now c.args.binders.now.items c.args.binders.now.items c.in_ok-name.name c.args.text.now c.in_ok-name.ensures.grows c.in_ok-kind.ensures.grows c.requires.1.1.0
    c.requires.1.1.1.0 c.in_ok-kind.field-0 (plain_surface c.args.kind.now) _ c.in_default.is c.in_ok-kind.ensures.answer

pub product-returns-in_default-2-clause-answer : goal.product-returns-in_default-2-clause-answer
product-returns-in_default-2-clause-answer t c =
    rest_missing c.args.bank.now c.name.new.self c.resolve.new.bank c.args.env.now c.args.binders.now.items c.resolve.new.binders.items c.in_ok-name.name c.args.text.now c.in_ok-name.ensures.grows c.in_ok-kind.ensures.grows c.requires.1.1.0
    c.requires.1.1.1.0 c.resolve_under.new.bank c.in_ok-name.ensures.named c.in_ok-kind.ensures.kept c.in_ok-rest.field-0 (plain_surface c.args.rest.now) _ c.in_default-2.is c.in_ok-rest.ensures.answer

pub product-returns-clause-answer : goal.product-returns-clause-answer
product-returns-clause-answer t c =
    both_there c.args.bank.now c.name.new.self c.resolve.new.bank c.args.env.now c.args.binders.now.items c.resolve.new.binders.items c.in_ok-name.name c.args.text.now c.in_ok-name.ensures.grows c.in_ok-kind.ensures.grows c.requires.1.1.0
    c.requires.1.1.1.0 c.resolve_under.new.bank c.in_ok-name.ensures.named c.in_ok-kind.ensures.kept c.make.new.self c.in_ok-kind.field-0 c.in_ok-rest.field-0 (plain_surface c.args.kind.now) (plain_surface c.args.rest.now)
    c.in-Some.kind c.in-Some-2.rest c.in_ok-term.term c.in_ok-rest.ensures.grows c.in-Some.is c.in_ok-kind.ensures.answer c.in-Some-2.is c.in_ok-rest.ensures.answer c.in_ok-term.ensures.made

pub resolve_under-returns-clause-answer : goal.resolve_under-returns-clause-answer
resolve_under-returns-clause-answer t c =
    subst (λ zs. IsMeant c.resolve.new.bank c.in_ok-term.term (resolved (env_of c.args.bank.now c.args.env.now) zs (plain_surface c.args.surface.now)))
    (ap (scope_of c.args.bank.now) c.in_ok-push.ensures.items ∙ scope_push c.args.bank.now c.args.binders.now.items c.args.name) c.in_ok-term.ensures.answer
