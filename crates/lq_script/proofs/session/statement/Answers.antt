use Rattle.std.proofs.Common.{subst}
use Rattle.lq_output.specs.Steps.{resolved}
use Rattle.lq_env.specs.Environments.{env_of}
use Rattle.lq_script.specs.Syntax.{plain_surface}
use Rattle.lq_script.specs.Scopes.{scope_of, IsMeant}
use Rattle.lq_script.proofs.Statements.{is_statement}
use Rattle.lq_script.proofs.session.statement.Goals as goal

pub returns-clause-statement : goal.returns-clause-statement
returns-clause-statement c =
    is_statement c.resolve.new.bank (env_of c.args.bank.now c.args.env.now) (plain_surface c.args.surface.now) c.in_ok-term.term c.requires.shallow
    (subst (λ xs. IsMeant c.resolve.new.bank c.in_ok-term.term (resolved (env_of c.args.bank.now c.args.env.now) (scope_of c.args.bank.now xs) (plain_surface c.args.surface.now))) c.new-binders.ensures.items c.in_ok-term.ensures.answer)
