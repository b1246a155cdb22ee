use Rattle.lq_terms.specs.Terms.{text_of}
use Rattle.lq_env.specs.Environments.{env_of}
use Rattle.lq_output.specs.Steps.{resolved}
use Rattle.std.proofs.Common.{[]}
use Rattle.lq_script.specs.Syntax.{plain_surface}
use Rattle.lq_script.proofs.Grown.{IsEnv-grown}
use Rattle.lq_script.proofs.Moving.{names_unknown, state_ok, state_err}
use Rattle.lq_script.proofs.session.state.Goals as goal

pub returns-in_default-clause-answer : goal.returns-in_default-clause-answer
returns-in_default-clause-answer g c =
    names_unknown (env_of c.args.bank.now c.args.env.now) (text_of c.args.bank.now c.args.name) (resolved (env_of c.args.bank.now c.args.env.now) [] (plain_surface c.args.surface.now)) c.statement.new.bank c.in_ok-statement.field-0 c.in_default.is
    c.in_ok-statement.ensures.answer

pub check_sort-requires-clause-env : goal.check_sort-requires-clause-env
check_sort-requires-clause-env g c = IsEnv-grown c.args.bank.now c.statement.new.bank c.args.env.now c.in_ok-statement.ensures.grows c.requires.env

pub returns-in-Ok-clause-answer : goal.returns-in-Ok-clause-answer
returns-in-Ok-clause-answer g c =
    state_ok c.args.bank.now c.statement.new.bank c.check_sort.new.bank c.args.env.now c.args.name (resolved (env_of c.args.bank.now c.args.env.now) [] (plain_surface c.args.surface.now)) c.in_ok-statement.field-0 c.in-Some.statement
    c.in_ok-statement.ensures.grows c.in-Ok.ensures.grows c.requires.env c.requires.name c.in-Some.is c.in_ok-statement.ensures.answer c.in_ok-statement.ensures.statement c.in-Ok.ensures.answer

pub returns-in-Err-clause-answer : goal.returns-in-Err-clause-answer
returns-in-Err-clause-answer g c =
    state_err c.args.bank.now c.statement.new.bank c.check_sort.new.bank c.args.env.now c.args.name (resolved (env_of c.args.bank.now c.args.env.now) [] (plain_surface c.args.surface.now)) c.in_ok-statement.field-0 c.in-Some.statement
    c.in_ok-statement.ensures.grows c.in-Err.ensures.grows c.requires.env c.requires.name c.in-Some.is c.in_ok-statement.ensures.answer c.in-Err.fault c.in-Err.ensures.answer
