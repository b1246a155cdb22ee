use Rattle.std.proofs.Common.{map}
use Rattle.lq_terms.proofs.Growth.{Grows-refl}
use Rattle.lq_env.specs.Environments.{env_of}
use Rattle.lq_script.specs.Syntax.{plain_tactic}
use Rattle.lq_script.proofs.Moving.{tactics_misplaced, work_ok, work_err}
use Rattle.lq_script.proofs.session.work.Goals as goal

pub returns-in_default : goal.returns-in_default
returns-in_default c = record {
  answer = tactics_misplaced c.args.bank.now (env_of c.args.bank.now c.args.env.now) c.args.place.now (map plain_tactic c.args.tactics.now) c.in_default.not-Begun;
  grows = Grows-refl c.args.bank.now;
}

pub returns-in-Ok-clause-answer : goal.returns-in-Ok-clause-answer
returns-in-Ok-clause-answer c =
    work_ok c.args.bank.now c.run_tactics.new.bank c.args.env.now c.args.place.now c.in-Begun.name c.in-Begun.statement (map plain_tactic c.args.tactics.now) c.in-Ok.ensures.grows c.requires.env c.in-Begun.is c.requires.place c.in-Ok.proof
    c.in-Ok.ensures.answer c.in-Ok.ensures.reaches

pub returns-in-Err-clause-answer : goal.returns-in-Err-clause-answer
returns-in-Err-clause-answer c =
    work_err c.args.bank.now c.run_tactics.new.bank c.args.env.now c.args.place.now c.in-Begun.name c.in-Begun.statement (map plain_tactic c.args.tactics.now) c.in-Err.ensures.grows c.requires.env c.in-Begun.is c.requires.place c.in-Err.fault
    c.in-Err.ensures.answer
