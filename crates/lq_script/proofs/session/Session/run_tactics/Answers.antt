use Rattle.std.proofs.Common.{refl}
use Rattle.lq_script.proofs.Grown.{IsEnv-grown}
use Rattle.lq_script.proofs.Moving.{IsSession-grown}
use Rattle.lq_script.proofs.session.Session.run_tactics.Goals as goal

pub returns-in-Err-clause-keeps : goal.returns-in-Err-clause-keeps
returns-in-Err-clause-keeps c =
    IsSession-grown c.args.self.now.bank c.work.new.bank c.in-Err.ensures.grows c.args.self.now.env c.args.self.now.env c.args.self.now.place refl c.requires.session

pub returns-in-Ok-clause-keeps : goal.returns-in-Ok-clause-keeps
returns-in-Ok-clause-keeps c = record {
  declared = IsEnv-grown c.args.self.now.bank c.work.new.bank c.args.self.now.env c.in-Ok.ensures.grows c.requires.session.declared;
  stands = c.in-Ok.ensures.answer.0;
}
