use Rattle.lq_script.proofs.Moving.{IsSession-grown}
use Rattle.lq_script.proofs.session.Session.run_qed.Goals as goal

pub returns-in-Err-clause-keeps : goal.returns-in-Err-clause-keeps
returns-in-Err-clause-keeps g c =
    IsSession-grown c.args.self.now.bank c.finish.new.bank c.in-Err.ensures.grows c.args.self.now.env c.finish.new.env c.args.self.now.place c.in-Err.ensures.kept c.requires.session
