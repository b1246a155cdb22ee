use Rattle.std.proofs.Common.{sym, ◌∙◌}
use Rattle.std.specs.Prelude.{string_bytes}
use Rattle.lq_env.specs.Environments.{env_of}
use Rattle.lq_script.proofs.Moving.{proof_goes, proof_misplaced}
use Rattle.lq_script.proofs.session.Session.run_proof.Goals as goal

pub returns-in-Some-clause-answer : goal.returns-in-Some-clause-answer
returns-in-Some-clause-answer c =
    proof_goes c.args.self.now.bank c.args.self.now.env c.args.self.now.place c.in-Some.place (string_bytes c.new.result) (sym c.in-Some.is ∙ c.begun.ensures) c.new.ensures.bytes

pub returns-in-None-clause-answer : goal.returns-in-None-clause-answer
returns-in-None-clause-answer c = proof_misplaced c.args.self.now.bank (env_of c.args.self.now.bank c.args.self.now.env) c.args.self.now.place (sym c.in-None.is ∙ c.begun.ensures)
