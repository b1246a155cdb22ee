use Rattle.std.proofs.Common.{refl}
use Rattle.std.specs.Prelude.{string_bytes}
use Rattle.lq_terms.proofs.Growth.{Grows-refl}
use Rattle.lq_env.specs.Environments.{env_of}
use Rattle.lq_script.specs.declared.session.Place.{Place}
use Rattle.lq_script.proofs.Moving.{qed_misplaced, qed_open, qed_goes, runs_by}
use Rattle.lq_script.proofs.session.finish.Goals as goal

pub returns-in_default : goal.returns-in_default
returns-in_default g c = record {
  answer = qed_misplaced c.args.bank.now (env_of c.args.bank.now c.args.env.now) c.args.place.now c.in_default.not-Worked;
  kept = refl;
  declared = c.requires.env;
  grows = Grows-refl c.args.bank.now;
}

pub returns-in_default-proof-clause-answer : goal.returns-in_default-proof-clause-answer
returns-in_default-proof-clause-answer g c =
    qed_open c.args.bank.now (env_of c.args.bank.now c.args.env.now) c.args.place.now c.in-Worked.name c.in-Worked.statement c.in-Worked.proof c.in-Worked.is c.in_default-proof.field-0 c.in_default-proof.field-1 c.in_default-proof.is

pub returns-clause-answer : goal.returns-clause-answer
returns-clause-answer g c =
    runs_by string_bytes c.define.new.bank c.define.new.env Place.Outside c.define.result _ _
    (qed_goes c.args.bank.now (env_of c.args.bank.now c.args.env.now) c.args.place.now c.in-Worked.name c.in-Worked.statement c.in-Worked.proof c.in-Worked.is c.in-Finished.term c.in-Finished.is)
    c.define.ensures.answer
