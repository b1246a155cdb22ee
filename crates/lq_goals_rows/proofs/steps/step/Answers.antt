use Rattle.lq_goals_rows.proofs.Keeping.{IsKept-grown}
use Rattle.lq_goals_rows.proofs.steps.step.Goals as goal

pub returns-in_default-clause-kept : goal.returns-in_default-clause-kept
returns-in_default-clause-kept c = IsKept-grown c.args.bank.now c.ask.new.bank c.args.proof.now c.ask.ensures c.requires.kept
