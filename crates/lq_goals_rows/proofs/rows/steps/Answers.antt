use Rattle.lq_goals_rows.proofs.Keeping.{IsKept-grown}
use Rattle.lq_goals_rows.proofs.rows.steps.Goals as goal

pub loop-word-init : goal.loop-word-init
loop-word-init c = record {
  kept = IsKept-grown c.args.bank.now c.sort.new.bank c.args.proof.now c.in_ok-sort.ensures.grows c.requires;
  sort = c.in_ok-sort.ensures.is;
}
