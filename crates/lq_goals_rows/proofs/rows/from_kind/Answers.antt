use Rattle.lq_goals_rows.proofs.Plain.{begun}
use Rattle.lq_goals_rows.proofs.rows.from_kind.Goals as goal

pub on_proof-requires : goal.on_proof-requires
on_proof-requires c = record {
  has = c.in_ok-proof.ensures.has c.args.bank.now c.requires.has;
  kept = c.in_ok-proof.ensures.stands c.args.bank.now (begun c.args.bank.now c.args.kind c.requires);
}
