use Rattle.lq_terms.specs.Terms.{tree_of}
use Rattle.lq_session.proofs.DeclareLaws.{started_kept}
use Rattle.lq_session.proofs.stating.open_proof.Goals as goal

pub returns-clause-is : goal.returns-clause-is
returns-clause-is c = record {
  name = c.requires.name;
  statement = c.requires.scoped;
  store = c.in_ok-proof.ensures.has c.args.bank.now c.requires.scoped.has;
  stored = c.in_ok-proof.ensures.stands c.args.bank.now (tt, c.requires.stands);
  proof = started_kept c.args.bank.now c.in_ok-proof.proof (tree_of c.args.bank.now c.args.statement) (c.in_ok-proof.ensures.told c.args.bank.now);
  swept = c.in_ok-proof.ensures.swept c.args.bank.now;
}
