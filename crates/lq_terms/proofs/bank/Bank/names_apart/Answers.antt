use Rattle.lq_terms.proofs.Banks.{same_text}
use Rattle.lq_terms.proofs.bank.Bank.names_apart.Goals as goal

pub returns : goal.returns
returns c left right has l same = same_text _ _ c.args.self.now c.self.view_is c.self.invariant.0 left right has l same
