use Rattle.lq_terms.proofs.NodeLaws.{distinct_nodes, one_term}
use Rattle.lq_terms.proofs.bank.Bank.terms_apart.Goals as goal

pub returns : goal.returns
returns c left right has l same =
    one_term _ c.self.inside.entries.entries c.self.invariant.0 (distinct_nodes _ c.len-entries.ensures.unique) c.args.self.now c.self.view_is left right has l same
