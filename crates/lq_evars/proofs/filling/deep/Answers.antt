use Rattle.lq_terms.specs.Terms.{tree_of}
use Rattle.lq_evars.proofs.Fillings.{filled_highest}
use Rattle.lq_evars.proofs.filling.deep.Goals as goal

pub put-requires-clause-index : goal.put-requires-clause-index
put-requires-clause-index c =
    rw (c.hypotheses.ensures, c.terms.ensures) (filled_highest c.args.bank.now c.args.context.now c.args.entries.now (tree_of c.args.bank.now c.args.body) c.requires.closed c.requires.low c.requires.small)
