use Rattle.lq_unify.proofs.PairLaws.{under_is}
use Rattle.lq_unify.proofs.pairs.opened_under.Goals as goal

pub returns-clause-under : goal.returns-clause-under
returns-clause-under c =
    under_is c.args.bank.now c.name_under.new.bank c.open.new.bank c.open-2.new.bank c.in_ok-name.ensures.grows c.in_ok-left.ensures.grows c.in_ok-right.ensures.grows c.in_ok-name.name _ c.args.body c.args.kind c.args.pair.left c.args.pair.right
    c.in_ok-left.left c.in_ok-right.right c.in_ok-name.ensures.name c.requires.body c.requires.kind c.requires.pair.0 c.requires.pair.1 c.in_ok-left.ensures.opened c.in_ok-right.ensures.opened
