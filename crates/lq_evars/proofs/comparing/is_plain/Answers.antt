use Rattle.std.proofs.lemmas.Bool.{leb-true}
use Rattle.lq_evars.specs.Places.{store_of}
use Rattle.lq_evars.proofs.Walks.{alone_plain, closed_plain}
use Rattle.lq_evars.proofs.comparing.is_plain.Goals as goal

pub returns-then-is_alone : goal.returns-then-is_alone
returns-then-is_alone c = λ yes.
    alone_plain c.args.bank.now (store_of c.args.bank.now c.args.store.now) c.args.links.now c.args.closure c.holds_unknown.result c.holds_unknown.ensures c.if-holds_unknown.false (c.is_alone.ensures.around c.if-is_alone.true) (c.is_alone.ensures.base c.if-is_alone.true)

pub returns : goal.returns
returns c = λ yes.
    closed_plain c.args.bank.now (store_of c.args.bank.now c.args.store.now) c.args.links.now c.args.closure c.holds_unknown.result c.holds_unknown.ensures c.if-holds_unknown.false c.loose.result c.loose.ensures (leb-true c.loose.result c.args.closure.under yes)
    c.holds_hypothesis.result c.holds_hypothesis.ensures c.if-holds_hypothesis.false
