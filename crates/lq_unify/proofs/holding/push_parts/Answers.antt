use Rattle.lq_terms.specs.Terms.{tree_of}
use Rattle.lq_evars.specs.Places.{store_of}
use Rattle.lq_unify.proofs.LookLaws.{asks_if}
use Rattle.lq_unify.proofs.holding.push_parts.Goals as goal

pub returns : goal.returns
returns c =
    asks_if c.args.bank.now (store_of c.args.bank.now c.args.store.now).values c.args.work.now.items c.push_value.new.work.items c.push_each.new.work.items (tree_of c.args.bank.now c.args.term) c.in_ok-parts.parts.items c.push_each.result
    c.in_ok-push_value.ensures (rw c.as_slice.ensures.value at c.push_each.ensures) c.in_ok-parts.ensures.has c.in_ok-parts.ensures.are
