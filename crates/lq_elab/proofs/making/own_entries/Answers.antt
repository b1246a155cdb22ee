use Rattle.std.proofs.Common.{◌≡◌, ◌+◌, [], None, sym, rules}
use Rattle.std.proofs.Common.{subst as along}
use Rattle.lq_elab.proofs.MakingLaws.{AreOwn, own_none, own_more, own_all}
use Rattle.lq_elab.proofs.making.own_entries.Goals as goal

pub loop-hypothesis-init : goal.loop-hypothesis-init
loop-hypothesis-init c =
    let e : c.new-entries.result.items ≡ [] = search rules in along (AreOwn c.args.bank.now c.args.bank.now c.args.context.now 0) (sym e) (own_none c.args.bank.now c.args.context.now)

pub loop-hypothesis-preserved : goal.loop-hypothesis-preserved
loop-hypothesis-preserved c =
    along (AreOwn c.args.bank.now c.make.new.self c.args.context.now (c.loop-hypothesis.hypothesis-index + 1)) (sym c.in_ok-push.ensures.items)
    (own_more c.args.bank.now c.loop-hypothesis.bank c.make.new.self c.args.context.now c.requires c.loop-hypothesis.hypothesis-index (record { name = record { place = 0 }; body = None; kind = record { place = 0 } }) c.loop-hypothesis-test.true c.loop-hypothesis.entries.items c.loop-hypothesis.invariant c.in_ok-entry.ensures.grows c.in_ok-entry.entry c.in_ok-entry.ensures.made)

pub returns-clause-are : goal.returns-clause-are
returns-clause-are c = own_all c.args.bank.now c.loop-hypothesis.bank c.args.context.now c.loop-hypothesis.hypothesis-index c.loop-hypothesis-test.false c.loop-hypothesis.entries.items c.loop-hypothesis.invariant
