use Rattle.std.proofs.Common.{[]}
use Rattle.lq_terms.specs.Terms.{tree_of}
use Rattle.lq_evars.specs.Places.{store_of}
use Rattle.lq_evars_rows.proofs.Keeping.{IsKept-grown, IsBare-grown}
use Rattle.lq_evars_rows.proofs.Simple.{simple_over, simple_within}
use Rattle.lq_evars_rows.proofs.scenes.read_variable.Goals as goal

pub read-requires-clause-kept : goal.read-requires-clause-kept
read-requires-clause-kept c = (IsKept-grown c.args.bank.now c.link.new.bank c.args.store.now c.in_ok-term.ensures.grows c.requires).kept

pub read-requires-clause-over : goal.read-requires-clause-over
read-requires-clause-over c =
    let bare = IsBare-grown c.args.bank.now c.link.new.bank c.args.store.now c.args.id c.in_ok-term.ensures.grows c.requires.has (c.is_bare.ensures c.if-not-is_bare.false) in
    simple_over (store_of c.link.new.bank c.args.store.now).variables [] 0 c.args.id bare.inside bare.bare (tree_of c.link.new.bank c.in_ok-term.term) c.in_ok-term.ensures.simple.simple

pub read-requires-clause-closed : goal.read-requires-clause-closed
read-requires-clause-closed c = simple_within c.args.id (tree_of c.link.new.bank c.in_ok-term.term) c.in_ok-term.ensures.simple.simple
