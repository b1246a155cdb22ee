use Rattle.std.proofs.Common.{[]}
use Rattle.lq_terms.specs.Terms.{tree_of}
use Rattle.lq_evars.specs.Places.{store_of}
use Rattle.lq_evars_rows.proofs.Simple.{simple_over}
use Rattle.lq_evars_rows.proofs.scenes.alike.Goals as goal

pub same-requires-clause-left : goal.same-requires-clause-left
same-requires-clause-left c =
    let bare = c.is_bare.ensures c.if-not-is_bare.false in
    record {
      has = c.requires.left.has;
      over = simple_over (store_of c.args.bank.now c.args.store.now).variables [] 0 c.args.variable bare.inside bare.bare (tree_of c.args.bank.now c.args.left) c.requires.left.simple;
    }

pub same-requires-clause-right : goal.same-requires-clause-right
same-requires-clause-right c =
    let bare = c.is_bare-2.ensures c.if-not-is_bare-2.false in
    record {
      has = c.requires.right.has;
      over = simple_over (store_of c.args.bank.now c.args.store.now).variables [] 0 c.args.other bare.inside bare.bare (tree_of c.args.bank.now c.args.right) c.requires.right.simple;
    }
