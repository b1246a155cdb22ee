use Rattle.std.proofs.Common.{◌∙◌, sym, arith, map}
use Rattle.std.proofs.lemmas.List.{length-map}
use Rattle.lq_terms.specs.Terms.{tree_of}
use Rattle.lq_unify.proofs.SpineLaws.{arg_has}
use Rattle.lq_unify.proofs.PairLaws.{no_pairs, pairs_more, pairs_end, pair_push}
use Rattle.lq_unify.proofs.pairs.pairs_of.Goals as goal

pub returns-then-left-right-clause-are : goal.returns-then-left-right-clause-are
returns-then-left-right-clause-are c = λ g.
    no_pairs g (map (tree_of c.args.bank.now) c.args.left.now) (map (tree_of c.args.bank.now) c.args.right.now)
    (λ e. omega (arith, c.if-left-right.true, sym (length-map c.args.left.now (tree_of c.args.bank.now)) ∙ e ∙ length-map c.args.right.now (tree_of c.args.bank.now)))

pub loop-i-preserved : goal.loop-i-preserved
loop-i-preserved c = record {
  has = pair_push c.args.bank.now c.loop-i.pairs.items c.push.new.self.items _ c.loop-i.invariant.has
      (arg_has c.args.bank.now c.args.left.now c.requires.left c.loop-i.i (record { place = 0 }) (omega (arith, c.loop-i-test.true)), arg_has c.args.bank.now c.args.right.now c.requires.right c.loop-i.i (record { place = 0 }) (omega (arith, c.loop-i-test.true, c.if-left-right.false)))
      c.in_ok-push.ensures.items;
  same = λ g. pairs_more c.args.bank.now g c.args.left.now c.args.right.now c.loop-i.pairs.items c.push.new.self.items c.loop-i.i (record { place = 0 }) c.loop-i-test.true (omega (arith, c.if-left-right.false)) c.in_ok-push.ensures.items
      (c.loop-i.invariant.same g);
}

pub returns-clause-are : goal.returns-clause-are
returns-clause-are c = λ g. pairs_end c.args.bank.now g c.args.left.now c.args.right.now c.loop-i.pairs.items c.loop-i.i (omega (arith, c.loop-i-test.false)) (omega (arith, c.if-left-right.false)) (c.loop-i.invariant.same g)
