use Rattle.std.proofs.Common.{◌≡◌, true}
use Rattle.std.proofs.Common.{subst as along}
use Rattle.lq_terms.specs.Terms.{tree_of}
use Rattle.lq_evars.specs.Places.{store_of}
use Rattle.lq_evars.specs.Closures.{closure_tree, same_pair}
use Rattle.lq_evars.proofs.Comparings.{one_done, plain_done, equal_done}
use Rattle.lq_evars.proofs.comparing.step.Goals as goal

pub returns-then-is_one : goal.returns-then-is_one
returns-then-is_one c = record {
  compared = one_done c.args.bank.now (store_of c.args.bank.now c.args.store.now) c.args.links.now.items c.requires.links c.args.pair c.args.work.now.items (c.is_one.ensures c.if-is_one.true);
  marks = c.requires.marks;
}

pub returns-then-is_plain-2 : goal.returns-then-is_plain-2
returns-then-is_plain-2 c = record {
  compared = plain_done c.args.bank.now (store_of c.args.bank.now c.args.store.now) c.args.links.now.items c.requires.links c.args.pair c.args.work.now.items c.same.result
      (along (λ z. closure_tree c.args.bank.now (store_of c.args.bank.now c.args.store.now) z c.args.pair.left ≡ tree_of c.args.bank.now c.args.pair.left.term) c.as_slice.ensures.value (c.is_plain.ensures c.if-is_plain.true))
      (along (λ z. closure_tree c.args.bank.now (store_of c.args.bank.now c.args.store.now) z c.args.pair.right ≡ tree_of c.args.bank.now c.args.pair.right.term) c.as_slice-then-is_plain.ensures.value (c.is_plain-then-is_plain.ensures c.if-is_plain-2.true))
      c.same.ensures;
  marks = c.requires.marks;
}

pub returns-then-is_noted-clause-compared : goal.returns-then-is_noted-clause-compared
returns-then-is_noted-clause-compared c =
    equal_done c.args.bank.now (store_of c.args.bank.now c.args.store.now) c.args.links.now.items c.requires.links c.args.pair c.args.work.now.items
    (along (λ z. same_pair c.args.bank.now (store_of c.args.bank.now c.args.store.now) z c.args.pair ≡ true) c.as_slice-2.ensures.value (c.is_noted.ensures c.if-is_noted.true))
