use Rattle.lq_terms.specs.Terms.{tree_of}
use Rattle.lq_evars.specs.Places.{store_of}
use Rattle.lq_unify_rows.proofs.Looking.{plain_free}
use Rattle.lq_unify_rows.proofs.looks.+frees.Goals as goal

pub is_free-returns-then-is_plain : goal.is_free-returns-then-is_plain
is_free-returns-then-is_plain t c = λ p.
    plain_free (store_of c.args.bank.now c.args.store.now).values c.args.variable (tree_of c.args.bank.now c.args.term) (c.is_plain.ensures.unknown c.if-is_plain.true)
