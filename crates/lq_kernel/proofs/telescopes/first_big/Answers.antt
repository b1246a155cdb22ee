use Rattle.std.proofs.Common.{◌∙◌, ◌+◌, sym, ap, Some}
use Rattle.lq_kernel.proofs.DomainLaws.{big_here, big_later, big_nowhere}
use Rattle.lq_kernel.proofs.telescopes.first_big.Goals as goal

pub returns-then-is_above : goal.returns-then-is_above
returns-then-is_above c =
    let i = c.loop-sort.invariant in
    ap (λ k. Some (k + 1)) i.counted ∙ big_here c.args.family c.args.domains.now c.loop-sort.sort-index _ c.loop-sort-test.true i.so_far (sym c.is_above.ensures ∙ c.if-is_above.true)

pub loop-sort-preserved : goal.loop-sort-preserved
loop-sort-preserved c =
    let i = c.loop-sort.invariant in record {
      counted = ap (λ k. k + 1) i.counted;
      so_far = big_later c.args.family c.args.domains.now c.loop-sort.sort-index _ c.loop-sort-test.true i.so_far (sym c.is_above.ensures ∙ c.if-is_above.false);
    }

pub returns : goal.returns
returns c = big_nowhere c.args.family c.args.domains.now c.loop-sort.sort-index c.loop-sort-test.false c.loop-sort.invariant.so_far
