use Rattle.std.proofs.Common.{◌∙◌, ◌-◌, ◌≤◌, arith}
use Rattle.lq_terms.proofs.Imports.{PartsMarked-kept, closed_more}
use Rattle.lq_terms.proofs.import.reached.Goals as goal

pub loop-place-preserved-then-index : goal.loop-place-preserved-then-index
loop-place-preserved-then-index c = record {
  inside = omega arith;
  length = c.mark_parts-then-index.ensures.length ∙ c.loop-place.invariant.length;
  parts = PartsMarked-kept c.args.bank.now c.loop-place.marks.items c.mark_parts-then-index.new.marks.items c.args.term c.mark_parts-then-index.ensures.kept c.loop-place.invariant.parts;
  closed =
      closed_more c.args.bank.now c.loop-place.marks.items c.mark_parts-then-index.new.marks.items (c.loop-place.place - 1) c.stored-then-index.result.now c.stored-then-index.ensures.stands c.stored-then-index.ensures.parts
      c.mark_parts-then-index.ensures.marked c.mark_parts-then-index.ensures.kept c.mark_parts-then-index.ensures.others
      (λ t l m. let after : c.loop-place.place ≤ t.place = omega arith in c.loop-place.invariant.closed t after m);
}
