use Rattle.std.proofs.Common.{◌∙◌}
use Rattle.lq_terms.proofs.Measures.{entry_at}
use Rattle.lq_terms.proofs.Imports.{marks_more}
use Rattle.lq_terms.proofs.import.mark_each.Goals as goal

pub loop-term-preserved : goal.loop-term-preserved
loop-term-preserved c = record {
  length = c.mark.ensures.length ∙ c.loop-term.invariant.length;
  marked = marks_more c.loop-term.marks.items c.mark.new.marks.items c.args.terms.now c.loop-term.term-index _ c.loop-term-test.true c.mark.ensures.kept c.loop-term.invariant.marked c.mark.ensures.marked;
  kept = λ t h. c.mark.ensures.kept t (c.loop-term.invariant.kept t h);
  others = λ b h t l m. c.loop-term.invariant.others b h t l (c.mark.ensures.others b (entry_at _ c.args.terms.now c.loop-term.term-index _ h c.loop-term-test.true) t l m);
}
