use Rattle.std.proofs.Common.{sym, ◌∙◌, arith}
use Rattle.lq_script.proofs.EndLaws.{end_start, end_goes, end_found, end_none}
use Rattle.lq_script.proofs.reader.ends.sentence_end.Goals as goal

pub loop-dot-init : goal.loop-dot-init
loop-dot-init c = end_start c.args.text.now c.args.from

pub loop-dot-preserved : goal.loop-dot-preserved
loop-dot-preserved c = end_goes c.args.text.now c.args.from c.loop-dot.dot (omega arith) (omega arith) (sym c.is_end.ensures ∙ c.if-is_end.false) c.loop-dot.invariant

pub returns-then-is_end : goal.returns-then-is_end
returns-then-is_end c = record {
  order = omega arith;
  within = omega arith;
  first = end_found c.args.text.now c.args.from c.loop-dot.dot (omega arith) (sym c.is_end.ensures ∙ c.if-is_end.true) c.loop-dot.invariant;
}

pub returns : goal.returns
returns c = end_none c.args.text.now c.args.from c.loop-dot.dot (omega arith) c.loop-dot.invariant
