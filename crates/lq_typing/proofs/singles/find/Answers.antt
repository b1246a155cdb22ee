use Rattle.std.proofs.Common.{sym, ◌∙◌}
use Rattle.lq_terms.specs.Terms.{text_of}
use Rattle.lq_kernel.proofs.LookLaws.{found_here, found_later, found_nowhere}
use Rattle.lq_typing.proofs.singles.find.Goals as goal

pub returns-then-same_name-clause-found : goal.returns-then-same_name-clause-found
returns-then-same_name-clause-found c =
    found_here c.args.bank.now c.args.hypotheses.now c.loop-hypothesis.hypothesis-index _ _ c.loop-hypothesis-test.true (sym c.same_name.ensures ∙ c.if-same_name.true) c.loop-hypothesis.invariant

pub loop-hypothesis-preserved : goal.loop-hypothesis-preserved
loop-hypothesis-preserved c =
    found_later c.args.bank.now c.args.hypotheses.now c.loop-hypothesis.hypothesis-index _ _ c.loop-hypothesis-test.true (sym c.same_name.ensures ∙ c.if-same_name.false) c.loop-hypothesis.invariant

pub returns-clause-found : goal.returns-clause-found
returns-clause-found c = found_nowhere c.args.bank.now c.args.hypotheses.now c.loop-hypothesis.hypothesis-index (text_of c.args.bank.now c.args.name) c.loop-hypothesis-test.false c.loop-hypothesis.invariant
