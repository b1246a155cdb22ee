use Rattle.std.proofs.Common.{sym, ◌∙◌, None}
use Rattle.lq_unify_rows.proofs.Looking.{listed_found, listed_passed, listed_nowhere}
use Rattle.lq_unify_rows.proofs.looks.listed.Goals as goal

pub returns-then-same_name : goal.returns-then-same_name
returns-then-same_name c =
    listed_found c.args.bank.now c.args.hypotheses.now c.loop-hypothesis.hypothesis-index _ _ c.loop-hypothesis-test.true (sym c.same_name.ensures ∙ c.if-same_name.true) c.loop-hypothesis.invariant

pub loop-hypothesis-preserved : goal.loop-hypothesis-preserved
loop-hypothesis-preserved c =
    listed_passed c.args.bank.now c.args.hypotheses.now c.loop-hypothesis.hypothesis-index _ _ c.loop-hypothesis-test.true (sym c.same_name.ensures ∙ c.if-same_name.false) c.loop-hypothesis.invariant

pub returns : goal.returns
returns c =
    listed_nowhere c.args.bank.now c.args.hypotheses.now c.loop-hypothesis.hypothesis-index (record { name = record { place = 0 }; body = None; kind = record { place = 0 } }) _ c.loop-hypothesis-test.false c.loop-hypothesis.invariant
