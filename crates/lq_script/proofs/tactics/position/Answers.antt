use Rattle.std.proofs.Common.{sym, ◌∙◌, arith}
use Rattle.lq_terms.specs.Terms.{text_of}
use Rattle.lq_script.proofs.Proving.{place_found, place_passed, place_nowhere}
use Rattle.lq_script.proofs.tactics.position.Goals as goal

pub returns-then-same_name : goal.returns-then-same_name
returns-then-same_name c =
    place_found c.args.bank.now c.args.hypotheses.now (text_of c.args.bank.now c.args.name) c.loop-index.index _ c.loop-index-test.true (sym c.same_name.ensures ∙ c.if-same_name.true) c.loop-index.invariant

pub loop-index-preserved : goal.loop-index-preserved
loop-index-preserved c =
    place_passed c.args.bank.now c.args.hypotheses.now (text_of c.args.bank.now c.args.name) c.loop-index.index _ c.loop-index-test.true (sym c.same_name.ensures ∙ c.if-same_name.false) c.loop-index.invariant

pub returns : goal.returns
returns c = place_nowhere c.args.bank.now c.args.hypotheses.now (text_of c.args.bank.now c.args.name) c.loop-index.index (omega arith) c.loop-index.invariant
