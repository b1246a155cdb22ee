use Rattle.std.proofs.Common.{arith, ◌∙◌, sym}
use Rattle.lq_lex.proofs.WordLaws.{name_long, name_crosses, name_ends}
use Rattle.lq_lex.proofs.runs.name.Goals as goal

pub returns-then-end-start-gt-LONGEST_NAME : goal.returns-then-end-start-gt-LONGEST_NAME
returns-then-end-start-gt-LONGEST_NAME c = name_long c.args.view.now c.args.start c.args.at c.run_end-end.result c.run_end-end.ensures.value (omega arith)

pub returns-then-crosses : goal.returns-then-crosses
returns-then-crosses c = name_crosses c.args.view.now c.args.start c.args.at c.run_end-end.result c.run_end-end.ensures.value (omega arith) (sym c.crosses.ensures ∙ c.if-crosses.true)

pub returns-else-crosses : goal.returns-else-crosses
returns-else-crosses c =
    rw c.token.ensures (name_ends c.args.view.now c.args.start c.args.at c.run_end-end.result c.run_end-end.ensures.value (omega arith) (sym c.crosses.ensures ∙ c.if-crosses.false), omega (arith, c.run_end-end.ensures.ahead, c.requires.order), c.run_end-end.ensures.within)
