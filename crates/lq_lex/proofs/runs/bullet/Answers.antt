use Rattle.std.proofs.Common.{arith, ◌∙◌, sym}
use Rattle.lq_lex.proofs.WordLaws.{bullet_crosses, bullet_ends}
use Rattle.lq_lex.proofs.runs.bullet.Goals as goal

pub returns-then-crosses : goal.returns-then-crosses
returns-then-crosses c = bullet_crosses c.args.view.now c.args.c c.args.start c.args.at c.run_end-end.result c.run_end-end.ensures.value (sym c.crosses.ensures ∙ c.if-crosses.true)

pub returns-else-crosses : goal.returns-else-crosses
returns-else-crosses c =
    rw c.token.ensures (bullet_ends c.args.view.now c.args.c c.args.start c.args.at c.run_end-end.result c.min-count.result c.run_end-end.ensures.value (sym c.crosses.ensures ∙ c.if-crosses.false) c.min-count.ensures, omega (arith, c.run_end-end.ensures.ahead, c.requires.order), c.run_end-end.ensures.within)
