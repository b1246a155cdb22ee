use Rattle.std.proofs.Common.{◌∙◌, sym}
use Rattle.lq_lex.specs.Views.{test_of}
use Rattle.lq_lex.proofs.FrontLaws.{run_goes, run_stops, run_ends}
use Rattle.lq_lex.proofs.runs.step.Goals as goal

pub returns-in_default : goal.returns-in_default
returns-in_default c = run_ends c.args.view.now (test_of c.args.run) c.args.at c.front.result c.front.ensures c.in_default.not-Letter

pub returns-then-has : goal.returns-then-has
returns-then-has c =
    (run_goes c.args.view.now (test_of c.args.run) c.args.at c.in-Letter.c c.in-Letter.next c.in-Letter.ensures (sym c.has.ensures ∙ c.if-has.true), c.in-Letter.ensures.1, c.in-Letter.ensures.2)

pub returns-else-has : goal.returns-else-has
returns-else-has c = run_stops c.args.view.now (test_of c.args.run) c.args.at c.in-Letter.c c.in-Letter.next c.in-Letter.ensures (sym c.has.ensures ∙ c.if-has.false)
