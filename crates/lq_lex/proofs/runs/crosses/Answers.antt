use Rattle.std.proofs.Common.{◌∙◌, sym}
use Rattle.lq_lex.specs.declared.view.Front.TheVariants.{Beyond}
use Rattle.lq_lex.specs.Views.{test_of}
use Rattle.lq_lex.proofs.FrontLaws.{goes_on-from, crosses_none}
use Rattle.lq_lex.proofs.runs.crosses.Goals as goal

pub returns-in-Beyond : goal.returns-in-Beyond
returns-in-Beyond c = c.has.ensures ∙ sym (goes_on-from c.args.view.now (test_of c.args.run) c.args.at (Beyond c.in-Beyond.c) c.in-Beyond.ensures)

pub returns-in_default : goal.returns-in_default
returns-in_default c = crosses_none c.args.view.now (test_of c.args.run) c.args.at c.front.result c.front.ensures c.in_default.not-Beyond
