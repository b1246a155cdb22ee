use Rattle.std.proofs.Common.{sym, length}
use Rattle.lq_rest.proofs.InsideLaws.{behind_letter, behind_none}
use Rattle.lq_rest.proofs.inside.goes_on_behind.Goals as goal

pub returns-in-Letter : goal.returns-in-Letter
returns-in-Letter c = sym (behind_letter c.args.view.now (length c.args.view.now.text.now) c.args.at c.in-Letter.field-0 c.in-Letter.next c.in-Letter.ensures)

pub returns-in_default : goal.returns-in_default
returns-in_default c = sym (behind_none c.args.view.now (length c.args.view.now.text.now) c.args.at c.front.result c.front.ensures c.in_default.not-Letter)
