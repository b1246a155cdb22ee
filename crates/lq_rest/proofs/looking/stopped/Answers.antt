use Rattle.std.proofs.Common.{◌∙◌, sym, ap, Ok}
use Rattle.lq_rest.proofs.LookLaws.{looks_fault, stopped_inside, stopped_outside}
use Rattle.lq_rest.proofs.looking.stopped.Goals as goal

pub returns-then-is_inside : goal.returns-then-is_inside
returns-then-is_inside c = looks_fault c.args.fault _ (stopped_inside c.args.whole.now.text.now c.args.tokens.items c.args.fault (sym c.is_inside.ensures ∙ c.if-is_inside.true))

pub returns-else-is_inside : goal.returns-else-is_inside
returns-else-is_inside c = stopped_outside c.args.whole.now.text.now c.args.tokens.items c.args.fault (sym c.is_inside.ensures ∙ c.if-is_inside.false) ∙ ap Ok (sym c.from_vec.ensures)
