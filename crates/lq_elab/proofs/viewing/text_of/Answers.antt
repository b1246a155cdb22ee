use Rattle.std.proofs.Common.{◌∙◌, sym, ap}
use Rattle.lq_ast.specs.Plain.{name_of}
use Rattle.lq_elab.proofs.viewing.text_of.Goals as goal

pub returns-in-Some : goal.returns-in-Some
unfolding name_of
returns-in-Some c = c.as_str.ensures ∙ sym (ap name_of c.in-Some.is)

pub returns-in-None : goal.returns-in-None
unfolding name_of
returns-in-None c = sym (ap name_of c.in-None.is)
