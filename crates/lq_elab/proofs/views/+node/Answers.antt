use Rattle.std.proofs.Common.{◌∙◌, sym, ap, length}
use Rattle.lq_ast.specs.Plain.{plain}
use Rattle.lq_elab.proofs.ViewLaws.{apply_none}
use Rattle.lq_elab.proofs.views.+node.Goals as goal

pub returns-in-None-split_first : goal.returns-in-None-split_first
returns-in-None-split_first t c = c.node_of-in-None-split_first.ensures ∙ ap plain c.get-in-None-split_first.ensures ∙ sym (apply_none c.in-Apply.function c.in-Apply.arguments (ap length (sym c.as_slice-in-Apply.ensures) ∙ c.in-None-split_first.ensures.cases)) ∙ ap plain (sym c.in-Apply.is)
