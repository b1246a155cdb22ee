use Rattle.std.proofs.Common.{sym, ◌∙◌}
use Rattle.lq_terms.specs.Terms.{text_of}
use Rattle.lq_env.proofs.FaultLaws.{variable_is, variable_not}
use Rattle.lq_env.proofs.positivity.is_variable.Goals as goal

pub returns-in-Var : goal.returns-in-Var
returns-in-Var c = c.same_name.ensures ∙ sym (variable_is c.args.bank.now (text_of c.args.bank.now c.args.name) c.node.result.now c.args.term c.in-Var.other c.node.ensures.tree c.in-Var.is)

pub returns-in_default : goal.returns-in_default
returns-in_default c = sym (variable_not c.args.bank.now (text_of c.args.bank.now c.args.name) c.node.result.now c.args.term c.node.ensures.tree c.in_default.not-Var)
