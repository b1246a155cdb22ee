use Rattle.std.proofs.Common.{sym, ◌∙◌}
use Rattle.lq_session.proofs.DeclareLaws.{taken_does}
use Rattle.lq_session.proofs.allowed.may_declare.Goals as goal

pub returns-then-is_declared : goal.returns-then-is_declared
returns-then-is_declared c = taken_does c.args.bank.now c.args.session.now c.args.name c.requires.name c.in-Ok.ensures (sym c.is_declared.ensures ∙ c.if-is_declared.true)
