use Rattle.std.proofs.Common.{◌∙◌, sym, ap}
use Rattle.std.specs.Prelude.{◌||◌}
use Rattle.lq_ast.specs.PlainTactics.{plain_tac}
use Rattle.lq_sessions.specs.Built.{is_built}
use Rattle.lq_built.specs.Parts.{parts_of}
use Rattle.lq_built.proofs.RowLaws.{no_messages_are}
use Rattle.lq_built.proofs.Productions.{built_idtac}
use Rattle.lq_built.proofs.expressions.+expressions.Goals as goal

pub expression_built-returns-in-Idtac : goal.expression_built-returns-in-Idtac
expression_built-returns-in-Idtac n c =
    ap (λ z. z || c.args.parts.values) (no_messages_are c.in-Idtac.messages c.is_empty.result c.is_empty.ensures)
    ∙ sym (built_idtac (parts_of c.args.parts) c.in-Idtac.messages) ∙ ap (λ t. is_built (parts_of c.args.parts) (plain_tac t)) (sym c.in-Idtac.is)
