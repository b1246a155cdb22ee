use Rattle.std.proofs.Common.{sym, ap, length, ◌∙◌}
use Rattle.std.specs.Prelude.{◌==◌}
use Rattle.lq_sessions.specs.Rest.{looked_at}
use Rattle.lq_pieces.proofs.PieceLaws.{as_stop, nothing_looked, no_tokens, looked_cut, some_looked, refused_looked}
use Rattle.lq_pieces.proofs.pieces.rest_piece.Goals as goal

pub returns-then-is_empty-clause-comes : goal.returns-then-is_empty-clause-comes
returns-then-is_empty-clause-comes c =
    nothing_looked c.args.text.now c.in-Ok.tokens (looked_at c.args.text.now c.args.from) c.in-Ok.ensures
    (no_tokens c.in-Ok.tokens (ap (λ ts. length ts == 0) (sym c.as_slice.ensures) ∙ sym c.is_empty.ensures ∙ c.if-is_empty.true))

pub begun_piece-requires : goal.begun_piece-requires
begun_piece-requires c =
    looked_cut c.args.text.now c.args.from c.in-Ok.tokens c.requires c.in-Ok.ensures
    (ap (λ ts. length ts == 0) (sym c.as_slice.ensures) ∙ sym c.is_empty.ensures ∙ c.if-is_empty.false)

pub returns-else-is_empty-clause-comes : goal.returns-else-is_empty-clause-comes
returns-else-is_empty-clause-comes c =
    some_looked c.args.text.now c.in-Ok.tokens (looked_at c.args.text.now c.args.from) c.begun_piece.result c.in-Ok.ensures
    (ap (λ ts. length ts == 0) (sym c.as_slice.ensures) ∙ sym c.is_empty.ensures ∙ c.if-is_empty.false) c.begun_piece.ensures.comes

pub returns-in-Err-clause-comes : goal.returns-in-Err-clause-comes
returns-in-Err-clause-comes c = as_stop _ _ _ c.from.ensures (refused_looked c.args.text.now c.in-Err.fault (looked_at c.args.text.now c.args.from) c.in-Err.ensures)
