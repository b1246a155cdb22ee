use Rattle.std.proofs.Common.{refl, length}
use Rattle.lq_grammar.specs.Cutting.{next}
use Rattle.lq_pieces.proofs.PieceLaws.{as_cut, open_rest, none_counts}
use Rattle.lq_pieces.proofs.pieces.open_piece.Goals as goal

pub returns-in-Ok-End-clause-comes : goal.returns-in-Ok-End-clause-comes
returns-in-Ok-End-clause-comes c =
    open_rest c.args.text.now c.args.from c.rest_piece.result
    (none_counts c.args.text.now (next c.args.text.now c.args.from) (as_cut _ _ _ c.in-Ok-End.field-0-is (c.in-Ok-End.ensures.ended refl))) c.rest_piece.ensures.comes

pub returns-in-Ok-End-clause-lies : goal.returns-in-Ok-End-clause-lies
returns-in-Ok-End-clause-lies c = c.rest_piece.ensures.lies c.args.from (length c.args.text.now)
