use Rattle.std.proofs.Common.{refl}
use Rattle.lq_spelling.proofs.CutLaws.{next_cut}
use Rattle.lq_pieces.proofs.PieceLaws.{as_stop, as_cut, whole_sentence, whole_end, whole_fault}
use Rattle.lq_pieces.proofs.pieces.whole_piece.Goals as goal

pub read_piece-requires : goal.read_piece-requires
read_piece-requires c =
    next_cut c.args.text.now c.args.from c.in-Ok-Sentence.place c.in-Ok-Sentence.tokens (as_cut _ _ _ c.in-Ok-Sentence.field-0-is (c.in-Ok-Sentence.ensures.ended refl))

pub returns-in-Ok-Sentence-clause-comes : goal.returns-in-Ok-Sentence-clause-comes
returns-in-Ok-Sentence-clause-comes c =
    whole_sentence c.args.text.now c.args.from c.in-Ok-Sentence.place c.in-Ok-Sentence.tokens c.read_piece.result
    (as_cut _ _ _ c.in-Ok-Sentence.field-0-is (c.in-Ok-Sentence.ensures.ended refl)) c.read_piece.ensures.comes

pub returns-in-Ok-End-clause-comes : goal.returns-in-Ok-End-clause-comes
returns-in-Ok-End-clause-comes c = whole_end c.args.text.now c.args.from (as_cut _ _ _ c.in-Ok-End.field-0-is (c.in-Ok-End.ensures.ended refl))

pub returns-in-Err-clause-comes : goal.returns-in-Err-clause-comes
returns-in-Err-clause-comes c = as_stop _ _ _ c.from.ensures (whole_fault c.args.text.now c.args.from c.in-Err.fault (c.in-Err.ensures.ended refl))
