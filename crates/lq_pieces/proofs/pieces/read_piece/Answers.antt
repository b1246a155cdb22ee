use Rattle.lq_sentences.specs.Reading.{read_sentence}
use Rattle.lq_pieces.proofs.PieceLaws.{as_stop, sentence_comes, refused_comes}
use Rattle.lq_pieces.proofs.pieces.read_piece.Goals as goal

pub returns-in-Ok-clause-comes : goal.returns-in-Ok-clause-comes
returns-in-Ok-clause-comes c = sentence_comes c.in-Ok.sentence c.args.place (read_sentence c.args.text.now c.args.tokens.now) c.in-Ok.ensures.answer

pub returns-in-Err-clause-comes : goal.returns-in-Err-clause-comes
returns-in-Err-clause-comes c = as_stop _ _ _ c.from.ensures (refused_comes c.in-Err.fault c.args.place (read_sentence c.args.text.now c.args.tokens.now) c.in-Err.ensures.answer)
