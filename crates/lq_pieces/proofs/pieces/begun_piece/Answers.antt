use Rattle.lq_sentences.specs.Reading.{read_sentence}
use Rattle.lq_pieces.proofs.PieceLaws.{begun_comes}
use Rattle.lq_pieces.proofs.pieces.begun_piece.Goals as goal

pub returns-in-Ok-clause-comes : goal.returns-in-Ok-clause-comes
returns-in-Ok-clause-comes c = begun_comes _ (read_sentence c.args.text.now c.args.tokens.now) c.in-Ok.ensures.answer

pub returns-in-Err-clause-comes : goal.returns-in-Err-clause-comes
returns-in-Err-clause-comes c = c.begun_fault.ensures.comes (read_sentence c.args.text.now c.args.tokens.now) c.in-Err.ensures.answer
