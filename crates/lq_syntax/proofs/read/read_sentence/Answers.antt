use Rattle.lq_syntax.proofs.ReadLaws.{long_told, short_told, answer_placed}
use Rattle.lq_syntax.proofs.read.read_sentence.Goals as goal

pub returns-then-is_too_long-clause-answer : goal.returns-then-is_too_long-clause-answer
returns-then-is_too_long-clause-answer c =
    long_told c.args.text.now c.args.tokens.now c.as_slice-tokens.result.now c.is_too_long.result c.sentence_start.result c.as_slice-tokens.ensures c.is_too_long.ensures c.if-is_too_long.true c.sentence_start.ensures

pub returns-else-is_too_long-clause-answer : goal.returns-else-is_too_long-clause-answer
returns-else-is_too_long-clause-answer c =
    short_told c.args.text.now c.args.tokens.now c.as_slice-tokens.result.now c.is_too_long.result c.sentence_of.result c.as_slice-tokens.ensures c.is_too_long.ensures c.if-is_too_long.false c.sentence_of.ensures

pub returns-else-is_too_long-clause-placed : goal.returns-else-is_too_long-clause-placed
returns-else-is_too_long-clause-placed c =
    answer_placed c.args.text.now c.args.tokens.now c.sentence_of.result c.requires (returns-else-is_too_long-clause-answer c)
