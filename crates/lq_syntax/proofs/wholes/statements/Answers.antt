use Rattle.std.proofs.Common.{arith}
use Rattle.lq_phrases.specs.Views.{words_of}
use Rattle.lq_syntax.proofs.FailLaws.{only_attempt}
use Rattle.lq_syntax.proofs.wholes.statements.Goals as goal

pub returns-then-fails-eq0 : goal.returns-then-fails-eq0
returns-then-fails-eq0 c =
    only_attempt (words_of c.args.words.now) c.stated_behind.result (omega (arith, c.count_fails-fails.ensures.count, c.if-fails-eq0.true)) c.stated_behind.ensures
