use Rattle.lq_sentences.specs.Tactics.{prefix_words}
use Rattle.lq_phrases.proofs.Missing.{missed}
use Rattle.lq_phrases.proofs.tables.prefix_named.Goals as goal

pub returns-in_default : goal.returns-in_default
unfolding prefix_words
returns-in_default c = missed prefix_words c.args.text.now (c.in_default.not-try, (c.in_default.not-repeat, (c.in_default.not-once, (c.in_default.not-exactly_once, (c.in_default.not-progress, (c.in_default.not-do, (c.in_default.not-tryif, tt)))))))
