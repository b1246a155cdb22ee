use Rattle.lq_sentences.specs.Sentences.{command_words}
use Rattle.lq_phrases.proofs.Missing.{missed}
use Rattle.lq_phrases.proofs.tables.command_named.Goals as goal

pub returns-in_default : goal.returns-in_default
unfolding command_words
returns-in_default c = missed command_words c.args.text.now (c.in_default.not-Inductive, (c.in_default.not-Definition, (c.in_default.not-Theorem, (c.in_default.not-Lemma, (c.in_default.not-Proof, (c.in_default.not-Qed, (c.in_default.not-Defined, (c.in_default.not-Abort, (c.in_default.not-Unshelve, (c.in_default.not-Show, (c.in_default.not-Print, (c.in_default.not-Check, (c.in_default.not-Ltac, (c.in_default.not-Outcomes, tt))))))))))))))
