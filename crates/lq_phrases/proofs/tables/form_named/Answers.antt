use Rattle.lq_sentences.specs.Tactics.{form_words}
use Rattle.lq_phrases.proofs.Missing.{missed}
use Rattle.lq_phrases.proofs.tables.form_named.Goals as goal

pub returns-in_default : goal.returns-in_default
unfolding form_words
returns-in_default c = missed form_words c.args.text.now (c.in_default.not-first, (c.in_default.not-solve, (c.in_default.not-match, (c.in_default.not-lazymatch, (c.in_default.not-multimatch, (c.in_default.not-idtac, (c.in_default.not-fail, (c.in_default.not-gfail, (c.in_default.not-fun, (c.in_default.not-let, (c.in_default.not-fresh, (c.in_default.not-type, (c.in_default.not-eval, (c.in_default.not-constr, (c.in_default.not-context, (c.in_default.not-shelve, (c.in_default.not-revgoals, (c.in_default.not-cycle, (c.in_default.not-swap, tt)))))))))))))))))))
