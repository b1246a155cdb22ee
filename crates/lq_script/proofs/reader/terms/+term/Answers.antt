use Rattle.std.proofs.Common.{arith}
use Rattle.lq_script.specs.Reading.{plain_tokens}
use Rattle.lq_script.proofs.GrammarLaws.{term_within-none, term_within-some}
use Rattle.lq_script.proofs.reader.terms.+term.Goals as goal

pub term-returns-in-None : goal.term-returns-in-None
term-returns-in-None t c = term_within-none c.args.room (plain_tokens c.args.tokens.now) (omega (arith, c.in-None.ensures))

pub term-returns-in-Some : goal.term-returns-in-Some
term-returns-in-Some t c = rw (term_within-some c.args.room c.in-Some.below (plain_tokens c.args.tokens.now) (omega (arith, c.in-Some.ensures))) c.term_by.ensures
