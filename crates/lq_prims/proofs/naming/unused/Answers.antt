use Rattle.std.proofs.Common.{◌∙◌, sym}
use Rattle.lq_terms.specs.Contexts.{context_of}
use Rattle.lq_terms.specs.Terms.{text_of}
use Rattle.lq_prims.proofs.IntroNames.{name_free, name_used}
use Rattle.lq_prims.proofs.naming.unused.Goals as goal

pub returns-then-is_used-clause-answer : goal.returns-then-is_used-clause-answer
returns-then-is_used-clause-answer c s e m = name_used c.args.bank.now s (context_of c.args.bank.now c.args.context.now) c.args.name e c.requires.name (sym c.is_used.ensures ∙ c.if-is_used.true) m

pub returns-else-is_used-clause-answer : goal.returns-else-is_used-clause-answer
returns-else-is_used-clause-answer c s e = name_free s (context_of c.args.bank.now c.args.context.now) (text_of c.args.bank.now c.args.name) e (sym c.is_used.ensures ∙ c.if-is_used.false)
