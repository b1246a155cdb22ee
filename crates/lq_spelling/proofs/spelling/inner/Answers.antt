use Rattle.std.proofs.Common.{◌∙◌}
use Rattle.lq_spelling.proofs.WordLaws.{string_inner}
use Rattle.lq_spelling.proofs.spelling.inner.Goals as goal

pub between-requires-clause-readable : goal.between-requires-clause-readable
between-requires-clause-readable c = (string_inner c.args.text.now c.args.token c.requires.spanned.0 c.requires.spanned.1 c.requires.spells).readable

pub returns : goal.returns
returns c = c.between.ensures ∙ (string_inner c.args.text.now c.args.token c.requires.spanned.0 c.requires.spanned.1 c.requires.spells).same
