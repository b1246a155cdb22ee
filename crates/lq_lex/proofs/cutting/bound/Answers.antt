use Rattle.std.proofs.Common.{refl, length}
use Rattle.lq_lex.proofs.CuttingLaws.{bound_far}
use Rattle.lq_lex.proofs.cutting.bound.Goals as goal

pub returns-else-far-text : goal.returns-else-far-text
returns-else-far-text c = bound_far c.args.text.now (length c.args.text.now) c.args.start c.requires refl c.if-far-text.false
