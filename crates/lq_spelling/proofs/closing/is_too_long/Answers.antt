use Rattle.lq_spelling.proofs.CutLaws.{cut_spanned}
use Rattle.lq_spelling.proofs.closing.is_too_long.Goals as goal

pub is_closed-requires : goal.is_closed-requires
is_closed-requires c = cut_spanned c.args.text.now c.args.tokens.now c.requires
