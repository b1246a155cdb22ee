use Rattle.std.proofs.Common.{sym, subst}
use Rattle.std.specs.Prelude.{All}
use Rattle.lq_lex.specs.Views.{IsSpanned}
use Rattle.lq_spelling.proofs.CutLaws.{cut_spanned}
use Rattle.lq_pieces.proofs.pieces.is_settled.Goals as goal

pub is_closed-requires : goal.is_closed-requires
is_closed-requires c = subst (All (IsSpanned c.args.text.now)) (sym c.as_slice.ensures) (cut_spanned c.args.text.now c.args.tokens.now c.requires)
