use Rattle.std.proofs.Common.{sym, subst}
use Rattle.lq_pieces.specs.Pieces.{Comes}
use Rattle.lq_pieces.proofs.PieceLaws.{turning}
use Rattle.lq_pieces.proofs.pieces.next_piece.Goals as goal

pub returns-then-whole-clause-comes : goal.returns-then-whole-clause-comes
returns-then-whole-clause-comes c = subst (λ w. Comes c.whole_piece.result (turning w c.args.text.now c.args.from)) (sym c.if-whole.true) c.whole_piece.ensures.comes

pub returns-else-whole-clause-comes : goal.returns-else-whole-clause-comes
returns-else-whole-clause-comes c = subst (λ w. Comes c.open_piece.result (turning w c.args.text.now c.args.from)) (sym c.if-whole.false) c.open_piece.ensures.comes
