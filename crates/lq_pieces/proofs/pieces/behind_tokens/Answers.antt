use Rattle.std.proofs.Common.{sym, ◌∙◌, length}
use Rattle.lq_grammar.specs.Cutting.{next}
use Rattle.lq_spelling.proofs.CutLaws.{next_cut}
use Rattle.lq_pieces.proofs.PieceLaws.{open_counts, open_rest, open_counted}
use Rattle.lq_pieces.proofs.pieces.behind_tokens.Goals as goal

pub is_settled-requires : goal.is_settled-requires
is_settled-requires c = next_cut c.args.text.now c.args.from c.args.place c.args.tokens.now c.requires.next

pub read_piece-requires : goal.read_piece-requires
read_piece-requires c = next_cut c.args.text.now c.args.from c.args.place c.args.tokens.now c.requires.next

pub returns-then-is_settled-clause-comes : goal.returns-then-is_settled-clause-comes
returns-then-is_settled-clause-comes c =
    open_counts c.args.text.now c.args.from c.args.place c.args.tokens.now c.read_piece.result c.requires.next (sym c.is_settled.ensures ∙ c.if-is_settled.true) c.read_piece.ensures.comes

pub returns-else-is_settled-clause-comes : goal.returns-else-is_settled-clause-comes
returns-else-is_settled-clause-comes c =
    open_rest c.args.text.now c.args.from c.rest_piece.result
    (open_counted c.args.text.now c.args.tokens.now c.args.place (next c.args.text.now c.args.from) c.requires.next (sym c.is_settled.ensures ∙ c.if-is_settled.false)) c.rest_piece.ensures.comes

pub returns-else-is_settled-clause-lies : goal.returns-else-is_settled-clause-lies
returns-else-is_settled-clause-lies c = c.rest_piece.ensures.lies c.args.from (length c.args.text.now)
