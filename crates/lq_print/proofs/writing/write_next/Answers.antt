use Rattle.std.proofs.Common.{◌∙◌, sym, subst, refl, ℕ, List, [], arith}
use Rattle.std.specs.String.{string_bytes}
use Rattle.lq_print.specs.Pieces.{HasPiece}
use Rattle.lq_print.proofs.VisitLaws.{on_ok, pair_ok}
use Rattle.lq_print.proofs.PageLaws.{none_writes, writes_popped, next_has, next_page, next_writes, take_none, nothing_left}
use Rattle.lq_print.proofs.writing.write_next.Goals as goal

pub returns-in_default-clause-writes : goal.returns-in_default-clause-writes
returns-in_default-clause-writes c env text w =
    writes_popped c.args.bank.now env text (string_bytes c.args.out.now) c.args.binders.now c.args.work.now.items c.args.spelling.now _ refl refl (c.in_default.ensures.rest ∙ take_none _ c.args.spelling.now.pieces.items (omega (arith, c.in_default.ensures.cases.0, c.args.spelling.now.pieces.ok)))
    (none_writes c.args.bank.now env text (string_bytes c.args.out.now) c.args.binders.now c.args.work.now.items c.args.wanted c.args.spelling.now (nothing_left c.args.spelling.now.pieces.items (omega (arith, c.in_default.ensures.cases.0, c.args.spelling.now.pieces.ok))) w)

pub write_piece-requires-clause-piece : goal.write_piece-requires-clause-piece
write_piece-requires-clause-piece c =
    subst (λ (ns : List ℕ). HasPiece c.args.bank.now c.args.spelling.now.texts ns c.in-Some.piece) (sym c.as_slice.ensures.value)
    (next_has c.args.bank.now c.args.binders.now c.args.work.now.items c.args.wanted c.args.spelling.now c.pop.new.self.items c.in-Some.piece c.requires c.in-Some.ensures.items)

pub returns-clause-page : goal.returns-clause-page
returns-clause-page c =
    on_ok c.write_piece.result (rw c.as_slice.ensures.value at c.write_piece.ensures.work)
    (λ s. next_page c.args.bank.now [] [] [] [] c.args.binders.now c.args.work.now.items c.write_piece.new.work.items c.args.wanted c.args.spelling.now _ c.pop.new.self.items c.in-Some.piece c.requires c.in-Some.ensures.items refl refl c.write_piece.ensures.longer _ s)

pub returns-clause-writes : goal.returns-clause-writes
returns-clause-writes c =
    let told = rw c.as_slice.ensures.value at c.write_piece.ensures.text in
    let put = rw c.as_slice.ensures.value at c.write_piece.ensures.work in
    on_ok c.write_piece.result (pair_ok _ _ c.write_piece.result told put)
    (λ s env text w. next_writes c.args.bank.now env text (string_bytes c.args.out.now) (string_bytes c.write_piece.new.out) c.args.binders.now c.args.work.now.items c.write_piece.new.work.items c.args.wanted c.args.spelling.now _
    c.pop.new.self.items c.in-Some.piece c.requires c.in-Some.ensures.items refl refl c.write_piece.ensures.longer s.0 s.1 w)
