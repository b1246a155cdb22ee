use Rattle.std.proofs.Common.{◌∙◌, sym, ap}
use Rattle.lq_grammar.specs.Tokens.{single_of}
use Rattle.lq_lex.proofs.WordLaws.{single_ends, single_bad}
use Rattle.lq_lex.proofs.symbols.single.Goals as goal

pub returns-in-Some : goal.returns-in-Some
returns-in-Some c =
    let clear = ap (λ b. single_of b c.args.c) (sym c.is_clear.ensures) in
    rw c.token.ensures (single_ends c.args.view.now c.in-Some.single c.args.start c.args.c c.args.at (clear ∙ sym c.in-Some.ensures), c.requires.order, c.requires.within)

pub returns-in-None : goal.returns-in-None
returns-in-None c =
    let clear = ap (λ b. single_of b c.args.c) (sym c.is_clear.ensures) in
    single_bad c.args.view.now c.args.start c.args.c c.args.at (clear ∙ sym c.in-None.ensures)
