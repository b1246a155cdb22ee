use Rattle.std.proofs.Common.{◌∙◌, sym, ap}
use Rattle.lq_grammar.specs.Tokens.{pair_of}
use Rattle.lq_lex.specs.Views.{from}
use Rattle.lq_lex.proofs.WordLaws.{symbol_pair, symbol_single}
use Rattle.lq_lex.proofs.symbols.symbol.Goals as goal

pub returns-in-Some : goal.returns-in-Some
returns-in-Some c =
    let second = ap (pair_of c.args.c) (sym c.character.ensures) in
    rw (symbol_pair c.args.start c.args.c (from c.args.view.now c.args.at) c.in-Some.symbol (second ∙ sym c.in-Some.ensures)) c.pair.ensures

pub returns-in-None : goal.returns-in-None
returns-in-None c =
    let second = ap (pair_of c.args.c) (sym c.character.ensures) in
    rw (symbol_single c.args.start c.args.c (from c.args.view.now c.args.at) (second ∙ sym c.in-None.ensures)) c.single.ensures
