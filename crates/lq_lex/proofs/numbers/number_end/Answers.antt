use Rattle.std.proofs.Common.{arith, ◌∙◌, sym, ap}
use Rattle.lq_grammar.specs.Tokens.{continues_name}
use Rattle.lq_lex.specs.Views.{from}
use Rattle.lq_lex.proofs.WordLaws.{number_crosses, number_before_name, number_ends}
use Rattle.lq_lex.proofs.numbers.number_end.Goals as goal

pub returns-then-crosses : goal.returns-then-crosses
returns-then-crosses c = number_crosses c.args.start c.args.value (from c.args.view.now c.args.at) (omega arith) (sym c.crosses.ensures ∙ c.if-crosses.true)

pub returns-then-continues_name : goal.returns-then-continues_name
returns-then-continues_name c =
    let name = ap continues_name (sym c.character.ensures) ∙ sym c.continues_name.ensures ∙ c.if-continues_name.true in
    number_before_name c.args.start c.args.value (from c.args.view.now c.args.at) (omega arith) (sym c.crosses.ensures ∙ c.if-crosses.false) name

pub returns-else-continues_name : goal.returns-else-continues_name
returns-else-continues_name c =
    let name = ap continues_name (sym c.character.ensures) ∙ sym c.continues_name.ensures ∙ c.if-continues_name.false in
    rw c.token.ensures (number_ends c.args.view.now c.args.start c.args.value c.args.at (omega arith) (sym c.crosses.ensures ∙ c.if-crosses.false) name, c.requires.order, c.requires.within)
