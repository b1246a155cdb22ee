use Rattle.std.proofs.Common.{◌∙◌, sym, ap, false}
use Rattle.lq_grammar.specs.Tokens.{class_of}
use Rattle.lq_grammar.specs.Cutting.{is_space_class}
use Rattle.lq_lex.proofs.CuttingLaws.{is_space_letter, is_space_none}
use Rattle.lq_lex.proofs.cutting.is_space.Goals as goal

pub returns-in-Letter : goal.returns-in-Letter
returns-in-Letter c =
    c.is_space_class.ensures ∙ ap is_space_class (c.class_of.ensures ∙ ap (class_of false c.in-Letter.c) c.character.ensures) ∙ sym (is_space_letter c.args.view.now c.args.at c.in-Letter.c c.in-Letter.next c.in-Letter.ensures)

pub returns-in_default : goal.returns-in_default
returns-in_default c = sym (is_space_none c.args.view.now c.args.at c.front.result c.front.ensures c.in_default.not-Letter)
