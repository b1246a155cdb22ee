use Rattle.std.proofs.Common.{◌∙◌, sym, ap}
use Rattle.lq_grammar.specs.Tokens.{class_of}
use Rattle.lq_sessions.specs.Rest.{end_by}
use Rattle.lq_lex.specs.Views.{from}
use Rattle.lq_rest.proofs.InsideLaws.{name_end_none, ends_name, ends_other, class_found}
use Rattle.lq_rest.proofs.inside.name_end.Goals as goal

pub returns-in_default : goal.returns-in_default
returns-in_default c = sym (name_end_none c.args.view.now c.args.at c.front.result c.front.ensures c.in_default.not-Letter)

pub returns-in-Name : goal.returns-in-Name
returns-in-Name c =
    sym (
    class_found c.args.view.now c.args.at c.in-Letter.c c.in-Letter.next c.character.result c.class_of.result c.in-Letter.ensures c.character.ensures c.class_of.ensures
    ∙ ap (λ k. end_by k c.args.at (from c.args.view.now c.in-Letter.next)) c.in-Name.is
    ∙ ends_name c.args.view.now c.args.at c.in-Letter.next c.run_end.result c.run_end.ensures.value)

pub returns-in_default-class_of : goal.returns-in_default-class_of
returns-in_default-class_of c =
    sym (
    class_found c.args.view.now c.args.at c.in-Letter.c c.in-Letter.next c.character.result c.class_of.result c.in-Letter.ensures c.character.ensures c.class_of.ensures
    ∙ ends_other c.class_of.result c.args.at (from c.args.view.now c.in-Letter.next) c.in_default-class_of.not-Name)
