use Rattle.std.proofs.Common.{◌∙◌, sym, ap, arith, length, false}
use Rattle.std.proofs.lemmas.Bool.{le-ltb}
use Rattle.lq_sessions.specs.Rest.{is_inside}
use Rattle.lq_rest.proofs.InsideLaws.{number_by, character_behind, number_behind}
use Rattle.lq_rest.proofs.inside.is_inside.Goals as goal

pub returns-else-at-view : goal.returns-else-at-view
returns-else-at-view c =
    le-ltb c.in-BadChar.at (length c.args.view.now.text.now) c.if-at-view.false ∙ sym (character_behind c.args.view.now.text.now c.in-BadChar.at c.if-at-view.false)
    ∙ ap (is_inside c.args.view.now.text.now) (sym c.in-BadChar.is)

pub returns-then-at-view-2 : goal.returns-then-at-view-2
returns-then-at-view-2 c =
    c.number_inside.ensures ∙ number_by c.args.view.now c.in-BadNumber.at c.requires (omega (arith, c.if-at-view-2.true)) ∙ ap (is_inside c.args.view.now.text.now) (sym c.in-BadNumber.is)

pub returns-else-at-view-2 : goal.returns-else-at-view-2
returns-else-at-view-2 c =
    le-ltb c.in-BadNumber.at (length c.args.view.now.text.now) c.if-at-view-2.false ∙ sym (number_behind c.args.view.now.text.now c.in-BadNumber.at c.if-at-view-2.false)
    ∙ ap (is_inside c.args.view.now.text.now) (sym c.in-BadNumber.is)
