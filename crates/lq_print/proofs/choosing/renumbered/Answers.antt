use Rattle.std.proofs.Common.{◌≡◌, ◌∙◌, ◌++◌, sym, ap, map, subst}
use Rattle.std.specs.Prelude.{reverse}
use Rattle.std.proofs.lemmas.List.{map-append}
use Rattle.lq_terms.specs.Numbers.{IsFirstFree}
use Rattle.lq_print.specs.Tables.{text_at, AreWithin}
use Rattle.lq_print.specs.Pages.{printed}
use Rattle.lq_print.proofs.Lists.{all_append, all_reverse}
use Rattle.lq_print.proofs.AmongLaws.{renumbered_is, number_as}
use Rattle.lq_print.proofs.choosing.renumbered.Goals as goal

pub free_number-requires : goal.free_number-requires
free_number-requires c =
    subst (AreWithin c.args.texts.now) (sym (c.as_slice.ensures.value ∙ c.in_ok-taken.ensures))
    (all_append _ c.args.inside.now (reverse c.args.binders.now) c.requires.inside (all_reverse _ c.args.binders.now c.requires.binders))

pub returns-clause-name : goal.returns-clause-name
returns-clause-name c =
    let xs = map (text_at c.args.texts.now) c.args.inside.now ++ printed c.args.texts.now c.args.binders.now in
    let names : map (text_at c.args.texts.now) c.as_slice.result.now ≡ xs =
    ap (map (text_at c.args.texts.now)) (c.as_slice.ensures.value ∙ c.in_ok-taken.ensures) ∙ map-append (text_at c.args.texts.now) c.args.inside.now (reverse c.args.binders.now) in
    number_as c.add.new.self c.add.result _ _
    (renumbered_is xs c.args.base.now c.as_str.result.now c.in_ok-number.number c.requires.taken
    (subst (λ ys. IsFirstFree ys c.args.base.now c.in_ok-number.number) names c.in_ok-number.ensures)
    (c.as_str.ensures.value ∙ c.in_ok-text.ensures.ok))
    c.add.ensures.added
