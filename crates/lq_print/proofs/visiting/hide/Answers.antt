use Rattle.std.proofs.Common.{◌∙◌, ap, ◌++◌, ◌∷◌, [], refl, List}
use Rattle.lq_print.specs.declared.pieces.Piece.{Piece}
use Rattle.lq_print.proofs.PieceLaws.{spells_hide}
use Rattle.lq_print.proofs.visiting.hide.Goals as goal

pub returns : goal.returns
returns c bank sound =
    spells_hide bank c.args.spelling.now _ sound c.args.number c.args.pieces refl refl refl
    (c.in_ok-push.ensures.items ∙ ap (λ (ps : List Piece). ps ++ Piece.Unknown c.args.number ∷ []) c.truncate.ensures.items)
