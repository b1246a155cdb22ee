use Rattle.std.proofs.Common.{◌∙◌, ap, ◌++◌, ◌∷◌, [], List}
use Rattle.std.specs.String.{string_bytes}
use Rattle.lq_texts.specs.Printing.{term_text}
use Rattle.lq_print.specs.declared.steps.Wanted.{Wanted}
use Rattle.lq_print.specs.declared.steps.Item.{Item}
use Rattle.lq_print.proofs.VisitLaws.{on_ok}
use Rattle.lq_print.proofs.PageLaws.{start_writes}
use Rattle.lq_print.proofs.writing.write_spelled.Goals as goal

pub returns : goal.returns
returns c =
    on_ok c.run.result c.run.ensures
    (λ h env t e. h env (string_bytes c.args.out.now ++ term_text env t)
    (start_writes c.args.bank.now env (string_bytes c.args.out.now) c.args.spelling.now t c.new-binders.result.items c.start.new.work.items c.new-binders.ensures.items
    (c.in_ok-start.ensures ∙ ap (λ (ws : List Item). ws ++ Item.Term Wanted.Term ∷ []) c.new-work.ensures.items) e))
