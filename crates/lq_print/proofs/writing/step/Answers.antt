use Rattle.std.proofs.Common.{◌∙◌, ap, refl, ◌++◌}
use Rattle.std.specs.String.{string_bytes}
use Rattle.lq_print.proofs.VisitLaws.{on_ok}
use Rattle.lq_print.proofs.PageLaws.{word_writes, under_writes, back_writes, page_under, page_ended, page_of, writes_of, ended}
use Rattle.lq_print.proofs.writing.step.Goals as goal

pub returns-in-Word-clause-writes : goal.returns-in-Word-clause-writes
returns-in-Word-clause-writes c =
    on_ok c.write.result c.write.ensures
    (λ e env text w. word_writes c.args.bank.now env text (string_bytes c.args.out.now) (string_bytes c.write.new.out) c.args.binders.now.items c.args.work.now.items c.args.spelling.now c.in-Word.sign
    (e ∙ ap (λ z. string_bytes c.args.out.now ++ z) c.sign_text.ensures)
    (writes_of c.args.bank.now env text (string_bytes c.args.out.now) c.args.binders.now.items c.args.work.now.items c.args.spelling.now _ _ c.in-Word.is w))

pub returns-in_ok-push-in-Under-clause-page : goal.returns-in_ok-push-in-Under-clause-page
returns-in_ok-push-in-Under-clause-page c =
    page_under c.args.bank.now c.args.binders.now.items c.push.new.self.items c.in-Under.name c.args.work.now.items c.args.spelling.now c.in_ok-push-in-Under.ensures.items
    (page_of c.args.bank.now c.args.binders.now.items c.args.work.now.items c.args.spelling.now _ _ c.in-Under.is c.requires)

pub returns-in_ok-push-in-Under-clause-writes : goal.returns-in_ok-push-in-Under-clause-writes
returns-in_ok-push-in-Under-clause-writes c env text w =
    under_writes c.args.bank.now env text (string_bytes c.args.out.now) (string_bytes c.args.out.now) c.args.binders.now.items c.args.work.now.items c.args.spelling.now c.in-Under.name c.push.new.self.items c.in_ok-push-in-Under.ensures.items refl
    (writes_of c.args.bank.now env text (string_bytes c.args.out.now) c.args.binders.now.items c.args.work.now.items c.args.spelling.now _ _ c.in-Under.is w)

pub returns-in-Back-clause-page : goal.returns-in-Back-clause-page
returns-in-Back-clause-page c =
    page_ended c.args.bank.now c.args.binders.now.items c.end_binder.new.binders.items c.end_binder.result c.args.work.now.items c.args.spelling.now _ c.end_binder.ensures c.requires

pub returns-in-Back-clause-writes : goal.returns-in-Back-clause-writes
returns-in-Back-clause-writes c env text w =
    back_writes c.args.bank.now env text (string_bytes c.args.out.now) (string_bytes c.args.out.now) c.args.binders.now.items c.args.work.now.items c.args.spelling.now c.end_binder.new.binders.items
    (ended c.args.spelling.now.texts c.args.binders.now.items c.end_binder.new.binders.items c.end_binder.result c.end_binder.ensures) refl
    (writes_of c.args.bank.now env text (string_bytes c.args.out.now) c.args.binders.now.items c.args.work.now.items c.args.spelling.now _ _ c.in-Back.is w)
