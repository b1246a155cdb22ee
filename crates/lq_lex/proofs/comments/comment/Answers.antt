use Rattle.lq_lex.proofs.CommentLaws.{comment_begins, comment_cut}
use Rattle.lq_lex.proofs.comments.comment.Goals as goal

pub returns-in-Letter : goal.returns-in-Letter
returns-in-Letter c = rw (comment_begins c.args.view.now c.args.start c.args.at c.in-Letter.field-0 c.in-Letter.next c.in-Letter.ensures) c.comment_rest.ensures

pub returns-in_default : goal.returns-in_default
returns-in_default c = comment_cut c.args.view.now c.args.start c.args.at c.front.result c.front.ensures c.in_default.not-Letter
