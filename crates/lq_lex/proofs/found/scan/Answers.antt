use Rattle.std.proofs.Common.{◌∙◌, ap, subst}
use Rattle.lq_grammar.specs.Tokens.{class_of}
use Rattle.lq_lex.specs.Views.{IsBullet}
use Rattle.lq_lex.proofs.FoundLaws.{found_over, found_broken, found_beyond, found_letter, bullet_ascii}
use Rattle.lq_lex.proofs.found.scan.Goals as goal

pub found_at-requires-clause-ascii : goal.found_at-requires-clause-ascii
found_at-requires-clause-ascii c = λ h. bullet_ascii c.args.is_start c.in-Letter.c c.character.result (subst IsBullet c.class_of-class.ensures h)

pub returns-in-Over : goal.returns-in-Over
returns-in-Over c = found_over c.args.view.now c.args.is_start c.args.at c.in-Over.ensures

pub returns-in-Broken : goal.returns-in-Broken
returns-in-Broken c = found_broken c.args.view.now c.args.is_start c.args.at c.in-Broken.ensures

pub returns-in-Beyond : goal.returns-in-Beyond
returns-in-Beyond c = found_beyond c.args.view.now c.args.is_start c.args.at c.in-Beyond.field-0 c.in-Beyond.ensures

pub returns-in-Letter : goal.returns-in-Letter
returns-in-Letter c =
    let class = c.class_of-class.ensures ∙ ap (class_of c.args.is_start c.in-Letter.c) c.character.ensures in
    rw (found_letter c.args.view.now c.args.is_start c.args.at c.in-Letter.c c.in-Letter.next c.in-Letter.ensures, ← class) c.found_at.ensures
