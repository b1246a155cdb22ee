use Rattle.std.proofs.Common.{sym, subst}
use Rattle.lq_ast.specs.PlainCommands.{plain_sentence}
use Rattle.lq_sentences.specs.Reading.{statements}
use Rattle.lq_phrases.specs.Views.{words_of}
use Rattle.lq_syntax.specs.Wholes.{Tells}
use Rattle.lq_syntax.proofs.FailLaws.{first_attempt, second_attempt}
use Rattle.lq_syntax.proofs.wholes.behind_fails.Goals as goal

pub returns-in-Ok : goal.returns-in-Ok
returns-in-Ok c = first_attempt c.args.fails (words_of c.args.words.now) c.in-Ok.found c.requires.rises c.requires.some c.requires.count c.in-Ok.ensures

pub returns-in-Err : goal.returns-in-Err
returns-in-Err c =
    subst (λ r. Tells plain_sentence (statements (words_of c.args.words.now)) r) (sym c.joined.ensures)
    (second_attempt c.args.fails (words_of c.args.words.now) c.in-Err.refusal c.stated_behind-in-Err.result c.requires.rises c.requires.some c.requires.count c.in-Err.ensures c.stated_behind-in-Err.ensures)
