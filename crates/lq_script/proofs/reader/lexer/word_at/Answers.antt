use Rattle.std.proofs.Common.{sym, ◌∙◌, ap, subst, take}
use Rattle.std.specs.Str.{IsUtf8}
use Rattle.lq_script.proofs.TokenLaws.{ok_by_cases, word_text}
use Rattle.lq_script.proofs.reader.lexer.word_at.Goals as goal

pub unwrap-word-requires : goal.unwrap-word-requires
unwrap-word-requires c =
    let word_is = c.split_at.ensures.front ∙ ap (λ n. take n c.args.text.now) c.word_len.ensures.value in
    ok_by_cases _ _ c.from_utf8.result c.from_utf8.ensures.cases (λ e h. h.0 (subst IsUtf8 (sym word_is) (word_text c.args.text.now)))
