use Rattle.std.proofs.Common.{◌∙◌, sym, ap, refl, slice_index_or}
use Rattle.lq_phrases.specs.Views.{words_of}
use Rattle.lq_spelling.proofs.WordLaws.{words_none, words_more}
use Rattle.lq_spelling.proofs.spelling.words.Goals as goal

pub tokens-init : goal.tokens-init
tokens-init c = ap words_of c.new-found.ensures.items ∙ sym (words_none c.args.text.now)

pub tokens-preserved : goal.tokens-preserved
tokens-preserved c =
    words_more c.args.text.now c.args.tokens.now c.tokens.token-index _ c.tokens.found.items c.push.new.self.items _ c.tokens-test.true c.tokens.invariant c.in_ok-push.ensures.items c.word_of.ensures refl
