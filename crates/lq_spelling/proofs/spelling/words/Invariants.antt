use Rattle.std.proofs.Common.{◌≡◌, take}
use Rattle.lq_sentences.specs.Words.{words}
use Rattle.lq_phrases.specs.Views.{words_of}
use Rattle.lq_spelling.proofs.spelling.words.Given as goal

abbrev pub invariant-tokens : goal.invariant-tokens
invariant-tokens l = words_of l.found.items ≡ words l.text (take l.token-index l.tokens)
