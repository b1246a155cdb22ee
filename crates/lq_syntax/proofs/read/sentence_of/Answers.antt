use Rattle.std.proofs.Common.{sym, ap, subst, ◌∙◌}
use Rattle.lq_sentences.proofs.PlaceLaws.{Rising}
use Rattle.lq_phrases.specs.Views.{words_of}
use Rattle.lq_spelling.proofs.CutLaws.{cut_readable}
use Rattle.lq_syntax.proofs.ReadLaws.{cut_rises}
use Rattle.lq_syntax.proofs.read.sentence_of.Goals as goal

pub words-requires : goal.words-requires
words-requires c = cut_readable c.args.text.now c.args.tokens.now c.requires.cut c.requires.short

pub sentence_or_fault-requires : goal.sentence_or_fault-requires
sentence_or_fault-requires c =
    subst Rising (sym (ap words_of c.deref.ensures.value ∙ c.in_ok-found.ensures)) (cut_rises c.args.text.now c.args.tokens.now c.requires.cut)
