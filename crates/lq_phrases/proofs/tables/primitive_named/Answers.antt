use Rattle.lq_sentences.specs.Primitives.{primitive_words}
use Rattle.lq_phrases.proofs.Missing.{missed}
use Rattle.lq_phrases.proofs.tables.primitive_named.Goals as goal

pub returns-in_default : goal.returns-in_default
unfolding primitive_words
returns-in_default c = missed primitive_words c.args.text.now (c.in_default.not-intro, (c.in_default.not-intros, (c.in_default.not-exact, (c.in_default.not-refine, (c.in_default.not-apply, (c.in_default.not-eapply, (c.in_default.not-assumption, (c.in_default.not-constructor, (c.in_default.not-split, (c.in_default.not-left, (c.in_default.not-right, (c.in_default.not-exists, (c.in_default.not-assert, (c.in_default.not-cut, (c.in_default.not-pose, (c.in_default.not-exfalso, (c.in_default.not-reflexivity, (c.in_default.not-elim, (c.in_default.not-induction, (c.in_default.not-destruct, (c.in_default.not-rewrite, (c.in_default.not-unfold, (c.in_default.not-change, (c.in_default.not-hnf, (c.in_default.not-compute, (c.in_default.not-clear, (c.in_default.not-rename, (c.in_default.not-revert, (c.in_default.not-generalize, tt)))))))))))))))))))))))))))))
