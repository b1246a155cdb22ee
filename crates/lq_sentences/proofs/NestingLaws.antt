-- With 201 levels the sentences that nest so deep are those of the grammar.
use Rattle.std.proofs.Common.{◌≡◌, [], refl, sym, ap, ◌∙◌}
use Rattle.std.specs.Prelude.{Option, Some, None}
use Rattle.lq_ast.specs.Commands.{Vernac, Statement, Sentence, stated, command}
use Rattle.lq_ast.specs.Commands as form
use Rattle.lq_sentences.specs.declared.forms.Command.{Command}
use Rattle.lq_sentences.specs.declared.forms.Command.TheVariants as which
use Rattle.lq_sentences.specs.Words.{Words, text_of}
use Rattle.lq_sentences.specs.Rules.{Rule, pure, and_then, read_word, read}
use Rattle.lq_sentences.specs.Parts.{entry}
use Rattle.lq_sentences.specs.Sentences.{command_words, is_entry, command_of, a_command, stop, whole_command, whole_selected, whole_tac, IsWhole, IsStated, is_command, is_failing, is_selected, is_tac, IsSentence, is_stated, is_opened, is_marked}
use Rattle.lq_sentences.specs.Nesting.{command_within, command_at_within, whole_command_within, whole_selected_within, whole_tac_within, IsStatedWithin, IsSentenceWithin}
use Rattle.lq_sentences.specs.Nesting as within
use Rattle.lq_sentences.proofs.RuleLaws.{sound, only}
use Rattle.lq_sentences.proofs.LoopLaws.{then_same}

same_command : (c : Command) (ws : Words) → read (command_within 201 c) ws ≡ read (command_of c) ws
same_command which.Inductive ws = refl
same_command which.Definition ws = refl
same_command which.Theorem ws = refl
same_command which.Lemma ws = refl
same_command which.Proof ws = refl
same_command which.Qed ws = refl
same_command which.Defined ws = refl
same_command which.Abort ws = refl
same_command which.Unshelve ws = refl
same_command which.Show ws = refl
same_command which.Print ws = refl
same_command which.Check ws = refl
same_command which.Ltac ws = refl
same_command which.Outcomes ws = refl

same_entry : (c : Option Command) (ws : Words) →
    read (elim c as (λ _. Rule Vernac) [ Some c ↦ command_within 201 c | None ↦ pure form.show ]) ws ≡ read (elim c as (λ _. Rule Vernac) [ Some c ↦ command_of c | None ↦ pure form.show ]) ws
same_entry (Some c) ws = same_command c ws
same_entry None ws = refl

same_whole : (ws : Words) → read (whole_command_within 201) ws ≡ read whole_command ws
unfolding whole_command whole_command_within a_command
same_whole ws =
    ap (λ r. and_then r (λ c us. read (stop (command c)) us))
    (then_same (read_word 201 (is_entry command_words) ws) _ _ (λ y e. same_entry (entry command_words (text_of y.0.0)) y.1))

same_tac : (ws : Words) → read (whole_tac_within 201 None) ws ≡ read (whole_tac None) ws
unfolding whole_tac whole_tac_within
same_tac ws = refl

same_selected : (ws : Words) → read (whole_selected_within 201) ws ≡ read whole_selected ws
unfolding whole_selected whole_selected_within whole_tac whole_tac_within
same_selected ws = refl

whole_as : {A : Type 0} (p q : Rule A) (ws : Words) (a : A) → read q ws ≡ read p ws → IsWhole p ws a → IsWhole q ws a
whole_as p q ws a e d = sound q ws (a, []) (e ∙ only p ws a [] d)

to_within : (ws : Words) (s : Sentence) → IsStated ws s → IsStatedWithin 201 ws s
to_within ws s (is_command {s = c} d) = within.is_command (whole_as whole_command (whole_command_within 201) ws c (same_whole ws) d)
to_within ws s (is_failing {ws = vs} {k = k} {s = c} r d) = within.is_failing r (to_within vs (stated k c) d)
to_within ws s (is_selected {s = c} d) = within.is_selected (whole_as whole_selected (whole_selected_within 201) ws c (same_selected ws) d)
to_within ws s (is_tac {s = c} d) = within.is_tac (whole_as (whole_tac None) (whole_tac_within 201 None) ws c (same_tac ws) d)

of_within : (ws : Words) (s : Sentence) → IsStatedWithin 201 ws s → IsStated ws s
of_within ws s (within.is_command {s = c} d) = is_command (whole_as (whole_command_within 201) whole_command ws c (sym (same_whole ws)) d)
of_within ws s (within.is_failing {ws = vs} {k = k} {s = c} r d) = is_failing r (of_within vs (stated k c) d)
of_within ws s (within.is_selected {s = c} d) = is_selected (whole_as (whole_selected_within 201) whole_selected ws c (sym (same_selected ws)) d)
of_within ws s (within.is_tac {s = c} d) = is_tac (whole_as (whole_tac_within 201 None) (whole_tac None) ws c (sym (same_tac ws)) d)

-- a sentence of the grammar, and one with 201 levels
pub sentence_within : (ws : Words) (s : Sentence) → IsSentence ws s → IsSentenceWithin 201 ws s
sentence_within ws s (is_stated d) = within.is_stated (to_within ws s d)
sentence_within ws s (is_opened d) = within.is_opened d
sentence_within ws s (is_marked d) = within.is_marked d

pub within_sentence : (ws : Words) (s : Sentence) → IsSentenceWithin 201 ws s → IsSentence ws s
within_sentence ws s (within.is_stated d) = is_stated (of_within ws s d)
within_sentence ws s (within.is_opened d) = is_opened d
within_sentence ws s (within.is_marked d) = is_marked d
