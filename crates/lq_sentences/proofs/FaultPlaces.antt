-- Each fault of a sentence is in its place.
use Rattle.std.proofs.Common.{◌≡◌, ℕ, List, length, Result, Ok, Err, refl, sym, subst, ◌∙◌, arith, inl, inr}
use Rattle.lq_grammar.specs.declared.token.Token.{Token}
use Rattle.lq_ast.specs.Commands.{Sentence}
use Rattle.lq_sentences.specs.declared.fault.SyntaxFault.{SyntaxFault}
use Rattle.lq_sentences.specs.declared.fault.SyntaxFault.TheVariants.{SentenceTooLong}
use Rattle.lq_sentences.specs.Words.{Word, Words, words}
use Rattle.lq_sentences.specs.Rules.{Stop, unexpected, too_nested, ended}
use Rattle.lq_sentences.specs.Sentences.{IsSentence}
use Rattle.lq_sentences.specs.Reading.{Whole, sentence, start_of, is_too_long, fault_of, with_faults, read_sentence}
use Rattle.lq_sentences.specs.Places.{IsLeastPlace, IsPlaced}
use Rattle.lq_sentences.proofs.RuleLaws.{choice}
use Rattle.lq_sentences.proofs.SentenceLaws.{sentence_answers}
use Rattle.lq_sentences.proofs.PlaceLaws.{Rising}
use Rattle.lq_sentences.proofs.Settling.{LiesFrom}
use Rattle.lq_sentences.proofs.SentencePlaces.{NoSentence, unexpected_place, nested_place}
use Rattle.lq_sentences.proofs.LeastPlace.{ended_goes_on, goes_on_before}

least : (ws : Words) (q : ℕ) (e : Stop) → Rising ws → sentence ws ≡ Err e → ((w : Word × ℕ) → w.1 ≡ q → LiesFrom w.1 e) → NoSentence ws q → IsLeastPlace ws q
least ws q e r i l t =
    let same = t.3 in (
      t.0,
      t.1,
      t.2,
      t.3,
      t.4,
      t.5,
      goes_on_before 204 (omega arith) t.0 t.1 t.2 e (subst Rising same r) (subst (λ us. sentence us ≡ Err e) same i) (l t.1 t.4),
    )

no_answer : (ws : Words) (e : Stop) → sentence ws ≡ Err e → (s : Sentence) → IsSentence ws s → ⊥
no_answer ws e i s d = let a = sentence_answers ws s d in apart a.0 e (sym a.1 ∙ i)
  where
    apart : (s : Sentence) (e : Stop) → (let r : Whole Sentence = Ok s in r) ≡ Err e → ⊥
    apart s e h = absurd cc

-- the fault of words whose places rise
pub stop_placed : (len : ℕ) (ws : Words) (e : Stop) → Rising ws → sentence ws ≡ Err e → IsPlaced len ws (fault_of len e)
stop_placed len ws (unexpected q) r i = least ws q (unexpected q) r i (λ w e. omega (arith, e)) (unexpected_place ws q r i)
stop_placed len ws (too_nested q) r i = least ws q (too_nested q) r i (λ w e. omega (arith, e)) (nested_place ws q r i)
stop_placed len ws ended r i = (refl, ended_goes_on 204 (omega arith) ws i, no_answer ws ended i)

-- the fault of the tokens of a text
pub fault_placed : (text : List ℕ) (ts : List Token) (f : SyntaxFault) → Rising (words text ts) → read_sentence text ts ≡ Err f → IsPlaced (length text) (words text ts) f
unfolding read_sentence
fault_placed text ts f r e =
    elim (choice (is_too_long text ts) _ _ _ e) [
      | inl c ↦ subst (IsPlaced (length text) (words text ts)) (same (SentenceTooLong (start_of ts)) f c.1) tt
      | inr c ↦ by (sentence (words text ts)) refl c.1
    ]
  where
    same : (d f : SyntaxFault) → (let r : Result Sentence SyntaxFault = Err d in r) ≡ Err f → d ≡ f
    same d f e = cc

    by : (s : Whole Sentence) → sentence (words text ts) ≡ s → with_faults (length text) s ≡ Err f → IsPlaced (length text) (words text ts) f
    by (Ok s) i e = absurd cc
    by (Err d) i e = subst (IsPlaced (length text) (words text ts)) (same (fault_of (length text) d) f e) (stop_placed (length text) (words text ts) d r i)
