-- What the reader of sentences answers, and the places of its faults.
use Rattle.std.proofs.Common.{◌≡◌, ℕ, Bool, true, false, List, length, Result, Ok, Err, sym, ap, ◌∙◌, subst}
use Rattle.lq_ast.specs.declared.sentence.Sentence.{Sentence as Code}
use Rattle.lq_grammar.specs.declared.token.Token.{Token}
use Rattle.lq_sentences.specs.declared.fault.SyntaxFault.{SyntaxFault}
use Rattle.lq_sentences.specs.declared.fault.SyntaxFault.TheVariants as fault
use Rattle.lq_sentences.specs.Words.{words}
use Rattle.lq_sentences.specs.Reading.{start_of, is_too_long, with_faults, sentence, read_sentence}
use Rattle.lq_sentences.proofs.RuleLaws.{chosen_true, chosen_false}
use Rattle.lq_sentences.proofs.PlaceLaws.{Rising}
use Rattle.lq_sentences.proofs.RisingLaws.{spans_rise}
use Rattle.lq_sentences.proofs.FaultPlaces.{fault_placed}
use Rattle.lq_spelling.specs.Spellings.{IsCut}
use Rattle.lq_syntax.specs.Answers.{Answers, IsFaultPlaced}

-- the words of tokens that are cut have rising places
pub cut_rises : (text : List ℕ) (ts : List Token) → IsCut text ts → Rising (words text ts)
cut_rises text ts c = spans_rise text c.from c.stop ts c.spread.0

-- ---- by the definition

too_long : (text : List ℕ) (ts : List Token) → is_too_long text ts ≡ true → read_sentence text ts ≡ Err (fault.SentenceTooLong (start_of ts))
unfolding read_sentence
too_long text ts e = chosen_true (is_too_long text ts) _ _ e

short_read : (text : List ℕ) (ts : List Token) → is_too_long text ts ≡ false → read_sentence text ts ≡ with_faults (length text) (sentence (words text ts))
unfolding read_sentence
short_read text ts e = chosen_false (is_too_long text ts) _ _ e

-- by a test of the tokens as a slice
pub long_told : (text : List ℕ) (ts us : List Token) (b : Bool) (start : ℕ) → us ≡ ts → b ≡ is_too_long text us → b ≡ true → start ≡ start_of us → read_sentence text ts ≡ Err (fault.SentenceTooLong start)
long_told text ts us b start same e h i =
    subst (λ vs. read_sentence text vs ≡ Err (fault.SentenceTooLong start)) same (too_long text us (sym e ∙ h) ∙ ap (λ p. Err (fault.SentenceTooLong p)) (sym i))

pub short_told : (text : List ℕ) (ts us : List Token) (b : Bool) (r : Result Code SyntaxFault) → us ≡ ts → b ≡ is_too_long text us → b ≡ false →
    Answers r (with_faults (length text) (sentence (words text us))) → Answers r (read_sentence text ts)
short_told text ts us b r same e h a = subst (λ vs. Answers r (read_sentence text vs)) same (subst (Answers r) (sym (short_read text us (sym e ∙ h))) a)

-- ---- faults

-- an answer's fault is in its place
pub answer_placed : (text : List ℕ) (ts : List Token) (r : Result Code SyntaxFault) → IsCut text ts → Answers r (read_sentence text ts) → IsFaultPlaced text ts r
answer_placed text ts (Ok s) c h = tt
answer_placed text ts (Err fault.NoMemory) c h = tt
answer_placed text ts (Err (fault.Unexpected p)) c h = fault_placed text ts (fault.Unexpected p) (cut_rises text ts c) h
answer_placed text ts (Err (fault.TooNested p)) c h = fault_placed text ts (fault.TooNested p) (cut_rises text ts c) h
answer_placed text ts (Err (fault.EndInside p)) c h = fault_placed text ts (fault.EndInside p) (cut_rises text ts c) h
answer_placed text ts (Err (fault.SentenceTooLong p)) c h = tt
