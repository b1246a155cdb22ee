-- A script behind another: it is cut as the two are, and blanks in front of a sentence change nothing.
use Rattle.std.proofs.Common.{◌≡◌, ◌∙◌, refl, sym, ap, ap₂, ℕ, ◌+◌, ◌&&◌, Bool, true, false, List, [], ◌∷◌, ◌++◌, Option, Some, None, Result, Ok, Err, arith}
use Rattle.std.specs.Prelude.{◌==◌, nat_le, length}
use Rattle.std.proofs.lemmas.Bool.Decides.{nat_tests}
use Rattle.std.proofs.lemmas.Bool.{and_from}
use Rattle.lq_calculus.proofs.ConvSound.{and_true}
use Rattle.lq_output.specs.declared.Status.{Status}
use Rattle.lq_output.specs.Script.{Script, is_blank, is_clear, in_front, cut}
use Rattle.lq_output.specs.Tokens.{Token, nothing, in_word, after_byte, before_tokens, tokens_from, tokens}
use Rattle.lq_output.specs.Grammar.{Sentence, sentence_of, behind_blanks, is_short, read}
use Rattle.lq_output.specs.Faults.{Fault, not_built}
use Rattle.lq_output.specs.Sentences.{State, doing, sentence}
use Rattle.lq_output.specs.Output.{Output, refused, behind, all_blank, is_outside, at_end, run}
use Rattle.lq_output.proofs.RunLaws.{run_of}

-- sentences in front of a script that has been cut
abbrev pub sentences_before : List (List ℕ) → Script → Script
sentences_before ps c = record { sentences = ps ++ c.sentences; rest = c.rest }

-- bytes in front of a script that has been cut
unfoldable pub bytes_before : List ℕ → Script → Script
bytes_before [] c = c
bytes_before (b ∷ bs) c = in_front b (bytes_before bs c).sentences (bytes_before bs c).rest

-- a line feed behind a text ends what its end ends
clear_before : (a b : List ℕ) → is_clear (a ++ 10 ∷ b) ≡ is_clear a
clear_before [] b = refl
clear_before (c ∷ a) b = refl

-- a byte in front, before sentences
byte_before : (c : ℕ) (ps : List (List ℕ)) (rest : List ℕ) (d : Script) →
    in_front c (sentences_before ps (bytes_before (rest ++ 10 ∷ []) d)).sentences (sentences_before ps (bytes_before (rest ++ 10 ∷ []) d)).rest
    ≡ sentences_before (in_front c ps rest).sentences (bytes_before ((in_front c ps rest).rest ++ 10 ∷ []) d)
unfolding in_front bytes_before
byte_before c [] rest d = refl
byte_before c (p ∷ ps) rest d = refl

-- a byte in front of a script that has been cut, which may be a dot that ends a sentence
unfoldable pub byte_more : ℕ → Bool → Script → Script
byte_more c t s = elim t [ true ↦ record { sentences = [] ∷ s.sentences; rest = s.rest } | false ↦ in_front c s.sentences s.rest ]

-- a text is cut from its end on, byte by byte
cut-byte : (c : ℕ) (bs : List ℕ) → cut (c ∷ bs) ≡ byte_more c (c == 46 && is_clear bs) (cut bs)
unfolding cut byte_more
cut-byte c bs = refl

-- a byte more, before a script behind
byte_more_before :
    (c : ℕ) (t : Bool) (s d : Script) → byte_more c t (sentences_before s.sentences (bytes_before (s.rest ++ 10 ∷ []) d))
    ≡ sentences_before (byte_more c t s).sentences (bytes_before ((byte_more c t s).rest ++ 10 ∷ []) d)
unfolding byte_more
byte_more_before c true s d = refl
byte_more_before c false s d = byte_before c s.sentences s.rest d

-- a line feed alone is in front of what follows
nothing_before : (b : List ℕ) → cut (10 ∷ b) ≡ sentences_before (cut []).sentences (bytes_before ((cut []).rest ++ 10 ∷ []) (cut b))
unfolding cut bytes_before
nothing_before b = refl

-- the sentences of the first script, and then the second's with the first one's rest in front
pub cut-joined : (a b : List ℕ) → cut (a ++ 10 ∷ b) ≡ sentences_before (cut a).sentences (bytes_before ((cut a).rest ++ 10 ∷ []) (cut b))
cut-joined [] b = nothing_before b
cut-joined (c ∷ a) b =
    cut-byte c (a ++ 10 ∷ b) ∙ ap₂ (λ t s. byte_more c (c == 46 && t) s) (clear_before a b) (cut-joined a b)
    ∙ byte_more_before c (c == 46 && is_clear a) (cut a) (cut b)
    ∙ ap (λ s. sentences_before s.sentences (bytes_before (s.rest ++ 10 ∷ []) (cut b))) (sym (cut-byte c a))

-- a blank is in no word
blank_byte : (b : ℕ) → is_blank b ≡ true → in_word b ≡ false
blank_byte b e = grind (arith, nat_tests)

-- no tokens in front of others
before_nothing : (ts : Option (List Token)) → before_tokens [] ts ≡ ts
before_nothing None = refl
before_nothing (Some ts) = refl

-- a blank in front of a sentence
tokens_blank : (b : ℕ) (p : List ℕ) → is_blank b ≡ true → tokens (b ∷ p) ≡ tokens p
unfolding tokens tokens_from after_byte
tokens_blank b p e = rw (blank_byte b e, e, tokens, tokens_from, after_byte) (before_nothing (tokens_from nothing p))

-- a blank in front does not count
short_blank : (b : ℕ) (p : List ℕ) → is_blank b ≡ true → is_short (b ∷ p) ≡ is_short p
unfolding is_short behind_blanks
short_blank b p e = ap (λ t. nat_le (length (elim t as (λ _. List ℕ) [ true ↦ behind_blanks p | false ↦ b ∷ p ]) + 1) 65536) e

-- so the same sentence is read
read_blank : (b : ℕ) (p : List ℕ) → is_blank b ≡ true → read (b ∷ p) ≡ read p
unfolding read
read_blank b p e =
    ap₂ (λ t (ts : Option (List Token)). elim t as (λ _. Option Sentence) [ false ↦ None | true ↦ elim ts as (λ _. Option Sentence) [ None ↦ None | Some us ↦ sentence_of us ] ])
    (short_blank b p e) (tokens_blank b p e)

-- and it does the same
sentence_blank : (n : ℕ) (s : State) (b : ℕ) (p : List ℕ) → is_blank b ≡ true → sentence n s (b ∷ p) ≡ sentence n s p
unfolding sentence
sentence_blank n s b p e = ap (λ (o : Option Sentence). elim o as (λ _. Result (List ℕ × State) Fault) [ Some x ↦ doing n s.env s.place x | None ↦ Err not_built ]) (read_blank b p e)

-- a blank in front of a script
run_blank : (n : ℕ) (s : State) (k b : ℕ) (c : Script) → is_blank b ≡ true → run_of n s k (in_front b c.sentences c.rest) ≡ run_of n s k c
unfolding in_front run at_end all_blank
run_blank n s k b c e = by c.sentences
  where
    by : (ps : List (List ℕ)) → run_of n s k (in_front b ps c.rest) ≡ run n s k ps c.rest
    by [] = ap (λ t. elim (is_outside s.place && (t && all_blank c.rest)) as (λ _. Output) [ true ↦ record { text = []; status = Status.Done } | false ↦ refused k not_built ]) e
    by (p ∷ ps) =
        ap (λ (z : Result (List ℕ × State) Fault). elim z as (λ _. Output) [ Ok r ↦ behind r.0 (run n r.1 (k + 1) ps c.rest) | Err f ↦ refused k f ]) (sentence_blank n s b p e)

-- blanks in front of a script
pub run_blanks : (n : ℕ) (s : State) (k : ℕ) (bs : List ℕ) (c : Script) → all_blank bs ≡ true → run_of n s k (bytes_before bs c) ≡ run_of n s k c
unfolding bytes_before all_blank
run_blanks n s k [] c e = refl
run_blanks n s k (b ∷ bs) c e =
    let both = and_true (is_blank b) (all_blank bs) e in
    run_blank n s k b (bytes_before bs c) both.0 ∙ run_blanks n s k bs c both.1

-- blanks and then a line feed
pub blanks_more : (bs : List ℕ) → all_blank bs ≡ true → all_blank (bs ++ 10 ∷ []) ≡ true
unfolding all_blank
blanks_more [] e = refl
blanks_more (b ∷ bs) e =
    let both = and_true (is_blank b) (all_blank bs) e in
    and_from (is_blank b) (all_blank (bs ++ 10 ∷ [])) both.0 (blanks_more bs both.1)
