-- The first token of a text, and the others.
use Rattle.std.proofs.Common.{◌≡◌, ℕ, ◌+◌, ◌<◌, Bool, true, false, eqb, List, [], ◌∷◌, ◌++◌, take, drop, length, Option, Some, None, Result, Ok, Err, refl, sym, ap, ◌∙◌, subst, suc, if◌then◌else◌, arith, append_assoc}
use Rattle.std.proofs.lemmas.List.{append-nil}
use Rattle.std.proofs.Math.Dec.{eqb-suc-zero}
use Rattle.std.proofs.lemmas.Bool.{eqb-true, false≢true}
use Rattle.std.proofs.lemmas.Bool.Decides.{nat_tests}
use Rattle.std.proofs.lemmas.Str.{IsUtf8-from_ascii}
use Rattle.std.proofs.lemmas.Str.Ascii.{IsAscii-nil, IsAscii-cons}
use Rattle.std.specs.List.{prefix_len}
use Rattle.std.specs.Result.{IsOk, MatchResult}
use Rattle.std.specs.Str.{IsAscii, IsUtf8}
use Rattle.lq_output.specs.Grammar.{behind_blanks}
use Rattle.lq_output.specs.Script.{is_blank, is_clear}
use Rattle.lq_output.specs.Tokens.{Token, word, arrow, Begun, nothing, letters, dash, in_word, symbol_of, after_byte, goes_on, ending_before, ends_arrow, before_tokens, tokens_from, tokens}
use Rattle.lq_script.specs.declared.reader.fault.Unread.{Unread}
use Rattle.lq_script.specs.declared.reader.fault.Unread.TheVariants.{Memory, Grammar}
use Rattle.lq_script.specs.Reading.{Fails}
use Rattle.lq_script.specs.Lexing.{first_word, first_arrow, first_token, symbol_or_word}

-- a byte of a word is no other byte that isn't one
apart : (b k : ℕ) → in_word k ≡ false → in_word b ≡ true → eqb b k ≡ false
apart b k other h = step (eqb b k) refl where
  step : (v : Bool) → eqb b k ≡ v → v ≡ false
  step false e = refl
  step true e = absurd (false≢true (sym other ∙ ap in_word (sym (eqb-true b k e)) ∙ h))

-- a byte of a word is no symbol
word_byte : (b : ℕ) → in_word b ≡ true → symbol_of b ≡ None
word_byte b h =
    let colon = apart b 58 refl h in
    let comma = apart b 44 refl h in
    let semicolon = apart b 59 refl h in
    let opening = apart b 40 refl h in
    let closing = apart b 41 refl h in
    rw (colon, comma, semicolon, opening, closing) refl

-- laws of tokens in front of others
before_nothing : (o : Option (List Token)) → before_tokens [] o ≡ o
before_nothing None = refl
before_nothing (Some ts) = refl

before_before : (ts us : List Token) (o : Option (List Token)) → before_tokens ts (before_tokens us o) ≡ before_tokens (ts ++ us) o
before_before ts us None = refl
before_before ts us (Some vs) = ap Some (sym (append_assoc ts us vs))

-- the tokens of a text from its first one and what is behind it
abbrev pub by_first : Option (Token × List ℕ) → Option (List Token)
by_first None = None
by_first (Some r) = before_tokens (r.0 ∷ []) (tokens r.1)

-- what a byte does, by the tests of it
abbrev done_by : Begun → ℕ → (in_a_word blank minus greater : Bool) → Option Token → Option (List Token × Begun)
done_by begun b in_a_word blank minus greater symbol =
    if in_a_word then goes_on begun b
    else if blank then ending_before begun [] nothing
    else if minus then ending_before begun [] dash
    else if greater then ends_arrow begun
    else elim symbol [ None ↦ None | Some t ↦ ending_before begun (t ∷ []) nothing ]

-- the tokens after a byte
abbrev then_tokens : Option (List Token × Begun) → List ℕ → Option (List Token)
then_tokens None bs = None
then_tokens (Some r) bs = before_tokens r.0 (tokens_from r.1 bs)

after_byte_by : (begun : Begun) (b : ℕ) → after_byte begun b ≡ done_by begun b (in_word b) (is_blank b) (eqb b 45) (eqb b 62) (symbol_of b)
unfolding after_byte
after_byte_by begun b = refl

tokens_from-cons : (begun : Begun) (b : ℕ) (bs : List ℕ) → tokens_from begun (b ∷ bs) ≡ then_tokens (done_by begun b (in_word b) (is_blank b) (eqb b 45) (eqb b 62) (symbol_of b)) bs
unfolding tokens_from after_byte
tokens_from-cons begun b bs = step (done_by begun b (in_word b) (is_blank b) (eqb b 45) (eqb b 62) (symbol_of b)) where
  step : (o : Option (List Token × Begun)) → elim o [ None ↦ None | Some r ↦ before_tokens r.0 (tokens_from r.1 bs) ] ≡ then_tokens o bs
  step None = refl
  step (Some r) = refl

-- a byte that is in no word ends a word
word_ends : (w : List ℕ) (b : ℕ) (bs : List ℕ) (blank minus greater : Bool) (symbol : Option Token) →
    then_tokens (done_by (letters w) b false blank minus greater symbol) bs ≡ before_tokens (word w ∷ []) (then_tokens (done_by nothing b false blank minus greater symbol) bs)
word_ends w b bs true minus greater symbol = sym (before_before (word w ∷ []) [] (tokens_from nothing bs))
word_ends w b bs false true greater symbol = sym (before_before (word w ∷ []) [] (tokens_from dash bs))
word_ends w b bs false false true symbol = refl
word_ends w b bs false false false None = refl
word_ends w b bs false false false (Some t) = sym (before_before (word w ∷ []) (t ∷ []) (tokens_from nothing bs))

letter_goes : (w : List ℕ) (b : ℕ) (bs : List ℕ) → in_word b ≡ true → tokens_from (letters w) (b ∷ bs) ≡ tokens_from (letters (w ++ b ∷ [])) bs
letter_goes w b bs e = tokens_from-cons (letters w) b bs ∙ rw e (before_nothing (tokens_from (letters (w ++ b ∷ [])) bs))

letter_begins : (b : ℕ) (bs : List ℕ) → in_word b ≡ true → tokens_from nothing (b ∷ bs) ≡ tokens_from (letters (b ∷ [])) bs
letter_begins b bs e = tokens_from-cons nothing b bs ∙ rw e (before_nothing (tokens_from (letters (b ∷ [])) bs))

letter_ends : (w : List ℕ) (b : ℕ) (bs : List ℕ) → in_word b ≡ false → tokens_from (letters w) (b ∷ bs) ≡ before_tokens (word w ∷ []) (tokens_from nothing (b ∷ bs))
letter_ends w b bs e =
    tokens_from-cons (letters w) b bs
    ∙ ap (λ v. then_tokens (done_by (letters w) b v (is_blank b) (eqb b 45) (eqb b 62) (symbol_of b)) bs) e
    ∙ word_ends w b bs (is_blank b) (eqb b 45) (eqb b 62) (symbol_of b)
    ∙ ap (λ v. before_tokens (word w ∷ []) (then_tokens (done_by nothing b v (is_blank b) (eqb b 45) (eqb b 62) (symbol_of b)) bs)) (sym e)
    ∙ ap (before_tokens (word w ∷ [])) (sym (tokens_from-cons nothing b bs))

-- a word takes the bytes up to the first that is in no word
run_by : (w : List ℕ) (b : ℕ) (bs : List ℕ) (n : ℕ) (v : Bool) → in_word b ≡ v →
    ((u : List ℕ) → tokens_from (letters u) bs ≡ before_tokens (word (u ++ take n bs) ∷ []) (tokens_from nothing (drop n bs))) →
    tokens_from (letters w) (b ∷ bs) ≡ before_tokens (word (w ++ take (if v then 1 + n else 0) (b ∷ bs)) ∷ []) (tokens_from nothing (drop (if v then 1 + n else 0) (b ∷ bs)))
run_by w b bs n true e others =
    let one : 1 + n ≡ suc n = omega arith in
    letter_goes w b bs e ∙ others (w ++ b ∷ []) ∙ rw one (ap (λ v. before_tokens (word v ∷ []) (tokens_from nothing (drop n bs))) (append_assoc w (b ∷ []) (take n bs)))
run_by w b bs n false e others = letter_ends w b bs e ∙ ap (λ v. before_tokens (word v ∷ []) (tokens_from nothing (b ∷ bs))) (sym (append-nil w))

letters_run : (w bs : List ℕ) → tokens_from (letters w) bs ≡ before_tokens (word (w ++ take (prefix_len in_word bs) bs) ∷ []) (tokens_from nothing (drop (prefix_len in_word bs) bs))
unfolding tokens_from
letters_run w [] = ap (λ v. Some (word v ∷ [])) (sym (append-nil w))
letters_run w (b ∷ bs) = run_by w b bs (prefix_len in_word bs) (in_word b) refl (λ u. letters_run u bs)

-- the `-` of an arrow ends in nothing but an arrow
no_arrow : (b : ℕ) (in_a_word blank minus : Bool) (symbol : Option Token) → done_by dash b in_a_word blank minus false symbol ≡ None
no_arrow b true blank minus symbol = refl
no_arrow b false true minus symbol = refl
no_arrow b false false true symbol = refl
no_arrow b false false false None = refl
no_arrow b false false false (Some t) = refl

dash_by : (b : ℕ) (bs : List ℕ) (v : Bool) → eqb b 62 ≡ v → then_tokens (done_by dash b (in_word b) (is_blank b) (eqb b 45) v (symbol_of b)) bs ≡ by_first (if v then Some (arrow, bs) else None)
unfolding tokens
dash_by b bs true e = subst (λ (z : ℕ). then_tokens (done_by dash z (in_word z) (is_blank z) (eqb z 45) true (symbol_of z)) bs ≡ before_tokens (arrow ∷ []) (tokens_from nothing bs)) (sym (eqb-true b 62 e)) refl
dash_by b bs false e = ap (λ o. then_tokens o bs) (no_arrow b (in_word b) (is_blank b) (eqb b 45) (symbol_of b))

dash_first : (bs : List ℕ) → tokens_from dash bs ≡ by_first (first_arrow bs)
unfolding tokens_from first_arrow
dash_first [] = refl
dash_first (b ∷ bs) = tokens_from-cons dash b bs ∙ dash_by b bs (eqb b 62) refl

-- the word that a text begins with
first_word-yes : (b : ℕ) (bs : List ℕ) → in_word b ≡ true → first_word (b ∷ bs) ≡ Some (word (b ∷ take (prefix_len in_word bs) bs), drop (prefix_len in_word bs) bs)
unfolding first_word
first_word-yes b bs e =
    let one : 1 + prefix_len in_word bs ≡ suc (prefix_len in_word bs) = omega arith in
    rw (e, one, eqb-suc-zero (prefix_len in_word bs)) refl

first_word-no : (b : ℕ) (bs : List ℕ) → in_word b ≡ false → first_word (b ∷ bs) ≡ None
unfolding first_word
first_word-no b bs e = rw e refl

-- a first byte that is in no word and is no blank
others_by : (b : ℕ) (bs : List ℕ) (minus greater : Bool) (symbol : Option Token) (w : Option (Token × List ℕ)) → w ≡ None → (greater ≡ true → symbol ≡ None) →
    then_tokens (done_by nothing b false false minus greater symbol) bs ≡ by_first (if minus then first_arrow bs else symbol_or_word symbol bs w)
unfolding tokens
others_by b bs true greater symbol w none g = before_nothing (tokens_from dash bs) ∙ dash_first bs
others_by b bs false true symbol w none g = rw (g refl, none) refl
others_by b bs false false None w none g = rw none refl
others_by b bs false false (Some t) w none g = refl

first_by : (b : ℕ) (bs : List ℕ) (v : Bool) → in_word b ≡ v → is_blank b ≡ false → tokens_from nothing (b ∷ bs) ≡ by_first (first_token (b ∷ bs))
unfolding first_token tokens
first_by b bs true e h =
    let minus = apart b 45 refl e in
    letter_begins b bs e ∙ letters_run (b ∷ []) bs ∙ rw (minus, word_byte b e, first_word-yes b bs e) refl
first_by b bs false e h =
    tokens_from-cons nothing b bs
    ∙ rw (e, h) (others_by b bs (eqb b 45) (eqb b 62) (symbol_of b) (first_word (b ∷ bs)) (first_word-no b bs e) (λ g. ap symbol_of (eqb-true b 62 g)))

-- The tokens of a text that begins with one are that one and those of what is behind it.
pub tokens_first : (bs : List ℕ) → is_clear bs ≡ false → tokens bs ≡ by_first (first_token bs)
unfolding tokens
tokens_first [] h = absurd (false≢true (sym h))
tokens_first (b ∷ bs) h = first_by b bs (in_word b) refl h

-- a word is text
word_below : (b : ℕ) → in_word b ≡ true → b < 128
word_below b e = grind (arith, nat_tests)

ascii_by : (b : ℕ) (bs : List ℕ) (n : ℕ) (v : Bool) → in_word b ≡ v → IsAscii (take n bs) → IsAscii (take (if v then 1 + n else 0) (b ∷ bs))
ascii_by b bs n true e others = let one : 1 + n ≡ suc n = omega arith in rw one (IsAscii-cons b _ (word_below b e) others)
ascii_by b bs n false e others = IsAscii-nil

word_ascii : (bs : List ℕ) → IsAscii (take (prefix_len in_word bs) bs)
word_ascii [] = IsAscii-nil
word_ascii (b ∷ bs) = ascii_by b bs (prefix_len in_word bs) (in_word b) refl (word_ascii bs)

pub word_text : (bs : List ℕ) → IsUtf8 (take (prefix_len in_word bs) bs)
word_text bs = IsUtf8-from_ascii _ (word_ascii bs)

-- a result that is no error is a value
pub ok_by_cases : {A E : Type 0} (P : A → Type 0) (Q : E → Type 0) (r : Result A E) → MatchResult r P Q → ((e : E) → Q e → ⊥) → IsOk r
ok_by_cases P Q (Ok x) h never = refl
ok_by_cases P Q (Err e) h never = absurd (never e h)

-- blanks in front of a text
blank_byte : (b : ℕ) → is_blank b ≡ true → in_word b ≡ false
blank_byte b e = grind (arith, nat_tests)

blanks_by : (b : ℕ) (bs : List ℕ) (v : Bool) → is_blank b ≡ v → tokens_from nothing (behind_blanks bs) ≡ tokens_from nothing bs →
    tokens_from nothing (elim v [ true ↦ behind_blanks bs | false ↦ b ∷ bs ]) ≡ tokens_from nothing (b ∷ bs)
blanks_by b bs true e others = others ∙ sym (tokens_from-cons nothing b bs ∙ rw (blank_byte b e, e) (before_nothing (tokens_from nothing bs)))
blanks_by b bs false e others = refl

tokens_behind : (bs : List ℕ) → tokens_from nothing (behind_blanks bs) ≡ tokens_from nothing bs
unfolding behind_blanks
tokens_behind [] = refl
tokens_behind (b ∷ bs) = blanks_by b bs (is_blank b) refl (tokens_behind bs)

pub tokens_behind_blanks : (bs : List ℕ) → tokens (behind_blanks bs) ≡ tokens bs
unfolding tokens
tokens_behind_blanks bs = tokens_behind bs

abbrev unless_blank : Bool → ℕ → List ℕ → List ℕ
unless_blank true b bs = behind_blanks bs
unless_blank false b bs = b ∷ bs

clear_by : (b : ℕ) (bs : List ℕ) (v : Bool) → is_blank b ≡ v → (0 < length (behind_blanks bs) → is_clear (behind_blanks bs) ≡ false) →
    0 < length (unless_blank v b bs) → is_clear (unless_blank v b bs) ≡ false
clear_by b bs true e others = others
clear_by b bs false e others = λ _. e

behind_blanks-cons : (b : ℕ) (bs : List ℕ) → behind_blanks (b ∷ bs) ≡ unless_blank (is_blank b) b bs
unfolding behind_blanks
behind_blanks-cons b bs = step (is_blank b) where
  step : (v : Bool) → elim v [ true ↦ behind_blanks bs | false ↦ b ∷ bs ] ≡ unless_blank v b bs
  step true = refl
  step false = refl

-- what is behind blanks begins with no blank
pub behind_blanks_begins : (bs : List ℕ) → 0 < length (behind_blanks bs) → is_clear (behind_blanks bs) ≡ false
unfolding behind_blanks
behind_blanks_begins [] h = absurd (omega arith)
behind_blanks_begins (b ∷ bs) h = rw (behind_blanks-cons b bs) (clear_by b bs (is_blank b) refl (behind_blanks_begins bs) (rw (behind_blanks-cons b bs) at h))

-- a loop over the tokens of a text: those so far, and those of the rest
pub tokens_start : (text rest : List ℕ) → rest ≡ behind_blanks text → before_tokens [] (tokens rest) ≡ tokens text
tokens_start text rest e = before_nothing (tokens rest) ∙ ap tokens e ∙ tokens_behind_blanks text

pub tokens_goes : (ts : List Token) (t : Token) (text rest behind next : List ℕ) → before_tokens ts (tokens rest) ≡ tokens text → is_clear rest ≡ false →
    first_token rest ≡ Some (t, behind) → next ≡ behind_blanks behind → before_tokens (ts ++ t ∷ []) (tokens next) ≡ tokens text
tokens_goes ts t text rest behind next told clear first e =
    ap (λ bs. before_tokens (ts ++ t ∷ []) (tokens bs)) e
    ∙ ap (before_tokens (ts ++ t ∷ [])) (tokens_behind_blanks behind)
    ∙ sym (before_before ts (t ∷ []) (tokens behind))
    ∙ ap (before_tokens ts) (sym (tokens_first rest clear ∙ ap by_first first))
    ∙ told

pub tokens_fails : (fault : Unread) (ts : List Token) (text rest : List ℕ) → before_tokens ts (tokens rest) ≡ tokens text → is_clear rest ≡ false → Fails fault (first_token rest) → Fails fault (tokens text)
tokens_fails Memory ts text rest told clear first = tt
tokens_fails Grammar ts text rest told clear first = sym told ∙ ap (before_tokens ts) (tokens_first rest clear ∙ ap by_first first)

pub tokens_end : (ts : List Token) (text rest : List ℕ) → before_tokens ts (tokens rest) ≡ tokens text → length rest ≡ 0 → tokens text ≡ Some ts
unfolding tokens tokens_from
tokens_end ts text [] told h = sym told ∙ ap Some (append-nil ts)
tokens_end ts text (b ∷ bs) told h = absurd (omega arith)
