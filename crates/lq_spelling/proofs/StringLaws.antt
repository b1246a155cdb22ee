-- The bytes of a string that is found in a text, and what is found at all.
use Rattle.std.proofs.Common.{◌≡◌, ℕ, zero, suc, ◌+◌, ◌≤◌, Bool, true, false, List, [], ◌∷◌, ◌++◌, length, refl, sym, ap, ◌∙◌, subst, arith}
use Rattle.std.specs.Prelude.{◌==◌, ◌&&◌, slice_range, IsUtf8}
use Rattle.std.specs.Char.{is_ascii_digit, encode_utf8}
use Rattle.std.proofs.lemmas.List.{append_assoc}
use Rattle.std.proofs.lemmas.Str.{IsUtf8-nil, IsUtf8-encode, IsUtf8-append}
use Rattle.lq_grammar.specs.declared.token.Class.{Class}
use Rattle.lq_grammar.specs.declared.token.Class.TheVariants as class
use Rattle.lq_grammar.specs.declared.token.TokenKind.TheVariants as kind
use Rattle.lq_grammar.specs.Cells.{Cells, over, broken, beyond, letter, place, front, past}
use Rattle.lq_grammar.specs.Tokens.{Found, nothing, bound, space, word, crossing, flaw, token, string_from, value_from, class_of, found_at, found}
use Rattle.lq_grammar.proofs.Turns.{class_by, class_of-by}
use Rattle.lq_spelling.specs.Spellings.{Spells}
use Rattle.lq_spelling.proofs.SpellingLaws.{between, between_none, IsText, IsRead, one_more, past_runs, comment_found, name_reads, number_reads, bullet_reads, symbol_reads}

-- ---- strings

-- the bytes behind what was read: behind a quote that may end the string it counts too
abbrev opened : Bool → List ℕ → List ℕ
opened true bs = 34 ∷ bs
opened false bs = bs

-- a string that began at `start` goes on at q with a text and ends with a quote
abbrev Ends : List ℕ → ℕ → Bool → ℕ → Found → Type 0
Ends text start closing q (word t rest) =
    (t.kind ≡ kind.Text) × (t.start ≡ start) × (q ≤ t.end) × IsText text rest
    × (inner : List ℕ) × IsUtf8 inner × (opened closing (between text q t.end) ≡ inner ++ 34 ∷ [])
Ends text start closing q (space rest) = ⊥
Ends text start closing q _ = Unit {0}

quote : encode_utf8 34 ≡ 34 ∷ []
unfolding encode_utf8
quote = refl

quote_before : (bs : List ℕ) → IsUtf8 bs → IsUtf8 (34 ∷ bs)
quote_before bs u = IsUtf8-append (34 ∷ []) bs (subst IsUtf8 quote (IsUtf8-encode 34 cc)) u

is_quote : (c : ℕ) → (c == 34) ≡ true → c ≡ 34
is_quote c e = grind (arith, e)

at_end : (text : List ℕ) (p : ℕ) → opened true (between text p p) ≡ [] ++ 34 ∷ []
at_end text p = ap (λ bs. 34 ∷ bs) (between_none text p)

-- a letter in front of what ends
letter_before : (text : List ℕ) (start p c : ℕ) (cs : Cells) (b : Bool) → (c == 34) ≡ b → IsText text (letter p c cs) → (f : Found) → Ends text start b (place cs) f → Ends text start false p f
letter_before text start p c cs b e h nothing d = tt
letter_before text start p c cs b e h bound d = tt
letter_before text start p c cs b e h (space rest) d = d
letter_before text start p c cs b e h (crossing k) d = tt
letter_before text start p c cs b e h (flaw fault) d = tt
letter_before text start p c cs true e h (word t rest) d =
    let same = ap encode_utf8 (is_quote c e) ∙ quote in
    (d.0, d.1, omega (arith, h.2, d.2), d.3, d.4, d.5, one_more text p c t.end cs h d.2 ∙ ap (λ bs. bs ++ between text (place cs) t.end) same ∙ d.6)
letter_before text start p c cs false e h (word t rest) d = (
  d.0,
  d.1,
  omega (arith, h.2, d.2),
  d.3,
  encode_utf8 c ++ d.4,
  IsUtf8-append (encode_utf8 c) d.4 (IsUtf8-encode c h.1) d.5,
  one_more text p c t.end cs h d.2 ∙ ap (λ bs. encode_utf8 c ++ bs) d.6 ∙ sym (append_assoc (encode_utf8 c) d.4 (34 ∷ [])),
)

-- the second quote of a pair in front of what ends
pair_before : (text : List ℕ) (start p c : ℕ) (cs : Cells) → (c == 34) ≡ true → IsText text (letter p c cs) → (f : Found) → Ends text start false (place cs) f → Ends text start true p f
pair_before text start p c cs e h nothing d = tt
pair_before text start p c cs e h bound d = tt
pair_before text start p c cs e h (space rest) d = d
pair_before text start p c cs e h (crossing k) d = tt
pair_before text start p c cs e h (flaw fault) d = tt
pair_before text start p c cs e h (word t rest) d =
    let same = ap encode_utf8 (is_quote c e) ∙ quote in (
      d.0,
      d.1,
      omega (arith, h.2, d.2),
      d.3,
      34 ∷ 34 ∷ d.4,
      quote_before (34 ∷ d.4) (quote_before d.4 d.5),
      ap (λ bs. 34 ∷ bs) (one_more text p c t.end cs h d.2 ∙ ap (λ bs. bs ++ between text (place cs) t.end) same ∙ ap (λ bs. 34 ∷ bs) d.6),
    )

string_ends : (text : List ℕ) (start : ℕ) (closing : Bool) (cs : Cells) → IsText text cs → Ends text start closing (place cs) (string_from start closing cs)
unfolding string_from place
string_ends text start false (over p) h = tt
string_ends text start false (broken p) h = tt
string_ends text start false (beyond p c) h = tt
string_ends text start false (letter p c cs) h =
    letter_before text start p c cs (c == 34) refl h (string_from start (c == 34) cs) (string_ends text start (c == 34) cs h.4)
string_ends text start true (over p) h = (refl, refl, omega arith, tt, [], IsUtf8-nil, at_end text p)
string_ends text start true (broken p) h = (refl, refl, omega arith, tt, [], IsUtf8-nil, at_end text p)
string_ends text start true (beyond p c) h = step (c == 34)
  where
    step : (b : Bool) → Ends text start true p (elim b as (λ _. Found) [ true ↦ crossing kind.Text | false ↦ token kind.Text start (beyond p c) ])
    step true = tt
    step false = (refl, refl, omega arith, tt, [], IsUtf8-nil, at_end text p)
string_ends text start true (letter p c cs) h = step (c == 34) refl (string_ends text start false cs h.4)
  where
    step : (b : Bool) → (c == 34) ≡ b → Ends text start false (place cs) (string_from start false cs) →
        Ends text start true p (elim b as (λ _. Found) [ true ↦ string_from start false cs | false ↦ token kind.Text start (letter p c cs) ])
    step true e d = pair_before text start p c cs e h (string_from start false cs) d
    step false e d = (refl, refl, omega arith, h, [], IsUtf8-nil, at_end text p)

-- the whole string, behind its first quote
ends_read : (text : List ℕ) (p c : ℕ) (cs : Cells) → c ≡ 34 → IsText text (letter p c cs) → (f : Found) → Ends text p false (place cs) f → IsRead text f
ends_read text p c cs e h nothing d = tt
ends_read text p c cs e h bound d = tt
ends_read text p c cs e h (space rest) d = absurd d
ends_read text p c cs e h (crossing k) d = tt
ends_read text p c cs e h (flaw fault) d = tt
ends_read text p c cs e h (word t rest) d =
    let whole : between text t.start t.end ≡ 34 ∷ (d.4 ++ 34 ∷ []) =
    ap (λ q. between text q t.end) d.1 ∙ one_more text p c t.end cs h d.2 ∙ ap (λ bs. bs ++ between text (place cs) t.end) (ap encode_utf8 e ∙ quote) ∙ ap (λ bs. 34 ∷ bs) d.6 in
    (subst (λ k. Spells k (between text t.start t.end)) (sym d.0) (d.4, d.5, whole), d.3)

-- ---- what is found

abbrev IsString : Class → Type 0
IsString class.Text = Unit {0}
IsString _ = ⊥

string_quote : (blank comment bullet text digit low continued starts : Bool) → IsString (class_by blank comment bullet text digit low continued starts) → text ≡ true
unfolding class_by
string_quote true comment bullet text digit low continued starts h = absurd h
string_quote false true bullet text digit low continued starts h = absurd h
string_quote false false true text digit low continued starts h = absurd h
string_quote false false false true digit low continued starts h = refl
string_quote false false false false true low continued starts h = absurd h
string_quote false false false false false true true starts h = absurd h
string_quote false false false false false true false starts h = absurd h
string_quote false false false false false false continued true h = absurd h
string_quote false false false false false false continued false h = absurd h

quote_first : (is_start : Bool) (c d : ℕ) → IsString (class_of is_start c d) → c ≡ 34
quote_first is_start c d h = is_quote c (string_quote _ _ _ _ _ _ _ _ (subst IsString (class_of-by is_start c d) h))

class_reads : (text : List ℕ) (k : Class) (p c : ℕ) (cs : Cells) → (IsString k → c ≡ 34) → IsText text (letter p c cs) → IsRead text (found_at k p c cs)
unfolding found_at
class_reads text class.Blank p c cs q h = h.4
class_reads text class.Comment p c cs q h = comment_found text p cs h.4
class_reads text class.Bullet p c cs q h = bullet_reads text p c cs h.4
class_reads text class.Text p c cs q h = ends_read text p c cs (q tt) h (string_from p false cs) (string_ends text p false cs h.4)
class_reads text class.Number p c cs q h = number_reads text p (value_from 0 (letter p c cs)) (past is_ascii_digit (letter p c cs)) (past_runs text is_ascii_digit (letter p c cs) h).2
class_reads text class.Name p c cs q h = name_reads text p c cs h
class_reads text class.Symbol p c cs q h = symbol_reads text p c cs h.4

-- a token that is found has the bytes of its kind, and cells of the text follow
pub found_reads : (text : List ℕ) (is_start : Bool) (cs : Cells) → IsText text cs → IsRead text (found is_start cs)
unfolding found
found_reads text is_start (over p) h = tt
found_reads text is_start (broken p) h = tt
found_reads text is_start (beyond p c) h = tt
found_reads text is_start (letter p c cs) h = class_reads text (class_of is_start c (front cs)) p c cs (quote_first is_start c (front cs)) h
