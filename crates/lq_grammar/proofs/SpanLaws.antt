-- The tokens of a sentence stand one behind another in the text.
use Rattle.std.proofs.Common.{◌≡◌, ℕ, zero, suc, ◌+◌, ◌-◌, ◌^◌, ◌<◌, ◌≤◌, min, Bool, true, false, List, [], ◌∷◌, ◌++◌, drop, length, Option, Some, None, Result, Ok, Err, refl, sym, ap, ◌∙◌, subst, arith, length-drop, if◌then◌else◌}
use Rattle.std.specs.Prelude.{nat_lt, nat_le, ◌==◌, ◌&&◌}
use Rattle.std.specs.Char.{is_ascii_digit}
use Rattle.bstr.specs.Utf8.{decoded}
use Rattle.lq_grammar.specs.declared.fault.LexFault.{LexFault}
use Rattle.lq_grammar.specs.declared.fault.LexFault.TheVariants.{BadChar, BadNumber}
use Rattle.lq_grammar.specs.declared.token.Class.{Class}
use Rattle.lq_grammar.specs.declared.token.Class.TheVariants as class
use Rattle.lq_grammar.specs.declared.token.Symbol.{Symbol}
use Rattle.lq_grammar.specs.declared.token.Token.{Token}
use Rattle.lq_grammar.specs.declared.token.TokenKind.TheVariants as kind
use Rattle.lq_grammar.specs.Cells.{Cells, over, broken, beyond, letter, cells_from, cells, place, front, window, past, goes_on}
use Rattle.lq_grammar.specs.Tokens.{Found, nothing, bound, space, word, crossing, flaw, token, continues_name, open_behind, half_behind, comment_from, comment_at, string_from, longest_name, name_at, value_from, number_by, bullet_at, pair_of, single_of, is_clear, single_at, pair_at, symbol_at, class_of, found_at, found}
use Rattle.lq_grammar.specs.Selectors.{closes}
use Rattle.lq_grammar.specs.Cutting.{Next, sentence, finished, longest, end_of, so_far, gathered, is_space_class, is_space, begun, next}
use Rattle.std.proofs.lemmas.Bool.{ltb-false, leb-false}
use Rattle.lq_grammar.specs.Spans.{AreSpans, IsSpread}
use Rattle.lq_grammar.proofs.CellLaws.{place_window, place-cells}
use Rattle.lq_grammar.proofs.Turns.{gathered-suc, after_found, begun-suc, begun_by, digit_first, IsNumber, class_by, class_of-by}

-- characters that stand one behind another within n bytes; beyond a bound L there are bytes
abbrev pub Rises : ℕ → ℕ → Cells → Type 0
Rises L n (over p) = p ≤ n
Rises L n (broken p) = p < n
Rises L n (beyond p c) = (p < n) × (L < n)
Rises L n (letter p c cs) = (p < place cs) × Rises L n cs

pub place_rises : (L n : ℕ) (cs : Cells) → Rises L n cs → place cs ≤ n
unfolding place
place_rises L n (over p) r = r
place_rises L n (broken p) r = omega (arith, r)
place_rises L n (beyond p c) r = omega (arith, r.0)
place_rises L n (letter p c cs) r = omega (arith, r.0, place_rises L n cs r.1)

past_rises : (L n : ℕ) (test : ℕ → Bool) (cs : Cells) → Rises L n cs → Rises L n (past test cs) × (place cs ≤ place (past test cs))
unfolding past place
past_rises L n test (over p) r = (r, omega arith)
past_rises L n test (broken p) r = (r, omega arith)
past_rises L n test (beyond p c) r = (r, omega arith)
past_rises L n test (letter p c cs) r = step (test c) (past_rises L n test cs r.1) where
  step : (b : Bool) → Rises L n (past test cs) × (place cs ≤ place (past test cs)) →
      Rises L n (elim b as (λ _. Cells) [ true ↦ past test cs | false ↦ letter p c cs ]) × (p ≤ place (elim b as (λ _. Cells) [ true ↦ past test cs | false ↦ letter p c cs ]))
  step true h = (h.0, omega (arith, h.1, r.0))
  step false h = (r, omega arith)

goes_on_rises : (L n : ℕ) (test : ℕ → Bool) (cs : Cells) → Rises L n cs → goes_on test cs ≡ true → L < n
unfolding goes_on
goes_on_rises L n test (over p) r e = absurd cc
goes_on_rises L n test (broken p) r e = absurd cc
goes_on_rises L n test (beyond p c) r e = r.1
goes_on_rises L n test (letter p c cs) r e = absurd cc

-- a token that is found at a place
abbrev pub IsWordAt : ℕ → ℕ → ℕ → Found → Type 0
IsWordAt L n at nothing = Unit {0}
IsWordAt L n at bound = Unit {0}
IsWordAt L n at (space rest) = ⊥
IsWordAt L n at (word t rest) = (t.start ≡ at) × (at < t.end) × (t.end ≡ place rest) × Rises L n rest
IsWordAt L n at (crossing k) = L < n
IsWordAt L n at (flaw fault) = Unit {0}

-- or a space
abbrev pub IsFoundAt : ℕ → ℕ → ℕ → Found → Type 0
IsFoundAt L n at nothing = Unit {0}
IsFoundAt L n at bound = Unit {0}
IsFoundAt L n at (space rest) = (at < place rest) × Rises L n rest
IsFoundAt L n at (word t rest) = (t.start ≡ at) × (at < t.end) × (t.end ≡ place rest) × Rises L n rest
IsFoundAt L n at (crossing k) = L < n
IsFoundAt L n at (flaw fault) = Unit {0}

word_found : (L n at : ℕ) (f : Found) → IsWordAt L n at f → IsFoundAt L n at f
word_found L n at nothing h = tt
word_found L n at bound h = tt
word_found L n at (space rest) h = absurd h
word_found L n at (word t rest) h = h
word_found L n at (crossing k) h = h
word_found L n at (flaw fault) h = tt

comment_spans : (L n at start depth half : ℕ) (cs : Cells) → at < place cs → Rises L n cs → IsFoundAt L n at (comment_from start depth half cs)
unfolding comment_from place
comment_spans L n at start zero half cs h r = (h, r)
comment_spans L n at start (suc k) half (over p) h r = tt
comment_spans L n at start (suc k) half (broken p) h r = tt
comment_spans L n at start (suc k) half (beyond p c) h r = tt
comment_spans L n at start (suc k) half (letter p c cs) h r = comment_spans L n at start (open_behind (suc k) half c) (half_behind half c) cs (omega (arith, h, r.0)) r.1

string_spans : (L n start : ℕ) (closing : Bool) (cs : Cells) → start < place cs → Rises L n cs → IsWordAt L n start (string_from start closing cs)
unfolding string_from place
string_spans L n start false (over p) h r = tt
string_spans L n start false (broken p) h r = tt
string_spans L n start false (beyond p c) h r = r.1
string_spans L n start false (letter p c cs) h r = string_spans L n start (c == 34) cs (omega (arith, h, r.0)) r.1
string_spans L n start true (over p) h r = (refl, h, refl, r)
string_spans L n start true (broken p) h r = (refl, h, refl, r)
string_spans L n start true (beyond p c) h r = step (c == 34) where
  step : (b : Bool) → IsWordAt L n start (elim b as (λ _. Found) [ true ↦ crossing kind.Text | false ↦ token kind.Text start (beyond p c) ])
  step true = r.1
  step false = (refl, h, refl, r)
string_spans L n start true (letter p c cs) h r = step (c == 34) (string_spans L n start false cs (omega (arith, h, r.0)) r.1) where
  step : (b : Bool) → IsWordAt L n start (string_from start false cs) → IsWordAt L n start (elim b as (λ _. Found) [ true ↦ string_from start false cs | false ↦ token kind.Text start (letter p c cs) ])
  step true s = s
  step false s = (refl, h, refl, r)

name_spans : (L n p : ℕ) (cs : Cells) → p < place cs → Rises L n cs → IsWordAt L n p (name_at p cs)
unfolding name_at
name_spans L n p cs h r = step (nat_lt longest_name (place (past continues_name cs) - p)) (goes_on continues_name (past continues_name cs)) (past_rises L n continues_name cs r) (goes_on_rises L n continues_name (past continues_name cs)) where
  step : (a b : Bool) → Rises L n (past continues_name cs) × (place cs ≤ place (past continues_name cs)) → (Rises L n (past continues_name cs) → b ≡ true → L < n) →
      IsWordAt L n p (if a then flaw (BadChar p) else if b then crossing kind.Name else token kind.Name p (past continues_name cs))
  step true b s g = tt
  step false true s g = g s.0 refl
  step false false s g = (refl, omega (arith, h, s.1), refl, s.0)

number_spans : (L n p m : ℕ) (rest : Cells) → p < place rest → Rises L n rest → IsWordAt L n p (number_by p m rest)
unfolding number_by
number_spans L n p m rest h r = step (nat_le (2 ^ 128) m) (goes_on continues_name rest) (continues_name (front rest)) (goes_on_rises L n continues_name rest r) where
  step : (a b d : Bool) → (b ≡ true → L < n) → IsWordAt L n p (if a then flaw (BadNumber p) else if b then crossing (kind.Number m) else if d then flaw (BadNumber p) else token (kind.Number m) p rest)
  step true b d g = tt
  step false true d g = g refl
  step false false true g = tt
  step false false false g = (refl, h, refl, r)

bullet_spans : (L n p c : ℕ) (cs : Cells) → p < place cs → Rises L n cs → IsWordAt L n p (bullet_at p c cs)
unfolding bullet_at
bullet_spans L n p c cs h r = step (goes_on (λ d. d == c) (past (λ d. d == c) cs)) (past_rises L n (λ d. d == c) cs r) (goes_on_rises L n (λ d. d == c) (past (λ d. d == c) cs)) where
  step : (b : Bool) → Rises L n (past (λ d. d == c) cs) × (place cs ≤ place (past (λ d. d == c) cs)) → (Rises L n (past (λ d. d == c) cs) → b ≡ true → L < n) →
      IsWordAt L n p (if b then crossing (kind.Bullet c 5) else token (kind.Bullet c (min (place (past (λ d. d == c) cs) - p) 5)) p (past (λ d. d == c) cs))
  step true s g = g s.0 refl
  step false s g = (refl, omega (arith, h, s.1), refl, s.0)

-- no symbol of two characters has none as its second
no_pair : (a : Bool) (x y : Option Symbol) → (if a && false then x else y) ≡ y
no_pair true x y = refl
no_pair false x y = refl

pair_of-none : (c : ℕ) → pair_of c 0 ≡ None
unfolding pair_of
pair_of-none c =
    no_pair (c == 58) _ _ ∙ no_pair (c == 61) _ _ ∙ no_pair (c == 45) _ _ ∙ no_pair (c == 60) _ _ ∙ no_pair (c == 124) _ _ ∙ no_pair (c == 124) _ _ ∙ no_pair (c == 46) _ _

pair_spans : (L n p c : ℕ) (s : Symbol) (cs : Cells) → p < place cs → Rises L n cs → pair_of c (front cs) ≡ Some s → IsWordAt L n p (pair_at s p cs)
unfolding pair_at front place
pair_spans L n p c s (over q) h r e = let none = pair_of-none c in absurd cc
pair_spans L n p c s (broken q) h r e = let none = pair_of-none c in absurd cc
pair_spans L n p c s (beyond q d) h r e = r.1
pair_spans L n p c s (letter q d cs) h r e = (refl, omega (arith, h, r.0), refl, r.1)

symbol_spans : (L n p c : ℕ) (cs : Cells) → p < place cs → Rises L n cs → IsWordAt L n p (symbol_at p c cs)
unfolding symbol_at single_at
symbol_spans L n p c cs h r = step (pair_of c (front cs)) (single_of (is_clear cs) c) (λ s e. pair_spans L n p c s cs h r e) where
  step : (o w : Option Symbol) → ((s : Symbol) → o ≡ Some s → IsWordAt L n p (pair_at s p cs)) →
      IsWordAt L n p (elim o as (λ _. Found) [ Some s ↦ pair_at s p cs | None ↦ elim w as (λ _. Found) [ Some s ↦ token (kind.Symbol s) p cs | None ↦ flaw (BadChar p) ] ])
  step (Some s) w pairs = pairs s refl
  step None (Some s) pairs = (refl, h, refl, r)
  step None None pairs = tt

-- a class that is neither blanks nor comments
abbrev IsWordClass : Class → Type 0
IsWordClass class.Blank = ⊥
IsWordClass class.Comment = ⊥
IsWordClass _ = Unit {0}

number_first : (L n p c : ℕ) (cs : Cells) → p < place cs → Rises L n cs → is_ascii_digit c ≡ true → IsWordAt L n p (number_by p (value_from 0 (letter p c cs)) (past is_ascii_digit (letter p c cs)))
unfolding past
number_first L n p c cs h r e = step (is_ascii_digit c) e (past_rises L n is_ascii_digit cs r) where
  step : (b : Bool) → b ≡ true → Rises L n (past is_ascii_digit cs) × (place cs ≤ place (past is_ascii_digit cs)) →
      IsWordAt L n p (number_by p (value_from 0 (letter p c cs)) (elim b as (λ _. Cells) [ true ↦ past is_ascii_digit cs | false ↦ letter p c cs ]))
  step true f s = number_spans L n p (value_from 0 (letter p c cs)) (past is_ascii_digit cs) (omega (arith, h, s.1)) s.0
  step false f s = absurd cc

word_spans : (L n : ℕ) (k : Class) (p c : ℕ) (cs : Cells) → IsWordClass k → (IsNumber k → is_ascii_digit c ≡ true) → p < place cs → Rises L n cs → IsWordAt L n p (found_at k p c cs)
unfolding found_at
word_spans L n class.Blank p c cs is digit h r = absurd is
word_spans L n class.Comment p c cs is digit h r = absurd is
word_spans L n class.Bullet p c cs is digit h r = bullet_spans L n p c cs h r
word_spans L n class.Text p c cs is digit h r = string_spans L n p false cs h r
word_spans L n class.Number p c cs is digit h r = number_first L n p c cs h r (digit tt)
word_spans L n class.Name p c cs is digit h r = name_spans L n p cs h r
word_spans L n class.Symbol p c cs is digit h r = symbol_spans L n p c cs h r

comment_found : (L n p : ℕ) (cs : Cells) → p < place cs → Rises L n cs → IsFoundAt L n p (comment_at p cs)
unfolding comment_at place
comment_found L n p (over q) h r = tt
comment_found L n p (broken q) h r = tt
comment_found L n p (beyond q d) h r = tt
comment_found L n p (letter q d cs) h r = comment_spans L n p p 1 0 cs (omega (arith, h, r.0)) r.1

class_spans : (L n : ℕ) (k : Class) (p c : ℕ) (cs : Cells) → (IsNumber k → is_ascii_digit c ≡ true) → p < place cs → Rises L n cs → IsFoundAt L n p (found_at k p c cs)
unfolding found_at
class_spans L n class.Blank p c cs digit h r = (h, r)
class_spans L n class.Comment p c cs digit h r = comment_found L n p cs h r
class_spans L n class.Bullet p c cs digit h r = word_found L n p _ (bullet_spans L n p c cs h r)
class_spans L n class.Text p c cs digit h r = word_found L n p _ (string_spans L n p false cs h r)
class_spans L n class.Number p c cs digit h r = word_found L n p _ (number_first L n p c cs h r (digit tt))
class_spans L n class.Name p c cs digit h r = word_found L n p _ (name_spans L n p cs h r)
class_spans L n class.Symbol p c cs digit h r = word_found L n p _ (symbol_spans L n p c cs h r)

pub found_spans : (L n : ℕ) (is_start : Bool) (cs : Cells) → Rises L n cs → IsFoundAt L n (place cs) (found is_start cs)
unfolding found place
found_spans L n is_start (over p) r = tt
found_spans L n is_start (broken p) r = tt
found_spans L n is_start (beyond p c) r = tt
found_spans L n is_start (letter p c cs) r = class_spans L n (class_of is_start c (front cs)) p c cs (digit_first is_start c (front cs)) r.0 r.1

-- what begins no space inside a sentence begins none at its start
word_class_by : (blank comment bullet other text digit low continued starts : Bool) → is_space_class (class_by blank comment other text digit low continued starts) ≡ false →
    IsWordClass (class_by blank comment bullet text digit low continued starts)
unfolding class_by
word_class_by true comment bullet other text digit low continued starts e = absurd cc
word_class_by false true bullet other text digit low continued starts e = absurd cc
word_class_by false false true other text digit low continued starts e = tt
word_class_by false false false other true digit low continued starts e = tt
word_class_by false false false other false true low continued starts e = tt
word_class_by false false false other false false true true starts e = tt
word_class_by false false false other false false true false starts e = tt
word_class_by false false false other false false false continued true e = tt
word_class_by false false false other false false false continued false e = tt

word_class : (c d : ℕ) → is_space_class (class_of false c d) ≡ false → IsWordClass (class_of true c d)
word_class c d e =
    subst IsWordClass (sym (class_of-by true c d)) (word_class_by _ _ _ _ _ _ _ _ _ (sym (ap is_space_class (class_of-by false c d)) ∙ e))

front_window : (L : ℕ) (cs : Cells) → front (window L cs) ≡ front cs
unfolding window front
front_window L (over p) = refl
front_window L (broken p) = step (nat_lt p L) where
  step : (b : Bool) → front (elim b as (λ _. Cells) [ true ↦ broken p | false ↦ beyond p 0 ]) ≡ 0
  step true = refl
  step false = refl
front_window L (beyond p c) = refl
front_window L (letter p c cs) = step (nat_le (place cs) L) where
  step : (b : Bool) → front (elim b as (λ _. Cells) [ true ↦ letter p c (window L cs) | false ↦ beyond p c ]) ≡ c
  step true = refl
  step false = refl

pub first_spans : (L n : ℕ) (cs : Cells) → is_space cs ≡ false → Rises L n (window L cs) → IsWordAt L n (place (window L cs)) (found true (window L cs))
unfolding window found place is_space
first_spans L n (over p) e r = tt
first_spans L n (broken p) e r = step (nat_lt p L) where
  step : (b : Bool) → IsWordAt L n (place (elim b as (λ _. Cells) [ true ↦ broken p | false ↦ beyond p 0 ])) (found true (elim b as (λ _. Cells) [ true ↦ broken p | false ↦ beyond p 0 ]))
  step true = tt
  step false = tt
first_spans L n (beyond p c) e r = tt
first_spans L n (letter p c cs) e r = step (nat_le (place cs) L) r where
  step : (b : Bool) → Rises L n (elim b as (λ _. Cells) [ true ↦ letter p c (window L cs) | false ↦ beyond p c ]) →
      IsWordAt L n (place (elim b as (λ _. Cells) [ true ↦ letter p c (window L cs) | false ↦ beyond p c ])) (found true (elim b as (λ _. Cells) [ true ↦ letter p c (window L cs) | false ↦ beyond p c ]))
  step true s =
      word_spans L n (class_of true c (front (window L cs))) p c (window L cs) (word_class c (front (window L cs)) (ap (λ d. is_space_class (class_of false c d)) (front_window L cs) ∙ e)) (digit_first true c (front (window L cs))) s.0 s.1
  step false s = tt

-- ---- sentences

-- tokens that were kept before a place
abbrev Kept : ℕ → ℕ → List Token → Type 0
Kept from p [] = from ≤ p
Kept from p (t ∷ ts) = AreSpans from (t ∷ ts) (end_of (t ∷ ts)) × (from < end_of (t ∷ ts)) × (end_of (t ∷ ts) ≤ p)

kept_more : (from p q : ℕ) (ts : List Token) → p ≤ q → Kept from p ts → Kept from q ts
kept_more from p q [] h k = omega (arith, k)
kept_more from p q (t ∷ ts) h k = (k.0, k.1, omega (arith, k.2))

end_of-push : (ts : List Token) (t : Token) → end_of (ts ++ t ∷ []) ≡ t.end
end_of-push [] t = refl
end_of-push (u ∷ []) t = refl
end_of-push (u ∷ w ∷ ts) t = end_of-push (w ∷ ts) t

spans_push : (at stop : ℕ) (ts : List Token) (t : Token) → AreSpans at ts stop → stop ≤ t.start → t.start < t.end → AreSpans at (ts ++ t ∷ []) t.end
spans_push at stop [] t s h k = (omega (arith, s), k, omega arith)
spans_push at stop (u ∷ ts) t s h k = (s.0, s.1, spans_push u.end stop ts t s.2 h k)

kept_push : (from p : ℕ) (ts : List Token) (t : Token) → Kept from p ts → t.start ≡ p → p < t.end → AreSpans from (ts ++ t ∷ []) t.end × (from < t.end)
kept_push from p [] t k e h = ((omega (arith, k, e), omega (arith, e), omega arith), omega (arith, k))
kept_push from p (u ∷ ts) t k e h = (spans_push from (end_of (u ∷ ts)) (u ∷ ts) t k.0 (omega (arith, k.2, e)) (omega (arith, e)), omega (arith, k.1, k.2))

-- so many tokens and one more, as tokens kept before a place
kept_next : (from p q : ℕ) (ts : List Token) (t : Token) → Kept from p ts → t.start ≡ p → p < t.end → t.end ≡ q → Kept from q (ts ++ t ∷ [])
kept_next from p q [] t k e h f = let s = kept_push from p [] t k e h in (s.0, s.1, omega (arith, f))
kept_next from p q (u ∷ ts) t k e h f =
    let s = kept_push from p (u ∷ ts) t k e h in
    let last = end_of-push (u ∷ ts) t in
    let P : ℕ → Type 0 = λ m. AreSpans from (u ∷ (ts ++ t ∷ [])) m × (from < m) × (m ≤ q) in subst P (sym last) (s.0, s.1, omega (arith, f))

-- what a text of n bytes has next is spread
abbrev pub Spreads : ℕ → ℕ → Result Next LexFault → Type 0
Spreads from n (Ok (sentence ts stop)) = IsSpread from n ts stop
Spreads from n (Ok finished) = Unit {0}
Spreads from n (Err fault) = Unit {0}

so_far_spreads : (from p n : ℕ) (ts : List Token) → Kept from p ts → p ≤ n → Spreads from n (Ok (so_far ts))
so_far_spreads from p n [] k h = tt
so_far_spreads from p n (t ∷ ts) k h = (k.0, k.1, omega (arith, k.2))

gathered_spreads : (turns : ℕ) (text : List ℕ) (L n from : ℕ) (t : Token) (ts : List Token) (cs : Cells) → Kept from (place cs) (t ∷ ts) → Rises L n cs → Spreads from n (gathered turns text (t ∷ ts) cs)
unfolding gathered after_found
gathered_spreads zero text L n from t ts cs k r = so_far_spreads from (place cs) n (t ∷ ts) k (place_rises L n cs r)
gathered_spreads (suc turns) text L n from t ts cs k r =
    let P : Result Next LexFault → Type 0 = λ a. Spreads from n a in
    subst P (sym (gathered-suc turns text (t ∷ ts) cs))
    (step (found false cs) (found_spans L n false cs r) (λ rest h s. gathered_spreads turns text L n from t ts rest (kept_more from (place cs) (place rest) (t ∷ ts) (omega (arith, h)) k) s)
    (λ u rest e h f s. gathered_spreads turns text L n from t (ts ++ u ∷ []) rest (kept_next from (place cs) (place rest) (t ∷ ts) u k e h f) s)) where
      ends : (u : Token) (rest : Cells) → u.start ≡ place cs → place cs < u.end → u.end ≡ place rest → Rises L n rest → Spreads from n (Ok (sentence ((t ∷ ts) ++ u ∷ []) u.end))
      ends u rest e h f s = let pushed = kept_push from (place cs) (t ∷ ts) u k e h in (pushed.0, pushed.1, omega (arith, f, place_rises L n rest s))

      chosen : (b : Bool) (x y : Result Next LexFault) → Spreads from n x → Spreads from n y → Spreads from n (elim b as (λ _. Result Next LexFault) [ true ↦ x | false ↦ y ])
      chosen true x y g h = g
      chosen false x y g h = h

      step : (f : Found) → IsFoundAt L n (place cs) f → ((rest : Cells) → place cs < place rest → Rises L n rest → Spreads from n (gathered turns text (t ∷ ts) rest)) →
          ((u : Token) (rest : Cells) → u.start ≡ place cs → place cs < u.end → u.end ≡ place rest → Rises L n rest → Spreads from n (gathered turns text (t ∷ (ts ++ u ∷ [])) rest)) →
          Spreads from n (after_found turns text (t ∷ ts) cs f)
      step nothing s more others = so_far_spreads from (place cs) n (t ∷ ts) k (place_rises L n cs r)
      step bound s more others = so_far_spreads from (place cs) n (t ∷ ts) k (place_rises L n cs r)
      step (space rest) s more others = more rest s.0 s.1
      step (crossing c) s more others = so_far_spreads from (place cs) n (t ∷ ts) k (place_rises L n cs r)
      step (flaw fault) s more others = tt
      step (word u rest) s more others = chosen (closes u.kind text (t ∷ ts)) _ _ (ends u rest s.0 s.1 s.2 s.3) (others u rest s.0 s.1 s.2 s.3)

-- the first token of a sentence, whose bound lies so many bytes behind its start
first_spreads : (turns : ℕ) (text : List ℕ) (L n from : ℕ) (cs : Cells) → from ≤ place cs → L ≡ place cs + longest → Rises L n cs → IsWordAt L n (place cs) (found true cs) → Spreads from n (gathered turns text [] cs)
unfolding gathered after_found
first_spreads zero text L n from cs h b r is = tt
first_spreads (suc turns) text L n from cs h b r is =
    let P : Result Next LexFault → Type 0 = λ a. Spreads from n a in
    subst P (sym (gathered-suc turns text [] cs)) (step (found true cs) is) where
      ends : (u : Token) (rest : Cells) → u.start ≡ place cs → place cs < u.end → u.end ≡ place rest → Rises L n rest → Spreads from n (Ok (sentence ([] ++ u ∷ []) u.end))
      ends u rest e g f s = let pushed = kept_push from (place cs) [] u h e g in (pushed.0, pushed.1, omega (arith, f, place_rises L n rest s))

      chosen : (b : Bool) (x y : Result Next LexFault) → Spreads from n x → Spreads from n y → Spreads from n (elim b as (λ _. Result Next LexFault) [ true ↦ x | false ↦ y ])
      chosen true x y g k = g
      chosen false x y g k = k

      step : (f : Found) → IsWordAt L n (place cs) f → Spreads from n (after_found turns text [] cs f)
      step nothing s = tt
      step bound s = tt
      step (space rest) s = absurd s
      step (crossing c) s = ((h, omega arith, omega arith), omega (arith, h), omega (arith, s, b))
      step (flaw fault) s = tt
      step (word u rest) s = chosen (closes u.kind text []) _ _ (ends u rest s.0 s.1 s.2 s.3) (gathered_spreads turns text L n from u [] rest (kept_next from (place cs) (place rest) [] u h s.0 s.1 s.2) s.3)

-- a bound hides what stands behind it, and nothing else
pub window_rises : (L n : ℕ) (cs : Cells) → Rises n n cs → Rises L n (window L cs)
unfolding window
window_rises L n (over p) r = r
window_rises L n (broken p) r = step (nat_lt p L) refl where
  step : (b : Bool) → nat_lt p L ≡ b → Rises L n (elim b as (λ _. Cells) [ true ↦ broken p | false ↦ beyond p 0 ])
  step true e = r
  step false e = (r, omega (arith, ltb-false p L e, r))
window_rises L n (beyond p c) r = absurd (omega (arith, r.1))
window_rises L n (letter p c cs) r = step (nat_le (place cs) L) refl (window_rises L n cs r.1) where
  step : (b : Bool) → nat_le (place cs) L ≡ b → Rises L n (window L cs) → Rises L n (elim b as (λ _. Cells) [ true ↦ letter p c (window L cs) | false ↦ beyond p c ])
  step true e w = (omega (arith, place_window L cs, r.0), w)
  step false e w = (omega (arith, place_rises n n cs r.1, r.0), omega (arith, leb-false (place cs) L e, place_rises n n cs r.1))

begun_spreads : (turns : ℕ) (text : List ℕ) (n from : ℕ) (cs : Cells) → from ≤ place cs → Rises n n cs → Spreads from n (begun turns text cs)
unfolding begun begun_by
begun_spreads zero text n from cs h r = tt
begun_spreads (suc turns) text n from cs h r =
    let P : Result Next LexFault → Type 0 = λ a. Spreads from n a in
    subst P (sym (begun-suc turns text cs)) (step (is_space cs) refl (found false cs) (found_spans n n false cs r) (λ rest g s. begun_spreads turns text n from rest (omega (arith, h, g)) s)) where
      first : is_space cs ≡ false → Spreads from n (gathered (suc (length text)) text [] (window (place cs + longest) cs))
      first e =
          let L : ℕ = place cs + longest in
          let same = place_window L cs in
          let w = window_rises L n cs r in
          first_spreads (suc (length text)) text L n from (window L cs) (omega (arith, h, same)) (ap (λ p. p + longest) (sym same)) w (first_spans L n cs e w)

      step : (b : Bool) → is_space cs ≡ b → (f : Found) → IsFoundAt n n (place cs) f → ((rest : Cells) → place cs < place rest → Rises n n rest → Spreads from n (begun turns text rest)) → Spreads from n (begun_by turns text cs b f)
      step false e f s others = first e
      step true e nothing s others = tt
      step true e bound s others = tt
      step true e (space rest) s others = others rest s.0 s.1
      step true e (crossing c) s others = tt
      step true e (flaw fault) s others = tt
      step true e (word t rest) s others = tt

-- ---- the characters of a text

place_ahead : (k at : ℕ) (bs : List ℕ) → at ≤ place (cells_from k at bs)
unfolding cells_from place
place_ahead k at [] = omega arith
place_ahead (suc k) at (b ∷ bs) = omega (arith, place_ahead k (at + 1) bs)
place_ahead zero at (b ∷ bs) = step (decoded (b ∷ bs)).char where
  step : (o : Option ℕ) → at ≤ place (elim o as (λ _. Cells) [ None ↦ broken at | Some c ↦ letter at c (cells_from ((decoded (b ∷ bs)).size - 1) (at + 1) bs) ])
  step None = omega arith
  step (Some c) = omega arith

pub cells_rise : (n k at : ℕ) (bs : List ℕ) → at + length bs ≤ n → Rises n n (cells_from k at bs)
unfolding cells_from
cells_rise n k at [] h = omega arith
cells_rise n (suc k) at (b ∷ bs) h = cells_rise n k (at + 1) bs (omega arith)
cells_rise n zero at (b ∷ bs) h = step (decoded (b ∷ bs)).char (cells_rise n ((decoded (b ∷ bs)).size - 1) (at + 1) bs (omega arith)) where
  step : (o : Option ℕ) → Rises n n (cells_from ((decoded (b ∷ bs)).size - 1) (at + 1) bs) → Rises n n (elim o as (λ _. Cells) [ None ↦ broken at | Some c ↦ letter at c (cells_from ((decoded (b ∷ bs)).size - 1) (at + 1) bs) ])
  step None others = omega (arith, h)
  step (Some c) others = let ahead = place_ahead ((decoded (b ∷ bs)).size - 1) (at + 1) bs in (omega (arith, ahead), others)

-- What a text has next at or after a place is spread behind it: its tokens stand one behind another, none is empty, and the last ends within the text.
pub next_spreads : (text : List ℕ) (at : ℕ) → at ≤ length text → Spreads at (length text) (next text at)
unfolding next
next_spreads text at h =
    begun_spreads (suc (length text)) text (length text) at (cells at (drop at text)) (omega (arith, place-cells at (drop at text))) (cells_rise (length text) 0 at (drop at text) (omega (arith, length-drop at text)))
