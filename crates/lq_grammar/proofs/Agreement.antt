-- A text that goes on: what a shorter text settles stays.
use Rattle.std.proofs.Common.{◌≡◌, ℕ, zero, suc, ◌+◌, ◌-◌, ◌*◌, ◌^◌, ◌<◌, ◌≤◌, min, Bool, true, false, List, [], ◌∷◌, ◌++◌, drop, length, length-append, Option, Some, None, refl, sym, ap, ◌∙◌, subst, arith, if◌then◌else◌, ◌⊎◌, inl, inr}
use Rattle.std.specs.Prelude.{nat_lt, nat_le, ◌==◌, ◌&&◌, ◌||◌, slice_index}
use Rattle.std.specs.Char.{is_ascii_digit}
use Rattle.std.proofs.lemmas.List.{drop-append-le}
use Rattle.bstr.specs.Utf8.{decoded, decoded_by}
use Rattle.bstr.proofs.lemmas.PieceLemmas.{piece-bounds, by-shape, value-1, value-6, value-9, value-12}
use Rattle.lq_grammar.specs.declared.token.Class.{Class}
use Rattle.lq_grammar.specs.declared.token.Class.TheVariants as class
use Rattle.lq_grammar.specs.declared.token.TokenKind.{TokenKind}
use Rattle.lq_grammar.specs.declared.token.TokenKind.TheVariants as kind
use Rattle.lq_grammar.specs.Cells.{Cells, over, broken, beyond, letter, cells_from, cells, place, front, window, past, goes_on}
use Rattle.lq_grammar.specs.declared.fault.LexFault.TheVariants.{BadChar, BadNumber}
use Rattle.lq_grammar.specs.declared.token.Symbol.{Symbol}
use Rattle.lq_grammar.specs.Tokens.{Found, nothing, bound, space, word, crossing, flaw, token, continues_name, is_blank, opens_comment, starts_name, open_behind, half_behind, comment_from, comment_at, string_from, longest_name, name_at, value_from, number_by, bullet_at, pair_of, single_of, is_clear, single_at, pair_at, symbol_at, class_of, found_at, found}
use Rattle.lq_grammar.proofs.CellLaws.{place_window}
use Rattle.lq_grammar.proofs.Turns.{IsNumber, digit_first}

-- ---- characters

-- a character that decodes stays where bytes follow
longer : (n m b c d e c' d' e' x : ℕ) → n ≤ m → (1 < n → c' ≡ c) → (2 < n → d' ≡ d) → (3 < n → e' ≡ e) → (decoded_by n b c d e).char ≡ Some x → decoded_by m b c' d' e' ≡ decoded_by n b c d e
longer n m b c d e c' d' e' x h hc hd he is =
    by-shape n b c d e
    (λ s. absurd (none (ap (λ r. r.char) s.1)))
    (λ s. value-1 m b c' d' e' (omega (arith, s.0), s.1) ∙ sym s.2)
    (λ s. absurd (none (ap (λ r. r.char) s.3)))
    (λ s. absurd (none (ap (λ r. r.char) s.2)))
    (λ s. absurd (none (ap (λ r. r.char) s.4)))
    (λ s. absurd (none (ap (λ r. r.char) s.4)))
    (λ s. let c_is = hc (omega (arith, s.0)) in rw c_is (value-6 m b c d' e' (omega (arith, s.0), s.1, s.2, s.3)) ∙ sym s.4)
    (λ s. absurd (none (ap (λ r. r.char) s.5)))
    (λ s. absurd (none (ap (λ r. r.char) s.5)))
    (λ s. let c_is = hc (omega (arith, s.0)) in let d_is = hd (omega (arith, s.0)) in rw (c_is, d_is) (value-9 m b c d e' (omega (arith, s.0), s.1, s.2, s.3, s.4)) ∙ sym s.5)
    (λ s. absurd (none (ap (λ r. r.char) s.6)))
    (λ s. absurd (none (ap (λ r. r.char) s.6)))
    (λ s. let c_is = hc (omega (arith, s.0)) in let d_is = hd (omega (arith, s.0)) in let e_is = he (omega (arith, s.0)) in rw (c_is, d_is, e_is) (value-12 m b c d e (omega (arith, s.0), s.1, s.2, s.3, s.4, s.5)) ∙ sym s.6) where
      none : (decoded_by n b c d e).char ≡ None → ⊥
      none f = let g = sym is ∙ f in cc

index_append : (k : ℕ) (bs more : List ℕ) → k < length bs → slice_index (bs ++ more) k ≡ slice_index bs k
index_append k [] more h = absurd (omega arith)
index_append zero (b ∷ bs) more h = refl
index_append (suc k) (b ∷ bs) more h = index_append k bs more (omega arith)

decoded_more : (bs more : List ℕ) (x : ℕ) → (decoded bs).char ≡ Some x → decoded (bs ++ more) ≡ decoded bs
decoded_more [] more x is = absurd cc
decoded_more (b ∷ bs) more x is =
    longer (length (b ∷ bs)) (length (b ∷ bs ++ more)) b (slice_index (b ∷ bs) 1) (slice_index (b ∷ bs) 2) (slice_index (b ∷ bs) 3) (slice_index (b ∷ bs ++ more) 1) (slice_index (b ∷ bs ++ more) 2) (slice_index (b ∷ bs ++ more) 3) x
    (omega (arith, length-append (b ∷ bs) more)) (λ h. index_append 1 (b ∷ bs) more h) (λ h. index_append 2 (b ∷ bs) more h) (λ h. index_append 3 (b ∷ bs) more h) is

-- the same characters up to where the first list ends or is looked at no further
abbrev pub Agrees : Cells → Cells → Type 0
Agrees (over p) ds = place ds ≡ p
Agrees (broken p) ds = place ds ≡ p
Agrees (beyond p c) ds = place ds ≡ p
Agrees (letter p c cs) ds = (rest : Cells) × (ds ≡ letter p c rest) × Agrees cs rest

pub place_agrees : (cs ds : Cells) → Agrees cs ds → place ds ≡ place cs
unfolding place
place_agrees (over p) ds a = a
place_agrees (broken p) ds a = a
place_agrees (beyond p c) ds a = a
place_agrees (letter p c cs) ds a = ap place a.1

-- the characters of a text that goes on
place_by : (o : Option ℕ) (at : ℕ) (rest : Cells) → place (elim o as (λ _. Cells) [ None ↦ broken at | Some c ↦ letter at c rest ]) ≡ at
unfolding place
place_by None at rest = refl
place_by (Some c) at rest = refl

place_over : (k at : ℕ) (more : List ℕ) → k ≡ 0 → place (cells_from k at more) ≡ at
unfolding cells_from place
place_over k at [] e = refl
place_over zero at (b ∷ bs) e = place_by (decoded (b ∷ bs)).char at _
place_over (suc k) at (b ∷ bs) e = absurd (omega arith)

cells_agree : (k at : ℕ) (bs more : List ℕ) → k ≤ length bs → Agrees (cells_from k at bs) (cells_from k at (bs ++ more))
unfolding cells_from
cells_agree k at [] more h = place_over k at more (omega arith)
cells_agree (suc k) at (b ∷ bs) more h = cells_agree k (at + 1) bs more (omega arith)
cells_agree zero at (b ∷ bs) more h =
    step (decoded (b ∷ bs)).char refl (λ c e. inside c e) (λ n k. cells_agree n (at + 1) bs more k) where
      inside : (c : ℕ) → (decoded (b ∷ bs)).char ≡ Some c → (decoded (b ∷ bs)).size - 1 ≤ length bs
      inside c e = let sizes = piece-bounds (b ∷ bs) (omega arith) in omega (arith, sizes.2)

      chosen : (o : Option ℕ) (c : ℕ) (rest : Cells) → o ≡ Some c → elim o as (λ _. Cells) [ None ↦ broken at | Some d ↦ letter at d rest ] ≡ letter at c rest
      chosen None c rest e = absurd cc
      chosen (Some d) c rest e = let same : d ≡ c = cc in rw same refl

      step : (o : Option ℕ) → (decoded (b ∷ bs)).char ≡ o → ((c : ℕ) → (decoded (b ∷ bs)).char ≡ Some c → (decoded (b ∷ bs)).size - 1 ≤ length bs) →
          ((n : ℕ) → n ≤ length bs → Agrees (cells_from n (at + 1) bs) (cells_from n (at + 1) (bs ++ more))) →
          Agrees (elim o as (λ _. Cells) [ None ↦ broken at | Some c ↦ letter at c (cells_from ((decoded (b ∷ bs)).size - 1) (at + 1) bs) ])
          (elim (decoded (b ∷ bs ++ more)).char as (λ _. Cells) [ None ↦ broken at | Some c ↦ letter at c (cells_from ((decoded (b ∷ bs ++ more)).size - 1) (at + 1) (bs ++ more)) ])
      step None e within others = place_by (decoded (b ∷ bs ++ more)).char at _
      step (Some c) e within others =
          let same = decoded_more (b ∷ bs) more c e in (
            cells_from ((decoded (b ∷ bs)).size - 1) (at + 1) (bs ++ more),
            chosen (decoded (b ∷ bs ++ more)).char c _ (ap (λ r. r.char) same ∙ e) ∙ ap (λ n. letter at c (cells_from (n - 1) (at + 1) (bs ++ more))) (ap (λ r. r.size) same),
            others ((decoded (b ∷ bs)).size - 1) (within c e),
          )

pub text_agrees : (text more : List ℕ) (at : ℕ) → at ≤ length text → Agrees (cells at (drop at text)) (cells at (drop at (text ++ more)))
text_agrees text more at h = rw (drop-append-le at text more h) (cells_agree 0 at (drop at text) more (omega arith))

pub window_agrees : (L : ℕ) (cs ds : Cells) → Agrees cs ds → Agrees (window L cs) (window L ds)
unfolding window place
window_agrees L (over p) ds a = place_window L ds ∙ a
window_agrees L (broken p) ds a = step (nat_lt p L) where
  step : (b : Bool) → Agrees (elim b as (λ _. Cells) [ true ↦ broken p | false ↦ beyond p 0 ]) (window L ds)
  step true = place_window L ds ∙ a
  step false = place_window L ds ∙ a
window_agrees L (beyond p c) ds a = place_window L ds ∙ a
window_agrees L (letter p c cs) ds a =
    let P : Cells → Type 0 = λ es. Agrees (window L (letter p c cs)) (window L es) in
    subst P (sym a.1) (step (nat_le (place cs) L) (window_agrees L cs a.0 a.2) (ap (λ q. nat_le q L) (place_agrees cs a.0 a.2))) where
      chosen : (v b : Bool) → v ≡ b → elim v as (λ _. Cells) [ true ↦ letter p c (window L a.0) | false ↦ beyond p c ] ≡ elim b as (λ _. Cells) [ true ↦ letter p c (window L a.0) | false ↦ beyond p c ]
      chosen v b e = ap (λ w. elim w as (λ _. Cells) [ true ↦ letter p c (window L a.0) | false ↦ beyond p c ]) e

      step : (b : Bool) → Agrees (window L cs) (window L a.0) → nat_le (place a.0) L ≡ b →
          Agrees (elim b as (λ _. Cells) [ true ↦ letter p c (window L cs) | false ↦ beyond p c ]) (elim (nat_le (place a.0) L) as (λ _. Cells) [ true ↦ letter p c (window L a.0) | false ↦ beyond p c ])
      step true w e = (window L a.0, chosen (nat_le (place a.0) L) true e, w)
      step false w e = ap place (chosen (nat_le (place a.0) L) false e)

-- ---- what is found

-- a character is at the front
abbrev pub IsFirm : Cells → Type 0
IsFirm (over p) = ⊥
IsFirm (broken p) = ⊥
IsFirm (beyond p c) = ⊥
IsFirm (letter p c cs) = Unit {0}

pub firm_front : (cs ds : Cells) → IsFirm cs → Agrees cs ds → front ds ≡ front cs
unfolding front
firm_front (over p) ds f a = absurd f
firm_front (broken p) ds f a = absurd f
firm_front (beyond p c) ds f a = absurd f
firm_front (letter p c cs) ds f a = ap front a.1

firm_goes_on : (test : ℕ → Bool) (cs ds : Cells) → IsFirm cs → Agrees cs ds → goes_on test ds ≡ goes_on test cs
unfolding goes_on
firm_goes_on test (over p) ds f a = absurd f
firm_goes_on test (broken p) ds f a = absurd f
firm_goes_on test (beyond p c) ds f a = absurd f
firm_goes_on test (letter p c cs) ds f a = ap (goes_on test) a.1

past_agrees : (test : ℕ → Bool) (cs ds : Cells) → Agrees cs ds → IsFirm (past test cs) → Agrees (past test cs) (past test ds)
unfolding past
past_agrees test (over p) ds a f = absurd f
past_agrees test (broken p) ds a f = absurd f
past_agrees test (beyond p c) ds a f = absurd f
past_agrees test (letter p c cs) ds a f =
    let P : Cells → Type 0 = λ es. Agrees (past test (letter p c cs)) (past test es) in
    subst P (sym a.1) (step (test c) f (past_agrees test cs a.0 a.2)) where
      step : (b : Bool) → IsFirm (elim b as (λ _. Cells) [ true ↦ past test cs | false ↦ letter p c cs ]) → (IsFirm (past test cs) → Agrees (past test cs) (past test a.0)) →
          Agrees (elim b as (λ _. Cells) [ true ↦ past test cs | false ↦ letter p c cs ]) (elim b as (λ _. Cells) [ true ↦ past test a.0 | false ↦ letter p c a.0 ])
      step true g others = others g
      step false g others = (a.0, refl, a.2)

value_agrees : (n : ℕ) (cs ds : Cells) → Agrees cs ds → IsFirm (past is_ascii_digit cs) → value_from n ds ≡ value_from n cs
unfolding past value_from
value_agrees n (over p) ds a f = absurd f
value_agrees n (broken p) ds a f = absurd f
value_agrees n (beyond p c) ds a f = absurd f
value_agrees n (letter p c cs) ds a f = ap (value_from n) a.1 ∙ step (is_ascii_digit c) f (value_agrees (10 * n + (c - 48)) cs a.0 a.2) where
  step : (b : Bool) → IsFirm (elim b as (λ _. Cells) [ true ↦ past is_ascii_digit cs | false ↦ letter p c cs ]) → (IsFirm (past is_ascii_digit cs) → value_from (10 * n + (c - 48)) a.0 ≡ value_from (10 * n + (c - 48)) cs) →
      elim b as (λ _. ℕ) [ true ↦ value_from (10 * n + (c - 48)) a.0 | false ↦ n ] ≡ elim b as (λ _. ℕ) [ true ↦ value_from (10 * n + (c - 48)) cs | false ↦ n ]
  step true g others = others g
  step false g others = refl

-- spaces stay, and so do tokens before a character
abbrev pub Follows : Found → Found → Type 0
Follows nothing g = Unit {0}
Follows bound g = Unit {0}
Follows (space rest) g = (others : Cells) × (g ≡ space others) × Agrees rest others
Follows (word t rest) g = IsFirm rest → (others : Cells) × (g ≡ word t others) × Agrees rest others
Follows (crossing k) g = Unit {0}
Follows (flaw fault) g = Unit {0}

-- a token before characters that agree
token_follows : (k : TokenKind) (start : ℕ) (cs ds : Cells) → Agrees cs ds → Follows (token k start cs) (token k start ds)
token_follows k start cs ds a = λ f. (ds, ap (λ n. word (record { kind = k; start = start; end = n }) ds) (place_agrees cs ds a), a)

comment_follows : (start depth half : ℕ) (cs ds : Cells) → Agrees cs ds → Follows (comment_from start depth half cs) (comment_from start depth half ds)
unfolding comment_from
comment_follows start zero half cs ds a = (ds, refl, a)
comment_follows start (suc n) half (over p) ds a = tt
comment_follows start (suc n) half (broken p) ds a = tt
comment_follows start (suc n) half (beyond p c) ds a = tt
comment_follows start (suc n) half (letter p c cs) ds a =
    let P : Cells → Type 0 = λ es. Follows (comment_from start (suc n) half (letter p c cs)) (comment_from start (suc n) half es) in
    subst P (sym a.1) (comment_follows start (open_behind (suc n) half c) (half_behind half c) cs a.0 a.2)

string_follows : (start : ℕ) (closing : Bool) (cs ds : Cells) → Agrees cs ds → Follows (string_from start closing cs) (string_from start closing ds)
unfolding string_from
string_follows start false (over p) ds a = tt
string_follows start false (broken p) ds a = tt
string_follows start false (beyond p c) ds a = tt
string_follows start false (letter p c cs) ds a =
    let P : Cells → Type 0 = λ es. Follows (string_from start false (letter p c cs)) (string_from start false es) in
    subst P (sym a.1) (string_follows start (c == 34) cs a.0 a.2)
string_follows start true (over p) ds a = λ f. absurd f
string_follows start true (broken p) ds a = λ f. absurd f
string_follows start true (beyond p c) ds a = step (c == 34) where
  step : (b : Bool) → Follows (elim b as (λ _. Found) [ true ↦ crossing kind.Text | false ↦ token kind.Text start (beyond p c) ]) (string_from start true ds)
  step true = tt
  step false = λ f. absurd f
string_follows start true (letter p c cs) ds a =
    let P : Cells → Type 0 = λ es. Follows (string_from start true (letter p c cs)) (string_from start true es) in
    subst P (sym a.1) (step (c == 34) (string_follows start false cs a.0 a.2)) where
      step : (b : Bool) → Follows (string_from start false cs) (string_from start false a.0) →
          Follows (elim b as (λ _. Found) [ true ↦ string_from start false cs | false ↦ token kind.Text start (letter p c cs) ]) (elim b as (λ _. Found) [ true ↦ string_from start false a.0 | false ↦ token kind.Text start (letter p c a.0) ])
      step true h = h
      step false h = token_follows kind.Text start (letter p c cs) (letter p c a.0) (a.0, refl, a.2)

abbrev name_of : ℕ → Cells → Found
name_of p rest =
    if nat_lt longest_name (place rest - p) then flaw (BadChar p)
    else if goes_on continues_name rest then crossing kind.Name
    else token kind.Name p rest

-- a name, a number and a bullet go by what comes behind their run
unfirm_name : (p : ℕ) (rest : Cells) (g : Found) → (IsFirm rest → ⊥) → Follows (name_of p rest) g
unfirm_name p rest g never = step (nat_lt longest_name (place rest - p)) (goes_on continues_name rest) where
  step : (a b : Bool) → Follows (if a then flaw (BadChar p) else if b then crossing kind.Name else token kind.Name p rest) g
  step true b = tt
  step false true = tt
  step false false = λ f. absurd (never f)

firm_name : (p : ℕ) (rest others : Cells) → IsFirm rest → Agrees rest others → Follows (name_of p rest) (name_of p others)
firm_name p rest others f a = rw (place_agrees rest others a, firm_goes_on continues_name rest others f a) (step (nat_lt longest_name (place rest - p)) (goes_on continues_name rest)) where
  step : (x b : Bool) → Follows (if x then flaw (BadChar p) else if b then crossing kind.Name else token kind.Name p rest) (if x then flaw (BadChar p) else if b then crossing kind.Name else word (record { kind = kind.Name; start = p; end = place rest }) others)
  step true b = tt
  step false true = tt
  step false false = λ g. (others, refl, a)

pub is_firm : (cs : Cells) → (IsFirm cs) ⊎ (IsFirm cs → ⊥)
is_firm (over p) = inr (λ f. f)
is_firm (broken p) = inr (λ f. f)
is_firm (beyond p c) = inr (λ f. f)
is_firm (letter p c cs) = inl tt

name_follows : (p : ℕ) (cs ds : Cells) → Agrees cs ds → Follows (name_at p cs) (name_at p ds)
unfolding name_at
name_follows p cs ds a =
    elim (is_firm (past continues_name cs)) [
      | inl f ↦ firm_name p (past continues_name cs) (past continues_name ds) f (past_agrees continues_name cs ds a f)
      | inr never ↦ unfirm_name p (past continues_name cs) (name_of p (past continues_name ds)) never
    ]

unfirm_number : (p n : ℕ) (rest : Cells) (g : Found) → (IsFirm rest → ⊥) → Follows (number_by p n rest) g
unfolding number_by
unfirm_number p n rest g never = step (nat_le (2 ^ 128) n) (goes_on continues_name rest) (continues_name (front rest)) where
  step : (x b d : Bool) → Follows (if x then flaw (BadNumber p) else if b then crossing (kind.Number n) else if d then flaw (BadNumber p) else token (kind.Number n) p rest) g
  step true b d = tt
  step false true d = tt
  step false false true = tt
  step false false false = λ f. absurd (never f)

firm_number : (p n : ℕ) (rest others : Cells) → IsFirm rest → Agrees rest others → Follows (number_by p n rest) (number_by p n others)
unfolding number_by
firm_number p n rest others f a =
    rw (place_agrees rest others a, firm_goes_on continues_name rest others f a, firm_front rest others f a) (step (nat_le (2 ^ 128) n) (goes_on continues_name rest) (continues_name (front rest))) where
      step : (x b d : Bool) →
          Follows (if x then flaw (BadNumber p) else if b then crossing (kind.Number n) else if d then flaw (BadNumber p) else token (kind.Number n) p rest)
          (if x then flaw (BadNumber p) else if b then crossing (kind.Number n) else if d then flaw (BadNumber p) else word (record { kind = kind.Number n; start = p; end = place rest }) others)
      step true b d = tt
      step false true d = tt
      step false false true = tt
      step false false false = λ g. (others, refl, a)

number_follows : (p : ℕ) (cs ds : Cells) → Agrees cs ds → Follows (number_by p (value_from 0 cs) (past is_ascii_digit cs)) (number_by p (value_from 0 ds) (past is_ascii_digit ds))
number_follows p cs ds a =
    elim (is_firm (past is_ascii_digit cs)) [
      | inl f ↦ rw (value_agrees 0 cs ds a f) (firm_number p (value_from 0 cs) (past is_ascii_digit cs) (past is_ascii_digit ds) f (past_agrees is_ascii_digit cs ds a f))
      | inr never ↦ unfirm_number p (value_from 0 cs) (past is_ascii_digit cs) (number_by p (value_from 0 ds) (past is_ascii_digit ds)) never
    ]

abbrev bullet_of : ℕ → ℕ → Cells → Found
bullet_of p c rest = if goes_on (λ d. d == c) rest then crossing (kind.Bullet c 5) else token (kind.Bullet c (min (place rest - p) 5)) p rest

unfirm_bullet : (p c : ℕ) (rest : Cells) (g : Found) → (IsFirm rest → ⊥) → Follows (bullet_of p c rest) g
unfirm_bullet p c rest g never = step (goes_on (λ d. d == c) rest) where
  step : (b : Bool) → Follows (if b then crossing (kind.Bullet c 5) else token (kind.Bullet c (min (place rest - p) 5)) p rest) g
  step true = tt
  step false = λ f. absurd (never f)

firm_bullet : (p c : ℕ) (rest others : Cells) → IsFirm rest → Agrees rest others → Follows (bullet_of p c rest) (bullet_of p c others)
firm_bullet p c rest others f a = rw (place_agrees rest others a, firm_goes_on (λ d. d == c) rest others f a) (step (goes_on (λ d. d == c) rest)) where
  step : (b : Bool) → Follows (if b then crossing (kind.Bullet c 5) else token (kind.Bullet c (min (place rest - p) 5)) p rest)
      (if b then crossing (kind.Bullet c 5) else word (record { kind = kind.Bullet c (min (place rest - p) 5); start = p; end = place rest }) others)
  step true = tt
  step false = λ g. (others, refl, a)

bullet_follows : (p c : ℕ) (cs ds : Cells) → Agrees cs ds → Follows (bullet_at p c cs) (bullet_at p c ds)
unfolding bullet_at
bullet_follows p c cs ds a =
    elim (is_firm (past (λ d. d == c) cs)) [
      | inl f ↦ firm_bullet p c (past (λ d. d == c) cs) (past (λ d. d == c) ds) f (past_agrees (λ d. d == c) cs ds a f)
      | inr never ↦ unfirm_bullet p c (past (λ d. d == c) cs) (bullet_of p c (past (λ d. d == c) ds)) never
    ]

unfirm_pair : (s : Symbol) (p : ℕ) (cs : Cells) (g : Found) → (IsFirm cs → ⊥) → Follows (pair_at s p cs) g
unfolding pair_at
unfirm_pair s p (over q) g never = tt
unfirm_pair s p (broken q) g never = tt
unfirm_pair s p (beyond q d) g never = tt
unfirm_pair s p (letter q d cs) g never = absurd (never tt)

unfirm_symbol : (p c : ℕ) (cs : Cells) (g : Found) → (IsFirm cs → ⊥) → Follows (symbol_at p c cs) g
unfolding symbol_at single_at
unfirm_symbol p c cs g never = step (pair_of c (front cs)) (single_of (is_clear cs) c) where
  step : (o w : Option Symbol) → Follows (elim o as (λ _. Found) [ Some s ↦ pair_at s p cs | None ↦ elim w as (λ _. Found) [ Some s ↦ token (kind.Symbol s) p cs | None ↦ flaw (BadChar p) ] ]) g
  step (Some s) w = unfirm_pair s p cs g never
  step None (Some s) = λ f. absurd (never f)
  step None None = tt

firm_symbol : (p c q d : ℕ) (cs ds : Cells) → Agrees cs ds → Follows (symbol_at p c (letter q d cs)) (symbol_at p c (letter q d ds))
unfolding symbol_at single_at pair_at front is_clear
firm_symbol p c q d cs ds a = step (pair_of c d) (single_of (is_blank d) c) where
  step : (o w : Option Symbol) →
      Follows (elim o as (λ _. Found) [ Some s ↦ token (kind.Symbol s) p cs | None ↦ elim w as (λ _. Found) [ Some s ↦ token (kind.Symbol s) p (letter q d cs) | None ↦ flaw (BadChar p) ] ])
      (elim o as (λ _. Found) [ Some s ↦ token (kind.Symbol s) p ds | None ↦ elim w as (λ _. Found) [ Some s ↦ token (kind.Symbol s) p (letter q d ds) | None ↦ flaw (BadChar p) ] ])
  step (Some s) w = token_follows (kind.Symbol s) p cs ds a
  step None (Some s) = token_follows (kind.Symbol s) p (letter q d cs) (letter q d ds) (ds, refl, a)
  step None None = tt

symbol_follows : (p c : ℕ) (cs ds : Cells) → Agrees cs ds → Follows (symbol_at p c cs) (symbol_at p c ds)
symbol_follows p c (over q) ds a = unfirm_symbol p c (over q) _ (λ f. f)
symbol_follows p c (broken q) ds a = unfirm_symbol p c (broken q) _ (λ f. f)
symbol_follows p c (beyond q d) ds a = unfirm_symbol p c (beyond q d) _ (λ f. f)
symbol_follows p c (letter q d cs) ds a =
    let P : Cells → Type 0 = λ es. Follows (symbol_at p c (letter q d cs)) (symbol_at p c es) in subst P (sym a.1) (firm_symbol p c q d cs a.0 a.2)

-- ---- by the class of the first character

comment_at_follows : (p : ℕ) (cs ds : Cells) → Agrees cs ds → Follows (comment_at p cs) (comment_at p ds)
unfolding comment_at
comment_at_follows p (over q) ds a = tt
comment_at_follows p (broken q) ds a = tt
comment_at_follows p (beyond q d) ds a = tt
comment_at_follows p (letter q d cs) ds a =
    let P : Cells → Type 0 = λ es. Follows (comment_at p (letter q d cs)) (comment_at p es) in subst P (sym a.1) (comment_follows p 1 0 cs a.0 a.2)

class_follows : (k : Class) (p c : ℕ) (cs ds : Cells) → Agrees cs ds → Follows (found_at k p c cs) (found_at k p c ds)
unfolding found_at
class_follows class.Blank p c cs ds a = (ds, refl, a)
class_follows class.Comment p c cs ds a = comment_at_follows p cs ds a
class_follows class.Bullet p c cs ds a = bullet_follows p c cs ds a
class_follows class.Text p c cs ds a = string_follows p false cs ds a
class_follows class.Number p c cs ds a = number_follows p (letter p c cs) (letter p c ds) (ds, refl, a)
class_follows class.Name p c cs ds a = name_follows p cs ds a
class_follows class.Symbol p c cs ds a = symbol_follows p c cs ds a

-- where no character comes behind the first, all but a blank waits for more
abbrev pub IsBlankClass : Class → Type 0
IsBlankClass class.Blank = Unit {0}
IsBlankClass _ = ⊥

past_unfirm : (test : ℕ → Bool) (cs : Cells) → (IsFirm cs → ⊥) → IsFirm (past test cs) → ⊥
unfolding past
past_unfirm test (over p) never f = f
past_unfirm test (broken p) never f = f
past_unfirm test (beyond p c) never f = f
past_unfirm test (letter p c cs) never f = never tt

unfirm_string : (p : ℕ) (cs : Cells) (g : Found) → (IsFirm cs → ⊥) → Follows (string_from p false cs) g
unfolding string_from
unfirm_string p (over q) g never = tt
unfirm_string p (broken q) g never = tt
unfirm_string p (beyond q d) g never = tt
unfirm_string p (letter q d cs) g never = absurd (never tt)

unfirm_comment : (p : ℕ) (cs : Cells) (g : Found) → (IsFirm cs → ⊥) → Follows (comment_at p cs) g
unfolding comment_at
unfirm_comment p (over q) g never = tt
unfirm_comment p (broken q) g never = tt
unfirm_comment p (beyond q d) g never = tt
unfirm_comment p (letter q d cs) g never = absurd (never tt)

digits_unfirm : (p c : ℕ) (cs : Cells) → is_ascii_digit c ≡ true → (IsFirm cs → ⊥) → IsFirm (past is_ascii_digit (letter p c cs)) → ⊥
unfolding past
digits_unfirm p c cs e never = step (is_ascii_digit c) e where
  step : (b : Bool) → b ≡ true → IsFirm (elim b as (λ _. Cells) [ true ↦ past is_ascii_digit cs | false ↦ letter p c cs ]) → ⊥
  step true g f = past_unfirm is_ascii_digit cs never f
  step false g f = absurd cc

pub class_unfirm : (k : Class) (p c : ℕ) (cs : Cells) (g : Found) → (IsBlankClass k → ⊥) → (IsNumber k → is_ascii_digit c ≡ true) → (IsFirm cs → ⊥) → Follows (found_at k p c cs) g
unfolding found_at name_at bullet_at
class_unfirm class.Blank p c cs g blank digit never = absurd (blank tt)
class_unfirm class.Comment p c cs g blank digit never = unfirm_comment p cs g never
class_unfirm class.Bullet p c cs g blank digit never = unfirm_bullet p c (past (λ d. d == c) cs) g (past_unfirm (λ d. d == c) cs never)
class_unfirm class.Text p c cs g blank digit never = unfirm_string p cs g never
class_unfirm class.Number p c cs g blank digit never = unfirm_number p (value_from 0 (letter p c cs)) (past is_ascii_digit (letter p c cs)) g (digits_unfirm p c cs (digit tt) never)
class_unfirm class.Name p c cs g blank digit never = unfirm_name p (past continues_name cs) g (past_unfirm continues_name cs never)
class_unfirm class.Symbol p c cs g blank digit never = unfirm_symbol p c cs g never

unfoldable pub other_class : Bool → ℕ → ℕ → Class
other_class b c d =
    if opens_comment c d then class.Comment
    else if b && (c == 45 || c == 43 || c == 42) then class.Bullet
    else if c == 34 then class.Text
    else if is_ascii_digit c then class.Number
    else if c == 95 then (if continues_name d then class.Name else class.Symbol)
    else if starts_name c then class.Name
    else class.Symbol

other_by : (comment bullet text digit low continued starts : Bool) →
    IsBlankClass (if comment then class.Comment else if bullet then class.Bullet else if text then class.Text else if digit then class.Number else if low then (if continued then class.Name else class.Symbol) else if starts then class.Name else class.Symbol) → ⊥
other_by true bullet text digit low continued starts h = h
other_by false true text digit low continued starts h = h
other_by false false true digit low continued starts h = h
other_by false false false true low continued starts h = h
other_by false false false false true true starts h = h
other_by false false false false true false starts h = h
other_by false false false false false continued true h = h
other_by false false false false false continued false h = h

pub other_blank : (b : Bool) (c d : ℕ) → IsBlankClass (other_class b c d) → ⊥
unfolding other_class
other_blank b c d h = other_by (opens_comment c d) (b && (c == 45 || c == 43 || c == 42)) (c == 34) (is_ascii_digit c) (c == 95) (continues_name d) (starts_name c) h

pub blank_class : (b : Bool) (c d e : ℕ) → (class_of b c d ≡ class_of b c e) ⊎ (IsBlankClass (class_of b c d) → ⊥)
unfolding class_of other_class
blank_class b c d e = step (is_blank c) where
  step : (v : Bool) → ((if v then class.Blank else other_class b c d) ≡ (if v then class.Blank else other_class b c e)) ⊎ (IsBlankClass (if v then class.Blank else other_class b c d) → ⊥)
  step true = inl refl
  step false = inr (other_blank b c d)

-- What stands at the front stays where the text goes on, if a character comes behind it.
pub found_follows : (b : Bool) (cs ds : Cells) → Agrees cs ds → Follows (found b cs) (found b ds)
unfolding found
found_follows b (over p) ds a = tt
found_follows b (broken p) ds a = tt
found_follows b (beyond p c) ds a = tt
found_follows b (letter p c cs) ds a =
    let P : Cells → Type 0 = λ es. Follows (found_at (class_of b c (front cs)) p c cs) (found b es) in
    subst P (sym a.1) (elim (is_firm cs) [ inl f ↦ same (ap (class_of b c) (sym (firm_front cs a.0 f a.2))) | inr never ↦ elim (blank_class b c (front cs) (front a.0)) [ inl e ↦ same e | inr blank ↦ class_unfirm (class_of b c (front cs)) p c cs _ blank (digit_first b c (front cs)) never ] ]) where
      same : class_of b c (front cs) ≡ class_of b c (front a.0) → Follows (found_at (class_of b c (front cs)) p c cs) (found_at (class_of b c (front a.0)) p c a.0)
      same e = let Q : Class → Type 0 = λ k. Follows (found_at (class_of b c (front cs)) p c cs) (found_at k p c a.0) in subst Q e (class_follows (class_of b c (front cs)) p c cs a.0 a.2)
