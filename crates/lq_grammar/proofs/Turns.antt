-- The bounds on turns in `begun` and `gathered` are never met: a text has no more blanks, comments and tokens than characters, and no more of these than bytes.
use Rattle.std.proofs.Common.{◌≡◌, ℕ, zero, suc, ◌+◌, ◌-◌, ◌^◌, ◌<◌, ◌≤◌, min, Bool, true, false, List, [], ◌∷◌, ◌++◌, drop, length, Option, Some, None, Result, Ok, Err, refl, sym, ◌∙◌, subst, arith, length-drop, if◌then◌else◌}
use Rattle.std.specs.Prelude.{nat_lt, nat_le, ◌==◌, ◌&&◌, ◌||◌}
use Rattle.bstr.specs.Utf8.{decoded}
use Rattle.lq_grammar.specs.declared.fault.LexFault.{LexFault}
use Rattle.lq_grammar.specs.declared.fault.LexFault.TheVariants.{BadChar, BadNumber}
use Rattle.lq_grammar.specs.declared.token.Class.{Class}
use Rattle.lq_grammar.specs.declared.token.Class.TheVariants as class
use Rattle.lq_grammar.specs.declared.token.Symbol.{Symbol}
use Rattle.lq_grammar.specs.declared.token.Token.{Token}
use Rattle.lq_grammar.specs.declared.token.TokenKind.TheVariants as kind
use Rattle.std.specs.Char.{is_ascii_digit}
use Rattle.lq_grammar.specs.Cells.{Cells, over, broken, beyond, letter, cells_from, cells, place, front, window, past, goes_on}
use Rattle.lq_grammar.specs.Tokens.{Found, nothing, bound, space, word, crossing, flaw, token, continues_name, open_behind, half_behind, comment_from, comment_at, string_from, longest_name, name_at, value_from, number_by, bullet_at, pair_of, single_of, is_clear, is_blank, opens_comment, starts_name, single_at, pair_at, symbol_at, class_of, found_at, found}
use Rattle.lq_grammar.specs.Selectors.{is_empty, closes}
use Rattle.lq_grammar.specs.Cutting.{Next, sentence, longest, so_far, cut_off, gathered, is_space, behind_space, begun, next}

-- how many characters there are
abbrev pub size : Cells → ℕ
size (over p) = 0
size (broken p) = 0
size (beyond p c) = 0
size (letter p c cs) = suc (size cs)

-- what is found leaves fewer characters than so many
abbrev pub Shrinks : ℕ → Found → Type 0
Shrinks n nothing = Unit {0}
Shrinks n bound = Unit {0}
Shrinks n (space rest) = size rest < n
Shrinks n (word t rest) = size rest < n
Shrinks n (crossing k) = Unit {0}
Shrinks n (flaw fault) = Unit {0}

shrinks_more : (m n : ℕ) (f : Found) → m ≤ n → Shrinks m f → Shrinks n f
shrinks_more m n nothing h s = tt
shrinks_more m n bound h s = tt
shrinks_more m n (space rest) h s = omega (arith, s)
shrinks_more m n (word t rest) h s = omega (arith, s)
shrinks_more m n (crossing k) h s = tt
shrinks_more m n (flaw fault) h s = tt

size-past : (test : ℕ → Bool) (cs : Cells) → size (past test cs) ≤ size cs
unfolding past
size-past test (over p) = omega arith
size-past test (broken p) = omega arith
size-past test (beyond p c) = omega arith
size-past test (letter p c cs) = step (test c) (size-past test cs) where
  step : (b : Bool) → size (past test cs) ≤ size cs → size (elim b as (λ _. Cells) [ true ↦ past test cs | false ↦ letter p c cs ]) ≤ suc (size cs)
  step true h = omega (arith, h)
  step false h = omega arith

comment_shrinks : (start n half : ℕ) (cs : Cells) → Shrinks (suc (size cs)) (comment_from start n half cs)
unfolding comment_from
comment_shrinks start zero half cs = omega arith
comment_shrinks start (suc n) half (over p) = tt
comment_shrinks start (suc n) half (broken p) = tt
comment_shrinks start (suc n) half (beyond p c) = tt
comment_shrinks start (suc n) half (letter p c cs) =
    shrinks_more (suc (size cs)) (suc (suc (size cs))) _ (omega arith) (comment_shrinks start (open_behind (suc n) half c) (half_behind half c) cs)

string_shrinks : (start : ℕ) (closing : Bool) (cs : Cells) → Shrinks (suc (size cs)) (string_from start closing cs)
unfolding string_from
string_shrinks start false (over p) = tt
string_shrinks start false (broken p) = tt
string_shrinks start false (beyond p c) = tt
string_shrinks start false (letter p c cs) = shrinks_more (suc (size cs)) (suc (suc (size cs))) _ (omega arith) (string_shrinks start (c == 34) cs)
string_shrinks start true (over p) = omega arith
string_shrinks start true (broken p) = omega arith
string_shrinks start true (beyond p c) = step (c == 34) where
  step : (b : Bool) → Shrinks 1 (elim b as (λ _. Found) [ true ↦ crossing kind.Text | false ↦ token kind.Text start (beyond p c) ])
  step true = tt
  step false = omega arith
string_shrinks start true (letter p c cs) = step (c == 34) (string_shrinks start false cs) where
  step : (b : Bool) → Shrinks (suc (size cs)) (string_from start false cs) → Shrinks (suc (suc (size cs))) (elim b as (λ _. Found) [ true ↦ string_from start false cs | false ↦ token kind.Text start (letter p c cs) ])
  step true h = shrinks_more (suc (size cs)) (suc (suc (size cs))) _ (omega arith) h
  step false h = omega arith

name_shrinks : (p : ℕ) (cs : Cells) → Shrinks (suc (size cs)) (name_at p cs)
unfolding name_at
name_shrinks p cs = step (nat_lt longest_name (place (past continues_name cs) - p)) (goes_on continues_name (past continues_name cs)) (size-past continues_name cs) where
  step : (a b : Bool) → size (past continues_name cs) ≤ size cs → Shrinks (suc (size cs)) (if a then flaw (BadChar p) else if b then crossing kind.Name else token kind.Name p (past continues_name cs))
  step true b h = tt
  step false true h = tt
  step false false h = omega (arith, h)

number_shrinks : (p n k : ℕ) (rest : Cells) → size rest < k → Shrinks k (number_by p n rest)
unfolding number_by
number_shrinks p n k rest h = step (nat_le (2 ^ 128) n) (goes_on continues_name rest) (continues_name (front rest)) where
  step : (a b d : Bool) → Shrinks k (if a then flaw (BadNumber p) else if b then crossing (kind.Number n) else if d then flaw (BadNumber p) else token (kind.Number n) p rest)
  step true b d = tt
  step false true d = tt
  step false false true = tt
  step false false false = h

bullet_shrinks : (p c : ℕ) (cs : Cells) → Shrinks (suc (size cs)) (bullet_at p c cs)
unfolding bullet_at
bullet_shrinks p c cs = step (goes_on (λ d. d == c) (past (λ d. d == c) cs)) (size-past (λ d. d == c) cs) where
  step : (b : Bool) → size (past (λ d. d == c) cs) ≤ size cs → Shrinks (suc (size cs)) (if b then crossing (kind.Bullet c 5) else token (kind.Bullet c (min (place (past (λ d. d == c) cs) - p) 5)) p (past (λ d. d == c) cs))
  step true h = tt
  step false h = omega (arith, h)

pair_shrinks : (s : Symbol) (p : ℕ) (cs : Cells) → Shrinks (suc (size cs)) (pair_at s p cs)
unfolding pair_at
pair_shrinks s p (over q) = tt
pair_shrinks s p (broken q) = tt
pair_shrinks s p (beyond q c) = tt
pair_shrinks s p (letter q c cs) = omega arith

symbol_shrinks : (p c : ℕ) (cs : Cells) → Shrinks (suc (size cs)) (symbol_at p c cs)
unfolding symbol_at single_at
symbol_shrinks p c cs = step (pair_of c (front cs)) (single_of (is_clear cs) c) where
  step : (o w : Option Symbol) → Shrinks (suc (size cs)) (elim o as (λ _. Found) [ Some s ↦ pair_at s p cs | None ↦ elim w as (λ _. Found) [ Some s ↦ token (kind.Symbol s) p cs | None ↦ flaw (BadChar p) ] ])
  step (Some s) w = pair_shrinks s p cs
  step None (Some s) = omega arith
  step None None = tt

-- a number begins with a digit
abbrev pub IsNumber : Class → Type 0
IsNumber class.Number = Unit {0}
IsNumber _ = ⊥

unfoldable pub class_by : (blank comment bullet text digit low continued starts : Bool) → Class
class_by blank comment bullet text digit low continued starts =
    if blank then class.Blank
    else if comment then class.Comment
    else if bullet then class.Bullet
    else if text then class.Text
    else if digit then class.Number
    else if low then (if continued then class.Name else class.Symbol)
    else if starts then class.Name
    else class.Symbol

number_digit : (blank comment bullet text digit low continued starts : Bool) → IsNumber (class_by blank comment bullet text digit low continued starts) → digit ≡ true
unfolding class_by
number_digit true comment bullet text digit low continued starts h = absurd h
number_digit false true bullet text digit low continued starts h = absurd h
number_digit false false true text digit low continued starts h = absurd h
number_digit false false false true digit low continued starts h = absurd h
number_digit false false false false true low continued starts h = refl
number_digit false false false false false true true starts h = absurd h
number_digit false false false false false true false starts h = absurd h
number_digit false false false false false false continued true h = absurd h
number_digit false false false false false false continued false h = absurd h

pub class_of-by : (is_start : Bool) (c d : ℕ) →
    class_of is_start c d ≡ class_by (is_blank c) (opens_comment c d) (is_start && (c == 45 || c == 43 || c == 42)) (c == 34) (is_ascii_digit c) (c == 95) (continues_name d) (starts_name c)
unfolding class_of class_by
class_of-by is_start c d = refl

pub digit_first : (is_start : Bool) (c d : ℕ) → IsNumber (class_of is_start c d) → is_ascii_digit c ≡ true
digit_first is_start c d h = number_digit _ _ _ _ _ _ _ _ (subst IsNumber (class_of-by is_start c d) h)

digits_shrink : (p c : ℕ) (cs : Cells) → is_ascii_digit c ≡ true → size (past is_ascii_digit (letter p c cs)) < suc (size cs)
unfolding past
digits_shrink p c cs e = step (is_ascii_digit c) e (size-past is_ascii_digit cs) where
  step : (b : Bool) → b ≡ true → size (past is_ascii_digit cs) ≤ size cs → size (elim b as (λ _. Cells) [ true ↦ past is_ascii_digit cs | false ↦ letter p c cs ]) < suc (size cs)
  step true f h = omega (arith, h)
  step false f h = absurd cc

class_shrinks : (k : Class) (p c : ℕ) (cs : Cells) → (IsNumber k → is_ascii_digit c ≡ true) → Shrinks (suc (size cs)) (found_at k p c cs)
unfolding found_at comment_at
class_shrinks class.Blank p c cs h = omega arith
class_shrinks class.Comment p c (over q) h = tt
class_shrinks class.Comment p c (broken q) h = tt
class_shrinks class.Comment p c (beyond q d) h = tt
class_shrinks class.Comment p c (letter q d cs) h = shrinks_more (suc (size cs)) (suc (suc (size cs))) _ (omega arith) (comment_shrinks p 1 0 cs)
class_shrinks class.Bullet p c cs h = bullet_shrinks p c cs
class_shrinks class.Text p c cs h = string_shrinks p false cs
class_shrinks class.Number p c cs h = number_shrinks p (value_from 0 (letter p c cs)) (suc (size cs)) (past is_ascii_digit (letter p c cs)) (digits_shrink p c cs (h tt))
class_shrinks class.Name p c cs h = name_shrinks p cs
class_shrinks class.Symbol p c cs h = symbol_shrinks p c cs

-- what stands at the front leaves fewer characters
pub found_shrinks : (is_start : Bool) (cs : Cells) → Shrinks (size cs) (found is_start cs)
unfolding found
found_shrinks is_start (over p) = tt
found_shrinks is_start (broken p) = tt
found_shrinks is_start (beyond p c) = tt
found_shrinks is_start (letter p c cs) = class_shrinks (class_of is_start c (front cs)) p c cs (digit_first is_start c (front cs))

-- ---- more turns change nothing

unfoldable pub after_found : ℕ → List ℕ → List Token → Cells → Found → Result Next LexFault
after_found turns text ts cs f =
    elim f as (λ _. Result Next LexFault) [
      | nothing ↦ Ok (so_far ts)
      | bound ↦ Ok (so_far ts)
      | space rest ↦ gathered turns text ts rest
      | crossing k ↦ Ok (cut_off ts k (place cs))
      | flaw fault ↦ Err fault
      | word t rest ↦ elim (closes t.kind text ts) as (λ _. Result Next LexFault) [ true ↦ Ok (sentence (ts ++ t ∷ []) t.end) | false ↦ gathered turns text (ts ++ t ∷ []) rest ]
    ]

pub gathered-suc : (turns : ℕ) (text : List ℕ) (ts : List Token) (cs : Cells) → gathered (suc turns) text ts cs ≡ after_found turns text ts cs (found (is_empty ts) cs)
unfolding gathered after_found
gathered-suc turns text ts cs = refl

-- A sentence is the same for every bound on its turns that is more than the number of characters.
pub gathered_enough : (m n : ℕ) (text : List ℕ) (ts : List Token) (cs : Cells) → size cs < m → size cs < n → gathered m text ts cs ≡ gathered n text ts cs
unfolding after_found
gathered_enough zero n text ts cs h k = absurd (omega arith)
gathered_enough (suc m) zero text ts cs h k = absurd (omega arith)
gathered_enough (suc m) (suc n) text ts cs h k =
    gathered-suc m text ts cs ∙ step (found (is_empty ts) cs) (found_shrinks (is_empty ts) cs) (λ us rest less. gathered_enough m n text us rest (omega arith) (omega arith)) ∙ sym (gathered-suc n text ts cs) where
      chosen : (b : Bool) (x : Result Next LexFault) (y z : Result Next LexFault) → y ≡ z →
          elim b as (λ _. Result Next LexFault) [ true ↦ x | false ↦ y ] ≡ elim b as (λ _. Result Next LexFault) [ true ↦ x | false ↦ z ]
      chosen true x y z e = refl
      chosen false x y z e = e

      step : (f : Found) → Shrinks (size cs) f → ((us : List Token) (rest : Cells) → size rest < size cs → gathered m text us rest ≡ gathered n text us rest) → after_found m text ts cs f ≡ after_found n text ts cs f
      step nothing s others = refl
      step bound s others = refl
      step (space rest) s others = others ts rest s
      step (crossing c) s others = refl
      step (flaw fault) s others = refl
      step (word t rest) s others = chosen (closes t.kind text ts) (Ok (sentence (ts ++ t ∷ []) t.end)) _ _ (others (ts ++ t ∷ []) rest s)

unfoldable pub begun_by : ℕ → List ℕ → Cells → Bool → Found → Result Next LexFault
begun_by turns text cs is f =
    elim is as (λ _. Result Next LexFault) [
      | true ↦ behind_space (λ rest. begun turns text rest) f
      | false ↦ gathered (suc (length text)) text [] (window (place cs + longest) cs)
    ]

pub begun-suc : (turns : ℕ) (text : List ℕ) (cs : Cells) → begun (suc turns) text cs ≡ begun_by turns text cs (is_space cs) (found false cs)
unfolding begun begun_by
begun-suc turns text cs = refl

-- So is what comes first behind blanks and comments.
pub begun_enough : (m n : ℕ) (text : List ℕ) (cs : Cells) → size cs < m → size cs < n → begun m text cs ≡ begun n text cs
unfolding begun_by
begun_enough zero n text cs h k = absurd (omega arith)
begun_enough (suc m) zero text cs h k = absurd (omega arith)
begun_enough (suc m) (suc n) text cs h k =
    begun-suc m text cs ∙ step (is_space cs) (found false cs) (found_shrinks false cs) (λ rest less. begun_enough m n text rest (omega arith) (omega arith)) ∙ sym (begun-suc n text cs) where
      step : (is : Bool) (f : Found) → Shrinks (size cs) f → ((rest : Cells) → size rest < size cs → begun m text rest ≡ begun n text rest) → begun_by m text cs is f ≡ begun_by n text cs is f
      step false f s others = refl
      step true nothing s others = refl
      step true bound s others = refl
      step true (space rest) s others = others rest s
      step true (crossing c) s others = refl
      step true (flaw fault) s others = refl
      step true (word t rest) s others = refl

-- ---- a text has no more characters than bytes

size_by : (o : Option ℕ) (at : ℕ) (rest : Cells) → size (elim o as (λ _. Cells) [ None ↦ broken at | Some c ↦ letter at c rest ]) ≤ suc (size rest)
size_by None at rest = omega arith
size_by (Some c) at rest = omega arith

size-cells : (k at : ℕ) (bs : List ℕ) → size (cells_from k at bs) ≤ length bs
unfolding cells_from
size-cells k at [] = omega arith
size-cells (suc k) at (b ∷ bs) = omega (arith, size-cells k (at + 1) bs)
size-cells zero at (b ∷ bs) =
    let rest = size-cells ((decoded (b ∷ bs)).size - 1) (at + 1) bs in
    omega (arith, rest, size_by (decoded (b ∷ bs)).char at (cells_from ((decoded (b ∷ bs)).size - 1) (at + 1) bs))

pub size-window : (limit : ℕ) (cs : Cells) → size (window limit cs) ≤ size cs
unfolding window
size-window limit (over p) = omega arith
size-window limit (broken p) = step (nat_lt p limit) where
  step : (b : Bool) → size (elim b as (λ _. Cells) [ true ↦ broken p | false ↦ beyond p 0 ]) ≤ 0
  step true = omega arith
  step false = omega arith
size-window limit (beyond p c) = omega arith
size-window limit (letter p c cs) = step (nat_le (place cs) limit) (size-window limit cs) where
  step : (b : Bool) → size (window limit cs) ≤ size cs → size (elim b as (λ _. Cells) [ true ↦ letter p c (window limit cs) | false ↦ beyond p c ]) ≤ suc (size cs)
  step true h = omega (arith, h)
  step false h = omega arith

pub size-text : (text : List ℕ) (at : ℕ) → size (cells at (drop at text)) ≤ length text
size-text text at = omega (arith, size-cells 0 at (drop at text), length-drop at text)

-- What a text has next is the same for every bound on the turns that is more than its number of bytes.
pub next_enough : (turns : ℕ) (text : List ℕ) (at : ℕ) → length text < turns → begun turns text (cells at (drop at text)) ≡ next text at
unfolding next
next_enough turns text at h = begun_enough turns (suc (length text)) text (cells at (drop at text)) (omega (arith, size-text text at)) (omega (arith, size-text text at))
