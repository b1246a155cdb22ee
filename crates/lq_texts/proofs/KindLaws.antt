-- Only a name is a token of that kind.
use Rattle.std.proofs.Common.{◌≡◌, ℕ, zero, suc, ◌-◌, ◌^◌, min, Bool, true, false, Option, Some, None, refl, if◌then◌else◌, inl, inr}
use Rattle.std.specs.Prelude.{◌⊎◌, nat_le, ◌==◌}
use Rattle.lq_grammar.specs.declared.fault.LexFault.TheVariants.{BadChar, BadNumber}
use Rattle.lq_grammar.specs.declared.token.Class.{Class}
use Rattle.lq_grammar.specs.declared.token.Class.TheVariants as class
use Rattle.lq_grammar.specs.declared.token.Symbol.{Symbol}
use Rattle.lq_grammar.specs.declared.token.TokenKind.{TokenKind}
use Rattle.lq_grammar.specs.declared.token.TokenKind.TheVariants as kind
use Rattle.lq_grammar.specs.Cells.{Cells, over, broken, beyond, letter, place, front, past, goes_on}
use Rattle.lq_grammar.specs.Tokens.{Found, word, crossing, flaw, token, continues_name, comment_from, comment_at, open_behind, half_behind, string_from, number_by, bullet_at, pair_of, single_of, is_clear, single_at, pair_at, symbol_at, found_at}

-- ---- only a name is a token of that kind

abbrev pub IsNameKind : TokenKind → Type 0
IsNameKind kind.Name = Unit {0}
IsNameKind _ = ⊥

abbrev pub NotNamed : Found → Type 0
NotNamed (word t rest) = IsNameKind t.kind → ⊥
NotNamed _ = Unit {0}

pub comment_not : (start n half : ℕ) (cs : Cells) → NotNamed (comment_from start n half cs)
unfolding comment_from
comment_not start zero half cs = tt
comment_not start (suc n) half (over p) = tt
comment_not start (suc n) half (broken p) = tt
comment_not start (suc n) half (beyond p c) = tt
comment_not start (suc n) half (letter p c cs) = comment_not start (open_behind (suc n) half c) (half_behind half c) cs

pub string_not : (start : ℕ) (closing : Bool) (cs : Cells) → NotNamed (string_from start closing cs)
unfolding string_from
string_not start false (over p) = tt
string_not start false (broken p) = tt
string_not start false (beyond p c) = tt
string_not start false (letter p c cs) = string_not start (c == 34) cs
string_not start true (over p) = λ h. h
string_not start true (broken p) = λ h. h
string_not start true (beyond p c) = step (c == 34)
  where
    step : (b : Bool) → NotNamed (elim b as (λ _. Found) [ true ↦ crossing kind.Text | false ↦ token kind.Text start (beyond p c) ])
    step true = tt
    step false = λ h. h
string_not start true (letter p c cs) = step (c == 34) (string_not start false cs)
  where
    step : (b : Bool) → NotNamed (string_from start false cs) →
        NotNamed (elim b as (λ _. Found) [ true ↦ string_from start false cs | false ↦ token kind.Text start (letter p c cs) ])
    step true k = k
    step false k = λ h. h

pub number_not : (p n : ℕ) (rest : Cells) → NotNamed (number_by p n rest)
unfolding number_by
number_not p n rest = step (nat_le (2 ^ 128) n) (goes_on continues_name rest) (continues_name (front rest))
  where
    step : (a b d : Bool) →
        NotNamed (if a then flaw (BadNumber p) else if b then crossing (kind.Number n) else if d then flaw (BadNumber p) else token (kind.Number n) p rest)
    step true b d = tt
    step false true d = tt
    step false false true = tt
    step false false false = λ h. h

pub bullet_not : (p c : ℕ) (cs : Cells) → NotNamed (bullet_at p c cs)
unfolding bullet_at
bullet_not p c cs = step (goes_on (λ d. d == c) (past (λ d. d == c) cs))
  where
    step : (b : Bool) →
        NotNamed (if b then crossing (kind.Bullet c 5) else token (kind.Bullet c (min (place (past (λ d. d == c) cs) - p) 5)) p (past (λ d. d == c) cs))
    step true = tt
    step false = λ h. h

pub pair_not : (s : Symbol) (p : ℕ) (cs : Cells) → NotNamed (pair_at s p cs)
unfolding pair_at
pair_not s p (over q) = tt
pair_not s p (broken q) = tt
pair_not s p (beyond q c) = tt
pair_not s p (letter q c cs) = λ h. h

pub symbol_not : (p c : ℕ) (cs : Cells) → NotNamed (symbol_at p c cs)
unfolding symbol_at single_at
symbol_not p c cs = step (pair_of c (front cs)) (single_of (is_clear cs) c)
  where
    step : (o w : Option Symbol) → NotNamed
        (elim o as (λ _. Found) [ Some s ↦ pair_at s p cs | None ↦ elim w as (λ _. Found) [ Some s ↦ token (kind.Symbol s) p cs | None ↦ flaw (BadChar p) ] ])
    step (Some s) w = pair_not s p cs
    step None (Some s) = λ h. h
    step None None = tt

pub class_not : (k : Class) (p c : ℕ) (cs : Cells) → NotNamed (found_at k p c cs) ⊎ (k ≡ class.Name)
unfolding found_at comment_at
class_not class.Blank p c cs = inl tt
class_not class.Comment p c (over q) = inl tt
class_not class.Comment p c (broken q) = inl tt
class_not class.Comment p c (beyond q d) = inl tt
class_not class.Comment p c (letter q d cs) = inl (comment_not p 1 0 cs)
class_not class.Bullet p c cs = inl (bullet_not p c cs)
class_not class.Text p c cs = inl (string_not p false cs)
class_not class.Number p c cs = inl (number_not p _ _)
class_not class.Name p c cs = inr refl
class_not class.Symbol p c cs = inl (symbol_not p c cs)
