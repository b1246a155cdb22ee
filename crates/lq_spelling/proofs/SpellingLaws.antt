-- The bytes of a token that is found in a text.
use Rattle.std.proofs.Common.{◌≡◌, ℕ, zero, suc, ◌+◌, ◌-◌, ◌<◌, ◌≤◌, min, Bool, true, false, List, [], ◌∷◌, ◌++◌, drop, take, length, Option, Some, None, Result, Ok, Err, refl, sym, ap, ◌∙◌, subst, arith, length-drop, length-take-le, drop-drop, if◌then◌else◌}
use Rattle.std.specs.Prelude.{nat_lt, nat_le, ◌==◌, ◌&&◌, ◌^◌, slice_range, IsUtf8}
use Rattle.std.proofs.Math.Seq.{take-append-add}
use Rattle.std.proofs.lemmas.List.{take_at}
use Rattle.bstr.proofs.lemmas.PieceLemmas.{piece-bounds}
use Rattle.std.specs.Char.{is_ascii_digit, encode_utf8, IsScalar}
use Rattle.std.proofs.lemmas.List.Folds.{drop_split}
use Rattle.std.proofs.lemmas.Str.{IsUtf8-nil, IsUtf8-encode, IsUtf8-append}
use Rattle.bstr.specs.Utf8.{decoded}
use Rattle.bstr.proofs.lemmas.SoundLemmas.{SpellsChar, SpellsChar-decoded}
use Rattle.lq_grammar.specs.declared.fault.LexFault.TheVariants.{BadChar, BadNumber}
use Rattle.lq_grammar.specs.declared.token.Class.{Class}
use Rattle.lq_grammar.specs.declared.token.Class.TheVariants as class
use Rattle.lq_grammar.specs.declared.token.Symbol.{Symbol}
use Rattle.lq_grammar.specs.declared.token.TokenKind.TheVariants as kind
use Rattle.lq_grammar.specs.Cells.{Cells, over, broken, beyond, letter, cells_from, place, front, window, past, goes_on}
use Rattle.lq_grammar.specs.Tokens.{Found, nothing, bound, space, word, crossing, flaw, token, continues_name, open_behind, half_behind, comment_from, comment_at, string_from, longest_name, name_at, value_from, number_by, bullet_at, pair_of, single_of, is_clear, single_at, pair_at, symbol_at, class_of, found_at, found}
use Rattle.lq_grammar.proofs.CellLaws.{place_window}
use Rattle.lq_grammar.proofs.Turns.{class_by, class_of-by}
use Rattle.lq_spelling.specs.Spellings.{Spells}

-- ---- bytes between two places

abbrev pub between : List ℕ → ℕ → ℕ → List ℕ
between text p q = slice_range text p q

pub length_between : (text : List ℕ) (p q : ℕ) → p ≤ q → q ≤ length text → length (between text p q) ≡ q - p
length_between text p q h k = length-take-le (q - p) (drop p text) (omega (arith, length-drop p text))

pub between_split : (text : List ℕ) (p q r : ℕ) → p ≤ q → q ≤ r → q ≤ length text → between text p r ≡ between text p q ++ between text q r
between_split text p q r h k l =
    let n : r - p ≡ length (between text p q) + (r - q) = omega (arith, length_between text p q h l) in
    ap (λ bs. take (r - p) bs) (drop_split text p q h)
    ∙ ap (λ m. take m (between text p q ++ drop q text)) n
    ∙ take-append-add (between text p q) (drop q text) (r - q)

pub between_none : (text : List ℕ) (p : ℕ) → between text p p ≡ []
between_none text p = let z : p - p ≡ 0 = omega arith in ap (λ n. take n (drop p text)) z

-- ---- cells of a text

-- the letters are characters of the text, each in its UTF-8, up to a place in the text
abbrev pub IsText : List ℕ → Cells → Type 0
IsText text (letter p c cs) = (between text p (place cs) ≡ encode_utf8 c) × IsScalar c × (p ≤ place cs) × (place cs ≤ length text) × IsText text cs
IsText text _ = Unit {0}

-- the letters of a text from a place on; `skipped` counts the bytes that belong to the character before
drop_next : (text : List ℕ) (at b : ℕ) (bs : List ℕ) → b ∷ bs ≡ drop at text → bs ≡ drop (at + 1) text
drop_next text at b bs e = ap (drop 1) e ∙ drop-drop 1 at text

fits : (text : List ℕ) (at : ℕ) (bs : List ℕ) → bs ≡ drop at text → 0 < length bs → at + length bs ≡ length text
fits text at bs e h = let n : length bs ≡ length text - at = ap length e ∙ length-drop at text in omega (arith, n, h)

-- the first letter, where the rest behind it is text
first_text : (text : List ℕ) (at b : ℕ) (bs : List ℕ) → b ∷ bs ≡ drop at text → (1 ≤ (decoded (b ∷ bs)).size) × ((decoded (b ∷ bs)).size ≤ length (b ∷ bs)) →
    IsText text (cells_from ((decoded (b ∷ bs)).size - 1) (at + 1) bs) × (place (cells_from ((decoded (b ∷ bs)).size - 1) (at + 1) bs) ≡ at + 1 + ((decoded (b ∷ bs)).size - 1)) →
    IsText text (elim (decoded (b ∷ bs)).char as (λ _. Cells) [ None ↦ broken at | Some c ↦ letter at c (cells_from ((decoded (b ∷ bs)).size - 1) (at + 1) bs) ])
    × (place (elim (decoded (b ∷ bs)).char as (λ _. Cells) [ None ↦ broken at | Some c ↦ letter at c (cells_from ((decoded (b ∷ bs)).size - 1) (at + 1) bs) ]) ≡ at + 0)
unfolding place
first_text text at b bs e sizes rest_text = step (decoded (b ∷ bs)).char refl
  where
    step : (o : Option ℕ) → (decoded (b ∷ bs)).char ≡ o →
        IsText text (elim o as (λ _. Cells) [ None ↦ broken at | Some c ↦ letter at c (cells_from ((decoded (b ∷ bs)).size - 1) (at + 1) bs) ])
        × (place (elim o as (λ _. Cells) [ None ↦ broken at | Some c ↦ letter at c (cells_from ((decoded (b ∷ bs)).size - 1) (at + 1) bs) ]) ≡ at + 0)
    step None f = (tt, omega arith)
    step (Some c) f =
        let size = (decoded (b ∷ bs)).size in
        let rest = cells_from (size - 1) (at + 1) bs in
        let behind : place rest ≡ at + size = omega (arith, rest_text.1, sizes.0) in
        let spelled = SpellsChar-decoded (b ∷ bs) c f in
        let width : place rest - at ≡ size = omega (arith, behind) in
        let front : between text at (place rest) ≡ encode_utf8 c =
        ap (λ n. take n (drop at text)) width ∙ ap (take size) (sym e ∙ spelled.bytes) ∙ take_at (encode_utf8 c) (drop size (b ∷ bs)) size spelled.width in
        let ends = fits text at (b ∷ bs) e (omega arith) in
        ((front, spelled.scalar, omega (arith, behind), omega (arith, behind, ends, sizes.1), rest_text.0), omega arith)

cells_text : (text : List ℕ) (skipped at : ℕ) (bs : List ℕ) → bs ≡ drop at text → skipped ≤ length bs → IsText text (cells_from skipped at bs) × (place (cells_from skipped at bs) ≡ at + skipped)
unfolding cells_from place
cells_text text zero at [] e h = (tt, omega arith)
cells_text text (suc k) at [] e h = absurd (omega arith)
cells_text text (suc k) at (b ∷ bs) e h =
    let r = cells_text text k (at + 1) bs (drop_next text at b bs e) (omega arith) in (r.0, r.1 ∙ omega arith)
cells_text text zero at (b ∷ bs) e h =
    let all = piece-bounds (b ∷ bs) (omega arith) in
    first_text text at b bs e (all.0, all.2) (cells_text text ((decoded (b ∷ bs)).size - 1) (at + 1) bs (drop_next text at b bs e) (omega (arith, all.2)))

pub window_text : (text : List ℕ) (limit : ℕ) (cs : Cells) → IsText text cs → IsText text (window limit cs)
unfolding window
window_text text limit (over p) h = tt
window_text text limit (broken p) h = step (nat_lt p limit)
  where
    step : (b : Bool) → IsText text (elim b as (λ _. Cells) [ true ↦ broken p | false ↦ beyond p 0 ])
    step true = tt
    step false = tt
window_text text limit (beyond p c) h = tt
window_text text limit (letter p c cs) h = step (nat_le (place cs) limit) (place_window limit cs) (window_text text limit cs h.4)
  where
    step : (b : Bool) → place (window limit cs) ≡ place cs → IsText text (window limit cs) → IsText text (elim b as (λ _. Cells) [ true ↦ letter p c (window limit cs) | false ↦ beyond p c ])
    step true same rest = (ap (between text p) same ∙ h.0, h.1, omega (arith, same, h.2), omega (arith, same, h.3), rest)
    step false same rest = tt

pub text_cells : (text : List ℕ) (at : ℕ) → IsText text (cells_from 0 at (drop at text))
text_cells text at = (cells_text text 0 at (drop at text) refl (omega arith)).0

-- ---- runs of characters

-- what stands from one place to another is a text, and cells of the text follow
abbrev pub Runs : List ℕ → Cells → Cells → Type 0
Runs text cs rest = IsUtf8 (between text (place cs) (place rest)) × (place cs ≤ place rest) × IsText text rest

no_run : (text : List ℕ) (p : ℕ) → IsUtf8 (between text p p)
no_run text p = subst IsUtf8 (sym (between_none text p)) IsUtf8-nil

-- a character and what follows
pub one_more : (text : List ℕ) (p c r : ℕ) (cs : Cells) → IsText text (letter p c cs) → place cs ≤ r → between text p r ≡ encode_utf8 c ++ between text (place cs) r
one_more text p c r cs h k = between_split text p (place cs) r h.2 k h.3 ∙ ap (λ bs. bs ++ between text (place cs) r) h.0

one_text : (text : List ℕ) (p c r : ℕ) (cs : Cells) → IsText text (letter p c cs) → place cs ≤ r → IsUtf8 (between text (place cs) r) → IsUtf8 (between text p r)
one_text text p c r cs h k u = subst IsUtf8 (sym (one_more text p c r cs h k)) (IsUtf8-append (encode_utf8 c) (between text (place cs) r) (IsUtf8-encode c h.1) u)

pub past_runs : (text : List ℕ) (test : ℕ → Bool) (cs : Cells) → IsText text cs → Runs text cs (past test cs)
unfolding past place
past_runs text test (over p) h = (no_run text p, omega arith, tt)
past_runs text test (broken p) h = (no_run text p, omega arith, tt)
past_runs text test (beyond p c) h = (no_run text p, omega arith, tt)
past_runs text test (letter p c cs) h = step (test c) (past_runs text test cs h.4)
  where
    step : (b : Bool) → Runs text cs (past test cs) → Runs text (letter p c cs) (elim b as (λ _. Cells) [ true ↦ past test cs | false ↦ letter p c cs ])
    step true r = (one_text text p c (place (past test cs)) cs h r.1 r.0, omega (arith, h.2, r.1), r.2)
    step false r = (no_run text p, omega arith, h)

-- ---- what is found

abbrev pub IsRead : List ℕ → Found → Type 0
IsRead text (word t rest) = Spells t.kind (between text t.start t.end) × IsText text rest
IsRead text (space rest) = IsText text rest
IsRead text _ = Unit {0}

comment_reads : (text : List ℕ) (start depth half : ℕ) (cs : Cells) → IsText text cs → IsRead text (comment_from start depth half cs)
unfolding comment_from
comment_reads text start zero half cs h = h
comment_reads text start (suc k) half (over p) h = tt
comment_reads text start (suc k) half (broken p) h = tt
comment_reads text start (suc k) half (beyond p c) h = tt
comment_reads text start (suc k) half (letter p c cs) h = comment_reads text start (open_behind (suc k) half c) (half_behind half c) cs h.4

pub comment_found : (text : List ℕ) (p : ℕ) (cs : Cells) → IsText text cs → IsRead text (comment_at p cs)
unfolding comment_at
comment_found text p (over q) h = tt
comment_found text p (broken q) h = tt
comment_found text p (beyond q d) h = tt
comment_found text p (letter q d cs) h = comment_reads text p 1 0 cs h.4

pub name_reads : (text : List ℕ) (p c : ℕ) (cs : Cells) → IsText text (letter p c cs) → IsRead text (name_at p cs)
unfolding name_at
name_reads text p c cs h = step (nat_lt longest_name (place (past continues_name cs) - p)) (goes_on continues_name (past continues_name cs)) (past_runs text continues_name cs h.4)
  where
    step : (a b : Bool) → Runs text cs (past continues_name cs) →
        IsRead text (if a then flaw (BadChar p) else if b then crossing kind.Name else token kind.Name p (past continues_name cs))
    step true b r = tt
    step false true r = tt
    step false false r = (one_text text p c (place (past continues_name cs)) cs h r.1 r.0, r.2)

pub number_reads : (text : List ℕ) (p m : ℕ) (rest : Cells) → IsText text rest → IsRead text (number_by p m rest)
unfolding number_by
number_reads text p m rest h = step (nat_le (2 ^ 128) m) (goes_on continues_name rest) (continues_name (front rest))
  where
    step : (a b d : Bool) → IsRead text (if a then flaw (BadNumber p) else if b then crossing (kind.Number m) else if d then flaw (BadNumber p) else token (kind.Number m) p rest)
    step true b d = tt
    step false true d = tt
    step false false true = tt
    step false false false = (tt, h)

pub bullet_reads : (text : List ℕ) (p c : ℕ) (cs : Cells) → IsText text cs → IsRead text (bullet_at p c cs)
unfolding bullet_at
bullet_reads text p c cs h = step (goes_on (λ d. d == c) (past (λ d. d == c) cs)) (past_runs text (λ d. d == c) cs h)
  where
    step : (b : Bool) → Runs text cs (past (λ d. d == c) cs) →
        IsRead text (if b then crossing (kind.Bullet c 5) else token (kind.Bullet c (min (place (past (λ d. d == c) cs) - p) 5)) p (past (λ d. d == c) cs))
    step true r = tt
    step false r = (tt, r.2)

pair_reads : (text : List ℕ) (p : ℕ) (s : Symbol) (cs : Cells) → IsText text cs → IsRead text (pair_at s p cs)
unfolding pair_at
pair_reads text p s (over q) h = tt
pair_reads text p s (broken q) h = tt
pair_reads text p s (beyond q d) h = tt
pair_reads text p s (letter q d cs) h = (tt, h.4)

pub symbol_reads : (text : List ℕ) (p c : ℕ) (cs : Cells) → IsText text cs → IsRead text (symbol_at p c cs)
unfolding symbol_at single_at
symbol_reads text p c cs h = step (pair_of c (front cs)) (single_of (is_clear cs) c)
  where
    step : (o w : Option Symbol) →
        IsRead text (elim o as (λ _. Found) [ Some s ↦ pair_at s p cs | None ↦ elim w as (λ _. Found) [ Some s ↦ token (kind.Symbol s) p cs | None ↦ flaw (BadChar p) ] ])
    step (Some s) w = pair_reads text p s cs h
    step None (Some s) = (tt, h)
    step None None = tt
