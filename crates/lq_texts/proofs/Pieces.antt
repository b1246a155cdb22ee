-- Printed texts as words and blanks.
use Rattle.std.proofs.Common.{◌≡◌, ℕ, zero, suc, ◌+◌, ◌<◌, ◌≤◌, Bool, true, false, List, [], ◌∷◌, ◌++◌, drop, length, Some, refl, ap, ◌∙◌, arith, length-append, append_assoc}
use Rattle.std.specs.Prelude.{codes, decimal}
use Rattle.bstr.specs.Utf8.{decoded}
use Rattle.lq_grammar.specs.declared.token.Symbol.{Symbol}
use Rattle.lq_grammar.specs.declared.token.Symbol.TheVariants as sign
use Rattle.lq_grammar.specs.declared.token.Token.{Token}
use Rattle.lq_grammar.specs.declared.token.TokenKind.{TokenKind}
use Rattle.lq_grammar.specs.declared.token.TokenKind.TheVariants as kind
use Rattle.lq_grammar.specs.Selectors.{closes}
use Rattle.lq_sentences.specs.Words.{Word, Words, name, number, symbol}
use Rattle.lq_texts.proofs.NameLexing.{FoundTo, IsLexed, name_found}
use Rattle.lq_texts.proofs.Runs.{IsEnd, Ends}
use Rattle.lq_texts.proofs.SignLexing.{close_found, comma_found, colon_found, blank_found, open_found, becomes_found, maps_found, arrow_found}
use Rattle.lq_texts.proofs.DigitLexing.{level_found}

-- a blank, or a word
pub data Piece : Type 0 where
  blank : Piece
  said : Word → Piece

-- the signs of printed terms
abbrev pub sign_text : Symbol → List ℕ
sign_text sign.ColonEqual = codes ":="
sign_text sign.FatArrow = codes "=>"
sign_text sign.Arrow = codes "->"
sign_text sign.OpenRound = codes "("
sign_text sign.CloseRound = codes ")"
sign_text sign.Colon = codes ":"
sign_text sign.Comma = codes ","
sign_text sign.Underscore = codes "_"
sign_text _ = []

abbrev pub spelling : Word → List ℕ
spelling (name x) = x
spelling (number n) = decimal n
spelling (symbol s) = sign_text s
spelling _ = []

abbrev pub bytes : List Piece → List ℕ
bytes [] = []
bytes (blank ∷ ps) = 32 ∷ bytes ps
bytes (said w ∷ ps) = spelling w ++ bytes ps

abbrev pub kind_of : Word → TokenKind
kind_of (number n) = kind.Number n
kind_of (symbol s) = kind.Symbol s
kind_of _ = kind.Name

-- the tokens of some pieces from a place on, and their words
abbrev pub tokens : ℕ → List Piece → List Token
tokens at [] = []
tokens at (blank ∷ ps) = tokens (at + 1) ps
tokens at (said w ∷ ps) = record { kind = kind_of w; start = at; end = at + length (spelling w) } ∷ tokens (at + length (spelling w)) ps

abbrev pub placed : ℕ → List Piece → Words
placed at [] = []
placed at (blank ∷ ps) = placed (at + 1) ps
placed at (said w ∷ ps) = (w, at) ∷ placed (at + length (spelling w)) ps

-- a word that is printed as one token
abbrev pub IsUsed : Symbol → Type 0
IsUsed sign.ColonEqual = Unit {0}
IsUsed sign.FatArrow = Unit {0}
IsUsed sign.Arrow = Unit {0}
IsUsed sign.OpenRound = Unit {0}
IsUsed sign.CloseRound = Unit {0}
IsUsed sign.Colon = Unit {0}
IsUsed sign.Comma = Unit {0}
IsUsed sign.Underscore = Unit {0}
IsUsed _ = ⊥

abbrev pub IsSayable : Word → Type 0
IsSayable (name x) = IsLexed x
IsSayable (number n) = n ≤ 3
IsSayable (symbol s) = IsUsed s
IsSayable _ = ⊥

-- the bytes begin with a character that is no `*`
abbrev pub Opens : List ℕ → Type 0
Opens bs = (c : ℕ) × ((decoded bs).char ≡ Some c) × (c ≡ 42 → ⊥)

-- what may stand directly behind a word
abbrev pub Fits : Word → List ℕ → Type 0
Fits (symbol sign.OpenRound) more = Opens more
Fits _ more = Ends more

-- each word is one token, with some bytes behind all
abbrev pub Fine : List Piece → List ℕ → Type 0
Fine [] tail = Unit {0}
Fine (blank ∷ ps) tail = Fine ps tail
Fine (said w ∷ ps) tail = IsSayable w × Fits w (bytes ps ++ tail) × Fine ps tail

pub bytes_append : (ps qs : List Piece) → bytes (ps ++ qs) ≡ bytes ps ++ bytes qs
bytes_append [] qs = refl
bytes_append (blank ∷ ps) qs = ap (λ bs. 32 ∷ bs) (bytes_append ps qs)
bytes_append (said w ∷ ps) qs =
    ap (λ bs. spelling w ++ bs) (bytes_append ps qs) ∙ Rattle.std.proofs.Common.sym (append_assoc (spelling w) (bytes ps) (bytes qs))

pub placed_append : (at : ℕ) (ps qs : List Piece) → placed at (ps ++ qs) ≡ placed at ps ++ placed (at + length (bytes ps)) qs
placed_append at [] qs = let e : at ≡ at + 0 = omega arith in ap (λ p. placed p qs) e
placed_append at (blank ∷ ps) qs = let e : at + 1 + length (bytes ps) ≡ at + suc (length (bytes ps)) =
    omega arith in placed_append (at + 1) ps qs ∙ ap (λ p. placed (at + 1) ps ++ placed p qs) e
placed_append at (said w ∷ ps) qs =
    let e : at + length (spelling w) + length (bytes ps) ≡ at + length (spelling w ++ bytes ps) = omega (arith, length-append (spelling w) (bytes ps)) in
    ap (λ ws. (w, at) ∷ ws) (placed_append (at + length (spelling w)) ps qs ∙ ap (λ p. placed (at + length (spelling w)) ps ++ placed p qs) e)

fits_is : (w : Word) (xs ys : List ℕ) → xs ≡ ys → Fits w xs → Fits w ys
fits_is w xs ys e h = Rattle.std.proofs.Common.subst (Fits w) e h

pub fine_append : (ps qs : List Piece) (tail : List ℕ) → Fine ps (bytes qs ++ tail) → Fine qs tail → Fine (ps ++ qs) tail
fine_append [] qs tail h k = k
fine_append (blank ∷ ps) qs tail h k = fine_append ps qs tail h k
fine_append (said w ∷ ps) qs tail h k =
    let e =
    Rattle.std.proofs.Common.sym (append_assoc (bytes ps) (bytes qs) tail) ∙ ap (λ bs. bs ++ tail) (Rattle.std.proofs.Common.sym (bytes_append ps qs)) in
    (h.0, fits_is w (bytes ps ++ (bytes qs ++ tail)) (bytes (ps ++ qs) ++ tail) e h.1, fine_append ps qs tail h.2 k)

-- ---- each word is found

pub closes_none : (w : Word) → IsSayable w → (text : List ℕ) (ts : List Token) → closes (kind_of w) text ts ≡ false
unfolding closes
closes_none (name x) h text ts = refl
closes_none (number n) h text ts = refl
closes_none (symbol sign.ColonEqual) h text ts = refl
closes_none (symbol sign.FatArrow) h text ts = refl
closes_none (symbol sign.Arrow) h text ts = refl
closes_none (symbol sign.OpenRound) h text ts = refl
closes_none (symbol sign.CloseRound) h text ts = refl
closes_none (symbol sign.Colon) h text ts = refl
closes_none (symbol sign.Comma) h text ts = refl
closes_none (symbol sign.Underscore) h text ts = refl
closes_none _ h text ts = absurd h

ends_is : (more : List ℕ) → Ends more → (d : ℕ) × (rest : List ℕ) × (more ≡ d ∷ rest) × IsEnd d
ends_is [] h = absurd h
ends_is (d ∷ ds) h = (d, ds, refl, h)

sign_found : (L : ℕ) (text : List ℕ) (at : ℕ) (s : Symbol) (more : List ℕ) → IsUsed s → Fits (symbol s) more → drop at text ≡ sign_text s ++ more →
    FoundTo L text at (at + length (sign_text s)) (kind.Symbol s)
sign_found L text at sign.OpenRound more h f e = open_found L text at f.0 more e f.1 f.2
sign_found L text at sign.ColonEqual more h f e = becomes_found L text at more e
sign_found L text at sign.FatArrow more h f e = maps_found L text at more e
sign_found L text at sign.Arrow more h f e = arrow_found L text at more e
sign_found L text at sign.CloseRound more h f e = let x = ends_is more f in close_found L text at x.0 x.1 x.3 (e ∙ ap (λ m. 41 ∷ m) x.2)
sign_found L text at sign.Colon more h f e = let x = ends_is more f in colon_found L text at x.0 x.1 x.3 (e ∙ ap (λ m. 58 ∷ m) x.2)
sign_found L text at sign.Comma more h f e = let x = ends_is more f in comma_found L text at x.0 x.1 x.3 (e ∙ ap (λ m. 44 ∷ m) x.2)
sign_found L text at sign.Underscore more h f e = let x = ends_is more f in blank_found L text at x.0 x.1 x.3 (e ∙ ap (λ m. 95 ∷ m) x.2)
sign_found L text at _ more h f e = absurd h

pub word_found : (L : ℕ) (text : List ℕ) (at : ℕ) (w : Word) (more : List ℕ) → IsSayable w → Fits w more → drop at text ≡ spelling w ++ more →
    FoundTo L text at (at + length (spelling w)) (kind_of w)
word_found L text at (name x) more h f e = let y = ends_is more f in name_found L text at y.0 x y.1 y.3 h (e ∙ ap (λ m. x ++ m) y.2)
word_found L text at (number n) more h f e = let y = ends_is more f in level_found L text at n y.0 y.1 h y.3 (e ∙ ap (λ m. decimal n ++ m) y.2)
word_found L text at (symbol s) more h f e = sign_found L text at s more h f e
word_found L text at _ more h f e = absurd h
