-- Where `{` ends a sentence: at its start, and behind a selector and `:`.
use Rattle.std.specs.Prelude.{ℕ, Bool, true, false, not, ◌&&◌, ◌||◌, List, [], ◌∷◌, Option, Some, None, codes, slice_range, bytes_eq}
use Rattle.std.specs.List.{list_any}
use Rattle.lq_grammar.specs.declared.selector.RangePart.{RangePart}
use Rattle.lq_grammar.specs.declared.selector.RangePart.TheVariants.{First, Behind, Last, Done}
use Rattle.lq_grammar.specs.declared.token.Symbol.TheVariants as sign
use Rattle.lq_grammar.specs.declared.token.Token.{Token}
use Rattle.lq_grammar.specs.declared.token.TokenKind.{TokenKind}
use Rattle.lq_grammar.specs.declared.token.TokenKind.TheVariants as kind

-- the bytes of a token
abbrev pub spelled : List ℕ → Token → List ℕ
spelled text t = slice_range text t.start t.end

-- the words that are no names
abbrev pub reserved : List (List ℕ)
reserved =
    codes "forall" ∷ codes "fun" ∷ codes "let" ∷ codes "in" ∷ codes "Prop" ∷ codes "Type" ∷ codes "match" ∷ codes "lazymatch" ∷ codes "multimatch" ∷ codes "with" ∷ codes "end" ∷ codes "rec" ∷ codes "as" ∷ []

abbrev pub is_reserved : List ℕ → Bool
is_reserved w = list_any (λ r. bytes_eq r w) reserved

-- ---- tests of a token's kind

abbrev pub is_word : TokenKind → Bool
is_word kind.Name = true
is_word _ = false

abbrev pub is_colon : TokenKind → Bool
is_colon (kind.Symbol sign.Colon) = true
is_colon _ = false

abbrev pub is_bang : TokenKind → Bool
is_bang (kind.Symbol sign.Bang) = true
is_bang _ = false

abbrev pub is_open_square : TokenKind → Bool
is_open_square (kind.Symbol sign.OpenSquare) = true
is_open_square _ = false

abbrev pub is_close_square : TokenKind → Bool
is_close_square (kind.Symbol sign.CloseSquare) = true
is_close_square _ = false

-- ---- `all:`, `par:` and `!:`

abbrev pub is_word_selector : List ℕ → List Token → Bool
is_word_selector text (a ∷ b ∷ []) =
    is_colon b.kind && (is_bang a.kind || (is_word a.kind && (bytes_eq (spelled text a) (codes "all") || bytes_eq (spelled text a) (codes "par"))))
is_word_selector text _ = false

-- ---- `[name]:`

abbrev pub is_named_selector : List ℕ → List Token → Bool
is_named_selector text (a ∷ b ∷ c ∷ d ∷ []) =
    is_open_square a.kind && is_word b.kind && not (is_reserved (spelled text b)) && is_close_square c.kind && is_colon d.kind
is_named_selector text _ = false

-- ---- `1, 3-4:`

-- what comes next in a list of ranges behind a token that goes on with it
abbrev pub next_part : RangePart → TokenKind → Option RangePart
next_part First (kind.Number n) = Some Behind
next_part Behind (kind.Symbol sign.Minus) = Some Last
next_part Behind (kind.Symbol sign.Comma) = Some First
next_part Last (kind.Number n) = Some Done
next_part Done (kind.Symbol sign.Comma) = Some First
next_part part k = None

-- whether a list of ranges can end there
abbrev pub is_whole : RangePart → Bool
is_whole First = false
is_whole Behind = true
is_whole Last = false
is_whole Done = true

abbrev pub is_empty : List Token → Bool
is_empty [] = true
is_empty (t ∷ ts) = false

-- whether the tokens go on with a list of ranges up to a colon, which is the last of them
unfoldable pub ranges_to_colon : RangePart → List Token → Bool
ranges_to_colon part [] = false
ranges_to_colon part (t ∷ ts) =
    elim (next_part part t.kind) [ Some next ↦ ranges_to_colon next ts | None ↦ is_whole part && is_colon t.kind && is_empty ts ]

-- whether a `{` ends the sentence that has these tokens before it
unfoldable pub opens : List ℕ → List Token → Bool
opens text ts = is_empty ts || is_word_selector text ts || is_named_selector text ts || ranges_to_colon First ts

-- whether a token ends the sentence that has those tokens before it
unfoldable pub closes : TokenKind → List ℕ → List Token → Bool
closes (kind.Bullet c n) text ts = true
closes (kind.Symbol sign.Stop) text ts = true
closes (kind.Symbol sign.CloseCurly) text ts = true
closes (kind.Symbol sign.OpenCurly) text ts = opens text ts
closes _ text ts = false
