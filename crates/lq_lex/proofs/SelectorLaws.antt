-- Selectors, token by token.
use Rattle.std.proofs.Common.{◌≡◌, ℕ, ◌<◌, ◌≤◌, Bool, true, false, List, [], ◌∷◌, length, Option, Some, None, refl, ap, ◌∙◌, arith, ◌⊎◌, inl, inr}
use Rattle.std.specs.Prelude.{◌&&◌, not, slice_index_or}
use Rattle.lq_grammar.specs.declared.selector.RangePart.{RangePart}
use Rattle.lq_grammar.specs.declared.token.Token.{Token}
use Rattle.lq_grammar.specs.Selectors.{spelled, is_reserved, is_empty, is_word, is_colon, is_open_square, is_close_square, is_word_selector, is_named_selector, next_part, is_whole, ranges_to_colon, opens}
use Rattle.std.specs.List.{list_any}
use Rattle.lq_grammar.specs.declared.selector.RangePart.TheVariants.{First, Behind, Last, Done}
use Rattle.lq_grammar.specs.declared.token.Symbol.TheVariants as sign
use Rattle.lq_grammar.specs.declared.token.TokenKind.{TokenKind}
use Rattle.lq_grammar.specs.declared.token.TokenKind.TheVariants as kind
use Rattle.std.proofs.lemmas.Bool.{or_cases, and_right}
use Rattle.lq_lex.specs.Views.{is_open_curly}

abbrev pub is_named : List ℕ → (a b c d : Token) → Bool
is_named text a b c d = is_open_square a.kind && is_word b.kind && not (is_reserved (spelled text b)) && is_close_square c.kind && is_colon d.kind

pub named_four : (text : List ℕ) (ts : List Token) (t : Token) → 4 ≤ length ts → length ts < 5 →
    is_named_selector text ts ≡ is_named text (slice_index_or ts 0 t) (slice_index_or ts 1 t) (slice_index_or ts 2 t) (slice_index_or ts 3 t)
named_four text [] t low high = absurd (omega arith)
named_four text (a ∷ []) t low high = absurd (omega arith)
named_four text (a ∷ b ∷ []) t low high = absurd (omega arith)
named_four text (a ∷ b ∷ c ∷ []) t low high = absurd (omega arith)
named_four text (a ∷ b ∷ c ∷ d ∷ []) t low high = refl
named_four text (a ∷ b ∷ c ∷ d ∷ e ∷ ts) t low high = absurd (omega arith)

ranges_by : (part : RangePart) (t : Token) (rest : List Token) (o : Option RangePart) → next_part part t.kind ≡ o →
    ranges_to_colon part (t ∷ rest) ≡ elim o as (λ _. Bool) [ Some next ↦ ranges_to_colon next rest | None ↦ is_whole part && is_colon t.kind && is_empty rest ]
unfolding ranges_to_colon
ranges_by part t rest o e = ap (λ w. elim w as (λ _. Bool) [ Some next ↦ ranges_to_colon next rest | None ↦ is_whole part && is_colon t.kind && is_empty rest ]) e

pub ranges_go : (part next : RangePart) (ts : List Token) (t : Token) (rest : List Token) → ts ≡ t ∷ rest → next_part part t.kind ≡ Some next → ranges_to_colon part ts ≡ ranges_to_colon next rest
ranges_go part next ts t rest e f = ap (ranges_to_colon part) e ∙ ranges_by part t rest (Some next) f

pub ranges_end : (part : RangePart) (ts : List Token) (t : Token) (rest : List Token) → ts ≡ t ∷ rest → next_part part t.kind ≡ None → ranges_to_colon part ts ≡ (is_whole part && is_colon t.kind && is_empty rest)
ranges_end part ts t rest e f = ap (ranges_to_colon part) e ∙ ranges_by part t rest None f

pub ranges_none : (part : RangePart) (ts : List Token) → ts ≡ [] → ranges_to_colon part ts ≡ false
unfolding ranges_to_colon
ranges_none part ts e = ap (ranges_to_colon part) e

-- ---- a `{` stands in no selector

curly_is : (k : TokenKind) → is_open_curly k ≡ true → k ≡ kind.Symbol sign.OpenCurly
curly_is (kind.Symbol sign.OpenCurly) e = refl
curly_is _ e = absurd cc

braced : List Token → Bool
braced ts = list_any (λ t. is_open_curly t.kind) ts

braced-cons : (t : Token) (ts : List Token) → braced (t ∷ ts) ≡ true → (is_open_curly t.kind ≡ true) ⊎ (braced ts ≡ true)
unfolding braced
braced-cons t ts e = or_cases (is_open_curly t.kind) (braced ts) e

braced-nil : braced [] ≡ true → ⊥
unfolding braced
braced-nil e = cc

third : (x y : Bool) → (x && false && y) ≡ false
third true y = refl
third false y = refl

-- `all:` and the like
no_word : (text : List ℕ) (ts : List Token) → braced ts ≡ true → is_word_selector text ts ≡ false
no_word text [] e = refl
no_word text (a ∷ []) e = refl
no_word text (a ∷ b ∷ []) e = elim (braced-cons a (b ∷ []) e) [ inl h ↦ first h | inr h ↦ elim (braced-cons b [] h) [ inl g ↦ second g | inr g ↦ absurd (braced-nil g) ] ] where
  first : is_open_curly a.kind ≡ true → is_word_selector text (a ∷ b ∷ []) ≡ false
  first h = rw (curly_is a.kind h) (and_right (is_colon b.kind) false refl)

  second : is_open_curly b.kind ≡ true → is_word_selector text (a ∷ b ∷ []) ≡ false
  second h = rw (curly_is b.kind h) refl
no_word text (a ∷ b ∷ c ∷ ts) e = refl

-- `[name]:`
at_second : (x n c d : Bool) → (x && false && n && c && d) ≡ false
at_second true n c d = refl
at_second false n c d = refl

at_fourth : (x w n d : Bool) → (x && w && n && false && d) ≡ false
at_fourth true true true d = refl
at_fourth true true false d = refl
at_fourth true false n d = refl
at_fourth false w n d = refl

no_named : (text : List ℕ) (ts : List Token) → braced ts ≡ true → is_named_selector text ts ≡ false
no_named text [] e = refl
no_named text (a ∷ []) e = refl
no_named text (a ∷ b ∷ []) e = refl
no_named text (a ∷ b ∷ c ∷ []) e = refl
no_named text (a ∷ b ∷ c ∷ d ∷ []) e =
    elim (braced-cons a (b ∷ c ∷ d ∷ []) e) [
      | inl h ↦ rw (curly_is a.kind h) refl
      | inr h ↦ elim (braced-cons b (c ∷ d ∷ []) h) [
        | inl g ↦ rw (curly_is b.kind g) (at_second (is_open_square a.kind) (not (is_reserved (spelled text b))) (is_close_square c.kind) (is_colon d.kind))
        | inr g ↦ elim (braced-cons c (d ∷ []) g) [
          | inl f ↦ rw (curly_is c.kind f) (at_fourth (is_open_square a.kind) (is_word b.kind) (not (is_reserved (spelled text b))) (is_colon d.kind))
          | inr f ↦ elim (braced-cons d [] f) [
            | inl k ↦ rw (curly_is d.kind k) (and_right (is_open_square a.kind && is_word b.kind && not (is_reserved (spelled text b)) && is_close_square c.kind) false refl)
            | inr k ↦ absurd (braced-nil k)
          ]
        ]
      ]
    ]
no_named text (a ∷ b ∷ c ∷ d ∷ f ∷ ts) e = refl

-- ranges
curly_part : (part : RangePart) → next_part part (kind.Symbol sign.OpenCurly) ≡ None
curly_part First = refl
curly_part Behind = refl
curly_part Last = refl
curly_part Done = refl

not_empty : (ts : List Token) → braced ts ≡ true → is_empty ts ≡ false
not_empty [] e = absurd (braced-nil e)
not_empty (t ∷ ts) e = refl

no_ranges : (part : RangePart) (ts : List Token) → braced ts ≡ true → ranges_to_colon part ts ≡ false
no_ranges part [] e = absurd (braced-nil e)
no_ranges part (t ∷ ts) e =
    elim (braced-cons t ts e) [
      | inl h ↦ ranges_by part t ts None (ap (next_part part) (curly_is t.kind h) ∙ curly_part part) ∙ rw (curly_is t.kind h) (third (is_whole part) (is_empty ts))
      | inr h ↦ step (next_part part t.kind) refl h (λ next. no_ranges next ts h)
    ] where
      step : (o : Option RangePart) → next_part part t.kind ≡ o → braced ts ≡ true → ((next : RangePart) → ranges_to_colon next ts ≡ false) → ranges_to_colon part (t ∷ ts) ≡ false
      step None f h others = ranges_by part t ts None f ∙ rw (not_empty ts h) (and_right (is_whole part && is_colon t.kind) false refl)
      step (Some next) f h others = ranges_by part t ts (Some next) f ∙ others next

pub braced_opens : (text : List ℕ) (ts : List Token) → list_any (λ t. is_open_curly t.kind) ts ≡ true → opens text ts ≡ false
unfolding opens braced
braced_opens text ts e = rw (not_empty ts e, no_word text ts e, no_named text ts e, no_ranges First ts e) refl
