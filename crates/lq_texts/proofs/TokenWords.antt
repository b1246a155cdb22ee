-- The words of the tokens of a printed text, and its whole sentence.
use Rattle.std.proofs.Common.{◌≡◌, ℕ, zero, suc, ◌+◌, ◌-◌, ◌<◌, ◌≤◌, Bool, true, false, not, List, [], ◌∷◌, ◌++◌, take, drop, length, map, Option, Some, None, Result, Ok, Err, refl, sym, ap, ◌∙◌, subst, arith, inl, inr, length-append, length-drop, append_assoc}
use Rattle.lq_grammar.specs.declared.token.Symbol.TheVariants as sign
use Rattle.lq_grammar.specs.declared.token.Token.{Token}
use Rattle.lq_grammar.specs.Selectors.{closes, spelled}
use Rattle.lq_sentences.specs.Words.{Word, Words, name, number, symbol, word_of, words}
use Rattle.lq_sentences.specs.Reading.{is_closed_behind}
use Rattle.lq_sentences.proofs.PlaceLaws.{Above, Rising}
use Rattle.lq_texts.proofs.Fronts.{drop_next, drop_behind}
use Rattle.lq_texts.proofs.Pieces.{Piece, blank, said, spelling, bytes, kind_of, tokens, placed, IsSayable, Fine}
use Rattle.lq_texts.proofs.Gathering.{stop_token, AreQuiet}

-- ---- words

take_front : (xs ys : List ℕ) → take (length xs) (xs ++ ys) ≡ xs
take_front [] ys = Rattle.std.proofs.Common.refl
take_front (x ∷ xs) ys = ap (λ zs. x ∷ zs) (take_front xs ys)

-- the bytes of a token are those of its word
spelled_is : (text : List ℕ) (at : ℕ) (w : Word) (more : List ℕ) → drop at text ≡ spelling w ++ more →
    spelled text (record { kind = kind_of w; start = at; end = at + length (spelling w) }) ≡ spelling w
spelled_is text at w more e =
    let n : at + length (spelling w) - at ≡ length (spelling w) = omega arith in
    ap (λ k. take k (drop at text)) n ∙ ap (take (length (spelling w))) e ∙ take_front (spelling w) more

word_is : (w : Word) (bs : List ℕ) → IsSayable w → bs ≡ spelling w → word_of (kind_of w) bs ≡ w
unfolding word_of
word_is (name x) bs h e = ap name e
word_is (number n) bs h e = refl
word_is (symbol s) bs h e = refl
word_is _ bs h e = absurd h

pub words_placed : (text : List ℕ) (ps : List Piece) (at : ℕ) (tail : List ℕ) → Fine ps tail → drop at text ≡ bytes ps ++ tail →
    words text (tokens at ps) ≡ placed at ps
unfolding words
words_placed text [] at tail f e = refl
words_placed text (blank ∷ ps) at tail f e = words_placed text ps (at + 1) tail f (drop_next text at 1 (32 ∷ (bytes ps ++ tail)) e)
words_placed text (said w ∷ ps) at tail f e =
    let g = e ∙ append_assoc (spelling w) (bytes ps) tail in
    ap (λ v. (v, at) ∷ words text (tokens (at + length (spelling w)) ps)) (word_is w _ f.0 (spelled_is text at w (bytes ps ++ tail) g))
    ∙ ap (λ ws. (w, at) ∷ ws) (words_placed text ps (at + length (spelling w)) tail f.2 (drop_behind text at (spelling w) (bytes ps ++ tail) g))

pub words_append : (text : List ℕ) (ts us : List Token) → words text (ts ++ us) ≡ words text ts ++ words text us
unfolding words
words_append text [] us = refl
words_append text (t ∷ ts) us = ap (λ ws. (word_of t.kind (spelled text t), t.start) ∷ ws) (words_append text ts us)

pub word_stop : (text : List ℕ) (at : ℕ) → words text (stop_token at ∷ []) ≡ (symbol sign.Stop, at) ∷ []
unfolding words word_of
word_stop text at = refl

-- ---- places

-- a word has at least one byte
pub some_bytes : (w : Word) → IsSayable w → 0 < length (spelling w)
unfolding Rattle.std.specs.Fmt.digits
some_bytes (name []) h = let e = h.begins in absurd cc
some_bytes (name (b ∷ bs)) h = omega arith
some_bytes (number zero) h = omega arith
some_bytes (number (suc zero)) h = omega arith
some_bytes (number (suc (suc zero))) h = omega arith
some_bytes (number (suc (suc (suc zero)))) h = omega arith
some_bytes (number (suc (suc (suc (suc n))))) h = absurd (omega arith)
some_bytes (symbol sign.ColonEqual) h = omega arith
some_bytes (symbol sign.FatArrow) h = omega arith
some_bytes (symbol sign.Arrow) h = omega arith
some_bytes (symbol sign.OpenRound) h = omega arith
some_bytes (symbol sign.CloseRound) h = omega arith
some_bytes (symbol sign.Colon) h = omega arith
some_bytes (symbol sign.Comma) h = omega arith
some_bytes (symbol sign.Underscore) h = omega arith
some_bytes _ h = absurd h

pub fine_long : (ps : List Piece) (tail : List ℕ) → Fine ps tail → length ps ≤ length (bytes ps)
fine_long [] tail f = omega arith
fine_long (blank ∷ ps) tail f = omega (arith, fine_long ps tail f)
fine_long (said w ∷ ps) tail f = omega (arith, fine_long ps tail f.2, some_bytes w f.0, length-append (spelling w) (bytes ps))

pub above_placed : (m : ℕ) (ps : List Piece) (at : ℕ) (tail : List ℕ) (ws : Words) → Fine ps tail → m < at → Above m ws → Above m (placed at ps ++ ws)
above_placed m [] at tail ws f h a = a
above_placed m (blank ∷ ps) at tail ws f h a = above_placed m ps (at + 1) tail ws f (omega arith) a
above_placed m (said w ∷ ps) at tail ws f h a = (h, above_placed m ps (at + length (spelling w)) tail ws f.2 (omega arith) a)

pub rising_placed : (ps : List Piece) (at : ℕ) (tail : List ℕ) (w : Word) (o : ℕ) → Fine ps tail → at + length (bytes ps) ≤ o →
    Rising (placed at ps ++ (w, o) ∷ [])
rising_placed [] at tail w o f h = (tt, tt)
rising_placed (blank ∷ ps) at tail w o f h = rising_placed ps (at + 1) tail w o f (omega arith)
rising_placed (said v ∷ ps) at tail w o f h =
    let n = some_bytes v f.0 in
    let len = length-append (spelling v) (bytes ps) in (
      above_placed at ps (at + length (spelling v)) tail ((w, o) ∷ []) f.2 (omega (arith, n)) (omega (arith, n, len), tt),
      rising_placed ps (at + length (spelling v)) tail w o f.2 (omega (arith, len)),
    )

-- ---- whether the sentence is closed

pub closed_by_stop : (text : List ℕ) (before ts : List Token) (at : ℕ) → is_closed_behind text before (ts ++ stop_token at ∷ []) ≡ true
unfolding is_closed_behind closes
closed_by_stop text before [] at = refl
closed_by_stop text before (t ∷ []) at = refl
closed_by_stop text before (t ∷ u ∷ ts) at = closed_by_stop text (before ++ t ∷ []) (u ∷ ts) at

pub quiet_open : (text : List ℕ) (before ts : List Token) → AreQuiet ts → is_closed_behind text before ts ≡ false
unfolding is_closed_behind
quiet_open text before [] q = refl
quiet_open text before (t ∷ []) q = q.0 text before
quiet_open text before (t ∷ u ∷ ts) q = quiet_open text (before ++ t ∷ []) (u ∷ ts) q.1
