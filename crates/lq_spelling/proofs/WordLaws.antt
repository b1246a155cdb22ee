-- Strings without their quotes, tokens in a row, and the last of them.
use Rattle.std.proofs.Common.{◌≡◌, ℕ, zero, suc, ◌+◌, ◌-◌, ◌<◌, ◌≤◌, Bool, false, get_or, List, [], ◌∷◌, ◌++◌, map, take, drop, length, refl, sym, ap, ◌∙◌, subst, arith, append-nil, length-append}
use Rattle.std.specs.Prelude.{slice_range, IsUtf8, All}
use Rattle.std.proofs.lemmas.List.{append_assoc, take_at, take_more}
use Rattle.lq_grammar.specs.declared.token.Token.{Token}
use Rattle.lq_grammar.specs.declared.token.TokenKind.TheVariants as kind
use Rattle.lq_grammar.specs.Selectors.{spelled, closes}
use Rattle.lq_sentences.specs.Words.{Words, but_last, words, word_of}
use Rattle.lq_sentences.specs.Reading.{is_closed_behind}
use Rattle.lq_phrases.specs.declared.word.Placed.{Placed}
use Rattle.lq_phrases.specs.Views as view
use Rattle.lq_phrases.specs.Views.{words_of}
use Rattle.lq_spelling.specs.Spellings.{Spells}
use Rattle.lq_spelling.proofs.SpellingLaws.{between, between_split, length_between}

-- ---- strings

but_last_push : (xs : List ℕ) (y : ℕ) → but_last (xs ++ y ∷ []) ≡ xs
unfolding but_last
but_last_push [] y = refl
but_last_push (b ∷ []) y = refl
but_last_push (b ∷ c ∷ cs) y = ap (λ bs. b ∷ bs) (but_last_push (c ∷ cs) y)

same_front : (xs ys : List ℕ) (x y : ℕ) → length xs ≡ length ys → xs ++ x ∷ [] ≡ ys ++ y ∷ [] → xs ≡ ys
same_front xs ys x y n e = sym (take_at xs (x ∷ []) (length ys) n) ∙ ap (take (length ys)) e ∙ take_at ys (y ∷ []) (length ys) refl

one_byte : (bs : List ℕ) → length bs ≡ 1 → (b : ℕ) × (bs ≡ b ∷ [])
one_byte [] e = absurd cc
one_byte (b ∷ []) e = (b, refl)
one_byte (b ∷ c ∷ cs) e = absurd cc

same_tail : (x y : ℕ) (xs ys : List ℕ) → x ∷ xs ≡ y ∷ ys → xs ≡ ys
same_tail x y xs ys e = ap (drop 1) e

-- what stands between the quotes of a string
pub record IsInner (text : List ℕ) (t : Token) : Type 0 where
  pub ordered : t.start + 1 ≤ t.end - 1
  pub within : t.end - 1 ≤ length text
  pub readable : IsUtf8 (slice_range text (t.start + 1) (t.end - 1))
  pub same : slice_range text (t.start + 1) (t.end - 1) ≡ drop 1 (but_last (spelled text t))

pub string_inner : (text : List ℕ) (t : Token) → t.start ≤ t.end → t.end ≤ length text → Spells kind.Text (spelled text t) → IsInner text t
string_inner text t h k s =
    let p = t.start in
    let q = t.end in
    let inner = s.0 in
    let size : length inner + 2 ≡ q - p = omega (arith, ap length s.2, length_between text p q h k, length-append inner (34 ∷ [])) in
    let front = one_byte (between text p (p + 1)) (omega (arith, length_between text p (p + 1) (omega arith) (omega (arith, size, k)))) in
    let back = one_byte (between text (q - 1) q) (omega (arith, length_between text (q - 1) q (omega arith) k, size)) in
    let middle = between text (p + 1) (q - 1) in
    let parts : between text p q ≡ front.0 ∷ (middle ++ back.0 ∷ []) =
    between_split text p (p + 1) q (omega arith) (omega (arith, size)) (omega (arith, size, k))
    ∙ ap (λ bs. bs ++ between text (p + 1) q) front.1
    ∙ ap (λ bs. front.0 ∷ bs) (between_split text (p + 1) (q - 1) q (omega (arith, size)) (omega arith) (omega (arith, k)) ∙ ap (λ bs. middle ++ bs) back.1) in
    let count : length middle ≡ length inner = omega (arith, length_between text (p + 1) (q - 1) (omega (arith, size)) (omega (arith, k)), size) in
    let is_inner : middle ≡ inner = same_front middle inner back.0 34 count (same_tail front.0 34 _ _ (sym parts ∙ s.2)) in
    record {
      ordered = omega (arith, size);
      within = omega (arith, k);
      readable = subst IsUtf8 (sym is_inner) s.1;
      same = is_inner ∙ sym (ap (λ bs. drop 1 (but_last bs)) s.2 ∙ ap (drop 1) (but_last_push (34 ∷ inner) 34));
    }

-- ---- tokens in a row

pub words_push : (ps : List Placed) (p : Placed) → words_of (ps ++ p ∷ []) ≡ words_of ps ++ (view.word_of p.word, p.place) ∷ []
words_push [] p = refl
words_push (q ∷ qs) p = ap (λ ws. (view.word_of q.word, q.place) ∷ ws) (words_push qs p)

pub tokens_push : (text : List ℕ) (ts : List Token) (t : Token) → words text (ts ++ t ∷ []) ≡ words text ts ++ (word_of t.kind (spelled text t), t.start) ∷ []
unfolding words
tokens_push text [] t = refl
tokens_push text (u ∷ us) t = ap (λ ws. (word_of u.kind (spelled text u), u.start) ∷ ws) (tokens_push text us t)

-- ---- the last token

pub closed_last : (text : List ℕ) (before ts : List Token) (t : Token) → is_closed_behind text before (ts ++ t ∷ []) ≡ closes t.kind text (before ++ ts)
unfolding is_closed_behind
closed_last text before [] t = ap (closes t.kind text) (sym (append-nil before))
closed_last text before (u ∷ []) t = refl
closed_last text before (u ∷ v ∷ us) t = closed_last text (before ++ u ∷ []) (v ∷ us) t ∙ ap (closes t.kind text) (append_assoc before (u ∷ []) (v ∷ us))

pub closed_is : (text : List ℕ) (ts before : List Token) (t : Token) → ts ≡ before ++ t ∷ [] → closes t.kind text before ≡ is_closed_behind text [] ts
closed_is text ts before t e = sym (ap (is_closed_behind text []) e ∙ closed_last text [] before t)

pub closed_none : (text : List ℕ) (ts : List Token) → length ts ≡ 0 → is_closed_behind text [] ts ≡ false
unfolding is_closed_behind
closed_none text [] e = refl
closed_none text (t ∷ ts) e = absurd cc

-- ---- tokens one by one

pub words_none : (text : List ℕ) → words text [] ≡ []
unfolding words
words_none text = refl

-- one token more
pub words_more : (text : List ℕ) (ts : List Token) (i : ℕ) (d : Token) (ps qs : List Placed) (p : Placed) → i < length ts → words_of ps ≡ words text (take i ts) → qs ≡ ps ++ p ∷ [] →
    view.word_of p.word ≡ word_of (get_or ts i d).kind (spelled text (get_or ts i d)) → p.place ≡ (get_or ts i d).start → words_of qs ≡ words text (take (i + 1) ts)
words_more text ts i d ps qs p h e f g k =
    ap words_of f
    ∙ words_push ps p
    ∙ ap (λ ws. ws ++ (view.word_of p.word, p.place) ∷ []) e
    ∙ ap (λ w. words text (take i ts) ++ (w, p.place) ∷ []) g
    ∙ ap (λ q. words text (take i ts) ++ (word_of (get_or ts i d).kind (spelled text (get_or ts i d)), q) ∷ []) k
    ∙ sym (ap (words text) (take_more ts i d h) ∙ tokens_push text (take i ts) (get_or ts i d))
