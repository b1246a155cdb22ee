-- A plain name with a number behind it is a word too.
use Rattle.std.proofs.Common.{◌≡◌, ℕ, zero, suc, ◌+◌, ◌^◌, ◌<◌, ◌≤◌, ◌%◌, Bool, true, false, List, [], ◌∷◌, ◌++◌, drop, length, Some, refl, sym, ap, ◌∙◌, subst, arith, length-append}
use Rattle.std.specs.Prelude.{◌&&◌, ◌||◌, ◌==◌, bytes_eq, decimal}
use Rattle.std.specs.List.{AllByRecursion, list_any}
use Rattle.std.specs.Char.{is_ascii_digit}
use Rattle.std.proofs.lemmas.Bool.{ne_eqb}
use Rattle.std.proofs.lemmas.Fmt.{decimal_by_steps, length-decimal-le, decimal_nonempty}
use Rattle.std.proofs.lemmas.List.{drop-append-le}
use Rattle.std.proofs.lemmas.Slice.Eq.{bytes_eq-Decides}
use Rattle.bstr.specs.Utf8.{decoded}
use Rattle.bstr.proofs.lemmas.PieceLemmas.{piece-bounds}
use Rattle.lq_grammar.specs.declared.token.Class.TheVariants as class
use Rattle.lq_grammar.specs.Selectors.{reserved, is_reserved}
use Rattle.lq_grammar.specs.Tokens.{is_blank, continues_name, starts_name, class_of}
use Rattle.lq_grammar.proofs.Turns.{class_by, class_of-by}
use Rattle.lq_grammar.proofs.Computing.{cutting}
use Rattle.lq_trees.specs.Tree.{Name}
use Rattle.lq_texts.proofs.Said.{IsFree}
use Rattle.lq_texts.proofs.Fronts.{decoded_more, decoded_ascii}
use Rattle.lq_texts.proofs.NameLexing.{IsLexed, char_of, first_char}
use Rattle.lq_texts.proofs.Runs.{Run, run_end, run_more}
use Rattle.lq_texts.proofs.GrammarWords.{letters}
use Rattle.lq_texts.proofs.PrintedPieces.{IsWord}

-- ---- digits

abbrev IsDigit : ℕ → Type 0
IsDigit b = (j : ℕ) × (j < 10) × (b ≡ 48 + j)

abbrev pub AreDigits : List ℕ → Type 0
AreDigits = AllByRecursion IsDigit

digits_push : (ds : List ℕ) (b : ℕ) → AreDigits ds → IsDigit b → AreDigits (ds ++ b ∷ [])
digits_push [] b h k = (k, tt)
digits_push (d ∷ ds) b h k = (h.0, digits_push ds b h.1 k)

pub decimal_digits : (n : ℕ) → n < 2 ^ 64 → AreDigits (decimal n)
decimal_digits n h =
    decimal_by_steps (λ n ds. AreDigits ds) (λ n h. ((n, h, refl), tt)) (λ n ds h all. digits_push ds (48 + n % 10) all (n % 10, omega arith, refl)) n h

digit_continues : (j : ℕ) → j < 10 → continues_name (48 + j) ≡ true
unfolding cutting
digit_continues zero h = refl
digit_continues (suc zero) h = refl
digit_continues (suc (suc zero)) h = refl
digit_continues (suc (suc (suc zero))) h = refl
digit_continues (suc (suc (suc (suc zero)))) h = refl
digit_continues (suc (suc (suc (suc (suc zero))))) h = refl
digit_continues (suc (suc (suc (suc (suc (suc zero)))))) h = refl
digit_continues (suc (suc (suc (suc (suc (suc (suc zero))))))) h = refl
digit_continues (suc (suc (suc (suc (suc (suc (suc (suc zero)))))))) h = refl
digit_continues (suc (suc (suc (suc (suc (suc (suc (suc (suc zero))))))))) h = refl
digit_continues (suc (suc (suc (suc (suc (suc (suc (suc (suc (suc j)))))))))) h = absurd (omega arith)

one_digit : (b : ℕ) → IsDigit b → (b < 128) × (continues_name b ≡ true)
one_digit b h = (omega (arith, h.1, h.2), ap continues_name h.2 ∙ digit_continues h.0 h.1)

each_digit : (ds : List ℕ) → AreDigits ds → AllByRecursion (λ b. (b < 128) × (continues_name b ≡ true)) ds
each_digit [] h = tt
each_digit (d ∷ ds) h = (one_digit d h.0, each_digit ds h.1)

-- ---- one token

run_append : (xs ys : List ℕ) → Run continues_name xs → Run continues_name ys → Run continues_name (xs ++ ys)
run_append xs ys run_end s = s
run_append xs ys (run_more {c = c} f g r) s =
    let more = decoded_more xs ys c f in
    let n = (decoded xs).size in
    let size_is = ap (λ d. d.size) more in
    let within = size_low xs c f in
    run_more (ap (λ d. d.char) more ∙ f) g
    (subst (λ m. Run continues_name (drop m (xs ++ ys))) (sym size_is)
    (subst (Run continues_name) (sym (drop-append-le n xs ys within)) (run_append (drop n xs) ys r s)))
  where
    size_low : (bs : List ℕ) (c : ℕ) → (decoded bs).char ≡ Some c → (decoded bs).size ≤ length bs
    size_low [] c e = absurd cc
    size_low (b ∷ bs) c e = (piece-bounds (b ∷ bs) (omega arith)).2

-- what begins a name before nothing begins one before a character that goes on with names
named_more : (blank comment bullet text digit low starts : Bool) → class_by blank comment bullet text digit low false starts ≡ class.Name →
    class_by blank comment bullet text digit low true starts ≡ class.Name
unfolding class_by
named_more true comment bullet text digit low starts h = absurd cc
named_more false true bullet text digit low starts h = absurd cc
named_more false false true text digit low starts h = absurd cc
named_more false false false true digit low starts h = absurd cc
named_more false false false false true low starts h = absurd cc
named_more false false false false false true starts h = refl
named_more false false false false false false starts h = h

zero_none : continues_name 0 ≡ false
unfolding cutting
zero_none = refl

named_before : (c d : ℕ) → IsDigit d → class_of false c 0 ≡ class.Name → class_of false c d ≡ class.Name
named_before c d h e =
    let star : (d == 42) ≡ false = ne_eqb d 42 (λ f. absurd (omega (arith, f, h.2, h.1))) in
    class_of-by false c d
    ∙ ap (λ b. class_by (is_blank c) (c == 40 && b) false (c == 34) (is_ascii_digit c) (c == 95) (continues_name d) (starts_name c)) star
    ∙ ap (λ b. class_by (is_blank c) (c == 40 && false) false (c == 34) (is_ascii_digit c) (c == 95) b (starts_name c)) (one_digit d h).1
    ∙ named_more (is_blank c) (c == 40 && false) false (c == 34) (is_ascii_digit c) (c == 95) (starts_name c)
    (ap (λ b. class_by (is_blank c) (c == 40 && false) false (c == 34) (is_ascii_digit c) (c == 95) b (starts_name c)) (sym zero_none)
    ∙ sym (class_of-by false c 0) ∙ e)

named_digits : (c : ℕ) (r ds : List ℕ) → Run continues_name r → AreDigits ds → 0 < length ds → class_of false c (first_char r) ≡ class.Name →
    class_of false c (first_char (r ++ ds)) ≡ class.Name
named_digits c [] [] run_end d h e = absurd (omega arith)
named_digits c [] (b ∷ ds) run_end d h e = ap (class_of false c) (ap char_of (decoded_ascii b ds (one_digit b d.0).0).0) ∙ named_before c b d.0 e
named_digits c r ds (run_more {c = x} f g rest) d h e = ap (class_of false c) (ap char_of (ap (λ y. y.char) (decoded_more r ds x f))) ∙ e

pub lexed_digits : (x ds : List ℕ) → IsLexed x → AreDigits ds → 0 < length ds → length x + length ds ≤ 255 → IsLexed (x ++ ds)
lexed_digits x ds l d some low =
    let more = decoded_more x ds l.initial l.begins in
    let n = (decoded x).size in
    let size_is = ap (λ r. r.size) more in
    let rest = ap (λ m. drop m (x ++ ds)) size_is ∙ drop-append-le n x ds (within x l.initial l.begins) in
    record {
      initial = l.initial;
      begins = ap (λ r. r.char) more ∙ l.begins;
      named = ap (λ bs. class_of false l.initial (first_char bs)) rest ∙ named_digits l.initial (drop n x) ds l.others d some l.named;
      others = subst (Run continues_name) (sym rest) (run_append (drop n x) ds l.others (letters ds (each_digit ds d)));
      short = omega (arith, length-append x ds, low);
    }
  where
    within : (bs : List ℕ) (c : ℕ) → (decoded bs).char ≡ Some c → (decoded bs).size ≤ length bs
    within [] c e = absurd cc
    within (b ∷ bs) c e = (piece-bounds (b ∷ bs) (omega arith)).2

-- ---- not reserved

-- the last byte, 0 where there is none
abbrev last_byte : List ℕ → ℕ
last_byte [] = 0
last_byte (b ∷ []) = b
last_byte (b ∷ c ∷ bs) = last_byte (c ∷ bs)

last_append : (x ds : List ℕ) → 0 < length ds → last_byte (x ++ ds) ≡ last_byte ds
last_append [] ds h = refl
last_append (b ∷ []) [] h = absurd (omega arith)
last_append (b ∷ []) (d ∷ ds) h = refl
last_append (b ∷ c ∷ bs) ds h = last_append (c ∷ bs) ds h

last_digit : (ds : List ℕ) → AreDigits ds → last_byte ds ≤ 57
last_digit [] h = omega arith
last_digit (d ∷ []) h = omega (arith, h.0.1, h.0.2)
last_digit (d ∷ e ∷ ds) h = last_digit (e ∷ ds) h.1

none_equal : (w : List ℕ) (rs : List (List ℕ)) → last_byte w ≤ 57 → AllByRecursion (λ r. 57 < last_byte r) rs → list_any (λ r. bytes_eq r w) rs ≡ false
none_equal w [] low h = refl
none_equal w (r ∷ rs) low h = by (bytes_eq r w) refl (none_equal w rs low h.1)
  where
    by : (b : Bool) → bytes_eq r w ≡ b → list_any (λ r. bytes_eq r w) rs ≡ false → (b || list_any (λ r. bytes_eq r w) rs) ≡ false
    by true e others = absurd (omega (arith, low, h.0, ap last_byte ((bytes_eq-Decides r w).0 e)))
    by false e others = others

pub not_reserved : (w : List ℕ) → last_byte w ≤ 57 → is_reserved w ≡ false
not_reserved w low =
    none_equal w reserved low (
      omega arith,
      (
        omega arith,
        (
          omega arith,
          (
            omega arith,
            (omega arith, (omega arith, (omega arith, (omega arith, (omega arith, (omega arith, (omega arith, (omega arith, (omega arith, tt))))))))),
          ),
        ),
      ),
    )

pub numbered_word : (x : Name) (k : ℕ) → IsLexed x → length x ≤ 200 → k < 2 ^ 64 → IsWord (x ++ decimal k)
numbered_word x k l short low =
    let d = decimal_digits k low in
    let some = decimal_nonempty k low in
    let few = length-decimal-le 20 k (omega arith) (omega arith) low in
    record {
      lexed = lexed_digits x (decimal k) l d some (omega (arith, few, short));
      free = free x l (last_append x (decimal k) some)
          (last_digit (decimal k) d);
    }
  where
    free : (x : Name) → IsLexed x → last_byte (x ++ decimal k) ≡ last_byte (decimal k) → last_byte (decimal k) ≤ 57 → IsFree (x ++ decimal k)
    free [] l e low = let b = l.begins in absurd cc
    free (b ∷ bs) l e low = not_reserved ((b ∷ bs) ++ decimal k) (omega (arith, e, low))
