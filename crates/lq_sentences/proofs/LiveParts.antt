-- The rules that others are put together from, with more levels.
use Rattle.std.proofs.Common.{◌≡◌, ℕ, Bool, true, false, List, [], ◌∷◌, ◌++◌, refl}
use Rattle.std.specs.Prelude.{codes, Some, None}
use Rattle.std.proofs.lemmas.Slice.Eq.{bytes_eq-Decides}
use Rattle.lq_grammar.specs.declared.token.Symbol.{Symbol}
use Rattle.lq_grammar.specs.declared.token.Symbol.TheVariants as sign
use Rattle.lq_trees.specs.Tree.{Name}
use Rattle.lq_sentences.specs.Words.{Word, name, number, symbol, is_name, is_number, is_quoted, same_symbol, is_sign, reads}
use Rattle.lq_sentences.specs.Rules.{Rule, ◌<$>◌}
use Rattle.lq_sentences.specs.Parts.{expect, expect_word, behind, eat, maybe, many, some, separated, a_name, names, some_names, a_number, is_binder, a_binder, some_binders}
use Rattle.lq_sentences.proofs.Completing.{Live, Alive, Room, alive, pure_live, both_live, map_live, word_then, word_live, choose_other, loop_live}

-- what opens when a word is tested
unfoldable pub testing : Unit {0}
unfolding is_name is_number is_quoted same_symbol is_sign reads
testing = tt

-- a name, and a number
abbrev pub x_word : Word
x_word = name (codes "x")

abbrev pub zero_word : Word
zero_word = number 0

pub sign_self : (s : Symbol) → is_sign s (symbol s) ≡ true
unfolding is_sign same_symbol
sign_self sign.ColonEqual = refl
sign_self sign.FatArrow = refl
sign_self sign.Arrow = refl
sign_self sign.BackArrow = refl
sign_self sign.Bars = refl
sign_self sign.Turnstile = refl
sign_self sign.Dots = refl
sign_self sign.OpenRound = refl
sign_self sign.CloseRound = refl
sign_self sign.OpenSquare = refl
sign_self sign.CloseSquare = refl
sign_self sign.OpenCurly = refl
sign_self sign.CloseCurly = refl
sign_self sign.Colon = refl
sign_self sign.Comma = refl
sign_self sign.Semicolon = refl
sign_self sign.Bar = refl
sign_self sign.Plus = refl
sign_self sign.Minus = refl
sign_self sign.Star = refl
sign_self sign.Stop = refl
sign_self sign.Dot = refl
sign_self sign.Question = refl
sign_self sign.Bang = refl
sign_self sign.Underscore = refl

pub word_self : (x : Name) → reads x (name x) ≡ true
unfolding reads
word_self x = (bytes_eq-Decides x x).1 refl

pub expect_live : (w : Word) (n m : ℕ) (s : Symbol) → Room n m → Live (symbol s) (expect n s) (expect m s) w
expect_live w n m s r = map_live _ (word_live (symbol s) w n m (is_sign s) r (sign_self s))

pub expect_word_live : (w : Word) (n m : ℕ) (x : Name) → Room n m → Live (name x) (expect_word n x) (expect_word m x) w
expect_word_live w n m x r = map_live _ (word_live (name x) w n m (reads x) r (word_self x))

pub behind_live : {A : Type 0} {u w : Word} {p q : Rule A} (n m : ℕ) (s : Symbol) → Room n m → Live u p q w → Live (symbol s) (behind n s p) (behind m s q) w
behind_live {u = u} n m s r l = both_live (expect_live u n m s r) (λ _. l)

pub eat_live : (u w : Word) (n m : ℕ) (test : Word → Bool) → Room n m → test u ≡ true → test w ≡ false → Live w (eat n test) (eat m test) w
eat_live u w n m test r e f = choose_other test (pure_live false w) f (alive (map_live _ (word_live u w n m test r e)))

pub maybe_live : {A : Type 0} {w : Word} {p q : Rule A} (test : Word → Bool) → test w ≡ false → Alive p q w → Live w (maybe test p) (maybe test q) w
maybe_live {w = w} test f a = choose_other test (pure_live None w) f (alive (map_live Some a.1))

pub many_live : {A : Type 0} (w : Word) (n m : ℕ) (test : Word → Bool) (item other : Word × ℕ → Rule A) → Room n m → test w ≡ false →
    ((x : Word × ℕ) → test x.0 ≡ true → Alive (item x) (other x) w) → (found : List A) → Live w (many n test item found) (many m test other found) w
many_live w n m test item other r f h found =
    loop_live n m (λ xs v. test v) (λ xs v. (λ x. xs ++ x ∷ []) <$> item v) (λ xs v. (λ x. xs ++ x ∷ []) <$> other v) w r (λ b. f) (λ b x i. alive (map_live _ (h x i).1)) found

pub some_live : {A : Type 0} (u w : Word) (n m : ℕ) (test : Word → Bool) (item other : Word × ℕ → Rule A) → Room n m → test u ≡ true → test w ≡ false →
    ((x : Word × ℕ) → test x.0 ≡ true → Alive (item x) (other x) w) → Live u (some n test item) (some m test other) w
some_live u w n m test item other r e f h =
    word_then u n m test r e (λ x i. alive (both_live (h x i).1 (λ a. many_live w n m test item other r f h (a ∷ []))))

pub separated_live : {A : Type 0} {u : Word} {p q : Rule A} (w : Word) (n m : ℕ) (s : Symbol) → Room n m → is_sign s w ≡ false → Alive p q w → Live u p q w →
    Live u (separated n s p) (separated m s q) w
separated_live {p = p} {q = q} w n m s r f a l = both_live l (λ x. many_live w n m (is_sign s) (λ _. p) (λ _. q) r f (λ y i. a) (x ∷ []))

pub a_name_live : (w : Word) (n m : ℕ) → Room n m → Live x_word (a_name n) (a_name m) w
unfolding testing
a_name_live w n m r = map_live _ (word_live x_word w n m is_name r refl)

pub names_live : (w : Word) (n m : ℕ) → Room n m → is_name w ≡ false → Live w (names n) (names m) w
names_live w n m r f = many_live w n m is_name _ _ r f (λ x i. alive (pure_live _ w)) []

pub some_names_live : (w : Word) (n m : ℕ) → Room n m → is_name w ≡ false → Live x_word (some_names n) (some_names m) w
unfolding testing
some_names_live w n m r f = some_live x_word w n m is_name _ _ r refl f (λ x i. alive (pure_live _ w))

pub a_number_live : (w : Word) (n m : ℕ) → Room n m → Live zero_word (a_number n) (a_number m) w
unfolding testing
a_number_live w n m r = map_live _ (word_live zero_word w n m is_number r refl)

pub a_binder_live : (w : Word) (n m : ℕ) → Room n m → Live x_word (a_binder n) (a_binder m) w
unfolding testing
a_binder_live w n m r = map_live _ (word_live x_word w n m is_binder r refl)

pub some_binders_live : (w : Word) (n m : ℕ) → Room n m → is_binder w ≡ false → Live x_word (some_binders n) (some_binders m) w
unfolding testing
some_binders_live w n m r f = some_live x_word w n m is_binder _ _ r refl f (λ x i. alive (pure_live _ w))
