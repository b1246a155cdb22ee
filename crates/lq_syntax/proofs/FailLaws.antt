-- `Fail`s before a statement.
use Rattle.std.proofs.Common.{◌≡◌, ℕ, zero, suc, ◌+◌, ◌-◌, ◌<◌, ◌≤◌, Bool, true, false, List, [], ◌∷◌, drop, take, length, Result, Ok, Err, refl, sym, ap, ◌∙◌, subst, arith}
use Rattle.lq_ast.specs.Commands.{Statement, Sentence, stated}
use Rattle.lq_ast.specs.PlainCommands.{plain_statement, plain_sentence}
use Rattle.lq_ast.specs.declared.sentence.Statement.{Statement as Statement_code}
use Rattle.lq_ast.specs.declared.sentence.Sentence.{Sentence as Code}
use Rattle.lq_ast.specs.declared.sentence.Sentence.TheVariants.{Stated}
use Rattle.lq_sentences.specs.Words.{Word, Words}
use Rattle.lq_sentences.specs.Rules.{sees}
use Rattle.lq_sentences.specs.Reading.{Whole, either, whole_map, failing, statement, statements}
use Rattle.lq_sentences.proofs.RuleLaws.{chosen_true, chosen_false}
use Rattle.lq_sentences.proofs.PlaceLaws.{Rising}
use Rattle.lq_sentences.proofs.FailLaws.{is_fail}
use Rattle.lq_sentences.proofs.FailLoops.{fail_again, fail_last, no_fail}
use Rattle.lq_phrases.specs.declared.word.Placed.{Placed}
use Rattle.lq_phrases.specs.declared.refusal.Refusal.{Refusal}
use Rattle.lq_phrases.specs.declared.refusal.Refusal.TheVariants.{NoMemory, Unexpected, TooNested, Ended}
use Rattle.lq_phrases.specs.Views.{words_of, Fails}
use Rattle.lq_syntax.specs.Wholes.{Tells, fails_of, joined, stated_behind}
use Rattle.lq_syntax.proofs.WholeLaws.{either_tells, first_tells}

-- ---- words from a place on

-- what a slice from a place on holds
abbrev pub part : ℕ → List Placed → List Placed
part n ps = take (length ps - n) (drop n ps)

take_whole : (k : ℕ) (ps : List Placed) → length ps ≤ k → take k ps ≡ ps
take_whole zero [] h = refl
take_whole zero (p ∷ ps) h = absurd (omega arith)
take_whole (suc k) [] h = refl
take_whole (suc k) (p ∷ ps) h = ap (λ qs. p ∷ qs) (take_whole k ps (omega (arith, h)))

drop_fits : (n : ℕ) (ps : List Placed) → length (drop n ps) ≤ length ps - n
drop_fits zero ps = omega arith
drop_fits (suc n) [] = omega arith
drop_fits (suc n) (p ∷ ps) = omega (arith, drop_fits n ps)

words_drop : (n : ℕ) (ps : List Placed) → words_of (drop n ps) ≡ drop n (words_of ps)
words_drop zero ps = refl
words_drop (suc n) [] = refl
words_drop (suc n) (p ∷ ps) = words_drop n ps

words_part : (n : ℕ) (ps : List Placed) → words_of (part n ps) ≡ drop n (words_of ps)
words_part n ps = ap words_of (take_whole (length ps - n) (drop n ps) (drop_fits n ps)) ∙ words_drop n ps

pub words_length : (ps : List Placed) → length (words_of ps) ≡ length ps
words_length [] = refl
words_length (p ∷ ps) = ap suc (words_length ps)

-- ---- counting

pub fails_none : (ws : Words) → sees is_fail ws ≡ false → fails_of ws ≡ 0
unfolding fails_of sees
fails_none [] e = refl
fails_none (w ∷ ws) e = chosen_false (is_fail w.0) _ _ e

pub fails_one : (n : ℕ) (ws : Words) → sees is_fail (drop n ws) ≡ true → (fails_of (drop n ws) ≡ suc (fails_of (drop (n + 1) ws))) × (n < length ws)
unfolding fails_of sees
fails_one zero [] e = absurd cc
fails_one zero (w ∷ ws) e = (chosen_true (is_fail w.0) _ _ e, omega arith)
fails_one (suc n) [] e = absurd cc
fails_one (suc n) (w ∷ ws) e =
    let r = fails_one n ws e in
    let i : suc (n + 1) ≡ suc n + 1 = omega arith in
    (r.0 ∙ ap (λ k. suc (fails_of (drop k (w ∷ ws)))) i, omega (arith, r.1))

-- what is told of the words from a place on
pub one_counted : (n : ℕ) (ps : List Placed) (b : Bool) → b ≡ sees is_fail (words_of (part n ps)) → b ≡ true →
    (fails_of (drop n (words_of ps)) ≡ suc (fails_of (drop (n + 1) (words_of ps)))) × (n < length ps)
one_counted n ps b e h =
    let r = fails_one n (words_of ps) (ap (sees is_fail) (sym (words_part n ps)) ∙ sym e ∙ h) in
    (r.0, omega (arith, r.1, words_length ps))

pub all_counted : (n : ℕ) (ps : List Placed) (b : Bool) → b ≡ sees is_fail (words_of (part n ps)) → b ≡ false → fails_of (drop n (words_of ps)) ≡ 0
all_counted n ps b e h = fails_none (drop n (words_of ps)) (ap (sees is_fail) (sym (words_part n ps)) ∙ sym e ∙ h)

-- where none is counted the first word is none
none_seen : (ws : Words) → fails_of ws ≡ 0 → sees is_fail ws ≡ false
unfolding fails_of sees
none_seen [] e = refl
none_seen (w ∷ ws) e = by (is_fail w.0) e
  where
    by : (b : Bool) → elim b as (λ _. ℕ) [ true ↦ suc (fails_of ws) | false ↦ 0 ] ≡ 0 → b ≡ false
    by true e = absurd (omega (arith, e))
    by false e = refl

-- where some are counted the first word is one
first_seen : (w : Word × ℕ) (ws : Words) (k : ℕ) → fails_of (w ∷ ws) ≡ suc k → (is_fail w.0 ≡ true) × (fails_of ws ≡ k)
unfolding fails_of
first_seen w ws k e = by (is_fail w.0) e
  where
    by : (b : Bool) → elim b as (λ _. ℕ) [ true ↦ suc (fails_of ws) | false ↦ 0 ] ≡ suc k → (b ≡ true) × (fails_of ws ≡ k)
    by true e = (refl, omega (arith, e))
    by false e = absurd (omega (arith, e))

-- ---- what is read behind them

-- a statement behind so many, and where there is none one behind all but the last
abbrev attempts : ℕ → Words → Whole Sentence
attempts n ws = either (stated_behind (suc n) ws) (λ u. stated_behind n ws)

failing_attempts : (n : ℕ) (w : Word × ℕ) (ws : Words) → whole_map failing (attempts n ws) ≡ attempts (suc n) (w ∷ ws)
failing_attempts n w ws = by (statement (drop (suc n) ws)) (statement (drop n ws))
  where
    by : (p q : Whole Statement) → whole_map failing (either (whole_map (stated (suc n)) p) (λ u. whole_map (stated n) q)) ≡ either (whole_map (stated (suc (suc n))) p) (λ u. whole_map (stated (suc n)) q)
    by (Ok s) q = refl
    by (Err e) (Ok s) = refl
    by (Err e) (Err f) = refl

two_read : (n : ℕ) (ws : Words) → Rising ws → fails_of ws ≡ suc n → statements ws ≡ attempts n ws
unfolding fails_of
two_read n [] r e = absurd (omega (arith, e))
two_read zero (w ∷ ws) r e = let i = first_seen w ws 0 e in fail_last w ws i.0 (none_seen ws i.1)
two_read (suc n) (w ∷ []) r e = let i = first_seen w [] (suc n) e in absurd (omega (arith, i.1))
two_read (suc n) (w ∷ v ∷ vs) r e =
    let i = first_seen w (v ∷ vs) (suc n) e in
    fail_again w v vs r i.0 (first_seen v vs n i.1).0
    ∙ ap (whole_map failing) (two_read n (v ∷ vs) r.1 i.1)
    ∙ failing_attempts n w (v ∷ vs)

-- behind some of them two statements are to be read
pub behind_is : (k : ℕ) (ws : Words) → Rising ws → 0 < k → k ≡ fails_of ws → statements ws ≡ either (stated_behind k ws) (λ u. stated_behind (k - 1) ws)
behind_is zero ws r h e = absurd (omega arith)
behind_is (suc n) ws r h e = let i : n ≡ suc n - 1 = omega arith in two_read n ws r (sym e) ∙ ap (λ m. either (stated_behind (suc n) ws) (λ u. stated_behind m ws)) i

-- behind none of them one
pub none_is : (ws : Words) → fails_of ws ≡ 0 → statements ws ≡ stated_behind 0 ws
none_is ws e = no_fail ws (none_seen ws e)

-- ---- what functions tell

map_fails : {A B : Type 0} (f : A → B) (e : Refusal) (r : Whole A) → Fails e r → Fails e (whole_map f r)
map_fails f NoMemory r h = tt
map_fails f (Unexpected p) r h = ap (whole_map f) h
map_fails f (TooNested p) r h = ap (whole_map f) h
map_fails f Ended r h = ap (whole_map f) h

pub stated_ok : (n : ℕ) (ps : List Placed) (s : Statement_code) → statement (words_of (part n ps)) ≡ Ok (plain_statement s) → stated_behind n (words_of ps) ≡ Ok (plain_sentence (Stated n s))
unfolding plain_sentence
stated_ok n ps s e = ap (λ ws. whole_map (stated n) (statement ws)) (sym (words_part n ps)) ∙ ap (whole_map (stated n)) e

pub stated_fails : (n : ℕ) (ps : List Placed) (e : Refusal) → Fails e (statement (words_of (part n ps))) → Fails e (stated_behind n (words_of ps))
stated_fails n ps e h =
    subst (λ ws. Fails e (whole_map (stated n) (statement ws))) (words_part n ps) (map_fails (stated n) e (statement (words_of (part n ps))) h)

pub first_attempt : (k : ℕ) (ws : Words) (s : Code) → Rising ws → 0 < k → k ≡ fails_of ws → stated_behind k ws ≡ Ok (plain_sentence s) → statements ws ≡ Ok (plain_sentence s)
first_attempt k ws s r h e f = behind_is k ws r h e ∙ first_tells plain_sentence s (stated_behind k ws) (stated_behind (k - 1) ws) f

pub second_attempt : (k : ℕ) (ws : Words) (d : Refusal) (second : Result Code Refusal) → Rising ws → 0 < k → k ≡ fails_of ws → Fails d (stated_behind k ws) →
    Tells plain_sentence (stated_behind (k - 1) ws) second → Tells plain_sentence (statements ws) (joined d second)
second_attempt k ws d second r h e f t =
    subst (λ w. Tells plain_sentence w (joined d second)) (sym (behind_is k ws r h e))
    (either_tells plain_sentence d second (stated_behind k ws) (stated_behind (k - 1) ws) f t)

pub only_attempt : (ws : Words) (r : Result Code Refusal) → fails_of ws ≡ 0 → Tells plain_sentence (stated_behind 0 ws) r → Tells plain_sentence (statements ws) r
only_attempt ws r e t = subst (λ w. Tells plain_sentence w r) (sym (none_is ws e)) t
