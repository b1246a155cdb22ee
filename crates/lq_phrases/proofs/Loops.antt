-- Parts in a row, read from one of them on.
use Rattle.std.proofs.Common.{◌≡◌, ℕ, Bool, true, false, List, [], ◌∷◌, ◌++◌, map, Ok, refl, ap, ◌∙◌}
use Rattle.lq_sentences.specs.Words.{Word, Words}
use Rattle.lq_sentences.specs.Rules.{Rule, loop, sees, Read, and_then, read_word, read}
use Rattle.lq_sentences.specs.Parts.{many}
use Rattle.lq_sentences.proofs.LoopLaws.{loop_again, loop_done, many_again, many_done}

-- what is read behind the parts that are found
unfoldable pub many_from : {A : Type 0} → ℕ → (Word → Bool) → (Word × ℕ → Rule A) → List A → Words → Read (List A)
many_from n test item found ws = read (many n test item found) ws

pub many_is : {A : Type 0} (n : ℕ) (test : Word → Bool) (item : Word × ℕ → Rule A) (found : List A) (ws : Words) → many_from n test item found ws ≡ read (many n test item found) ws
unfolding many_from
many_is n test item found ws = refl

pub many_goes : {A : Type 0} (n : ℕ) (test : Word → Bool) (item : Word × ℕ → Rule A) (found : List A) (ws : Words) → sees test ws ≡ true →
    many_from n test item found ws ≡ and_then (read_word n test ws) (λ w vs. and_then (read (item w) vs) (λ x us. many_from n test item (found ++ x ∷ []) us))
unfolding many_from
many_goes n test item found ws e = many_again n test item found ws e

pub many_ends : {A : Type 0} (n : ℕ) (test : Word → Bool) (item : Word × ℕ → Rule A) (found : List A) (ws : Words) → sees test ws ≡ false → many_from n test item found ws ≡ Ok (found, ws)
unfolding many_from
many_ends n test item found ws e = many_done n test item found ws e

-- one part more, found behind a word of the test
pub many_step : {A : Type 0} {r : Read (List A)} (n : ℕ) (test : Word → Bool) (item : Word × ℕ → Rule A) (found : List A) (ws : Words) (w : Word × ℕ) (vs : Words) (x : A) (us : Words) →
    r ≡ many_from n test item found ws → sees test ws ≡ true → read_word n test ws ≡ Ok (w, vs) → read (item w) vs ≡ Ok (x, us) → r ≡ many_from n test item (found ++ x ∷ []) us
many_step n test item found ws w vs x us e s f g =
    e
    ∙ many_goes n test item found ws s
    ∙ ap (λ q. and_then q (λ w vs. and_then (read (item w) vs) (λ x us. many_from n test item (found ++ x ∷ []) us))) f
    ∙ ap (λ q. and_then q (λ x us. many_from n test item (found ++ x ∷ []) us)) g

-- a tree more
pub map_more : {A B : Type 0} (f : A → B) (xs : List A) (x : A) → map f (xs ++ x ∷ []) ≡ map f xs ++ f x ∷ []
map_more f [] x = refl
map_more f (y ∷ ys) x = ap (λ zs. f y ∷ zs) (map_more f ys x)

-- ---- turns that depend on what is found

-- what is read behind what is put together so far
unfoldable pub loop_from : {A : Type 0} → ℕ → (A → Word → Bool) → (A → Word × ℕ → Rule A) → A → Words → Read A
loop_from n test body a ws = read (loop n test body a) ws

pub loop_is : {A : Type 0} (n : ℕ) (test : A → Word → Bool) (body : A → Word × ℕ → Rule A) (a : A) (ws : Words) → loop_from n test body a ws ≡ read (loop n test body a) ws
unfolding loop_from
loop_is n test body a ws = refl

pub loop_goes : {A : Type 0} (n : ℕ) (test : A → Word → Bool) (body : A → Word × ℕ → Rule A) (a : A) (ws : Words) → sees (test a) ws ≡ true →
    loop_from n test body a ws ≡ and_then (read_word n (test a) ws) (λ w vs. and_then (read (body a w) vs) (λ b us. loop_from n test body b us))
unfolding loop_from
loop_goes n test body a ws e = loop_again n test body a ws e

pub loop_ends : {A : Type 0} (n : ℕ) (test : A → Word → Bool) (body : A → Word × ℕ → Rule A) (a : A) (ws : Words) → sees (test a) ws ≡ false → loop_from n test body a ws ≡ Ok (a, ws)
unfolding loop_from
loop_ends n test body a ws e = loop_done n test body a ws e

pub ruleset loops = (many_is, many_goes, many_ends, map_more)

pub ruleset turns = (loop_is, loop_goes, loop_ends)
