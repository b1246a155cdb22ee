-- A loop is one turn and the loop again.
use Rattle.std.proofs.Common.{◌≡◌, ℕ, zero, suc, ◌≤◌, Bool, true, false, List, [], ◌∷◌, length, ◌++◌, Ok, Err, refl, sym, ◌∙◌, arith}
use Rattle.lq_grammar.specs.declared.token.Symbol.{Symbol}
use Rattle.lq_sentences.specs.Words.{Word, Words, is_sign}
use Rattle.lq_sentences.specs.Parts.{many, expect}
use Rattle.lq_sentences.specs.Rules.{Rule, loop, ◌<$>◌, sees, IsWord, a_word, Read, and_then, read_word, turns, repeated, read}
use Rattle.lq_sentences.proofs.RuleLaws.{sound, shorter, word_sound, word_shorter, chosen_true, chosen_false}

-- what comes behind an answer counts only where there is one
pub then_same : {A B : Type 0} (r : Read A) (f g : A → Words → Read B) → ((y : A × Words) → r ≡ Ok y → f y.0 y.1 ≡ g y.0 y.1) → and_then r f ≡ and_then r g
then_same (Ok y) f g e = e y refl
then_same (Err d) f g e = refl

same_choice : {A : Type 0} (b : Bool) (x y z : A) → x ≡ y → elim b as (λ _. A) [ true ↦ x | false ↦ z ] ≡ elim b as (λ _. A) [ true ↦ y | false ↦ z ]
same_choice true x y z e = e
same_choice false x y z e = refl

module _ {A : Type 0} (n : ℕ) (test : A → Word → Bool) (body : A → Word × ℕ → Rule A) where
  abbrev run : A → Word × ℕ → Words → Read A
  run b w vs = read (body b w) vs

  -- the words behind a turn are fewer
  behind_turn : (a : A) (ws : Words) (w : (Word × ℕ) × Words) (y : A × Words) → read_word n (test a) ws ≡ Ok w → run a w.0 w.1 ≡ Ok y → suc (length y.1) ≤ length ws
  behind_turn a ws w y e f =
      omega (arith, word_shorter n (test a) ws w.0 w.1 (word_sound n (test a) ws w e), shorter (body a w.0) w.1 y.0 y.1 (sound (body a w.0) w.1 y f))

  -- as many turns as there are words are enough
  turns_enough : (k m : ℕ) (a : A) (ws : Words) → length ws ≤ k → length ws ≤ m → turns k n test run a ws ≡ turns m n test run a ws
  unfolding turns sees
  turns_enough zero zero a ws h i = refl
  turns_enough zero (suc m) a [] h i = refl
  turns_enough zero (suc m) a (w ∷ ws) h i = absurd (omega arith)
  turns_enough (suc k) zero a [] h i = refl
  turns_enough (suc k) zero a (w ∷ ws) h i = absurd (omega arith)
  turns_enough (suc k) (suc m) a ws h i =
      same_choice (sees (test a) ws) _ _ _
      (then_same (read_word n (test a) ws) _ _ (λ w e.
      then_same (run a w.0 w.1) _ _ (λ y f.
      let less = behind_turn a ws w y e f in
      turns_enough k m y.0 y.1 (omega (arith, less)) (omega (arith, less)))))

  -- a loop that goes on
  pub loop_again : (a : A) (ws : Words) → sees (test a) ws ≡ true →
      read (loop n test body a) ws ≡ and_then (read_word n (test a) ws) (λ w vs. and_then (read (body a w) vs) (λ b us. read (loop n test body b) us))
  unfolding turns sees repeated
  loop_again a [] e = absurd cc
  loop_again a (w ∷ ws) e =
      chosen_true (sees (test a) (w ∷ ws)) _ _ e
      ∙ then_same (read_word n (test a) (w ∷ ws)) _ _ (λ v f.
      then_same (run a v.0 v.1) _ _ (λ y g.
      let less = behind_turn a (w ∷ ws) v y f g in
      turns_enough (length ws) (length y.1) y.0 y.1 (omega (arith, less)) (omega arith)))

  -- a loop that ends
  pub loop_done : (a : A) (ws : Words) → sees (test a) ws ≡ false → read (loop n test body a) ws ≡ Ok (a, ws)
  unfolding turns sees repeated
  loop_done a [] e = refl
  loop_done a (w ∷ ws) e = chosen_false (sees (test a) (w ∷ ws)) _ _ e

-- an answer leaves no more words than were given, and one word takes one
pub read_shorter : {A : Type 0} (p : Rule A) (ws : Words) (a : A) (rest : Words) → read p ws ≡ Ok (a, rest) → length rest ≤ length ws
read_shorter p ws a rest e = shorter p ws a rest (sound p ws (a, rest) e)

pub word_takes : (n : ℕ) (test : Word → Bool) (ws : Words) (w : Word × ℕ) (rest : Words) → read_word n test ws ≡ Ok (w, rest) → suc (length rest) ≤ length ws
word_takes n test ws w rest e = word_shorter n test ws w rest (word_sound n test ws (w, rest) e)

-- a word that is read passes the test
pub word_passes : (n : ℕ) (test : Word → Bool) (ws : Words) (w : Word × ℕ) (rest : Words) → read_word n test ws ≡ Ok (w, rest) → test w.0 ≡ true
word_passes n test ws w rest e = passes (word_sound n test ws (w, rest) e)
  where
    passes : {n : ℕ} {test : Word → Bool} {ws : Words} {w : Word × ℕ} {rest : Words} → IsWord n test ws w rest → test w.0 ≡ true
    passes (a_word p) = p

-- ---- parts in a row

pub then_then : {A B C : Type 0} (r : Read A) (f : A → Words → Read B) (g : B → Words → Read C) → and_then (and_then r f) g ≡ and_then r (λ a vs. and_then (f a vs) g)
then_then (Ok y) f g = refl
then_then (Err d) f g = refl

-- one more part, where the next word begins one
pub many_again : {A : Type 0} (n : ℕ) (test : Word → Bool) (item : Word × ℕ → Rule A) (found : List A) (ws : Words) → sees test ws ≡ true →
    read (many n test item found) ws ≡ and_then (read_word n test ws) (λ w vs. and_then (read (item w) vs) (λ x us. read (many n test item (found ++ x ∷ [])) us))
many_again n test item found ws e =
    loop_again n (λ xs w. test w) (λ xs w. (λ x. xs ++ x ∷ []) <$> item w) found ws e
    ∙ then_same (read_word n test ws) _ _ (λ y f. then_then (read (item y.0) y.1) _ _)

-- none, where it does not
pub many_done : {A : Type 0} (n : ℕ) (test : Word → Bool) (item : Word × ℕ → Rule A) (found : List A) (ws : Words) → sees test ws ≡ false →
    read (many n test item found) ws ≡ Ok (found, ws)
many_done n test item found ws e = loop_done n (λ xs w. test w) (λ xs w. (λ x. xs ++ x ∷ []) <$> item w) found ws e

-- one more part behind a sign
pub separated_again : {A : Type 0} (n : ℕ) (s : Symbol) (p : Rule A) (found : List A) (ws : Words) → sees (is_sign s) ws ≡ true →
    read (many n (is_sign s) (λ w. p) found) ws ≡ and_then (read (expect n s) ws) (λ u vs. and_then (read p vs) (λ x us. read (many n (is_sign s) (λ w. p) (found ++ x ∷ [])) us))
separated_again n s p found ws e = many_again n (is_sign s) (λ w. p) found ws e ∙ sym (then_then (read_word n (is_sign s) ws) _ _)
