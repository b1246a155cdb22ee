-- What a rule reads it derives, and what it derives it reads.
use Rattle.std.proofs.Common.{◌≡◌, ℕ, zero, suc, ◌≤◌, Bool, true, false, [], ◌∷◌, length, Ok, Err, refl, ap, subst, ◌∙◌, arith, inl, inr}
use Rattle.std.specs.Prelude.{◌⊎◌}
use Rattle.lq_sentences.specs.Words.{Word, Words}
use Rattle.lq_sentences.specs.Rules.{Rule, pure, word, both, choose, loop, sees, IsWord, a_word, Turns, no_turn, a_turn, Derives, Read, and_then, read_word, turns, repeated, read}

-- the parts of a sequence that did not fail
pub then_ok : {A B : Type 0} (r : Read A) (f : A → Words → Read B) (y : B × Words) → and_then r f ≡ Ok y →
    (a : A × Words) × (r ≡ Ok a) × (f a.0 a.1 ≡ Ok y)
then_ok (Ok a) f y e = (a, refl, e)
then_ok (Err d) f y e = absurd cc

-- which way a choice went
pub choice : {A : Type 0} (b : Bool) (x y z : A) → elim b as (λ _. A) [ true ↦ x | false ↦ y ] ≡ z →
    ((b ≡ true) × (x ≡ z)) ⊎ ((b ≡ false) × (y ≡ z))
choice true x y z e = inl (refl, e)
choice false x y z e = inr (refl, e)

pub chosen_true : {A : Type 0} (b : Bool) (x y : A) → b ≡ true → elim b as (λ _. A) [ true ↦ x | false ↦ y ] ≡ x
chosen_true true x y e = refl
chosen_true false x y e = absurd cc

pub chosen_false : {A : Type 0} (b : Bool) (x y : A) → b ≡ false → elim b as (λ _. A) [ true ↦ x | false ↦ y ] ≡ y
chosen_false true x y e = absurd cc
chosen_false false x y e = refl

abbrev pub done : {A : Type 0} → A × Words → Read A
done a = Ok a

pub done_is : {A : Type 0} (a b : A × Words) → done a ≡ done b → a ≡ b
done_is a b e = cc

-- ---- one word

pub word_sound : (n : ℕ) (test : Word → Bool) (ws : Words) (y : (Word × ℕ) × Words) → read_word n test ws ≡ Ok y → IsWord n test ws y.0 y.1
unfolding read_word
word_sound zero test [] y e = absurd cc
word_sound (suc n) test [] y e = absurd cc
word_sound zero test (w ∷ ws) y e = elim (choice (test w.0) _ _ _ e) [ inl p ↦ absurd cc | inr p ↦ absurd cc ]
word_sound (suc n) test (w ∷ ws) y e =
    elim (choice (test w.0) _ _ _ e) [
      | inl p ↦ subst (λ (v : (Word × ℕ) × Words). IsWord (suc n) test (w ∷ ws) v.0 v.1) (done_is (w, ws) y p.1) (a_word p.0)
      | inr p ↦ absurd cc
    ]

pub word_only : (n : ℕ) (test : Word → Bool) (ws : Words) (w : Word × ℕ) (rest : Words) → IsWord n test ws w rest → read_word n test ws ≡ Ok (w, rest)
unfolding read_word
word_only n test ws w rest (a_word p) = chosen_true (test w.0) _ _ p

pub word_shorter : (n : ℕ) (test : Word → Bool) (ws : Words) (w : Word × ℕ) (rest : Words) → IsWord n test ws w rest → suc (length rest) ≤ length ws
word_shorter n test ws w rest (a_word p) = omega arith

-- ---- no rule leaves more words than it was given

turns_shorter : {A : Type 0} (n : ℕ) (test : A → Word → Bool) (Body : A → Word × ℕ → Words → A → Words → Type 0)
    (short : (a : A) (w : Word × ℕ) (ws : Words) (b : A) (rest : Words) → Body a w ws b rest → length rest ≤ length ws)
    (a : A) (ws : Words) (b : A) (rest : Words) → Turns n test Body a ws b rest → length rest ≤ length ws
turns_shorter n test Body short a ws b rest (no_turn stops) = omega arith
turns_shorter n test Body short a ws b rest (a_turn {b = c} {w = w} {vs = vs} {us = us} goes first body more) =
    omega (arith, word_shorter n (test a) ws w vs first, short a w vs c us body, turns_shorter n test Body short c us b rest more)

pub shorter : {A : Type 0} (p : Rule A) (ws : Words) (a : A) (rest : Words) → Derives p ws a rest → length rest ≤ length ws
shorter (pure a) ws b rest d = omega (arith, ap length d.1)
shorter (word n test) ws w rest d = omega (arith, word_shorter n test ws w rest d)
shorter (both p f) ws b rest d = omega (arith, shorter p ws d.0 d.1 d.2, shorter (f d.0) d.1 b rest d.3)
shorter (choose test p q) ws a rest (inl d) = shorter p ws a rest d.1
shorter (choose test p q) ws a rest (inr d) = shorter q ws a rest d.1
shorter (loop n test body a) ws b rest d =
    turns_shorter n test (λ c w vs e us. Derives (body c w) vs e us) (λ c w vs e us. shorter (body c w) vs e us) a ws b rest d

-- ---- what is read is derived

module _ {A : Type 0} (n : ℕ) (test : A → Word → Bool) (body : A → Word × ℕ → Words → Read A) (Body : A → Word × ℕ → Words → A → Words → Type 0)
    (short : (a : A) (w : Word × ℕ) (ws : Words) (b : A) (rest : Words) → Body a w ws b rest → length rest ≤ length ws) where
  turns_sound : (sound : (a : A) (w : Word × ℕ) (ws : Words) (y : A × Words) → body a w ws ≡ Ok y → Body a w ws y.0 y.1)
      (k : ℕ) (a : A) (ws : Words) (y : A × Words) → length ws ≤ k → turns k n test body a ws ≡ Ok y → Turns n test Body a ws y.0 y.1
  unfolding turns sees
  turns_sound sound zero a [] y h e = let q = done_is (a, []) y e in subst (λ (v : A × Words). Turns n test Body a [] v.0 v.1) q (no_turn refl)
  turns_sound sound zero a (w ∷ ws) y h e = absurd (omega arith)
  turns_sound sound (suc k) a ws y h e =
      elim (choice (sees (test a) ws) _ _ _ e) [
        | inr q ↦ (let r = done_is (a, ws) y q.1 in subst (λ (v : A × Words). Turns n test Body a ws v.0 v.1) r (no_turn q.0))
        | inl q ↦
            let w = then_ok (read_word n (test a) ws) _ y q.1 in
            let b = then_ok (body a w.0.0 w.0.1) _ y w.2 in
            let first = word_sound n (test a) ws w.0 w.1 in
            let item = sound a w.0.0 w.0.1 b.0 b.1 in
            a_turn q.0 first item
            (turns_sound sound k b.0.0 b.0.1 y (omega (arith, word_shorter n (test a) ws w.0.0 w.0.1 first, short a w.0.0 w.0.1 b.0.0 b.0.1 item)) b.2)
      ]

  turns_only : (only : (a : A) (w : Word × ℕ) (ws : Words) (b : A) (rest : Words) → Body a w ws b rest → body a w ws ≡ Ok (b, rest))
      (k : ℕ) (a : A) (ws : Words) (b : A) (rest : Words) → length ws ≤ k → Turns n test Body a ws b rest → turns k n test body a ws ≡ Ok (b, rest)
  unfolding turns sees
  turns_only only zero a ws b rest h (no_turn stops) = refl
  turns_only only (suc k) a ws b rest h (no_turn stops) = chosen_false (sees (test a) ws) _ _ stops
  turns_only only zero a ws b rest h (a_turn {w = w} {vs = vs} goes first item more) = absurd (omega (arith, word_shorter n (test a) ws w vs first))
  turns_only only (suc k) a ws b rest h (a_turn {b = c} {w = w} {vs = vs} {us = us} goes first item more) =
      chosen_true (sees (test a) ws) _ _ goes
      ∙ ap (λ r. and_then r (λ w vs. and_then (body a w vs) (λ b us. turns k n test body b us))) (word_only n (test a) ws w vs first)
      ∙ ap (λ r. and_then r (λ b us. turns k n test body b us)) (only a w vs c us item)
      ∙ turns_only only k c us b rest (omega (arith, word_shorter n (test a) ws w vs first, short a w vs c us item)) more

-- what a rule reads it derives
pub sound : {A : Type 0} (p : Rule A) (ws : Words) (y : A × Words) → read p ws ≡ Ok y → Derives p ws y.0 y.1
unfolding repeated
sound (pure a) ws y e = let q = done_is (a, ws) y e in (ap (λ v. v.0) q, ap (λ v. v.1) q)
sound (word n test) ws y e = word_sound n test ws y e
sound (both p f) ws y e =
    let a = then_ok (read p ws) _ y e in
    (a.0.0, a.0.1, sound p ws a.0 a.1, sound (f a.0.0) a.0.1 y a.2)
sound (choose test p q) ws y e =
    elim (choice (sees test ws) _ _ _ e) [ inl r ↦ inl (r.0, sound p ws y r.1) | inr r ↦ inr (r.0, sound q ws y r.1) ]
sound (loop n test body a) ws y e =
    turns_sound n test (λ b w vs. read (body b w) vs) (λ c w vs d us. Derives (body c w) vs d us) (λ c w vs d us. shorter (body c w) vs d us)
    (λ c w vs z. sound (body c w) vs z) (length ws) a ws y (omega arith) e

-- what a rule derives it reads, and so it derives one tree at most
pub only : {A : Type 0} (p : Rule A) (ws : Words) (a : A) (rest : Words) → Derives p ws a rest → read p ws ≡ Ok (a, rest)
unfolding repeated
only (pure a) ws b rest d = ap (λ c. done (c, ws)) d.0 ∙ ap (λ vs. done (b, vs)) d.1
only (word n test) ws w rest d = word_only n test ws w rest d
only (both p f) ws b rest d =
    ap (λ r. and_then r (λ a vs. read (f a) vs)) (only p ws d.0 d.1 d.2) ∙ only (f d.0) d.1 b rest d.3
only (choose test p q) ws a rest (inl d) = chosen_true (sees test ws) _ _ d.0 ∙ only p ws a rest d.1
only (choose test p q) ws a rest (inr d) = chosen_false (sees test ws) _ _ d.0 ∙ only q ws a rest d.1
only (loop n test body a) ws b rest d =
    turns_only n test (λ b w vs. read (body b w) vs) (λ c w vs d us. Derives (body c w) vs d us) (λ c w vs d us. shorter (body c w) vs d us)
    (λ c w vs z us. only (body c w) vs z us) (length ws) a ws b rest (omega arith) d
