-- What the grammar is made of: rules, what they derive, and how they are read.
use Rattle.std.specs.Prelude.{◌≡◌, ◌⊎◌, ℕ, zero, suc, Bool, true, false, [], ◌∷◌, length, Result, Ok, Err}
use Rattle.lq_sentences.specs.Words.{Word, Words}

-- a rule says which words a part of a sentence has, and gives the tree of that part
pub data Rule : Type 0 → Type 1 where
  -- no word, and that tree
  pure : {A : Type 0} → A → Rule A
  -- one word that passes a test, and its place. The number counts the levels of nesting that are left: at 0 no word stands.
  word : ℕ → (Word → Bool) → Rule (Word × ℕ)
  -- one part and behind it another, which may depend on the tree of the first
  both : {A B : Type 0} → Rule A → (A → Rule B) → Rule B
  -- the first rule before a word that passes a test, the second before any other and at the end
  choose : {A : Type 0} → (Word → Bool) → Rule A → Rule A → Rule A
  -- from that tree on, as long as the next word passes a test: this word, and what makes of the tree so far a new one
  loop : {A : Type 0} → ℕ → (A → Word → Bool) → (A → Word × ℕ → Rule A) → A → Rule A

infixl 10 ◌>>=◌
abbrev pub ◌>>=◌ : {A B : Type 0} → Rule A → (A → Rule B) → Rule B
p >>= f = both p f

infixl 10 ◌>>◌
abbrev pub ◌>>◌ : {A B : Type 0} → Rule A → Rule B → Rule B
p >> q = both p (λ _. q)

infixr 11 ◌<$>◌
abbrev pub ◌<$>◌ : {A B : Type 0} → (A → B) → Rule A → Rule B
f <$> p = both p (λ a. pure (f a))

-- the first rule where a test holds, else the second
abbrev pub when : {A : Type 0} → Bool → Rule A → Rule A → Rule A
when b p q = elim b [ true ↦ p | false ↦ q ]

-- whether the next word passes a test
unfoldable pub sees : (Word → Bool) → Words → Bool
sees test [] = false
sees test (w ∷ ws) = test w.0

-- a word of the test, at a level of nesting that is left
pub data IsWord : ℕ → (Word → Bool) → Words → Word × ℕ → Words → Type 0 where
  a_word : {n : ℕ} {test : Word → Bool} {w : Word × ℕ} {ws : Words} → test w.0 ≡ true → IsWord (suc n) test (w ∷ ws) w ws

-- the turns of a loop from a tree to another, as many as there are
pub data Turns {A : Type 0} (n : ℕ) (test : A → Word → Bool) (Body : A → Word × ℕ → Words → A → Words → Type 0) : A → Words → A → Words → Type 0 where
  no_turn : {a : A} {ws : Words} → sees (test a) ws ≡ false → Turns n test Body a ws a ws
  a_turn : {a b c : A} {w : Word × ℕ} {ws vs us rest : Words} →
      sees (test a) ws ≡ true → IsWord n (test a) ws w vs → Body a w vs b us → Turns n test Body b us c rest → Turns n test Body a ws c rest

-- the words begin with a part of that rule that has that tree, and the rest is left
abbrev pub Derives : {A : Type 0} → Rule A → Words → A → Words → Type 0
Derives (pure a) ws b rest = (a ≡ b) × (ws ≡ rest)
Derives (word n test) ws w rest = IsWord n test ws w rest
Derives (both {A = A} p f) ws b rest = (a : A) × (vs : Words) × Derives p ws a vs × Derives (f a) vs b rest
Derives (choose test p q) ws a rest = ((sees test ws ≡ true) × Derives p ws a rest) ⊎ ((sees test ws ≡ false) × Derives q ws a rest)
Derives (loop n test body a) ws b rest = Turns n test (λ c w vs d us. Derives (body c w) vs d us) a ws b rest

-- ---- reading

-- why nothing is read: this word does not go on, it stands too deep, or the words end
pub data Stop : Type 0 where
  unexpected : ℕ → Stop
  too_nested : ℕ → Stop
  ended : Stop

abbrev pub Read : Type 0 → Type 0
Read A = Result (A × Words) Stop

abbrev pub and_then : {A B : Type 0} → Read A → (A → Words → Read B) → Read B
and_then (Ok r) f = f r.0 r.1
and_then (Err e) f = Err e

-- one word
unfoldable pub read_word : ℕ → (Word → Bool) → Words → Read (Word × ℕ)
read_word n test [] = Err ended
read_word zero test (w ∷ ws) = elim (test w.0) [ true ↦ Err (too_nested w.1) | false ↦ Err (unexpected w.1) ]
read_word (suc n) test (w ∷ ws) = elim (test w.0) [ true ↦ Ok (w, ws) | false ↦ Err (unexpected w.1) ]

-- so many turns of a loop, each of which takes a word
unfoldable pub turns : {A : Type 0} → ℕ → ℕ → (A → Word → Bool) → (A → Word × ℕ → Words → Read A) → A → Words → Read A
turns zero n test body a ws = Ok (a, ws)
turns (suc k) n test body a ws =
    elim (sees (test a) ws) [
      | true ↦ and_then (read_word n (test a) ws) (λ w vs. and_then (body a w vs) (λ b us. turns k n test body b us))
      | false ↦ Ok (a, ws)
    ]

-- all turns of a loop: there are no more of them than words
unfoldable pub repeated : {A : Type 0} → ℕ → (A → Word → Bool) → (A → Word × ℕ → Words → Read A) → A → Words → Read A
repeated n test body a ws = turns (length ws) n test body a ws

-- what a rule gives on some words, and what is left of them
abbrev pub read : {A : Type 0} → Rule A → Words → Read A
read (pure a) ws = Ok (a, ws)
read (word n test) ws = read_word n test ws
read (both p f) ws = and_then (read p ws) (λ a vs. read (f a) vs)
read (choose test p q) ws = elim (sees test ws) [ true ↦ read p ws | false ↦ read q ws ]
read (loop n test body a) ws = repeated n test (λ b w vs. read (body b w) vs) a ws
