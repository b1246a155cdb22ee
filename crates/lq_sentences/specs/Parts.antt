-- Rules that the grammar's rules are put together from.
use Rattle.std.specs.Prelude.{ℕ, Bool, true, false, not, ◌&&◌, ◌||◌, List, [], ◌∷◌, ◌++◌, Option, Some, None}
use Rattle.lq_grammar.specs.declared.token.Symbol.{Symbol}
use Rattle.lq_grammar.specs.declared.token.Symbol.TheVariants.{Underscore}
use Rattle.lq_trees.specs.Tree.{Name, same_name}
use Rattle.lq_sentences.specs.Words.{Word, is_name, is_number, is_sign, reads, text_of, value_of}
use Rattle.lq_sentences.specs.Rules.{Rule, pure, word, choose, loop, ◌>>=◌, ◌>>◌, ◌<$>◌}

-- that symbol, and that word
abbrev pub expect : ℕ → Symbol → Rule (Unit {0})
expect n s = (λ w. tt) <$> word n (is_sign s)

abbrev pub expect_word : ℕ → Name → Rule (Unit {0})
expect_word n x = (λ w. tt) <$> word n (reads x)

-- a part behind a symbol
abbrev pub behind : {A : Type 0} → ℕ → Symbol → Rule A → Rule A
behind n s p = expect n s >> p

-- the next word if it passes a test, and whether it does
abbrev pub eat : ℕ → (Word → Bool) → Rule Bool
eat n test = choose test ((λ w. true) <$> word n test) (pure false)

-- a part if the next word passes a test
abbrev pub maybe : {A : Type 0} → (Word → Bool) → Rule A → Rule (Option A)
maybe test p = choose test (Some <$> p) (pure None)

-- behind those found so far, the parts that begin with a word of the test; `item` says what comes of such a word
abbrev pub many : {A : Type 0} → ℕ → (Word → Bool) → (Word × ℕ → Rule A) → List A → Rule (List A)
many n test item found = loop n (λ xs w. test w) (λ xs w. (λ x. xs ++ x ∷ []) <$> item w) found

-- one or more
abbrev pub some : {A : Type 0} → ℕ → (Word → Bool) → (Word × ℕ → Rule A) → Rule (List A)
some n test item = do
  w ← word n test
  x ← item w
  many n test item (x ∷ [])

-- one or more, with a symbol between
abbrev pub separated : {A : Type 0} → ℕ → Symbol → Rule A → Rule (List A)
separated n s p = do
  x ← p
  many n (is_sign s) (λ w. p) (x ∷ [])

-- ---- names and numbers

abbrev pub name_word : Word × ℕ → Rule Name
name_word w = pure (text_of w.0)

abbrev pub a_name : ℕ → Rule Name
a_name n = (λ w. text_of w.0) <$> word n is_name

-- names, and at least one
abbrev pub names : ℕ → Rule (List Name)
names n = many n is_name name_word []

abbrev pub some_names : ℕ → Rule (List Name)
some_names n = some n is_name name_word

abbrev pub a_number : ℕ → Rule ℕ
a_number n = (λ w. value_of w.0) <$> word n is_number

-- a name where one may be left out: not the word that ends what is read here
abbrev pub is_spare : Name → Word → Bool
is_spare ends w = is_name w && not (reads ends w)

-- what may be bound: a name, or `_`, which is the empty name
abbrev pub is_binder : Word → Bool
is_binder w = is_name w || is_sign Underscore w

abbrev pub a_binder : ℕ → Rule (Name × ℕ)
a_binder n = (λ w. (text_of w.0, w.1)) <$> word n is_binder

abbrev pub binder_word : Word × ℕ → Rule (Name × ℕ)
binder_word w = pure (text_of w.0, w.1)

abbrev pub some_binders : ℕ → Rule (List (Name × ℕ))
some_binders n = some n is_binder binder_word

-- what stands behind a word in a table of words, if it is there
unfoldable pub entry : {A : Type 0} → List (Name × A) → Name → Option A
entry [] x = None
entry (e ∷ es) x = elim (same_name e.0 x) [ true ↦ Some e.1 | false ↦ entry es x ]
