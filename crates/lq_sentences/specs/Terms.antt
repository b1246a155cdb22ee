-- The grammar of terms.
use Rattle.std.specs.Prelude.{ℕ, zero, suc, ◌+◌, ◌-◌, Bool, false, not, ◌||◌, ◌&&◌, nat_le, List, [], map, codes}
use Rattle.lq_grammar.specs.declared.token.Symbol.{Symbol}
use Rattle.lq_grammar.specs.declared.token.Symbol.TheVariants.{ColonEqual, FatArrow, Arrow as ArrowSign, OpenRound, CloseRound, OpenSquare, CloseSquare, Colon, Comma, Question, Underscore}
use Rattle.lq_trees.specs.Tree.{Name}
use Rattle.lq_ast.specs.Syntax.{Surface, Domain, Forall, Fun, LetIn, Arrow, applied, Ident, Blank, PropSort, TypeSort, Cast, Meta, NewVar, Written, Missing, Bound, bound}
use Rattle.lq_ast.specs.Plain.{joined}
use Rattle.lq_sentences.specs.Words.{Word, number, is_name, is_sign, reads, text_of}
use Rattle.lq_sentences.specs.Rules.{Rule, when, pure, word, choose, ◌>>=◌, ◌<$>◌}
use Rattle.lq_sentences.specs.Parts.{expect, expect_word, behind, many, a_name, a_binder, some_binders}

-- the greatest level of `Type`
abbrev pub top_level : ℕ
top_level = 3

-- A term is read as a pattern or not, and up to a word that ends it where the term may end.
pub record Spot : Type 0 where
  pub is_pattern : Bool
  pub ends : Name

-- no word ends a term in brackets, nor where a sign must still follow
abbrev pub within : Spot → Spot
within c = record c { ends = [] }

abbrev pub begins_atom : Word → Bool
begins_atom w = is_name w || is_sign Underscore w || reads (codes "Prop") w || reads (codes "Type") w || is_sign OpenRound w || is_sign Question w

abbrev pub begins_term : Word → Bool
begins_term w = begins_atom w || reads (codes "forall") w || reads (codes "fun") w || reads (codes "let") w

-- an atom that may be left out
abbrev pub begins_argument : Name → Word → Bool
begins_argument ends w = begins_atom w && not (reads ends w)

abbrev pub is_level : Word → Bool
is_level (number n) = nat_le n top_level
is_level _ = false

abbrev pub level_of : Word → Surface
level_of (number n) = TypeSort n
level_of _ = PropSort

-- each name with the type that is written behind them, and with none
abbrev pub typed : List (Name × ℕ) → Surface → List Bound
typed xs A = map (λ x. (x.0, Written A)) xs

abbrev pub untyped : List (Name × ℕ) → List Bound
untyped xs = map (λ x. (x.0, Missing x.1)) xs

-- `x y : A`
abbrev pub typed_names : ℕ → Rule Surface → Rule (List Bound)
typed_names n term = do
  xs ← some_binders n
  A ← behind n Colon term
  pure (typed xs A)

-- what a group binds, with the bracket that closes it
abbrev pub closed : ℕ → List Bound → Rule (List Bound)
closed n xs = (λ u. xs) <$> expect n CloseRound

-- `(x y : A)`, behind its bracket, with m levels inside
abbrev pub group : ℕ → ℕ → Rule Surface → Rule (List Bound)
group n m term = typed_names m term >>= closed n

-- ---- The rules with n levels inside: a word on the term's own level has one more. `term c` reads a term one level deeper, `deeper c` two.

-- a term, with its type if one is written behind it
abbrev pub cast_behind : ℕ → (Spot → Rule Surface) → Spot → Surface → Rule Surface
cast_behind n term c t = choose (is_sign Colon) ((λ A. Cast t A) <$> behind n Colon (term (within c))) (pure t)

-- what stands behind the bracket of `(t)` and `(t : A)`
abbrev pub bracketed : ℕ → (Spot → Rule Surface) → Spot → Rule Surface
bracketed n term c = do
  t ← term (within c) >>= cast_behind n term c
  _ ← expect (n + 1) CloseRound
  pure t

-- `[x]` behind the `?` at that place
abbrev pub new_variable : ℕ → ℕ → Rule Surface
new_variable n p = do
  _ ← expect (n + 1) OpenSquare
  x ← a_name n
  _ ← expect (n + 1) CloseSquare
  pure (NewVar x p)

-- what stands behind the `?` at that place
abbrev pub behind_question : ℕ → Spot → ℕ → Rule Surface
behind_question n c p = when c.is_pattern (Meta <$> a_name (n + 1)) (new_variable n p)

-- what stands behind `Type`
abbrev pub behind_type : ℕ → Rule Surface
behind_type n = (λ w. level_of w.0) <$> word n is_level

-- what stands behind the first word of an atom
abbrev pub atom_at : ℕ → (Spot → Rule Surface) → Spot → Word × ℕ → Rule Surface
atom_at n term c w =
    when (is_sign Underscore w.0) (pure (Blank w.1))
    (when (is_sign OpenRound w.0) (bracketed n term c)
    (when (is_sign Question w.0) (behind_question n c w.1)
    (when (reads (codes "Prop") w.0) (pure PropSort)
    (when (reads (codes "Type") w.0) (behind_type (n + 1))
    (pure (Ident (text_of w.0)))))))

-- atom = name | "_" | "Prop" | "Type" number | "(" term [":" term] ")" | "?" name | "?" "[" name "]"
abbrev pub atom : ℕ → (Spot → Rule Surface) → Spot → Rule Surface
atom n term c = word (n + 1) begins_atom >>= atom_at n term c

-- the arguments behind a function
abbrev pub arguments : ℕ → (Spot → Rule Surface) → Spot → Rule (List Surface)
arguments n term c = many (n + 1) (begins_argument c.ends) (atom_at n term c) []

-- a term, or with `->` behind it an arrow
abbrev pub arrow_behind : ℕ → (Spot → Rule Surface) → Spot → Surface → Rule Surface
arrow_behind n term c A = choose (is_sign ArrowSign) ((λ B. Arrow A B) <$> behind (n + 1) ArrowSign (term c)) (pure A)

-- a term that begins with an application of f: app ["->" term]
abbrev pub arrow_term : ℕ → (Spot → Rule Surface) → Spot → Surface → Rule Surface
arrow_term n term c f = (applied f <$> arguments n term c) >>= arrow_behind n term c

-- names, with a type if one is written behind them
abbrev pub names_behind : ℕ → (Spot → Rule Surface) → Spot → List (Name × ℕ) → Rule (List Bound)
names_behind n term c xs = choose (is_sign Colon) (typed xs <$> behind n Colon (term (within c))) (pure (untyped xs))

-- the group behind a bracket
abbrev pub inner_group : ℕ → ℕ → (Spot → Rule Surface) → Spot → Word × ℕ → Rule (List Bound)
inner_group n m deeper c w = group n m (deeper (within c))

-- binders = bname {bname} [":" term] | group {group}
abbrev pub binders : ℕ → ℕ → (Spot → Rule Surface) → (Spot → Rule Surface) → Spot → Rule (List Bound)
binders n m term deeper c =
    choose (is_sign OpenRound) (joined <$> many n (is_sign OpenRound) (inner_group n m deeper c) []) (some_binders n >>= names_behind n term c)

-- "forall" binders "," term | "fun" binders "=>" term
abbrev pub quantified : ℕ → ℕ → (Spot → Rule Surface) → (Spot → Rule Surface) → Spot → Name → (Name → Domain → Surface → Surface) → Symbol → Rule Surface
quantified n m term deeper c head node s = do
  _ ← expect_word (n + 1) head
  xs ← binders n m term deeper c
  t ← behind n s (term c)
  pure (bound node xs t)

-- the type of what a `let` binds, with the place of the name where none is written
abbrev pub domain_behind : ℕ → (Spot → Rule Surface) → Spot → ℕ → Rule Domain
domain_behind n term c p = choose (is_sign Colon) (Written <$> behind n Colon (term (within c))) (pure (Missing p))

-- "let" bname [":" term]
abbrev pub let_head : ℕ → (Spot → Rule Surface) → Spot → Rule (Name × Domain)
let_head n term c = do
  _ ← expect_word (n + 1) (codes "let")
  x ← a_binder n
  A ← domain_behind n term c x.1
  pure (x.0, A)

-- ":=" term "in" term
abbrev pub let_body : ℕ → (Spot → Rule Surface) → Spot → Rule (Surface × Surface)
let_body n term c = do
  v ← behind n ColonEqual (term (within c))
  _ ← expect_word n (codes "in")
  t ← term c
  pure (v, t)

-- "let" bname [":" term] ":=" term "in" term
abbrev pub let_term : ℕ → (Spot → Rule Surface) → Spot → Rule Surface
let_term n term c = do
  x ← let_head n term c
  t ← let_body n term c
  pure (LetIn x.0 x.1 t.0 t.1)

abbrev pub term_in : ℕ → ℕ → (Spot → Rule Surface) → (Spot → Rule Surface) → Spot → Rule Surface
term_in n m term deeper c =
    choose (reads (codes "forall")) (quantified n m term deeper c (codes "forall") Forall Comma)
    (choose (reads (codes "fun")) (quantified n m term deeper c (codes "fun") Fun FatArrow)
    (choose (reads (codes "let")) (let_term n term c)
    (atom n term c >>= arrow_term n term c)))

-- terms with no level of nesting left
abbrev pub no_term : Spot → Rule Surface
no_term c = (λ w. PropSort) <$> word 0 begins_term

-- terms with so many levels of nesting left, and with one less
unfoldable pub levels : ℕ → (Spot → Rule Surface) × (Spot → Rule Surface)
levels zero = (no_term, no_term)
levels (suc n) = let l = levels n in (term_in n (n - 1) l.0 l.1, l.0)

abbrev pub term : ℕ → Spot → Rule Surface
term n = (levels n).0

-- atoms with no level of nesting left
abbrev pub no_atom : Spot → Rule Surface
no_atom c = (λ w. PropSort) <$> word 0 begins_atom

-- an atom with so many levels left, and what a term goes on with behind its first atom
unfoldable pub atom_level : ℕ → Spot → Rule Surface
atom_level zero c = no_atom c
atom_level (suc n) c = atom n (term n) c

unfoldable pub term_behind : ℕ → Spot → Surface → Rule Surface
term_behind zero c f = pure f
term_behind (suc n) c f = arrow_term n (term n) c f
