-- The grammar of patterns, and of terms in brackets.
use Rattle.std.specs.Prelude.{ℕ, ◌-◌, true, false, [], Option, Some, None, codes}
use Rattle.lq_grammar.specs.declared.token.Symbol.TheVariants.{OpenRound, CloseRound, OpenSquare, CloseSquare}
use Rattle.lq_trees.specs.Tree.{Name, same_name}
use Rattle.lq_ast.specs.Syntax.{Surface, Applied, Ident, Pattern, whole_pattern, context_pattern}
use Rattle.lq_sentences.specs.Words.{is_name, is_sign, reads}
use Rattle.lq_sentences.specs.Rules.{Rule, pure, choose, ◌>>=◌, ◌>>◌, ◌<$>◌}
use Rattle.lq_sentences.specs.Parts.{expect, expect_word, a_name}
use Rattle.lq_sentences.specs.Terms.{Spot, term, term_behind}

abbrev pub pattern_spot : Spot
pattern_spot = record { is_pattern = true; ends = [] }

abbrev pub free_spot : Spot
free_spot = record { is_pattern = false; ends = [] }

-- `[t]`
abbrev pub square_term : ℕ → Spot → Rule Surface
square_term n c = do
  _ ← expect n OpenSquare
  t ← term (n - 1) c
  _ ← expect n CloseSquare
  pure t

-- `(t)`
abbrev pub round_term : ℕ → Rule Surface
round_term n = do
  _ ← expect n OpenRound
  t ← term (n - 1) free_spot
  _ ← expect n CloseRound
  pure t

-- a pattern that is a term, behind its first atom
abbrev pub whole_behind : ℕ → Surface → Rule Pattern
whole_behind n f = whole_pattern <$> term_behind n pattern_spot f

abbrev pub inside : ℕ → Option Name → Rule Pattern
inside n x = context_pattern x <$> square_term n pattern_spot

-- behind the word `context` and a name: `[t]`, or what a term goes on with
abbrev pub behind_context_name : ℕ → Name → Rule Pattern
behind_context_name n x =
    choose (is_sign OpenSquare) (inside n (Some x)) (whole_behind n (Applied (Ident (codes "context")) (Ident x)))

-- behind the word `context`: `[t]`, `C [t]`, or what a term goes on with
abbrev pub behind_context : ℕ → Rule Pattern
behind_context n =
    choose (is_sign OpenSquare) (inside n None)
    (choose is_name (a_name n >>= behind_context_name n) (whole_behind n (Ident (codes "context"))))

-- behind a name that begins a pattern
abbrev pub behind_name : ℕ → Name → Rule Pattern
behind_name n x = elim (same_name x (codes "context")) [ true ↦ behind_context n | false ↦ whole_behind n (Ident x) ]

-- pat = "context" [name] "[" term "]" | term
abbrev pub pattern : ℕ → Rule Pattern
pattern n =
    choose (reads (codes "context")) (expect_word n (codes "context") >> behind_context n)
    (whole_pattern <$> term n pattern_spot)
