-- The rules that functions read by, and the trees of what they answer.
use Rattle.std.specs.Prelude.{ℕ, ◌+◌, Bool, ◌||◌, List, [], ◌∷◌, ◌++◌, map, Option, Some, None, codes}
use Rattle.lq_ast.specs.Tactics as tree
use Rattle.lq_ast.specs.Tactics.{stepped}
use Rattle.lq_ast.specs.PlainTactics.{plain_tac, plain_clause}
use Rattle.lq_ast.specs.declared.tac.Clause.{Clause}
use Rattle.lq_ast.specs.declared.tac.Tac.{Tac}
use Rattle.lq_grammar.specs.declared.token.Symbol.TheVariants.{Bar, CloseSquare, Dots, Semicolon}
use Rattle.lq_sentences.specs.Words.{is_sign, reads}
use Rattle.lq_sentences.specs.Rules.{Rule, pure, choose, loop, ◌>>=◌, ◌<$>◌}
use Rattle.lq_sentences.specs.Levels.{Here}
use Rattle.lq_sentences.specs.Arguments.{one_place}
use Rattle.lq_sentences.specs.Arguments as laid
use Rattle.lq_sentences.specs.Matches as grammar
use Rattle.lq_sentences.specs.Matches.{right_side, clause, one_more, clauses}
use Rattle.lq_sentences.specs.Parts.{expect_word, many}
use Rattle.lq_sentences.specs.Tactics.{bind, step, level}
use Rattle.lq_phrases.specs.declared.word.Ends.{Ends}
use Rattle.lq_phrases.specs.Views.{ends_of, free}
use Rattle.lq_parts.specs.declared.matches.Mode.{Mode}
use Rattle.lq_parts.specs.Heads.{Head, headed}
use Rattle.lq_parts.specs.Views.{mode_of}
use Rattle.lq_expressions.specs.declared.places.Places.{Places}

-- an expression with so many levels left, and one without a `;`
abbrev pub a_tac : ℕ → Ends → Rule tree.Tac
a_tac n e = (level n).tac (ends_of e)

abbrev pub a_pre : ℕ → Ends → Rule tree.Tac
a_pre n e = (level n).pre (ends_of e)

-- an expression with what stands behind it, each part behind a `;`
abbrev pub steps_behind : Here → tree.Tac → Rule tree.Tac
steps_behind h a = loop (h.n + 1) (λ b w. is_sign Semicolon w) (λ b w. stepped b <$> step h) a

-- an expression, or an empty place
abbrev pub place : ℕ → Rule tree.Tac
place n = choose (λ w. is_sign Bar w || is_sign CloseSquare w || is_sign Dots w) (pure (tree.idtac [])) ((level n).tac [])

-- bindings with `with` between, and what stands behind those of a `let`
abbrev pub bindings : Here → Rule (List tree.Binding)
bindings h = bind h >>= (λ first. many h.n (reads (codes "with")) (λ w. bind h) (first ∷ []))

abbrev pub let_behind : Here → Bool → List tree.Binding → Rule tree.Tac
let_behind h is_rec all = do
  _ ← expect_word h.n (codes "in")
  a ← h.below.tac h.ends
  pure (tree.let_in is_rec (tree.bindings_of all) a)

-- the clauses of a match between `with` and `end`, with what the match is on behind them
abbrev pub match_clauses : Here → grammar.Mode → Rule grammar.Clauses
match_clauses h m = do
  _ ← expect_word h.n (codes "with")
  cs ← clauses h m
  _ ← expect_word (h.n + 1) (codes "end")
  pure cs

abbrev pub clauses_found : List Clause × Mode → grammar.Clauses
clauses_found f = (map plain_clause f.0, mode_of f.1)

-- the clauses so far and one with that head, whose right side is read, and what the match is on behind it
abbrev pub right_of : Here → Head × grammar.Mode → List tree.Clause → Rule grammar.Clauses
right_of h d cs = (λ a. (cs ++ headed d.0 a ∷ [], d.1)) <$> right_side h

-- the places, and the clauses of a match, behind those so far
abbrev pub more_places : ℕ → laid.Places → Rule laid.Places
more_places n so_far = loop n (λ p w. is_sign Bar w) (λ p w. one_place (free n) p) so_far

abbrev pub more_clauses : ℕ → grammar.Clauses → Rule grammar.Clauses
more_clauses n so_far = loop n (λ cs w. is_sign Bar w) (λ cs w. one_more cs (clause (free n) cs.1)) so_far

-- the places so far
abbrev pub places_by : List Tac → Option Tac → List Tac → laid.Places
places_by bs None cs = (map plain_tac bs, None)
places_by bs (Some a) cs = (map plain_tac bs, Some (plain_tac a, map plain_tac cs))

abbrev pub places_of : Places → laid.Places
places_of p = places_by p.before p.filler p.behind
