-- Clauses of matches up to their `=>`.
use Rattle.std.specs.Prelude.{ℕ, List, []}
use Rattle.lq_grammar.specs.declared.token.Symbol.TheVariants.{FatArrow, Turnstile, Colon, Underscore}
use Rattle.lq_trees.specs.Tree.{Name}
use Rattle.lq_ast.specs.Syntax.{Blank, Pattern}
use Rattle.lq_ast.specs.Tactics.{Tac, Hyp, Clause, any_clause, pattern_clause, sequent_clause}
use Rattle.lq_sentences.specs.Words.{is_name, is_sign}
use Rattle.lq_sentences.specs.Rules.{Rule, pure, word, choose, ◌>>=◌, ◌>>◌, ◌<$>◌}
use Rattle.lq_sentences.specs.Parts.{expect, a_name, a_binder}
use Rattle.lq_sentences.specs.Patterns as whole
use Rattle.lq_sentences.specs.Patterns.{pattern, whole_behind}
use Rattle.lq_sentences.specs.Matches.{Mode, on_goal, on_term, on_either, hyps_behind}

-- what stands before the `=>` of a clause
pub data Head : Type 0 where
  any_head : Head
  pattern_head : Pattern → Head
  sequent_head : List Hyp → Pattern → Head

-- the clause with that right side
abbrev pub headed : Head → Tac → Clause
headed any_head a = any_clause a
headed (pattern_head p) a = pattern_clause p a
headed (sequent_head hs p) a = sequent_clause hs p a

-- `|- p` behind hypotheses
abbrev pub conclusion : ℕ → List Hyp → Rule Head
conclusion n hs = do
  _ ← expect n Turnstile
  p ← pattern n
  pure (sequent_head hs p)

-- a head on the goal, behind the name of its first hypothesis
abbrev pub sequent_behind : ℕ → Name → Rule Head
sequent_behind n x = hyps_behind n x >>= conclusion n

-- [hyp {"," hyp}] "|-" pat
abbrev pub sequent : ℕ → Rule Head
sequent n = choose (is_sign Turnstile) (conclusion n []) (a_binder n >>= (λ x. sequent_behind n x.0))

-- a head with what the match is on
abbrev pub on_a_goal : Rule Head → Rule (Head × Mode)
on_a_goal p = (λ d. (d, on_goal)) <$> p

abbrev pub on_a_term : Rule Pattern → Rule (Head × Mode)
on_a_term p = (λ d. (d, on_term)) <$> (pattern_head <$> p)

-- a head behind `_`
abbrev pub behind_blank : ℕ → Mode → ℕ → Rule (Head × Mode)
behind_blank n m p =
    choose (is_sign FatArrow) (pure (any_head, m))
    (elim m [
      | on_goal ↦ on_a_goal (sequent_behind n [])
      | on_term ↦ on_a_term (whole_behind n (Blank p))
      | on_either ↦ choose (is_sign Colon) (on_a_goal (sequent_behind n [])) (on_a_term (whole_behind n (Blank p)))
    ])

-- a head of a match that may be on either, behind a name
abbrev pub behind_name : ℕ → Name → Rule (Head × Mode)
behind_name n x = choose (is_sign Colon) (on_a_goal (sequent_behind n x)) (on_a_term (whole.behind_name n x))

-- a head of a match that may be on either, which does not begin with `_`
abbrev pub on_any : ℕ → Rule (Head × Mode)
on_any n =
    choose (is_sign Turnstile) (on_a_goal (conclusion n [])) (choose is_name (a_name n >>= behind_name n) (on_a_term (pattern n)))

-- a head that does not begin with `_`
abbrev pub head_in : ℕ → Mode → Rule (Head × Mode)
head_in n on_goal = on_a_goal (sequent n)
head_in n on_term = on_a_term (pattern n)
head_in n on_either = on_any n

-- what stands before the `=>` of a clause, and what the match is on behind it
abbrev pub clause_head : ℕ → Mode → Rule (Head × Mode)
clause_head n m =
    choose (is_sign Underscore) (word n (is_sign Underscore) >>= (λ w. behind_blank n m w.1)) (head_in n m)
