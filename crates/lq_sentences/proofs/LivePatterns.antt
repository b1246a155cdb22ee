-- Patterns with more levels: what is begun is completed.
use Rattle.std.proofs.Common.{◌≡◌, ℕ, ◌+◌, ◌-◌, ◌≤◌, ◌<◌, false, refl, arith}
use Rattle.std.specs.Prelude.{codes, Option, Some, None}
use Rattle.lq_grammar.specs.declared.token.Symbol.TheVariants.{OpenRound, CloseRound, OpenSquare, CloseSquare}
use Rattle.lq_trees.specs.Tree.{Name, same_name}
use Rattle.lq_ast.specs.Syntax.{Surface, Applied, Ident, whole_pattern, context_pattern}
use Rattle.lq_sentences.specs.Words.{Word, symbol, is_name, is_sign, reads}
use Rattle.lq_sentences.specs.Terms.{Spot}
use Rattle.lq_sentences.specs.Patterns.{pattern_spot, free_spot, square_term, round_term, whole_behind, inside, behind_context_name, behind_context, behind_name, pattern}
use Rattle.lq_sentences.proofs.Completing.{Live, Room, alive, pure_live, both_next, both_live, map_live, choose_other, when_live, reached}
use Rattle.lq_sentences.proofs.LiveParts.{testing, x_word, expect_live, expect_word_live, a_name_live}
use Rattle.lq_sentences.proofs.LiveTerms.{TermEnds}
use Rattle.lq_sentences.proofs.LiveLevels.{term_live, term_behind_live}

-- levels, and enough more of them for a part one level deeper
abbrev pub Deep : ℕ → ℕ → Type 0
Deep n m = (n - 1) + 3 ≤ m

pub deep_room : (n m : ℕ) → Deep n m → Room n m
deep_room n m h = (omega arith, omega arith)

-- a pattern ends before that word
abbrev pub PatternEnds : Word → Type 0
PatternEnds w = TermEnds pattern_spot w × (is_sign OpenSquare w ≡ false) × (is_name w ≡ false)

pub square_live : (n m : ℕ) → Deep n m → (c : Spot) (w : Word) → Live (symbol OpenSquare) (square_term n c) (square_term m c) w
unfolding testing
square_live n m h c w =
    both_live (expect_live x_word n m OpenSquare (deep_room n m h))
    (λ u. both_live (term_live (n - 1) (m - 1) (omega arith) c (symbol CloseSquare) (refl, refl))
    (λ a. both_live (expect_live w n m CloseSquare (deep_room n m h)) (λ v. pure_live a w)))

pub round_live : (n m : ℕ) → Deep n m → (w : Word) → Live (symbol OpenRound) (round_term n) (round_term m) w
unfolding testing
round_live n m h w =
    both_live (expect_live x_word n m OpenRound (deep_room n m h))
    (λ u. both_live (term_live (n - 1) (m - 1) (omega arith) free_spot (symbol CloseRound) (refl, refl))
    (λ a. both_live (expect_live w n m CloseRound (deep_room n m h)) (λ v. pure_live a w)))

module _ (n m : ℕ) (z : 0 < n) (h : Deep n m) (w : Word) (e : PatternEnds w) where
  pub whole_live : (f : Surface) → Live w (whole_behind n f) (whole_behind m f) w
  whole_live f = map_live whole_pattern (term_behind_live n m z (omega arith) pattern_spot f w e.0)

  inside_live : (x : Option Name) → Live (symbol OpenSquare) (inside n x) (inside m x) w
  inside_live x = map_live (context_pattern x) (square_live n m h pattern_spot w)

  context_name_live : (x : Name) → Live w (behind_context_name n x) (behind_context_name m x) w
  context_name_live x = choose_other (is_sign OpenSquare) (whole_live (Applied (Ident (codes "context")) (Ident x))) e.1 (alive (inside_live (Some x)))

  pub context_live : Live w (behind_context n) (behind_context m) w
  context_live =
      choose_other (is_sign OpenSquare)
      (choose_other is_name (whole_live (Ident (codes "context"))) e.2 (alive (both_live (a_name_live w n m (deep_room n m h)) (λ x. context_name_live x))))
      e.1
      (alive (inside_live None))

  pub name_live : (x : Name) → Live w (behind_name n x) (behind_name m x) w
  name_live x = when_live (same_name x (codes "context")) context_live (whole_live (Ident x))

pub pattern_live : (n m : ℕ) → Deep n m → (w : Word) → PatternEnds w → Live x_word (pattern n) (pattern m) w
unfolding testing
pattern_live n m h w e =
    choose_other (reads (codes "context")) (map_live whole_pattern (term_live n m (omega arith) pattern_spot w e.0)) refl
    (alive (both_next (expect_word_live w n m (codes "context") (deep_room n m h))
    (λ u ws rest i. context_live n m (reached (reads (codes "context")) (λ x. tt) n ws (u, rest) i) h w e)
    (λ u. (context_live 1 m (omega arith) (omega arith) w e).fresh)))
