-- Commands and selectors with more levels: what is begun is completed.
use Rattle.std.proofs.Common.{◌≡◌, ℕ, ◌-◌, ◌≤◌, false, List, [], refl, arith}
use Rattle.std.specs.Prelude.{codes, Option, Some, None}
use Rattle.lq_grammar.specs.declared.token.Symbol.TheVariants.{ColonEqual, OpenRound, CloseRound, OpenSquare, CloseSquare, Colon, Comma, Bar, Minus, Bang, Stop as StopSign}
use Rattle.lq_trees.specs.Tree.{Name}
use Rattle.lq_ast.specs.declared.sentence.Selector.TheVariants.{Ranges}
use Rattle.lq_ast.specs.Syntax.{Surface, Bound}
use Rattle.lq_ast.specs.Commands.{Vernac}
use Rattle.lq_ast.specs.Commands as form
use Rattle.lq_ast.specs.Plain.{joined}
use Rattle.lq_sentences.specs.declared.forms.Command.{Command}
use Rattle.lq_sentences.specs.declared.forms.Command.TheVariants as which
use Rattle.lq_sentences.specs.Words.{Word, name, symbol, is_number, is_sign, reads, text_of}
use Rattle.lq_sentences.specs.Rules.{Rule, pure, word, ◌>>=◌}
use Rattle.lq_sentences.specs.Parts.{entry}
use Rattle.lq_sentences.specs.Patterns.{free_spot}
use Rattle.lq_sentences.specs.Sentences.{all_levels, outer_group, groups, colon, constructor, constructors, head, declared, inductive_form, definition_form, statement_form, ltac_form, outcomes_form, command_words, command_of, is_entry, a_command, range, ranges, named, selected, selector}
use Rattle.lq_sentences.specs.Nesting.{group_within, groups_within, colon_within, constructor_within, constructors_within, head_within, declared_within, inductive_within, definition_within, statement_within, ltac_within, outcomes_within, command_within, command_at_within}
use Rattle.lq_sentences.proofs.Completing.{Live, Alive, Room, alive, pure_live, both_live, map_live, word_then, choose_first}
use Rattle.lq_sentences.proofs.LiveParts.{testing, x_word, zero_word, expect_live, expect_word_live, behind_live, eat_live, maybe_live, many_live, separated_live, a_name_live, names_live, a_number_live}
use Rattle.lq_sentences.proofs.LiveTerms.{TermEnds, group_live}
use Rattle.lq_sentences.proofs.LiveLevels.{term_live}
use Rattle.lq_sentences.proofs.LiveTactics.{stop_ends, tac_live}

-- the end of a sentence
abbrev pub stop_word : Word
stop_word = symbol StopSign

room : Room 201 201
room = (omega arith, omega arith)

module _ (n : ℕ) (h : 204 ≤ n) where
  groups_live : (w : Word) → is_sign OpenRound w ≡ false → Live w groups (groups_within n) w
  unfolding testing
  groups_live w f =
      map_live joined (many_live w 201 201 (is_sign OpenRound) outer_group (group_within n) room f
      (λ x i. alive (group_live w 201 201 200 (n - 1) room (omega arith, omega arith) (term_live 200 (n - 1) (omega arith) free_spot (symbol CloseRound) (refl, refl)))) [])

  colon_live : (w : Word) → TermEnds free_spot w → Live (symbol Colon) colon (colon_within n) w
  colon_live w e = behind_live 201 201 Colon room (term_live 201 n (omega arith) free_spot w e)

  constructor_live : Live x_word constructor (constructor_within n) stop_word
  unfolding testing
  constructor_live = both_live (a_name_live (symbol Colon) 201 201 room) (λ c. both_live (colon_live stop_word (refl, refl)) (λ A. pure_live _ stop_word))

  constructors_live : Live stop_word constructors (constructors_within n) stop_word
  unfolding testing
  constructors_live =
      choose_first (is_sign StopSign) (pure_live [] stop_word) refl
      (alive (both_live (eat_live (symbol Bar) x_word 201 201 (is_sign Bar) room refl refl)
      (λ u. separated_live stop_word 201 201 Bar room refl (alive constructor_live) constructor_live)))

  head_live : (w : Word) → is_sign OpenRound w ≡ false → Live x_word head (head_within n) w
  head_live w f = both_live (a_name_live w 201 201 room) (λ x. both_live (groups_live w f) (λ xs. pure_live _ w))

  declared_live : (w : Word) → TermEnds free_spot w → Live x_word declared (declared_within n) w
  unfolding testing
  declared_live w e = both_live (head_live (symbol Colon) refl) (λ x. both_live (colon_live w e) (λ A. pure_live _ w))

  inductive_live : Live x_word inductive_form (inductive_within n) stop_word
  unfolding testing
  inductive_live =
      both_live (declared_live (symbol ColonEqual) (refl, refl)) (λ d. both_live (behind_live 201 201 ColonEqual room constructors_live) (λ cs. pure_live _ stop_word))

  definition_live : Live x_word definition_form (definition_within n) stop_word
  unfolding testing
  definition_live =
      both_live (head_live (symbol ColonEqual) refl)
      (λ x. both_live (maybe_live (is_sign Colon) refl (alive (colon_live (symbol ColonEqual) (refl, refl))))
      (λ A. both_live (behind_live 201 201 ColonEqual room (term_live 201 n (omega arith) free_spot stop_word (refl, refl))) (λ t. pure_live _ stop_word)))

  statement_live : (node : Name → List Bound → Surface → Vernac) → Live x_word (statement_form node) (statement_within n node) stop_word
  unfolding testing
  statement_live node = map_live _ (declared_live stop_word (refl, refl))

  ltac_live : Live x_word ltac_form (ltac_within n) stop_word
  unfolding testing
  ltac_live =
      both_live (a_name_live (symbol ColonEqual) 201 201 room)
      (λ x. both_live (names_live (symbol ColonEqual) 201 201 room refl)
      (λ xs. both_live (expect_live x_word 201 201 ColonEqual room) (λ u. both_live (tac_live 201 n (omega arith) [] stop_word stop_ends) (λ a. pure_live _ stop_word))))

  outcomes_live : Live zero_word outcomes_form (outcomes_within n) stop_word
  outcomes_live = both_live (a_number_live x_word 201 201 room) (λ k. both_live (tac_live 201 n (omega arith) [] stop_word stop_ends) (λ a. pure_live _ stop_word))

  command_alive : (c : Command) → Alive (command_of c) (command_within n c) stop_word
  unfolding testing
  command_alive which.Inductive = alive inductive_live
  command_alive which.Definition = alive definition_live
  command_alive which.Theorem = alive (statement_live form.theorem)
  command_alive which.Lemma = alive (statement_live form.lemma)
  command_alive which.Proof = alive (pure_live _ stop_word)
  command_alive which.Qed = alive (pure_live _ stop_word)
  command_alive which.Defined = alive (pure_live _ stop_word)
  command_alive which.Abort = alive (pure_live _ stop_word)
  command_alive which.Unshelve = alive (pure_live _ stop_word)
  command_alive which.Show = alive (pure_live _ stop_word)
  command_alive which.Print = alive (map_live form.print (a_name_live stop_word 201 201 room))
  command_alive which.Check = alive (map_live form.check (term_live 201 n (omega arith) free_spot stop_word (refl, refl)))
  command_alive which.Ltac = alive ltac_live
  command_alive which.Outcomes = alive outcomes_live

  command_by : (c : Option Command) →
      Alive (elim c as (λ _. Rule Vernac) [ Some c ↦ command_of c | None ↦ pure form.show ]) (elim c as (λ _. Rule Vernac) [ Some c ↦ command_within n c | None ↦ pure form.show ]) stop_word
  command_by (Some c) = command_alive c
  command_by None = alive (pure_live _ stop_word)

  pub command_live : Live (name (codes "Show")) a_command (word all_levels (is_entry command_words) >>= (λ w. command_at_within n w.0)) stop_word
  unfolding testing a_command entry command_words
  command_live = word_then (name (codes "Show")) 201 201 (is_entry command_words) room refl (λ x i. command_by (entry command_words (text_of x.0)))

-- ---- selectors

range_live : Live zero_word range range (symbol Colon)
unfolding testing
range_live =
    both_live (a_number_live (symbol Colon) 201 201 room)
    (λ k. both_live (maybe_live (is_sign Minus) refl (alive (both_live (expect_live zero_word 201 201 Minus room) (λ u. a_number_live (symbol Colon) 201 201 room)))) (λ m. pure_live _ (symbol Colon)))

ranges_live : Live zero_word ranges ranges (symbol Colon)
unfolding testing
ranges_live = map_live Ranges (separated_live (symbol Colon) 201 201 Comma room refl (alive range_live) range_live)

named_live : Live (symbol OpenSquare) named named (symbol Colon)
named_live =
    both_live (expect_live x_word 201 201 OpenSquare room)
    (λ u. both_live (a_name_live (symbol CloseSquare) 200 200 (omega arith, omega arith)) (λ x. both_live (expect_live (symbol Colon) 201 201 CloseSquare room) (λ v. pure_live _ (symbol Colon))))

selected_live : Live zero_word selected selected (symbol Colon)
unfolding testing
selected_live =
    choose_first is_number ranges_live refl
    (alive (choose_first (is_sign OpenSquare) named_live refl
    (alive (choose_first (is_sign Bang) (map_live _ (expect_live (symbol Colon) 201 201 Bang room)) refl
    (alive (choose_first (reads (codes "par")) (map_live _ (expect_word_live (symbol Colon) 201 201 (codes "par") room)) refl
    (alive (map_live _ (expect_word_live (symbol Colon) 201 201 (codes "all") room)))))))))

pub selector_live : (w : Word) → Live zero_word selector selector w
unfolding selector
selector_live w = both_live selected_live (λ s. both_live (expect_live w 201 201 Colon room) (λ u. pure_live s w))
