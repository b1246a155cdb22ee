-- Primitives with more levels: what is begun is completed.
use Rattle.std.proofs.Common.{ℕ, ◌+◌, ◌≤◌, [], refl, arith}
use Rattle.std.specs.Prelude.{codes}
use Rattle.lq_grammar.specs.declared.token.Symbol.{Symbol}
use Rattle.lq_grammar.specs.declared.token.Symbol.TheVariants.{ColonEqual, BackArrow, OpenRound, CloseRound, OpenSquare, CloseSquare, Colon, Bar}
use Rattle.lq_trees.specs.Tree.{Name}
use Rattle.lq_ast.specs.Syntax.{Surface}
use Rattle.lq_ast.specs.Tactics.{Tac}
use Rattle.lq_sentences.specs.declared.forms.Primitive.{Primitive}
use Rattle.lq_sentences.specs.declared.forms.Primitive.TheVariants as which
use Rattle.lq_sentences.specs.Words.{Word, name, symbol, is_number, is_sign, reads}
use Rattle.lq_sentences.specs.Parts.{is_spare, name_word}
use Rattle.lq_sentences.specs.Patterns.{free_spot}
use Rattle.lq_sentences.specs.Levels.{Level, spot, a_term}
use Rattle.lq_sentences.specs.Primitives.{with_term, with_name, pair, intro_form, intros_form, constructor_form, as_part, induction_form, destruct_form, rewrite_form, rename_form, primitive}
use Rattle.lq_sentences.proofs.Completing.{Live, Alive, Room, alive, pure_live, both_live, map_live}
use Rattle.lq_sentences.proofs.LiveParts.{testing, x_word, expect_live, expect_word_live, eat_live, maybe_live, many_live, separated_live, a_name_live, names_live, a_number_live}
use Rattle.lq_sentences.proofs.LiveLevels.{term_live}
use Rattle.lq_sentences.proofs.LiveMatches.{here}
use Rattle.lq_sentences.proofs.LiveArguments.{TacEnds}

module _ (n m : ℕ) (h : n + 3 ≤ m) (b c : Level) (e : Name) (w : Word) (t : TacEnds e w) where
  room : Room n m
  room = (omega arith, omega arith)

  up : Room (n + 1) (m + 1)
  up = (omega arith, omega arith)

  pub a_term_live : Live x_word (a_term (here n b e)) (a_term (here m c e)) w
  a_term_live = term_live (n + 1) (m + 1) (omega arith) (spot (here n b e)) w (t.argument, t.arrow)

  with_term_live : (node : Surface → Tac) → Live x_word (with_term (here n b e) node) (with_term (here m c e) node) w
  with_term_live node = map_live node a_term_live

  with_name_live : (node : Name → Tac) → Live x_word (with_name (here n b e) node) (with_name (here m c e) node) w
  with_name_live node = map_live node (a_name_live w (n + 1) (m + 1) up)

  pair_live : (s : Symbol) → Live (symbol OpenRound) (pair n s) (pair m s) w
  unfolding testing
  pair_live s =
      both_live (expect_live x_word (n + 1) (m + 1) OpenRound up)
      (λ u. both_live (a_name_live (symbol s) n m room)
      (λ x. both_live (expect_live x_word n m s room)
      (λ v. both_live (term_live n m (omega arith) free_spot (symbol CloseRound) (refl, refl))
      (λ a. both_live (expect_live w (n + 1) (m + 1) CloseRound up) (λ y. pure_live _ w)))))

  as_live : Live w (as_part (here n b e)) (as_part (here m c e)) w
  unfolding testing
  as_live =
      let l = names_live (symbol CloseSquare) n m room refl in
      maybe_live (reads (codes "as")) t.names
      (alive (both_live (expect_word_live (symbol OpenSquare) (n + 1) (m + 1) (codes "as") up)
      (λ u. both_live (expect_live (symbol CloseSquare) (n + 1) (m + 1) OpenSquare up)
      (λ v. both_live (separated_live (symbol CloseSquare) n m Bar room refl (alive l) l)
      (λ xs. both_live (expect_live w (n + 1) (m + 1) CloseSquare up) (λ y. pure_live _ w))))))

  intro_live : Live w (intro_form (here n b e)) (intro_form (here m c e)) w
  intro_live = map_live _ (maybe_live (is_spare e) t.spare (alive (a_name_live w (n + 1) (m + 1) up)))

  intros_live : Live w (intros_form (here n b e)) (intros_form (here m c e)) w
  intros_live = map_live _ (many_live w (n + 1) (m + 1) (is_spare e) name_word name_word up t.spare (λ x i. alive (pure_live _ w)) [])

  constructor_live : Live w (constructor_form (here n b e)) (constructor_form (here m c e)) w
  constructor_live = map_live _ (maybe_live is_number t.numeral (alive (a_number_live w (n + 1) (m + 1) up)))

  induction_live : Live x_word (induction_form (here n b e)) (induction_form (here m c e)) w
  induction_live = both_live (a_name_live w (n + 1) (m + 1) up) (λ x. both_live as_live (λ xs. pure_live _ w))

  destruct_live : Live x_word (destruct_form (here n b e)) (destruct_form (here m c e)) w
  destruct_live = both_live a_term_live (λ x. both_live as_live (λ xs. pure_live _ w))

  rewrite_live : Live x_word (rewrite_form (here n b e)) (rewrite_form (here m c e)) w
  unfolding testing
  rewrite_live = both_live (eat_live (symbol BackArrow) x_word (n + 1) (m + 1) (is_sign BackArrow) up refl refl) (λ x. both_live a_term_live (λ a. pure_live _ w))

  rename_live : Live x_word (rename_form (here n b e)) (rename_form (here m c e)) w
  rename_live =
      both_live (a_name_live (name (codes "into")) (n + 1) (m + 1) up)
      (λ x. both_live (expect_word_live x_word (n + 1) (m + 1) (codes "into") up) (λ u. both_live (a_name_live w (n + 1) (m + 1) up) (λ y. pure_live _ w)))

  pub primitive_alive : (p : Primitive) → Alive (primitive (here n b e) p) (primitive (here m c e) p) w
  primitive_alive which.Intro = alive intro_live
  primitive_alive which.Intros = alive intros_live
  primitive_alive which.Exact = alive (with_term_live _)
  primitive_alive which.Refine = alive (with_term_live _)
  primitive_alive which.Apply = alive (with_term_live _)
  primitive_alive which.Eapply = alive (with_term_live _)
  primitive_alive which.Assumption = alive (pure_live _ w)
  primitive_alive which.Constructor = alive constructor_live
  primitive_alive which.Split = alive (pure_live _ w)
  primitive_alive which.Left = alive (pure_live _ w)
  primitive_alive which.Right = alive (pure_live _ w)
  primitive_alive which.Exists = alive (with_term_live _)
  primitive_alive which.Assert = alive (map_live _ (pair_live Colon))
  primitive_alive which.Cut = alive (with_term_live _)
  primitive_alive which.Pose = alive (map_live _ (pair_live ColonEqual))
  primitive_alive which.Exfalso = alive (pure_live _ w)
  primitive_alive which.Reflexivity = alive (pure_live _ w)
  primitive_alive which.Elim = alive (with_term_live _)
  primitive_alive which.Induction = alive induction_live
  primitive_alive which.Destruct = alive destruct_live
  primitive_alive which.Rewrite = alive rewrite_live
  primitive_alive which.Unfold = alive (with_name_live _)
  primitive_alive which.Change = alive (with_term_live _)
  primitive_alive which.Hnf = alive (pure_live _ w)
  primitive_alive which.Compute = alive (pure_live _ w)
  primitive_alive which.Clear = alive (with_name_live _)
  primitive_alive which.Rename = alive rename_live
  primitive_alive which.Revert = alive (with_name_live _)
  primitive_alive which.Generalize = alive (with_term_live _)
