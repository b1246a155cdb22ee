-- Messages, arguments and lists of expressions with more levels: what is begun is completed.
use Rattle.std.proofs.Common.{◌≡◌, ℕ, ◌+◌, ◌≤◌, Bool, true, false, [], refl, arith}
use Rattle.std.specs.Prelude.{codes, ◌&&◌, None}
use Rattle.lq_grammar.specs.declared.token.Symbol.TheVariants.{Arrow, Bars, Colon, Semicolon, Plus, Bar, Dots, OpenRound, CloseRound, OpenSquare, CloseSquare}
use Rattle.lq_trees.specs.Tree.{Name}
use Rattle.lq_ast.specs.Tactics.{Tac, Tacs, term_arg}
use Rattle.lq_sentences.specs.Words.{Word, symbol, is_number, is_sign, reads}
use Rattle.lq_sentences.specs.Rules.{Rule}
use Rattle.lq_sentences.specs.Parts.{eat, is_spare}
use Rattle.lq_sentences.specs.Terms.{term, begins_argument}
use Rattle.lq_sentences.specs.Levels.{Level, spot}
use Rattle.lq_sentences.specs.Arguments.{begins_message, message_word, messages, is_amount, begins_amount, begins_part, part_word, parts, failure, behind_ltac, argument_at, begins_arg, call, listed, Places, is_unfilled, one_place, branches}
use Rattle.lq_sentences.proofs.Completing.{Live, Alive, Room, alive, pure_live, both_live, map_live, word_live, choose_first, choose_other, choose_never, when_alive, loop_live}
use Rattle.lq_sentences.proofs.LiveParts.{testing, x_word, zero_word, expect_live, eat_live, maybe_live, many_live, separated_live}
use Rattle.lq_sentences.proofs.LiveTerms.{atom_at_live}
use Rattle.lq_sentences.proofs.LiveLevels.{term_live}
use Rattle.lq_sentences.proofs.LiveMatches.{here}

-- an expression ends before that word, where a word may end it
pub record TacEnds (e : Name) (w : Word) : Type 0 where
  pub arg : begins_arg e w ≡ false
  pub argument : begins_argument e w ≡ false
  pub message : begins_message e w ≡ false
  pub amount : begins_amount e w ≡ false
  pub part : begins_part e w ≡ false
  pub spare : is_spare e w ≡ false
  pub numeral : is_number w ≡ false
  pub colon : is_sign Colon w ≡ false
  pub arrow : is_sign Arrow w ≡ false
  pub plus : is_sign Plus w ≡ false
  pub bars : is_sign Bars w ≡ false
  pub semicolon : is_sign Semicolon w ≡ false
  pub names : reads (codes "as") w ≡ false

-- expressions with more levels
abbrev pub Tactics : (Name → Rule Tac) → (Name → Rule Tac) → Type 0
Tactics a b = (e : Name) (w : Word) → TacEnds e w → Live x_word (a e) (b e) w

pub round_ends : TacEnds [] (symbol CloseRound)
unfolding testing
round_ends = record {
  arg = refl;
  argument = refl;
  message = refl;
  amount = refl;
  part = refl;
  spare = refl;
  numeral = refl;
  colon = refl;
  arrow = refl;
  plus = refl;
  bars = refl;
  semicolon = refl;
  names = refl;
}

pub square_ends : TacEnds [] (symbol CloseSquare)
unfolding testing
square_ends = record {
  arg = refl;
  argument = refl;
  message = refl;
  amount = refl;
  part = refl;
  spare = refl;
  numeral = refl;
  colon = refl;
  arrow = refl;
  plus = refl;
  bars = refl;
  semicolon = refl;
  names = refl;
}

module _ (n m : ℕ) (h : n + 3 ≤ m) (b c : Level) (e : Name) (tacs : Tactics b.tac c.tac) where
  up : Room (n + 1) (m + 1)
  up = (omega arith, omega arith)

  pub messages_live : (w : Word) → begins_message e w ≡ false → Live w (messages (here n b e)) (messages (here m c e)) w
  messages_live w f = many_live w (n + 1) (m + 1) (begins_message e) message_word message_word up f (λ x i. alive (pure_live _ w)) []

  pub parts_live : (w : Word) → begins_part e w ≡ false → Live w (parts (here n b e)) (parts (here m c e)) w
  parts_live w f = many_live w (n + 1) (m + 1) (begins_part e) part_word part_word up f (λ x i. alive (pure_live _ w)) []

  pub failure_live : (w : Word) → TacEnds e w → Live w (failure (here n b e)) (failure (here m c e)) w
  unfolding testing
  failure_live w t =
      both_live (maybe_live (begins_amount e) t.amount (alive (map_live _ (word_live zero_word w (n + 1) (m + 1) is_amount up refl))))
      (λ k. both_live (messages_live w t.message) (λ ms. pure_live _ w))

  ltac_live : (w : Word) → is_sign Colon w ≡ false → Live w (behind_ltac (here n b e)) (behind_ltac (here m c e)) w
  ltac_live w f =
      choose_other (is_sign Colon) (pure_live _ w) f
      (alive (both_live (expect_live (symbol OpenRound) (n + 1) (m + 1) Colon up)
      (λ u. both_live (expect_live x_word (n + 1) (m + 1) OpenRound up)
      (λ v. both_live (tacs [] (symbol CloseRound) round_ends)
      (λ a. both_live (expect_live w (n + 1) (m + 1) CloseRound up) (λ y. pure_live _ w))))))

  argument_live : (w : Word) → is_sign Colon w ≡ false → (x : Word × ℕ) → Alive (argument_at (here n b e) x) (argument_at (here m c e) x) w
  argument_live w f x =
      let ts = term_live n m (omega arith) in
      let r : Room n m = (omega arith, omega arith) in
      when_alive (is_number x.0) (alive (pure_live _ w))
      (when_alive (reads (codes "ltac") x.0) (alive (ltac_live w f))
      (alive (map_live term_arg (atom_at_live n m n m r r (term n) (term m) (term n) (term m) ts ts (spot (here n b e)) w x).1)))

  pub call_live : (f : Name) (w : Word) → TacEnds e w → Live w (call (here n b e) f) (call (here m c e) f) w
  call_live f w t =
      map_live _ (many_live w (n + 1) (m + 1) (begins_arg e) (argument_at (here n b e)) (argument_at (here m c e)) up t.arg (λ x i. argument_live w t.colon x) [])

  pub listed_live : (node : Tacs → Tac) (w : Word) → Live (symbol OpenSquare) (listed (here n b e) node) (listed (here m c e) node) w
  unfolding testing
  listed_live node w =
      let l = tacs [] (symbol CloseSquare) square_ends in
      both_live (expect_live x_word (n + 1) (m + 1) OpenSquare up)
      (λ u. both_live (separated_live (symbol CloseSquare) n m Bar (omega arith, omega arith) refl (alive l) l)
      (λ xs. both_live (expect_live w (n + 1) (m + 1) CloseSquare up) (λ v. pure_live _ w)))

  fills_live : (x : Bool) → Live (symbol CloseSquare) (eat n (λ w. x && is_sign Dots w)) (eat m (λ w. x && is_sign Dots w)) (symbol CloseSquare)
  unfolding testing
  fills_live true = eat_live (symbol Dots) (symbol CloseSquare) n m (is_sign Dots) (omega arith, omega arith) refl refl
  fills_live false = choose_never (pure_live false (symbol CloseSquare))

  place_live : (so_far : Places) → Live (symbol CloseSquare) (one_place (here n b e) so_far) (one_place (here m c e) so_far) (symbol CloseSquare)
  unfolding testing
  place_live so_far =
      both_live (choose_first _ (pure_live _ (symbol CloseSquare)) refl (alive (tacs [] (symbol CloseSquare) square_ends)))
      (λ a. both_live (fills_live (is_unfilled so_far)) (λ x. pure_live _ (symbol CloseSquare)))

  pub branches_live : (w : Word) → Live (symbol OpenSquare) (branches (here n b e)) (branches (here m c e)) w
  unfolding testing
  branches_live w =
      both_live (expect_live (symbol CloseSquare) (n + 1) (m + 1) OpenSquare up)
      (λ u. both_live (place_live ([], None))
      (λ first. both_live
      (loop_live n m (λ so_far x. is_sign Bar x) (λ so_far x. one_place (here n b e) so_far) (λ so_far x. one_place (here m c e) so_far) (symbol CloseSquare)
      (omega arith, omega arith) (λ so_far. refl) (λ so_far x i. alive (place_live so_far)) first)
      (λ all. both_live (expect_live w (n + 1) (m + 1) CloseSquare up) (λ v. pure_live _ w))))
