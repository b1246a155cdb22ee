-- Ltac expressions with more levels: what is begun is completed.
use Rattle.std.proofs.Common.{◌≡◌, ℕ, zero, suc, ◌+◌, ◌≤◌, [], ◌∷◌, Ok, refl, ap, ◌∙◌, arith}
use Rattle.std.specs.Prelude.{codes, Option, Some, None}
use Rattle.lq_grammar.specs.declared.token.Symbol.TheVariants.{ColonEqual, FatArrow, Bars, OpenRound, CloseRound, OpenSquare, Colon, Semicolon, Minus, Plus, Stop as StopSign}
use Rattle.lq_trees.specs.Tree.{Name}
use Rattle.lq_ast.specs.Tactics.{Tac, args_of, stepped}
use Rattle.lq_ast.specs.Tactics as form
use Rattle.lq_sentences.specs.declared.forms.Form.{Form}
use Rattle.lq_sentences.specs.declared.forms.Form.TheVariants as which
use Rattle.lq_sentences.specs.declared.forms.Prefix.{Prefix}
use Rattle.lq_sentences.specs.declared.forms.Prefix.TheVariants as before
use Rattle.lq_sentences.specs.declared.forms.Primitive.{Primitive}
use Rattle.lq_sentences.specs.Words.{Word, Words, name, symbol, is_number, is_sign, reads, text_of}
use Rattle.lq_sentences.specs.Rules.{Rule, loop, ◌<$>◌, sees, and_then, read}
use Rattle.lq_sentences.specs.Parts.{entry}
use Rattle.lq_sentences.specs.Terms.{term}
use Rattle.lq_sentences.specs.Patterns.{free_spot}
use Rattle.lq_sentences.specs.Levels.{Level, spot}
use Rattle.lq_sentences.specs.Primitives.{primitive_words, primitive}
use Rattle.lq_sentences.specs.Arguments.{begins_arg, argument_at, is_amount, call}
use Rattle.lq_sentences.specs.Tactics.{function_form, bind, let_form, is_reduction, eval_form, type_form, constr_form, context_form, cycle_form, swap_form, form_words, form_of, do_form, tryif_form, prefix_words, prefixed, round_tac, basic_at, operated, basic, pre_at, begins_pre, pre_in, step, tac_in, level}
use Rattle.lq_sentences.proofs.RuleLaws.{chosen_false}
use Rattle.lq_sentences.proofs.LoopLaws.{many_done, loop_done}
use Rattle.lq_sentences.proofs.WordLaws.{word_ended, word_wrong, word_right, sees_next}
use Rattle.lq_sentences.proofs.Completing.{Begins, Fresh, Live, Alive, Room, alive, pure_live, both_live, map_live, word_then, word_live, choose_other, when_alive, loop_live, Refuses, none_live}
use Rattle.lq_sentences.proofs.LiveParts.{testing, x_word, zero_word, expect_live, expect_word_live, eat_live, many_live, a_name_live, names_live, some_names_live, a_number_live}
use Rattle.lq_sentences.proofs.LiveTerms.{atom_live}
use Rattle.lq_sentences.proofs.LiveLevels.{term_live}
use Rattle.lq_sentences.proofs.LivePatterns.{square_live, round_live}
use Rattle.lq_sentences.proofs.LiveMatches.{here, end_word, match_live}
use Rattle.lq_sentences.proofs.LiveArguments.{TacEnds, Tactics, round_ends, parts_live, messages_live, failure_live, call_live, listed_live, branches_live}
use Rattle.lq_sentences.proofs.LivePrimitives.{a_term_live, primitive_alive}

abbrev in_word : Word
in_word = name (codes "in")

abbrev then_word : Word
then_word = name (codes "then")

abbrev else_word : Word
else_word = name (codes "else")

in_ends : TacEnds [] in_word
unfolding testing
in_ends = record {
  arg = refl;
  argument = refl;
  message = refl;
  amount = refl;
  part = refl;
  spare = refl;
  numeral = refl;
  colon = refl;
  arrow = refl;
  plus = refl;
  bars = refl;
  semicolon = refl;
  names = refl;
}

end_ends : TacEnds [] end_word
unfolding testing
end_ends = record {
  arg = refl;
  argument = refl;
  message = refl;
  amount = refl;
  part = refl;
  spare = refl;
  numeral = refl;
  colon = refl;
  arrow = refl;
  plus = refl;
  bars = refl;
  semicolon = refl;
  names = refl;
}

then_ends : TacEnds (codes "then") then_word
unfolding testing
then_ends = record {
  arg = refl;
  argument = refl;
  message = refl;
  amount = refl;
  part = refl;
  spare = refl;
  numeral = refl;
  colon = refl;
  arrow = refl;
  plus = refl;
  bars = refl;
  semicolon = refl;
  names = refl;
}

else_ends : TacEnds (codes "else") else_word
unfolding testing
else_ends = record {
  arg = refl;
  argument = refl;
  message = refl;
  amount = refl;
  part = refl;
  spare = refl;
  numeral = refl;
  colon = refl;
  arrow = refl;
  plus = refl;
  bars = refl;
  semicolon = refl;
  names = refl;
}

pub stop_ends : TacEnds [] (symbol StopSign)
unfolding testing
stop_ends = record {
  arg = refl;
  argument = refl;
  message = refl;
  amount = refl;
  part = refl;
  spare = refl;
  numeral = refl;
  colon = refl;
  arrow = refl;
  plus = refl;
  bars = refl;
  semicolon = refl;
  names = refl;
}

module _ (n m : ℕ) (h : n + 3 ≤ m) (b c : Level) (tacs : Tactics b.tac c.tac) (pres : Tactics b.pre c.pre) (e : Name) (w : Word) (t : TacEnds e w) where
  room : Room n m
  room = (omega arith, omega arith)

  up : Room (n + 1) (m + 1)
  up = (omega arith, omega arith)

  -- ---- forms with words of their own

  function_live : Live x_word (function_form (here n b e)) (function_form (here m c e)) w
  unfolding testing
  function_live =
      both_live (some_names_live (symbol FatArrow) n m room refl)
      (λ xs. both_live (expect_live x_word n m FatArrow room) (λ u. both_live (tacs e w t) (λ a. pure_live _ w)))

  bind_live : Live x_word (bind (here n b e)) (bind (here m c e)) in_word
  unfolding testing
  bind_live =
      both_live (a_name_live (symbol ColonEqual) n m room)
      (λ f. both_live (names_live (symbol ColonEqual) n m room refl)
      (λ xs. both_live (expect_live x_word n m ColonEqual room) (λ u. both_live (tacs [] in_word in_ends) (λ a. pure_live _ in_word))))

  let_live : Live x_word (let_form (here n b e)) (let_form (here m c e)) w
  unfolding testing
  let_live =
      both_live (eat_live (name (codes "rec")) x_word n m (reads (codes "rec")) room refl refl)
      (λ r. both_live bind_live
      (λ first. both_live (many_live in_word n m (reads (codes "with")) (λ x. bind (here n b e)) (λ x. bind (here m c e)) room refl (λ y i. alive bind_live) (first ∷ []))
      (λ all. both_live (expect_word_live x_word n m (codes "in") room) (λ u. both_live (tacs e w t) (λ a. pure_live _ w)))))

  eval_live : Live (name (codes "hnf")) (eval_form (here n b e)) (eval_form (here m c e)) w
  unfolding testing
  eval_live =
      both_live (word_live (name (codes "hnf")) in_word (n + 1) (m + 1) is_reduction up refl)
      (λ x. both_live (expect_word_live x_word (n + 1) (m + 1) (codes "in") up) (λ u. both_live (a_term_live n m h b c e w t) (λ a. pure_live _ w)))

  type_live : Live (name (codes "of")) (type_form (here n b e)) (type_form (here m c e)) w
  type_live =
      let ts = term_live n m (omega arith) in
      both_live (expect_word_live x_word (n + 1) (m + 1) (codes "of") up)
      (λ u. map_live form.type_of (atom_live n m n m room room (term n) (term m) (term n) (term m) ts ts (spot (here n b e)) w))

  constr_live : Live (symbol Colon) (constr_form (here n b e)) (constr_form (here m c e)) w
  constr_live =
      both_live (expect_live (symbol OpenRound) (n + 1) (m + 1) Colon up) (λ u. map_live form.constr (round_live (n + 1) (m + 1) (omega arith) w))

  context_live : Live x_word (context_form (here n b e)) (context_form (here m c e)) w
  context_live =
      both_live (a_name_live (symbol OpenSquare) (n + 1) (m + 1) up)
      (λ x. both_live (square_live (n + 1) (m + 1) (omega arith) free_spot w) (λ a. pure_live _ w))

  cycle_live : Live zero_word (cycle_form (here n b e)) (cycle_form (here m c e)) w
  unfolding testing
  cycle_live =
      both_live (eat_live (symbol Minus) zero_word (n + 1) (m + 1) (is_sign Minus) up refl refl)
      (λ x. both_live (a_number_live w (n + 1) (m + 1) up) (λ k. pure_live _ w))

  swap_live : Live zero_word (swap_form (here n b e)) (swap_form (here m c e)) w
  swap_live =
      both_live (a_number_live zero_word (n + 1) (m + 1) up) (λ i. both_live (a_number_live w (n + 1) (m + 1) up) (λ j. pure_live _ w))

  form_alive : (f : Form) → Alive (form_of (here n b e) f) (form_of (here m c e) f) w
  form_alive which.First = alive (listed_live n m h b c e tacs form.first w)
  form_alive which.Solve = alive (listed_live n m h b c e tacs form.solve w)
  form_alive (which.Match manner) = alive (match_live n m (omega arith) b c e (tacs [] end_word end_ends) manner w)
  form_alive which.Idtac = alive (map_live form.idtac (messages_live n m h b c e tacs w t.message))
  form_alive which.Fail = alive (map_live _ (failure_live n m h b c e tacs w t))
  form_alive which.Gfail = alive (map_live _ (failure_live n m h b c e tacs w t))
  form_alive which.Fun = alive function_live
  form_alive which.Let = alive let_live
  form_alive which.Fresh = alive (map_live form.fresh (parts_live n m h b c e tacs w t.part))
  form_alive which.Type = alive type_live
  form_alive which.Eval = alive eval_live
  form_alive which.Constr = alive constr_live
  form_alive which.Context = alive context_live
  form_alive which.Shelve = alive (pure_live _ w)
  form_alive which.Revgoals = alive (pure_live _ w)
  form_alive which.Cycle = alive cycle_live
  form_alive which.Swap = alive swap_live

  -- ---- prefixes

  do_live : Live zero_word (do_form (here n b e)) (do_form (here m c e)) w
  unfolding testing
  do_live = both_live (map_live _ (word_live zero_word x_word n m is_amount room refl)) (λ k. both_live (pres e w t) (λ a. pure_live _ w))

  tryif_live : Live x_word (tryif_form (here n b e)) (tryif_form (here m c e)) w
  tryif_live =
      both_live (tacs (codes "then") then_word then_ends)
      (λ a. both_live (expect_word_live x_word n m (codes "then") room)
      (λ u. both_live (tacs (codes "else") else_word else_ends)
      (λ d. both_live (expect_word_live x_word n m (codes "else") room) (λ v. both_live (pres e w t) (λ f. pure_live _ w)))))

  prefix_alive : (p : Prefix) → Alive (prefixed (here n b e) p) (prefixed (here m c e) p) w
  prefix_alive before.Try = alive (map_live _ (pres e w t))
  prefix_alive before.Repeat = alive (map_live _ (pres e w t))
  prefix_alive before.Once = alive (map_live _ (pres e w t))
  prefix_alive before.ExactlyOnce = alive (map_live _ (pres e w t))
  prefix_alive before.Progress = alive (map_live _ (pres e w t))
  prefix_alive before.Do = alive do_live
  prefix_alive before.Tryif = alive tryif_live

  -- ---- expressions by their first words

  round_tac_live : Live x_word (round_tac (here n b e)) (round_tac (here m c e)) w
  round_tac_live = both_live (tacs [] (symbol CloseRound) round_ends) (λ a. both_live (expect_live w (n + 1) (m + 1) CloseRound up) (λ u. pure_live a w))

  named_by : (x : Name) (f : Option Form) (p : Option Primitive) →
      Alive (elim f as (λ _. Rule Tac) [ Some f ↦ form_of (here n b e) f | None ↦ elim p as (λ _. Rule Tac) [ Some p ↦ primitive (here n b e) p | None ↦ call (here n b e) x ] ])
      (elim f as (λ _. Rule Tac) [ Some f ↦ form_of (here m c e) f | None ↦ elim p as (λ _. Rule Tac) [ Some p ↦ primitive (here m c e) p | None ↦ call (here m c e) x ] ]) w
  named_by x (Some f) p = form_alive f
  named_by x None (Some p) = primitive_alive n m h b c e w t p
  named_by x None None = alive (call_live n m h b c e tacs x w t)

  basic_at_alive : (x : Word) → Alive (basic_at (here n b e) x) (basic_at (here m c e) x) w
  basic_at_alive x =
      when_alive (is_number x) (alive (pure_live _ w))
      (when_alive (is_sign OpenRound x) (alive round_tac_live) (named_by (text_of x) (entry form_words (text_of x)) (entry primitive_words (text_of x))))

  operated_live : (a : Tac) → Live w (operated (here n b e) a) (operated (here m c e) a) w
  operated_live a =
      choose_other (is_sign Plus)
      (choose_other (is_sign Bars) (pure_live a w) t.bars (alive (both_live (expect_live x_word (n + 1) (m + 1) Bars up) (λ u. map_live _ (pres e w t)))))
      t.plus
      (alive (both_live (expect_live x_word (n + 1) (m + 1) Plus up) (λ u. map_live _ (pres e w t))))

  pre_by : (x : Word) (p : Option Prefix) →
      Alive (elim p as (λ _. Rule Tac) [ Some p ↦ prefixed (here n b e) p | None ↦ basic (here n b e) x ]) (elim p as (λ _. Rule Tac) [ Some p ↦ prefixed (here m c e) p | None ↦ basic (here m c e) x ]) w
  pre_by x (Some p) = prefix_alive p
  pre_by x None = alive (both_live (basic_at_alive x).1 (λ a. operated_live a))

  pub pre_in_live : Live x_word (pre_in (here n b e)) (pre_in (here m c e)) w
  unfolding testing
  pre_in_live = word_then x_word (n + 1) (m + 1) begins_pre up refl (λ x i. pre_by x.0 (entry prefix_words (text_of x.0)))

  step_live : Live x_word (step (here n b e)) (step (here m c e)) w
  unfolding testing
  step_live = choose_other (is_sign OpenSquare) (map_live _ pre_in_live) refl (alive (branches_live n m h b c e tacs w))

  pub tac_in_live : Live x_word (tac_in (here n b e)) (tac_in (here m c e)) w
  tac_in_live =
      both_live pre_in_live
      (λ a. loop_live (n + 1) (m + 1) (λ d x. is_sign Semicolon x) (λ d x. stepped d <$> step (here n b e)) (λ d x. stepped d <$> step (here m c e)) w up (λ d. t.semicolon)
      (λ d x i. alive (map_live (stepped d) step_live)) a)

-- ---- an expression of one name

module _ (k : ℕ) (c : Level) (e : Name) where
  x_pre : (w : Word) (ws : Words) → TacEnds e w → Begins w ws → read (pre_in (here k c e)) ((x_word, 0) ∷ ws) ≡ Ok (form.call (codes "x") form.no_arg, ws)
  unfolding testing entry prefix_words form_words primitive_words args_of
  x_pre w ws t i =
      let stops = sees_next (begins_arg e) ws (w, i.0) i.1 i.2 ∙ t.arg in
      let no_plus = sees_next (is_sign Plus) ws (w, i.0) i.1 i.2 ∙ t.plus in
      let no_bars = sees_next (is_sign Bars) ws (w, i.0) i.1 i.2 ∙ t.bars in
      ap (λ r. and_then r (λ x us. read (pre_at (here k c e) x.0) us)) (word_right (k + 1) begins_pre ((x_word, 0) ∷ ws) (x_word, 0) ws (omega arith) refl refl)
      ∙ ap (λ r. and_then (and_then r (λ xs us. Ok (form.call (codes "x") (args_of xs), us))) (λ a us. read (operated (here k c e) a) us))
      (many_done (k + 1) (begins_arg e) (argument_at (here k c e)) [] ws stops)
      ∙ chosen_false (sees (is_sign Plus) ws) _ _ no_plus
      ∙ chosen_false (sees (is_sign Bars) ws) _ _ no_bars

  pre_fresh : (w : Word) → TacEnds e w → Fresh x_word (pre_in (here k c e)) w
  pre_fresh w t = ((x_word, 0) ∷ [], form.call (codes "x") form.no_arg, λ other i. (0, other, refl), λ other i. x_pre w other t i)

  x_tac : (w : Word) (ws : Words) → TacEnds e w → Begins w ws → read (tac_in (here k c e)) ((x_word, 0) ∷ ws) ≡ Ok (form.call (codes "x") form.no_arg, ws)
  x_tac w ws t i =
      ap (λ r. and_then r (λ a us. read (loop (k + 1) (λ d x. is_sign Semicolon x) (λ d x. stepped d <$> step (here k c e)) a) us)) (x_pre w ws t i)
      ∙ loop_done (k + 1) (λ d x. is_sign Semicolon x) (λ d x. stepped d <$> step (here k c e)) (form.call (codes "x") form.no_arg) ws
      (sees_next (is_sign Semicolon) ws (w, i.0) i.1 i.2 ∙ t.semicolon)

  tac_fresh : (w : Word) → TacEnds e w → Fresh x_word (tac_in (here k c e)) w
  tac_fresh w t = ((x_word, 0) ∷ [], form.call (codes "x") form.no_arg, λ other i. (0, other, refl), λ other i. x_tac w other t i)

  pre_refuses : Refuses begins_pre (pre_in (here k c e))
  pre_refuses = record {
    at_end = ap (λ r. and_then r (λ x us. read (pre_at (here k c e) x.0) us)) (word_ended (k + 1) begins_pre [] refl);
    at_word = λ w ws i. ap (λ r. and_then r (λ x us. read (pre_at (here k c e) x.0) us)) (word_wrong (k + 1) begins_pre (w ∷ ws) w ws refl i);
  }

  tac_refuses : Refuses begins_pre (tac_in (here k c e))
  tac_refuses = record {
    at_end = ap (λ r. and_then r (λ a us. read (loop (k + 1) (λ d x. is_sign Semicolon x) (λ d x. stepped d <$> step (here k c e)) a) us)) pre_refuses.at_end;
    at_word = λ w ws i. ap (λ r. and_then r (λ a us. read (loop (k + 1) (λ d x. is_sign Semicolon x) (λ d x. stepped d <$> step (here k c e)) a) us)) (pre_refuses.at_word w ws i);
  }

-- ---- levels

level_live : (n m : ℕ) → n + 3 ≤ m → Tactics (level n).tac (level m).tac × Tactics (level n).pre (level m).pre
unfolding level
level_live zero zero h = absurd (omega arith)
level_live zero (suc k) h = (
  λ e w t. none_live begins_pre (λ x. form.shelve) (tac_fresh k (level k) e w t) (tac_refuses k (level k) e),
  λ e w t. none_live begins_pre (λ x. form.shelve) (pre_fresh k (level k) e w t) (pre_refuses k (level k) e),
)
level_live (suc n) zero h = absurd (omega arith)
level_live (suc n) (suc m) h =
    let l = level_live n m (omega arith) in (
      λ e w t. tac_in_live n m (omega arith) (level n) (level m) l.0 l.1 e w t,
      λ e w t. pre_in_live n m (omega arith) (level n) (level m) l.0 l.1 e w t,
    )

-- expressions with at least three levels more
pub tac_live : (n m : ℕ) → n + 3 ≤ m → Tactics (level n).tac (level m).tac
tac_live n m h = (level_live n m h).0
