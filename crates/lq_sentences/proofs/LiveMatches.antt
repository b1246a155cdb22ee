-- Matches with more levels: what is begun is completed.
use Rattle.std.proofs.Common.{ℕ, ◌+◌, ◌<◌, List, [], ◌∷◌, refl, arith}
use Rattle.std.specs.Prelude.{codes}
use Rattle.lq_grammar.specs.declared.token.Symbol.TheVariants.{FatArrow, Turnstile, Colon, Comma, Bar, Underscore, OpenRound}
use Rattle.lq_trees.specs.Tree.{Name}
use Rattle.lq_ast.specs.declared.tac.Manner.{Manner}
use Rattle.lq_ast.specs.Syntax.{Blank, Pattern}
use Rattle.lq_ast.specs.Tactics.{Hyp}
use Rattle.lq_sentences.specs.Words.{Word, name, symbol, is_name, is_sign, reads, text_of}
use Rattle.lq_sentences.specs.Rules.{Rule, ◌>>=◌}
use Rattle.lq_sentences.specs.Parts.{a_name}
use Rattle.lq_sentences.specs.Levels.{Level, Here}
use Rattle.lq_sentences.specs.Patterns.{free_spot, whole_behind, pattern}
use Rattle.lq_sentences.specs.Matches.{Mode, on_goal, on_term, on_either, hyp_behind, hyp, right_side, conclusion, hyps_behind, sequent_behind, sequent, pattern_behind, clause_behind_blank, clause_behind_name, clause_in, clause, one_more, clauses, head_behind_reverse, head_behind_constr, match_head, match_form}
use Rattle.lq_sentences.proofs.Completing.{Live, Alive, Room, room_up, alive, pure_live, both_next, both_live, map_live, word_live, choose_first, choose_other, loop_live, reached, word_reached}
use Rattle.lq_sentences.proofs.LiveParts.{testing, x_word, expect_live, expect_word_live, eat_live, many_live, a_name_live, a_binder_live}
use Rattle.lq_sentences.proofs.LiveLevels.{atom_level_live}
use Rattle.lq_sentences.proofs.LivePatterns.{Deep, deep_room, round_live, whole_live, name_live, pattern_live}

abbrev pub end_word : Word
end_word = name (codes "end")

abbrev with_word : Word
with_word = name (codes "with")

-- so many levels inside, the rules for these, and the word that ends what is read
abbrev pub here : ℕ → Level → Name → Here
here n b e = record { n = n; below = b; ends = e }

-- hypotheses, on one number of levels
module _ (n m : ℕ) (h : Deep n m) where
  room : Room n m
  room = deep_room n m h

  hyp_behind_live : (x : Name) → Live (symbol Colon) (hyp_behind n x) (hyp_behind m x) (symbol Turnstile)
  unfolding testing
  hyp_behind_live x =
      both_live (expect_live x_word n m Colon room)
      (λ u. both_live (pattern_live n m h (symbol Turnstile) ((refl, refl), refl, refl)) (λ p. pure_live _ (symbol Turnstile)))

  hyp_live : Live x_word (hyp n) (hyp m) (symbol Turnstile)
  hyp_live = both_live (a_binder_live (symbol Colon) n m room) (λ x. hyp_behind_live x.0)

  hyps_live : (x : Name) → Live (symbol Colon) (hyps_behind n x) (hyps_behind m x) (symbol Turnstile)
  unfolding testing
  hyps_live x =
      both_live (hyp_behind_live x) (λ first. many_live (symbol Turnstile) n m (is_sign Comma) (λ w. hyp n) (λ w. hyp m) room refl (λ y i. alive hyp_live) (first ∷ []))

-- clauses, whose right sides are expressions one level deeper
module _ (n m : ℕ) (h : Deep n m) (b c : Level) (e : Name) (tacs : Live x_word (b.tac []) (c.tac []) end_word) where
  right_live : Live (symbol FatArrow) (right_side (here n b e)) (right_side (here m c e)) end_word
  right_live = both_live (expect_live x_word n m FatArrow (deep_room n m h)) (λ u. tacs)

  conclusion_live : (hs : List Hyp) → Live (symbol Turnstile) (conclusion (here n b e) hs) (conclusion (here m c e) hs) end_word
  unfolding testing
  conclusion_live hs =
      both_live (expect_live x_word n m Turnstile (deep_room n m h))
      (λ u. both_live (pattern_live n m h (symbol FatArrow) ((refl, refl), refl, refl)) (λ p. both_live right_live (λ a. pure_live _ end_word)))

  sequent_behind_live : (x : Name) → Live (symbol Colon) (sequent_behind (here n b e) x) (sequent_behind (here m c e) x) end_word
  sequent_behind_live x = both_live (hyps_live n m h x) (λ hs. conclusion_live hs)

  sequent_live : Live (symbol Turnstile) (sequent (here n b e)) (sequent (here m c e)) end_word
  unfolding testing
  sequent_live =
      choose_first (is_sign Turnstile) (conclusion_live []) refl
      (alive (both_live (a_binder_live (symbol Colon) n m (deep_room n m h)) (λ x. sequent_behind_live x.0)))

  pattern_behind_live : {u : Word} {p q : Rule Pattern} → Live u p q (symbol FatArrow) → Live u (pattern_behind (here n b e) p) (pattern_behind (here m c e) q) end_word
  pattern_behind_live l = both_live l (λ q. both_live right_live (λ a. pure_live _ end_word))

  blank_behind : (z : 0 < n) (p : ℕ) → Live (symbol FatArrow) (pattern_behind (here n b e) (whole_behind n (Blank p))) (pattern_behind (here m c e) (whole_behind m (Blank p))) end_word
  unfolding testing
  blank_behind z p = pattern_behind_live (whole_live n m z h (symbol FatArrow) ((refl, refl), refl, refl) (Blank p))

  blank_live : (z : 0 < n) (k : Mode) (p : ℕ) → Live (symbol FatArrow) (clause_behind_blank (here n b e) k p) (clause_behind_blank (here m c e) k p) end_word
  unfolding testing
  blank_live z on_goal p = choose_first (is_sign FatArrow) (map_live _ right_live) refl (alive (map_live _ (sequent_behind_live [])))
  blank_live z on_term p = choose_first (is_sign FatArrow) (map_live _ right_live) refl (alive (map_live _ (blank_behind z p)))
  blank_live z on_either p =
      choose_first (is_sign FatArrow) (map_live _ right_live) refl
      (alive (choose_first (is_sign Colon) (map_live _ (sequent_behind_live [])) refl (alive (map_live _ (blank_behind z p)))))

  clause_name_live : (z : 0 < n) (x : Name) → Live (symbol FatArrow) (clause_behind_name (here n b e) x) (clause_behind_name (here m c e) x) end_word
  unfolding testing
  clause_name_live z x =
      choose_other (is_sign Colon) (map_live _ (pattern_behind_live (name_live n m z h (symbol FatArrow) ((refl, refl), refl, refl) x))) refl
      (alive (map_live _ (sequent_behind_live x)))

module _ (n m : ℕ) (h : Deep n m) (b c : Level) (e : Name) (tacs : Live x_word (b.tac []) (c.tac []) end_word) where
  pattern_clause_live : Live x_word (pattern_behind (here n b e) (pattern n)) (pattern_behind (here m c e) (pattern m)) end_word
  unfolding testing
  pattern_clause_live = pattern_behind_live n m h b c e tacs (pattern_live n m h (symbol FatArrow) ((refl, refl), refl, refl))

  named_live : Live x_word (a_name n >>= clause_behind_name (here n b e)) (a_name m >>= clause_behind_name (here m c e)) end_word
  named_live =
      both_next (a_name_live (symbol FatArrow) n m (deep_room n m h))
      (λ x ws rest i. clause_name_live n m h b c e tacs (reached is_name (λ w. text_of w.0) n ws (x, rest) i) x)
      (λ x. (clause_name_live 1 m (omega arith) b c e tacs (omega arith) x).fresh)

  in_alive : (k : Mode) → Alive (clause_in (here n b e) k) (clause_in (here m c e) k) end_word
  unfolding testing
  in_alive on_goal = alive (map_live _ (sequent_live n m h b c e tacs))
  in_alive on_term = alive (map_live _ pattern_clause_live)
  in_alive on_either =
      alive (choose_first (is_sign Turnstile) (map_live _ (conclusion_live n m h b c e tacs [])) refl
      (alive (choose_first is_name named_live refl (alive (map_live _ pattern_clause_live)))))

  clause_live : (k : Mode) → Live (symbol Underscore) (clause (here n b e) k) (clause (here m c e) k) end_word
  unfolding testing
  clause_live k =
      choose_first (is_sign Underscore)
      (both_next (word_live (symbol Underscore) (symbol FatArrow) n m (is_sign Underscore) (deep_room n m h) refl)
      (λ x ws rest i. blank_live n m h b c e tacs (word_reached n (is_sign Underscore) ws (x, rest) i) k x.1)
      (λ x. (blank_live 1 m (omega arith) b c e tacs (omega arith) k x.1).fresh))
      refl
      (in_alive k)

  clauses_live : (k : Mode) → Live (symbol Underscore) (clauses (here n b e) k) (clauses (here m c e) k) end_word
  unfolding testing
  clauses_live k =
      both_live (eat_live (symbol Bar) (symbol Underscore) n m (is_sign Bar) (deep_room n m h) refl refl)
      (λ x. both_live (map_live _ (clause_live k))
      (λ first. loop_live n m (λ cs w. is_sign Bar w) (λ cs w. one_more cs (clause (here n b e) cs.1)) (λ cs w. one_more cs (clause (here m c e) cs.1)) end_word
      (deep_room n m h) (λ cs. refl) (λ cs w i. alive (map_live _ (clause_live cs.1))) first))

  reverse_live : Live with_word (head_behind_reverse (here n b e)) (head_behind_reverse (here m c e)) with_word
  unfolding testing
  reverse_live = choose_other (reads (codes "goal")) (pure_live _ with_word) refl (alive (map_live _ (expect_word_live with_word n m (codes "goal") (deep_room n m h))))

  constr_live : Live with_word (head_behind_constr (here n b e)) (head_behind_constr (here m c e)) with_word
  unfolding testing
  constr_live =
      choose_other (is_sign Colon) (pure_live _ with_word) refl
      (alive (both_live (expect_live (symbol OpenRound) n m Colon (deep_room n m h)) (λ u. map_live _ (round_live n m h with_word))))

  head_live : Live x_word (match_head (here n b e)) (match_head (here m c e)) with_word
  unfolding testing
  head_live =
      choose_other (reads (codes "reverse"))
      (choose_other (reads (codes "constr"))
      (choose_other (reads (codes "goal")) (map_live _ (atom_level_live n m (omega arith) free_spot with_word)) refl
      (alive (map_live _ (expect_word_live with_word n m (codes "goal") (deep_room n m h)))))
      refl
      (alive (both_live (expect_word_live with_word n m (codes "constr") (deep_room n m h)) (λ u. constr_live))))
      refl
      (alive (both_live (expect_word_live with_word n m (codes "reverse") (deep_room n m h)) (λ u. reverse_live)))

  pub match_live : (manner : Manner) (w : Word) → Live x_word (match_form (here n b e) manner) (match_form (here m c e) manner) w
  match_live manner w =
      both_live head_live
      (λ k. both_live (expect_word_live (symbol Underscore) n m (codes "with") (deep_room n m h))
      (λ u. both_live (clauses_live k.2)
      (λ cs. both_live (expect_word_live w (n + 1) (m + 1) (codes "end") (room_up n m (deep_room n m h))) (λ v. pure_live _ w))))
