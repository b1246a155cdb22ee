-- A clause of a match is its head and its right side.
use Rattle.std.proofs.Common.{◌≡◌, ℕ, Bool, true, false, List, [], Ok, refl, sym, ap, ◌∙◌}
use Rattle.lq_trees.specs.Tree.{Name}
use Rattle.lq_ast.specs.Syntax.{Blank, Pattern}
use Rattle.lq_ast.specs.Tactics.{Hyp, Clause, any_clause, pattern_clause, sequent_clause}
use Rattle.lq_sentences.specs.Words.{Word, Words, is_name, is_sign}
use Rattle.lq_grammar.specs.declared.token.Symbol.TheVariants.{FatArrow, Turnstile, Colon, Underscore}
use Rattle.lq_sentences.specs.Rules.{Rule, pure, word, both, choose, ◌>>=◌, ◌<$>◌, sees, Read, and_then, read}
use Rattle.lq_sentences.specs.Parts.{expect, a_name, a_binder}
use Rattle.lq_sentences.specs.Patterns as whole
use Rattle.lq_sentences.specs.Patterns.{pattern, whole_behind}
use Rattle.lq_sentences.specs.Levels.{Here}
use Rattle.lq_sentences.specs.Matches as clauses
use Rattle.lq_sentences.specs.Matches.{Mode, on_goal, on_term, on_either, hyps_behind, right_side, pattern_behind, clause_behind_blank, clause_behind_name, clause_in, clause}
use Rattle.lq_sentences.proofs.LoopLaws.{then_same, then_then}
use Rattle.lq_parts.specs.Heads.{Head, any_head, pattern_head, sequent_head, headed, conclusion, sequent_behind, sequent, on_a_goal, on_a_term, behind_blank, behind_name, on_any, head_in, clause_head}

-- ---- one rule goes on behind another

-- what a rule reads is what another reads, and something behind it
abbrev GoesOn : {C D : Type 0} → (D → Words → Read C) → Rule C → Rule D → Type 0
GoesOn k p q = (ws : Words) → read p ws ≡ and_then (read q ws) k

both_goes_on : {A C D : Type 0} (k : D → Words → Read C) (p : Rule A) (f : A → Rule C) (g : A → Rule D) → ((a : A) → GoesOn k (f a) (g a)) → GoesOn k (both p f) (both p g)
both_goes_on k p f g h ws =
    then_same (read p ws) (λ a vs. read (f a) vs) (λ a vs. and_then (read (g a) vs) k) (λ y e. h y.0 y.1) ∙ sym (then_then (read p ws) (λ a vs. read (g a) vs) k)

by_choice : {C D : Type 0} (b : Bool) (k : D → Words → Read C) (x y : Read C) (u v : Read D) → x ≡ and_then u k → y ≡ and_then v k →
    elim b as (λ _. Read C) [ true ↦ x | false ↦ y ] ≡ and_then (elim b as (λ _. Read D) [ true ↦ u | false ↦ v ]) k
by_choice true k x y u v e f = e
by_choice false k x y u v e f = f

choose_goes_on : {C D : Type 0} (k : D → Words → Read C) (test : Word → Bool) (p q : Rule C) (s t : Rule D) → GoesOn k p s → GoesOn k q t → GoesOn k (choose test p q) (choose test s t)
choose_goes_on k test p q s t e f ws = by_choice (sees test ws) k (read p ws) (read q ws) (read s ws) (read t ws) (e ws) (f ws)

-- ---- clauses

module _ (h : Here) where
  -- the right side behind a head, and behind a head with what the match is on
  abbrev ended : Head → Words → Read Clause
  ended d vs = and_then (read (right_side h) vs) (λ a us. Ok (headed d a, us))

  abbrev pub ended_on : Head × Mode → Words → Read (Clause × Mode)
  ended_on d vs = and_then (read (right_side h) vs) (λ a us. Ok ((headed d.0 a, d.1), us))

  abbrev tagged : Mode → Clause → Words → Read (Clause × Mode)
  tagged m c us = Ok ((c, m), us)

  abbrev tagged_head : Mode → Head → Words → Read (Head × Mode)
  tagged_head m d us = Ok ((d, m), us)

  on_mode : (m : Mode) (p : Rule Clause) (q : Rule Head) → GoesOn ended p q → GoesOn ended_on ((λ c. (c, m)) <$> p) ((λ d. (d, m)) <$> q)
  on_mode m p q e ws =
      ap (λ r. and_then r (tagged m)) (e ws)
      ∙ then_then (read q ws) ended (tagged m)
      ∙ then_same (read q ws) (λ d vs. and_then (ended d vs) (tagged m)) (λ d vs. ended_on (d, m) vs) (λ y i. then_then (read (right_side h) y.1) _ (tagged m))
      ∙ sym (then_then (read q ws) (tagged_head m) ended_on)

  -- a right side behind a pattern, and the heads
  abbrev sequent_end : List Hyp → Pattern → Rule Clause
  sequent_end hs p = right_side h >>= (λ a. pure (sequent_clause hs p a))

  abbrev pattern_end : Pattern → Rule Clause
  pattern_end p = right_side h >>= (λ a. pure (pattern_clause p a))

  abbrev sequent_start : List Hyp → Pattern → Rule Head
  sequent_start hs p = pure (sequent_head hs p)

  abbrev pattern_start : Pattern → Rule Head
  pattern_start p = pure (pattern_head p)

  conclusion_goes : (hs : List Hyp) → GoesOn ended (clauses.conclusion h hs) (conclusion h.n hs)
  conclusion_goes hs =
      both_goes_on ended (expect h.n Turnstile) (λ u. pattern h.n >>= sequent_end hs) (λ u. pattern h.n >>= sequent_start hs)
      (λ u. both_goes_on ended (pattern h.n) (sequent_end hs) (sequent_start hs) (λ p ws. refl))

  sequent_behind_goes : (x : Name) → GoesOn ended (clauses.sequent_behind h x) (sequent_behind h.n x)
  sequent_behind_goes x = both_goes_on ended (hyps_behind h.n x) (clauses.conclusion h) (conclusion h.n) (λ hs. conclusion_goes hs)

  sequent_goes : GoesOn ended (clauses.sequent h) (sequent h.n)
  sequent_goes =
      choose_goes_on ended (is_sign Turnstile) (clauses.conclusion h []) (a_binder h.n >>= (λ x. clauses.sequent_behind h x.0))
      (conclusion h.n []) (a_binder h.n >>= (λ x. sequent_behind h.n x.0)) (conclusion_goes [])
      (both_goes_on ended (a_binder h.n) (λ x. clauses.sequent_behind h x.0) (λ x. sequent_behind h.n x.0) (λ x. sequent_behind_goes x.0))

  pattern_goes : (p : Rule Pattern) → GoesOn ended (pattern_behind h p) (pattern_head <$> p)
  pattern_goes p = both_goes_on ended p pattern_end pattern_start (λ q ws. refl)

  -- clauses with what the match is on
  abbrev goal_clause : Name → Rule (Clause × Mode)
  goal_clause x = (λ c. (c, on_goal)) <$> clauses.sequent_behind h x

  abbrev term_clause : Rule Pattern → Rule (Clause × Mode)
  term_clause p = (λ c. (c, on_term)) <$> pattern_behind h p

  abbrev any_of : Mode → Rule (Clause × Mode)
  any_of m = (λ a. (any_clause a, m)) <$> right_side h

  on_goal_goes : (x : Name) → GoesOn ended_on (goal_clause x) (on_a_goal (sequent_behind h.n x))
  on_goal_goes x = on_mode on_goal (clauses.sequent_behind h x) (sequent_behind h.n x) (sequent_behind_goes x)

  on_term_goes : (p : Rule Pattern) → GoesOn ended_on (term_clause p) (on_a_term p)
  on_term_goes p = on_mode on_term (pattern_behind h p) (pattern_head <$> p) (pattern_goes p)

  any_goes : (m : Mode) → GoesOn ended_on (any_of m) (pure (any_head, m))
  any_goes m ws = refl

  either_goes : (test : Word → Bool) (x : Name) (p : Rule Pattern) →
      GoesOn ended_on (choose test (goal_clause x) (term_clause p)) (choose test (on_a_goal (sequent_behind h.n x)) (on_a_term p))
  either_goes test x p =
      choose_goes_on ended_on test (goal_clause x) (term_clause p) (on_a_goal (sequent_behind h.n x)) (on_a_term p) (on_goal_goes x) (on_term_goes p)

  blank_goes : (m : Mode) (p : ℕ) → GoesOn ended_on (clause_behind_blank h m p) (behind_blank h.n m p)
  blank_goes on_goal p =
      choose_goes_on ended_on (is_sign FatArrow) (any_of on_goal) (goal_clause []) (pure (any_head, on_goal)) (on_a_goal (sequent_behind h.n [])) (any_goes on_goal) (on_goal_goes [])
  blank_goes on_term p =
      choose_goes_on ended_on (is_sign FatArrow) (any_of on_term) (term_clause (whole_behind h.n (Blank p))) (pure (any_head, on_term)) (on_a_term (whole_behind h.n (Blank p)))
      (any_goes on_term) (on_term_goes (whole_behind h.n (Blank p)))
  blank_goes on_either p =
      choose_goes_on ended_on (is_sign FatArrow) (any_of on_either) (choose (is_sign Colon) (goal_clause []) (term_clause (whole_behind h.n (Blank p)))) (pure (any_head, on_either))
      (choose (is_sign Colon) (on_a_goal (sequent_behind h.n [])) (on_a_term (whole_behind h.n (Blank p)))) (any_goes on_either) (either_goes (is_sign Colon) [] (whole_behind h.n (Blank p)))

  name_goes : (x : Name) → GoesOn ended_on (clause_behind_name h x) (behind_name h.n x)
  name_goes x = either_goes (is_sign Colon) x (whole.behind_name h.n x)

  in_goes : (m : Mode) → GoesOn ended_on (clause_in h m) (head_in h.n m)
  in_goes on_goal = on_mode on_goal (clauses.sequent h) (sequent h.n) sequent_goes
  in_goes on_term = on_term_goes (pattern h.n)
  in_goes on_either =
      choose_goes_on ended_on (is_sign Turnstile) ((λ c. (c, on_goal)) <$> clauses.conclusion h []) (choose is_name (a_name h.n >>= clause_behind_name h) (term_clause (pattern h.n)))
      (on_a_goal (conclusion h.n [])) (choose is_name (a_name h.n >>= behind_name h.n) (on_a_term (pattern h.n)))
      (on_mode on_goal (clauses.conclusion h []) (conclusion h.n []) (conclusion_goes []))
      (choose_goes_on ended_on is_name (a_name h.n >>= clause_behind_name h) (term_clause (pattern h.n)) (a_name h.n >>= behind_name h.n) (on_a_term (pattern h.n))
      (both_goes_on ended_on (a_name h.n) (clause_behind_name h) (behind_name h.n) (λ x. name_goes x)) (on_term_goes (pattern h.n)))

  -- a clause is read by reading its head and behind it its right side
  pub clause_goes : (m : Mode) (ws : Words) → read (clause h m) ws ≡ and_then (read (clause_head h.n m) ws) ended_on
  clause_goes m =
      choose_goes_on ended_on (is_sign Underscore) (word h.n (is_sign Underscore) >>= (λ w. clause_behind_blank h m w.1)) (clause_in h m)
      (word h.n (is_sign Underscore) >>= (λ w. behind_blank h.n m w.1)) (head_in h.n m)
      (both_goes_on ended_on (word h.n (is_sign Underscore)) (λ w. clause_behind_blank h m w.1) (λ w. behind_blank h.n m w.1) (λ w. blank_goes m w.1)) (in_goes m)
