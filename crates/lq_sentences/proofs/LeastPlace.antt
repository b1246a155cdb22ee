-- Before the place of a fault some sentence goes on: what is read of one and only ends is the beginning of a sentence, three levels deeper at most.
use Rattle.std.proofs.Common.{◌≡◌, ℕ, suc, ◌≤◌, Bool, true, false, [], ◌∷◌, ◌++◌, Ok, Err, refl, sym, ap, subst, ◌∙◌, arith, inl, inr, append-nil}
use Rattle.std.specs.Prelude.{◌⊎◌, codes, Some, None}
use Rattle.lq_grammar.specs.declared.token.Symbol.TheVariants.{CloseCurly, Stop as StopSign}
use Rattle.lq_ast.specs.declared.sentence.Selector.{Selector}
use Rattle.lq_ast.specs.Tactics.{Tac}
use Rattle.lq_ast.specs.Commands.{Statement, Sentence, stated, command, run, open_brace}
use Rattle.lq_sentences.specs.Words.{Word, Words, symbol, is_sign, reads}
use Rattle.lq_sentences.specs.Rules.{Rule, word, ◌>>=◌, ◌<$>◌, Stop, unexpected, too_nested, ended, Read, and_then, read_word, read}
use Rattle.lq_sentences.specs.Sentences.{a_command, selector, whole_command, whole_tac, whole_selected, whole_open, opens, may_open, whole_mark, is_mark, mark_of, stop, command_words, is_entry, IsWhole, IsStated, IsSentence}
use Rattle.lq_sentences.specs.Sentences as at_most
use Rattle.lq_sentences.specs.Nesting.{tac_within, whole_command_within, whole_tac_within, whole_selected_within, IsStatedWithin, is_command, is_failing, is_selected, is_tac, IsSentenceWithin, is_stated, is_opened, is_marked}
use Rattle.lq_sentences.specs.Reading.{Whole, to_the_end, whole, either, further, whole_map, failing, statement, stated_by, statements, sentence}
use Rattle.lq_sentences.proofs.RuleLaws.{sound, only, choice}
use Rattle.lq_sentences.proofs.WordLaws.{word_right}
use Rattle.lq_sentences.proofs.SentenceLaws.{sentence_sound}
use Rattle.lq_sentences.proofs.PlaceLaws.{Rising, either_fails, map_fails}
use Rattle.lq_sentences.proofs.Settling.{LiesFrom, before_fault}
use Rattle.lq_sentences.proofs.FailLoops.{further_one}
use Rattle.lq_sentences.proofs.Completing.{Kept, IsOpen, Completed, Live, both_live, map_live, word_live, then_fresh}
use Rattle.lq_sentences.proofs.LiveParts.{testing, x_word}
use Rattle.lq_sentences.proofs.LiveTactics.{stop_ends, tac_live}
use Rattle.lq_sentences.proofs.LiveCommands.{stop_word, command_live, selector_live}

-- words that make some words a whole part of a rule
abbrev WholeBehind : {A : Type 0} → Rule A → Words → Type 0
WholeBehind {A = A} q ws = (more : Words) × (a : A) × IsWhole q (ws ++ more) a

-- ---- what is open is completed

begun : {A : Type 0} {u w : Word} {p q : Rule A} → Live u p q w → (ws : Words) → IsOpen (read p ws) → Completed q w ws
begun l [] o = let c = l.fresh in (c.0, c.1, c.3)
begun l (v ∷ vs) o = l.inside v vs o

-- a word is there: the words do not end
word_there : {A : Type 0} (n : ℕ) (test : Word → Bool) (f : Word × ℕ → A) (v : Word × ℕ) (vs : Words) → read (f <$> word (suc n) test) (v ∷ vs) ≡ Err ended → ⊥
unfolding read_word
word_there {A = A} n test f v vs e = by (test v.0) e
  where
    by : (b : Bool) → and_then (elim b as (λ _. Read (Word × ℕ)) [ true ↦ Ok (v, vs) | false ↦ Err (unexpected v.1) ]) (λ x us. Ok (f x, us)) ≡ (let r : Read A = Err ended in r) → ⊥
    by true e = absurd cc
    by false e = absurd cc

wrong_stop : {A : Type 0} (d : Stop) → (d ≡ ended → ⊥) → (let r : Read A = Err d in r) ≡ Err ended → ⊥
wrong_stop {A = A} d h e = h (same d ended e)
  where
    same : (d f : Stop) → (let r : Read A = Err d in r) ≡ Err f → d ≡ f
    same d f e = cc

-- where a part and a word behind it only end, the part is open
first_open : {A B : Type 0} (p : Rule A) (test : A → Word → Bool) (f : A → Word × ℕ → B) (ws : Words) → read (p >>= (λ a. f a <$> word 201 (test a))) ws ≡ Err ended → IsOpen (read p ws)
first_open {B = B} p test f ws e = by (read p ws) e
  where
    by : (r : Read _) → and_then r (λ a us. read (f a <$> word 201 (test a)) us) ≡ (let s : Read B = Err ended in s) → IsOpen r
    by (Ok (a, [])) e = tt
    by (Ok (a, x ∷ xs)) e = word_there 200 (test a) (f a) x xs e
    by (Err (unexpected k)) e = wrong_stop (unexpected k) (λ i. absurd cc) e
    by (Err (too_nested k)) e = wrong_stop (too_nested k) (λ i. absurd cc) e
    by (Err ended) e = tt

end_open : {A : Type 0} (r : Read A) → to_the_end r ≡ Err ended → r ≡ Err ended
end_open (Ok (a, [])) e = absurd cc
end_open (Ok (a, x ∷ xs)) e = absurd cc
end_open {A = A} (Err d) e = ap (λ x. Err x) (same d ended e)
  where
    same : (d f : Stop) → (let r : Whole A = Err d in r) ≡ Err f → d ≡ f
    same d f e = cc

-- what is completed before the end of the sentence, with this end
with_stop : {A B : Type 0} (q : Rule A) (k : A → B) (ws : Words) → Completed q stop_word ws → WholeBehind (q >>= (λ a. stop (k a))) ws
unfolding testing
with_stop q k ws c =
    let last : Words = (stop_word, 0) ∷ [] in (
      c.0 ++ last,
      k c.1,
      sound (q >>= (λ a. stop (k a))) (ws ++ (c.0 ++ last)) (k c.1, [])
          (ap (λ r. and_then r (λ a us. read (stop (k a)) us)) (c.2 last (0, [], refl))
          ∙ ap (λ r. and_then r (λ x us. Ok (k c.1, us))) (word_right 201 (is_sign StopSign) last (stop_word, 0) [] (omega arith) refl refl)),
    )

stopped_open : {A B : Type 0} {u : Word} {p q : Rule A} (k : A → B) → Live u p q stop_word → (ws : Words) → whole (p >>= (λ a. stop (k a))) ws ≡ Err ended → WholeBehind (q >>= (λ a. stop (k a))) ws
stopped_open {p = p} {q = q} k l ws e =
    with_stop q k ws (begun l ws (first_open p (λ a. is_sign StopSign) (λ a w. k a) ws (end_open (read (p >>= (λ a. stop (k a))) ws) e)))

-- ---- a selector and an expression

abbrev with_selector : Selector → Tac → Selector × Tac
with_selector s a = (s, a)

-- as one part
abbrev pair_of : ℕ → Rule (Selector × Tac)
pair_of n = selector >>= (λ s. with_selector s <$> tac_within n)

abbrev paired : ℕ → Rule Statement
paired n = pair_of n >>= (λ y. stop (run (Some y.0) y.1))

abbrev chained : ℕ → Rule Statement
chained n = selector >>= (λ s. tac_within n >>= (λ a. stop (run (Some s) a)))

regroup : (n : ℕ) (ws : Words) → read (chained n) ws ≡ read (paired n) ws
regroup n ws = by (read selector ws)
  where
    inner : (s : Selector) (r : Read Tac) →
        and_then r (λ a us. read (stop (run (Some s) a)) us) ≡ and_then (and_then r (λ a us. Ok (with_selector s a, us))) (λ y us. read (stop (run (Some y.0) y.1)) us)
    inner s (Ok y) = refl
    inner s (Err d) = refl

    by : (r : Read Selector) →
        and_then r (λ s vs. and_then (read (tac_within n) vs) (λ a us. read (stop (run (Some s) a)) us))
        ≡ and_then (and_then r (λ s vs. and_then (read (tac_within n) vs) (λ a us. Ok (with_selector s a, us)))) (λ y us. read (stop (run (Some y.0) y.1)) us)
    by (Ok y) = inner y.0 (read (tac_within n) y.1)
    by (Err d) = refl

regrouped : (n : ℕ) (ws : Words) → WholeBehind (paired n) ws → WholeBehind (chained n) ws
regrouped n ws c = (c.0, c.1, sound (chained n) (ws ++ c.0) (c.1, []) (regroup n (ws ++ c.0) ∙ only (paired n) (ws ++ c.0) c.1 [] c.2))

-- of two reasons of which the further is the end, one is the end
one_ended : (d f : Stop) → further d f ≡ ended → (d ≡ ended) ⊎ (f ≡ ended)
one_ended d f e = elim (further_one d f) [ inl i ↦ inl (sym i ∙ e) | inr i ↦ inr (sym i ∙ e) ]

-- ---- the alternatives of a statement

module _ (n : ℕ) (h : 204 ≤ n) where
  a_tac_live : Live x_word (tac_within 201) (tac_within n) stop_word
  a_tac_live = tac_live 201 n (omega (arith, h)) [] stop_word stop_ends

  command_open : (ws : Words) → whole whole_command ws ≡ Err ended → WholeBehind (whole_command_within n) ws
  unfolding whole_command whole_command_within
  command_open ws e = stopped_open command (command_live n h) ws e

  tac_open : (ws : Words) → whole (whole_tac None) ws ≡ Err ended → WholeBehind (whole_tac_within n None) ws
  unfolding whole_tac whole_tac_within
  tac_open ws e = stopped_open (run None) a_tac_live ws e

  abbrev short_pair : Rule (Selector × Tac)
  short_pair = pair_of 201

  abbrev long_pair : Rule (Selector × Tac)
  long_pair = pair_of n

  pair_rest : (s : Selector) → Live x_word (with_selector s <$> tac_within 201) (with_selector s <$> tac_within n) stop_word
  pair_rest s = map_live (with_selector s) a_tac_live

  selected_open : (ws : Words) → whole whole_selected ws ≡ Err ended → WholeBehind (whole_selected_within n) ws
  unfolding whole_selected whole_selected_within whole_tac whole_tac_within
  selected_open ws e =
      regrouped n ws (stopped_open (λ y. run (Some y.0) y.1) (both_live (selector_live x_word) (λ s. pair_rest s)) ws (sym (ap to_the_end (regroup 201 ws)) ∙ e))

  -- where a brace may still stand behind a selector, an expression may
  brace_open : (ws : Words) → whole whole_open ws ≡ Err ended → WholeBehind (whole_selected_within n) ws
  unfolding whole_open whole_selected_within whole_tac_within
  brace_open ws e =
      let o = first_open selector (λ s. opens (may_open s)) (λ s w. open_brace (Some s)) ws (end_open (read (selector >>= (λ s. (λ w. open_brace (Some s)) <$> word 201 (opens (may_open s)))) ws) e) in
      regrouped n ws (with_stop long_pair (λ y. run (Some y.0) y.1) ws
      (then_fresh selector selector (λ s. with_selector s <$> tac_within 201) (λ s. with_selector s <$> tac_within n) stop_word x_word ws (λ s. (pair_rest s).fresh) (begun (selector_live x_word) ws o)))

  -- ---- statements

  abbrev StatedBehind : Words → Type 0
  StatedBehind ws = (more : Words) × (s : Sentence) × IsStatedWithin n (ws ++ more) s

  statement_open : (ws : Words) → statement ws ≡ Err ended → StatedBehind ws
  unfolding statement
  statement_open ws e =
      let t = either_fails (whole whole_command ws) (either (whole whole_selected ws) (λ v. whole (whole_tac None) ws)) ended e in
      elim (one_ended t.0 t.1 t.4) [
        | inl i ↦ (let c = command_open ws (t.2 ∙ ap (λ x. Err x) i) in (c.0, stated 0 c.1, is_command c.2))
        | inr i ↦ (let s = either_fails (whole whole_selected ws) (whole (whole_tac None) ws) ended (t.3 ∙ ap (λ x. Err x) i) in
            elim (one_ended s.0 s.1 s.4) [
              | inl j ↦ (let c = selected_open ws (s.2 ∙ ap (λ x. Err x) j) in (c.0, stated 0 c.1, is_selected c.2))
              | inr j ↦ (let c = tac_open ws (s.3 ∙ ap (λ x. Err x) j) in (c.0, stated 0 c.1, is_tac c.2))
            ])
      ]

  fail_on : (w : Word × ℕ) (ws : Words) (a : Sentence) → reads (codes "Fail") w.0 ≡ true → IsStatedWithin n ws a → IsStatedWithin n (w ∷ ws) (failing a)
  fail_on w ws a r (is_command d) = is_failing r (is_command d)
  fail_on w ws a r (is_failing t d) = is_failing r (is_failing t d)
  fail_on w ws a r (is_selected d) = is_failing r (is_selected d)
  fail_on w ws a r (is_tac d) = is_failing r (is_tac d)

  statements_open : (ws : Words) → statements ws ≡ Err ended → StatedBehind ws
  unfolding statements stated_by
  statements_open [] e = statement_open [] (map_fails (stated 0) (statement []) ended e)
  statements_open (w ∷ ws) e =
      elim (choice (reads (codes "Fail") w.0) _ _ _ e) [
        | inl c ↦ (let t = either_fails (whole_map failing (statements ws)) (whole_map (stated 0) (statement (w ∷ ws))) ended c.1 in
            elim (one_ended t.0 t.1 t.4) [
              | inl i ↦ (let s = statements_open ws (map_fails failing (statements ws) ended (t.2 ∙ ap (λ x. Err x) i)) in (s.0, failing s.1, fail_on w (ws ++ s.0) s.1 c.0 s.2))
              | inr i ↦ statement_open (w ∷ ws) (map_fails (stated 0) (statement (w ∷ ws)) ended (t.3 ∙ ap (λ x. Err x) i))
            ])
        | inr c ↦ statement_open (w ∷ ws) (map_fails (stated 0) (statement (w ∷ ws)) ended c.1)
      ]

  -- ---- sentences

  -- some sentence begins with the words
  abbrev pub GoesOn : Words → Type 0
  GoesOn ws = (more : Words) × (s : Sentence) × IsSentenceWithin n (ws ++ more) s

  mark_open : (ws : Words) → whole whole_mark ws ≡ Err ended → GoesOn ws
  unfolding whole_mark testing
  mark_open [] e =
      let brace : Words = (symbol CloseCurly, 0) ∷ [] in (
        brace,
        mark_of (symbol CloseCurly),
        is_marked (sound whole_mark brace (mark_of (symbol CloseCurly), [])
            (ap (λ r. and_then r (λ x us. Ok (mark_of x.0, us))) (word_right 201 is_mark brace (symbol CloseCurly, 0) [] (omega arith) refl refl))),
      )
  mark_open (v ∷ vs) e = absurd (word_there 200 is_mark (λ w. mark_of w.0) v vs (end_open (read ((λ w. mark_of w.0) <$> word 201 is_mark) (v ∷ vs)) e))

  -- words at which the reader only misses more are the beginning of a sentence
  pub ended_goes_on : (ws : Words) → sentence ws ≡ Err ended → GoesOn ws
  unfolding sentence
  ended_goes_on ws e =
      let t = either_fails (statements ws) (either (whole whole_open ws) (λ v. whole whole_mark ws)) ended e in
      elim (one_ended t.0 t.1 t.4) [
        | inl i ↦ (let s = statements_open ws (t.2 ∙ ap (λ x. Err x) i) in (s.0, s.1, is_stated s.2))
        | inr i ↦ (let r = either_fails (whole whole_open ws) (whole whole_mark ws) ended (t.3 ∙ ap (λ x. Err x) i) in
            elim (one_ended r.0 r.1 r.4) [
              | inl j ↦ (let c = brace_open ws (r.2 ∙ ap (λ x. Err x) j) in (c.0, stated 0 c.1, is_stated (is_selected c.2)))
              | inr j ↦ mark_open ws (r.3 ∙ ap (λ x. Err x) j)
            ])
      ]

  -- ---- with more levels the sentences of the grammar stay

  whole_kept : {A : Type 0} {u w : Word} {p q : Rule A} → Live u p q w → (ws : Words) (a : A) → IsWhole p ws a → IsWhole q ws a
  whole_kept {p = p} {q = q} l ws a d = sound q ws (a, []) (subst (λ r. Kept r (read q ws)) (only p ws a [] d) (l.kept ws))

  stop_live : {A : Type 0} (a : A) → Live stop_word (stop a) (stop a) stop_word
  unfolding testing
  stop_live a = map_live _ (word_live stop_word stop_word 201 201 (is_sign StopSign) (omega arith, omega arith) refl)

  command_kept : (ws : Words) (s : Statement) → IsWhole whole_command ws s → IsWhole (whole_command_within n) ws s
  unfolding whole_command whole_command_within
  command_kept ws s d = whole_kept (both_live (command_live n h) (λ c. stop_live (command c))) ws s d

  tac_kept : (ws : Words) (s : Statement) → IsWhole (whole_tac None) ws s → IsWhole (whole_tac_within n None) ws s
  unfolding whole_tac whole_tac_within
  tac_kept ws s d = whole_kept (both_live a_tac_live (λ a. stop_live (run None a))) ws s d

  selected_kept : (ws : Words) (s : Statement) → IsWhole whole_selected ws s → IsWhole (whole_selected_within n) ws s
  unfolding whole_selected whole_selected_within whole_tac whole_tac_within
  selected_kept ws s d = whole_kept (both_live (selector_live x_word) (λ x. both_live a_tac_live (λ a. stop_live (run (Some x) a)))) ws s d

  stated_kept : (ws : Words) (s : Sentence) → IsStated ws s → IsStatedWithin n ws s
  stated_kept ws s (at_most.is_command {s = c} d) = is_command (command_kept ws c d)
  stated_kept ws s (at_most.is_failing {ws = vs} {k = k} {s = c} r d) = is_failing r (stated_kept vs (stated k c) d)
  stated_kept ws s (at_most.is_selected {s = c} d) = is_selected (selected_kept ws c d)
  stated_kept ws s (at_most.is_tac {s = c} d) = is_tac (tac_kept ws c d)

  pub sentence_kept : (ws : Words) (s : Sentence) → IsSentence ws s → IsSentenceWithin n ws s
  sentence_kept ws s (at_most.is_stated d) = is_stated (stated_kept ws s d)
  sentence_kept ws s (at_most.is_opened d) = is_opened d
  sentence_kept ws s (at_most.is_marked d) = is_marked d

  -- ---- the least place

  -- before the place of a fault some sentence goes on
  pub goes_on_before : (used : Words) (w : Word × ℕ) (tail : Words) (e : Stop) → Rising (used ++ w ∷ tail) → sentence (used ++ w ∷ tail) ≡ Err e → LiesFrom w.1 e → GoesOn used
  goes_on_before used w tail e r i l =
      elim (before_fault used w tail e r i l) [
        | inl s ↦ ([], s.0, subst (λ us. IsSentenceWithin n us s.0) (sym (append-nil used)) (sentence_kept used s.0 (sentence_sound used s.0 s.1)))
        | inr o ↦ ended_goes_on used o
      ]
