-- A fault at a word stays whatever stands behind, and the words before it alone have none: they are a sentence or end inside one.
use Rattle.std.proofs.Common.{◌≡◌, ℕ, ◌≤◌, ◌<◌, [], ◌∷◌, ◌++◌, Ok, Err, refl, sym, ap, subst, ◌∙◌, arith, inl, inr, append_assoc}
use Rattle.std.specs.Prelude.{◌⊎◌, None, codes}
use Rattle.lq_ast.specs.Commands.{Sentence, stated}
use Rattle.lq_sentences.specs.Words.{Word, Words, reads}
use Rattle.lq_sentences.specs.Rules.{Rule, Stop, unexpected, too_nested, ended, Read, read}
use Rattle.lq_sentences.specs.Sentences.{whole_command, whole_selected, whole_tac, whole_open, whole_mark}
use Rattle.lq_sentences.specs.Reading.{Whole, to_the_end, whole, either, further, whole_map, failing, statement, stated_by, statements, sentence}
use Rattle.lq_sentences.proofs.RuleLaws.{choice, chosen_true, chosen_false}
use Rattle.lq_sentences.proofs.FaultLaws.{Local, local}
use Rattle.lq_sentences.proofs.SentenceLaws.{Answers}
use Rattle.lq_sentences.proofs.PlaceLaws.{Above, Rising, At, LiesIn, above_in, either_fails, map_fails}
use Rattle.lq_sentences.proofs.SentencePlaces.{no_words, statements_lies, sentence_stopped}

-- the reason lies at a word
abbrev pub LiesAt : Stop → Type 0
LiesAt (unexpected q) = Unit {0}
LiesAt (too_nested q) = Unit {0}
LiesAt ended = ⊥

-- an answer that is a reason at a word is that of another too
abbrev pub Stays : {A : Type 0} → Whole A → Whole A → Type 0
Stays p q = (e : Stop) → LiesAt e → p ≡ Err e → q ≡ Err e

module _ {A : Type 0} (p : Rule A) (ws other : Words) where
  -- the answer on more words, which the words up to one decide
  on_more : (used : Words) (w : Word × ℕ) (tail : Words) (r : Read A) → ws ≡ used ++ w ∷ tail → read p (used ++ w ∷ (tail ++ other)) ≡ r → whole p (ws ++ other) ≡ to_the_end r
  on_more used w tail r e h = ap (λ us. whole p (us ++ other)) e ∙ ap (whole p) (append_assoc used (w ∷ tail) other) ∙ ap to_the_end h

  no_end : (e : Stop) → LiesAt e → (let r : Whole A = Err ended in r) ≡ Err e → ⊥
  no_end e i h = subst LiesAt (same_reason ended e h) i
    where
      same_reason : (d e : Stop) → (let r : Whole A = Err d in r) ≡ Err e → e ≡ d
      same_reason d e h = cc

  stays_by : (r : Read A) → Local (read p) ws r → (e : Stop) → LiesAt e → to_the_end r ≡ Err e → whole p (ws ++ other) ≡ Err e
  stays_by (Ok (a, [])) l e i h = absurd cc
  stays_by (Ok (a, v ∷ vs)) l e i h = on_more l.0 v vs _ l.1 (l.2 (v ∷ (vs ++ other)) refl) ∙ h
  stays_by (Err (unexpected m)) s e i h = on_more s.0 s.1 s.2 _ s.3 (s.5 (s.2 ++ other)) ∙ h
  stays_by (Err (too_nested m)) s e i h = on_more s.0 s.1 s.2 _ s.3 (s.5 (s.2 ++ other)) ∙ h
  stays_by (Err ended) s e i h = absurd (no_end e i h)

  rule_stays : Stays (whole p ws) (whole p (ws ++ other))
  rule_stays e i h = stays_by (read p ws) (local p ws) e i h

-- ---- one after the other

both_at : (d f : Stop) → LiesAt (further d f) → LiesAt d × LiesAt f
both_at ended f h = absurd h
both_at (unexpected m) ended h = absurd h
both_at (too_nested m) ended h = absurd h
both_at (unexpected m) (unexpected n) h = (tt, tt)
both_at (unexpected m) (too_nested n) h = (tt, tt)
both_at (too_nested m) (unexpected n) h = (tt, tt)
both_at (too_nested m) (too_nested n) h = (tt, tt)

both_fail : {A : Type 0} (p q : Whole A) (d f : Stop) → p ≡ Err d → q ≡ Err f → either p (λ u. q) ≡ Err (further d f)
both_fail p q d f h i = ap (λ r. either r (λ u. q)) h ∙ ap (λ r. either (Err d) (λ u. r)) i

either_stays : {A : Type 0} (p q r s : Whole A) → Stays p r → Stays q s → Stays (either p (λ u. q)) (either r (λ u. s))
either_stays p q r s f g e i h =
    let t = either_fails p q e h in
    let l = both_at t.0 t.1 (subst LiesAt (sym t.4) i) in
    both_fail r s t.0 t.1 (f t.0 l.0 t.2) (g t.1 l.1 t.3) ∙ ap (λ x. Err x) t.4

map_stays : {A B : Type 0} (k : A → B) (p q : Whole A) → Stays p q → Stays (whole_map k p) (whole_map k q)
map_stays k p q s e i h = ap (whole_map k) (s e i (map_fails k p e h))

-- ---- sentences

statement_stays : (ws other : Words) → Stays (statement ws) (statement (ws ++ other))
unfolding statement
statement_stays ws other =
    either_stays _ _ _ _ (rule_stays whole_command ws other) (either_stays _ _ _ _ (rule_stays whole_selected ws other) (rule_stays (whole_tac None) ws other))

nowhere : (e : Stop) → LiesAt e → LiesIn [] e → ⊥
nowhere (unexpected q) i h = no_words h.0 h.1 h.2 h.3
nowhere (too_nested q) i h = no_words h.0 h.1 h.2 h.3
nowhere ended i h = i

statements_stay : (ws other : Words) → Stays (statements ws) (statements (ws ++ other))
unfolding statements stated_by
statements_stay [] other e i h = absurd (nowhere e i (statements_lies [] tt e h))
statements_stay (x ∷ ws) other e i h =
    elim (choice (reads (codes "Fail") x.0) _ _ _ h) [
      | inl c ↦
          chosen_true (reads (codes "Fail") x.0) _ _ c.0
          ∙ either_stays (whole_map failing (statements ws)) (whole_map (stated 0) (statement (x ∷ ws))) (whole_map failing (statements (ws ++ other)))
          (whole_map (stated 0) (statement (x ∷ (ws ++ other)))) (map_stays failing (statements ws) (statements (ws ++ other)) (statements_stay ws other))
          (map_stays (stated 0) (statement (x ∷ ws)) (statement (x ∷ (ws ++ other))) (statement_stays (x ∷ ws) other)) e i c.1
      | inr c ↦
          chosen_false (reads (codes "Fail") x.0) _ _ c.0
          ∙ map_stays (stated 0) (statement (x ∷ ws)) (statement (x ∷ (ws ++ other))) (statement_stays (x ∷ ws) other) e i c.1
    ]

-- a fault at a word is that of all words that begin so
pub sentence_stays : (ws other : Words) → Stays (sentence ws) (sentence (ws ++ other))
unfolding sentence
sentence_stays ws other =
    either_stays _ _ _ _ (statements_stay ws other) (either_stays _ _ _ _ (rule_stays whole_open ws other) (rule_stays whole_mark ws other))

-- ---- the least place

-- the reason lies at that place or behind it
abbrev pub LiesFrom : ℕ → Stop → Type 0
LiesFrom q (unexpected m) = q ≤ m
LiesFrom q (too_nested m) = q ≤ m
LiesFrom q ended = ⊥

rising_before : (us : Words) (v : Word × ℕ) (vs : Words) (w : Word × ℕ) (tail : Words) → Rising ((us ++ v ∷ vs) ++ w ∷ tail) → v.1 < w.1
rising_before [] v vs w tail r = above_in v.1 vs w tail r.0
rising_before (u ∷ us) v vs w tail r = rising_before us v vs w tail r.1

at_before : (used : Words) (w : Word × ℕ) (tail : Words) (m : ℕ) → Rising (used ++ w ∷ tail) → At used m → m < w.1
at_before used w tail m r t =
    let x = rising_before t.0 t.1 t.2 w tail (subst (λ us. Rising (us ++ w ∷ tail)) t.3 r) in omega (arith, t.4, x)

above_part : (q : ℕ) (us vs : Words) → Above q (us ++ vs) → Above q us
above_part q [] vs h = tt
above_part q (u ∷ us) vs h = (h.0, above_part q us vs h.1)

rising_part : (us vs : Words) → Rising (us ++ vs) → Rising us
rising_part [] vs r = tt
rising_part (u ∷ us) vs r = (above_part u.1 us vs r.0, rising_part us vs r.1)

same_reason : (d e : Stop) → (let r : Whole Sentence = Err d in r) ≡ Err e → e ≡ d
same_reason d e h = cc

-- the words before the place of a fault are a sentence, or it only ends inside them
pub before_fault : (used : Words) (w : Word × ℕ) (tail : Words) (e : Stop) → Rising (used ++ w ∷ tail) → sentence (used ++ w ∷ tail) ≡ Err e → LiesFrom w.1 e →
    Answers (sentence used) ⊎ (sentence used ≡ Err ended)
before_fault used w tail e r h l = by (sentence used) refl
  where
    by : (s : Whole Sentence) → sentence used ≡ s → Answers (sentence used) ⊎ (sentence used ≡ Err ended)
    by (Ok s) i = inl (s, i)
    by (Err ended) i = inr i
    by (Err (unexpected m)) i =
        let same = same_reason (unexpected m) e (sym (sentence_stays used (w ∷ tail) (unexpected m) tt i) ∙ h) in
        let from : w.1 ≤ m = subst (LiesFrom w.1) same l in
        let before = at_before used w tail m r ((sentence_stopped used (rising_part used (w ∷ tail) r)).lies (unexpected m) i) in
        absurd (omega (arith, from, before))
    by (Err (too_nested m)) i =
        let same = same_reason (too_nested m) e (sym (sentence_stays used (w ∷ tail) (too_nested m) tt i) ∙ h) in
        let from : w.1 ≤ m = subst (LiesFrom w.1) same l in
        let before = at_before used w tail m r ((sentence_stopped used (rising_part used (w ∷ tail) r)).lies (too_nested m) i) in
        absurd (omega (arith, from, before))
