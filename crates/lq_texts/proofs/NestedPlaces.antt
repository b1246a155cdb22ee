-- Where a word is nested too deep, and of two reasons the further one.
use Rattle.std.proofs.Common.{◌≡◌, ℕ, zero, suc, ◌+◌, ◌≤◌, ◌<◌, nat_lt, Bool, true, false, List, [], ◌∷◌, ◌++◌, Ok, Err, refl, sym, ap, subst, ◌∙◌, inl, inr, arith, ltb-true, ltb-false}
use Rattle.lq_ast.specs.Syntax.{Surface}
use Rattle.lq_sentences.specs.Words.{Word, Words}
use Rattle.lq_sentences.specs.Rules.{Rule, Stop, unexpected, too_nested, ended, read}
use Rattle.lq_sentences.specs.Terms.{atom_at, term}
use Rattle.lq_sentences.specs.Patterns.{free_spot}
use Rattle.lq_sentences.specs.Reading.{further}
use Rattle.lq_sentences.proofs.FaultLaws.{Local, Stops, local}
use Rattle.lq_sentences.proofs.PlaceLaws.{Above, Rising, above_in, same_head, same_tail}
use Rattle.lq_texts.proofs.AtomRows.{an_atom, Row, row_end, row_more}

-- ---- where a word is nested too deep

pub stops_at : {A : Type 0} (p : Rule A) (ws : Words) (q : ℕ) → read p ws ≡ Err (too_nested q) → Stops (read p) ws q (too_nested q)
stops_at p ws q e = subst (Local (read p) ws) e (local p ws)

-- not before the first word
pub nested_from : {A : Type 0} (p : Rule A) (w : Word × ℕ) (ws : Words) (q : ℕ) → Rising (w ∷ ws) → read p (w ∷ ws) ≡ Err (too_nested q) → w.1 ≤ q
nested_from p w ws q r e = let s = stops_at p (w ∷ ws) q e in by s.0 s.1 s.2 s.3 s.4
  where
    by : (used : Words) (v : Word × ℕ) (tail : Words) → w ∷ ws ≡ used ++ v ∷ tail → v.1 ≡ q → w.1 ≤ q
    by [] v tail f g = let same = ap (λ (u : Word × ℕ). u.1) (same_head w v ws tail f) in omega (arith, same, g)
    by (u ∷ us) v tail f g = let less = above_in w.1 us v tail (subst (Above w.1) (same_tail w u ws (us ++ v ∷ tail) f) r.0) in omega (arith, less, g)

-- and behind a word before it
pub nested_behind : {A : Type 0} (p : Rule A) (m : ℕ) (ws : Words) (q : ℕ) → Above m ws → read p ws ≡ Err (too_nested q) → m ≤ q
nested_behind p m ws q r e =
    let s = stops_at p ws q e in
    let less = above_in m s.0 s.1 s.2 (subst (Above m) s.3 r) in
    omega (arith, less, s.4)

pub rising_behind : (us ws : Words) → Rising (us ++ ws) → Rising ws
rising_behind [] ws r = r
rising_behind (u ∷ us) ws r = rising_behind us ws r.1

pub row_front : (m : ℕ) (us rest : Words) (as_ : List Surface) → Row m us as_ rest → (used : Words) × (us ≡ used ++ rest)
row_front m us rest as_ row_end = ([], refl)
row_front m us rest as_ (row_more {w = w} {ws = ws} {us = vs} {a = a} {as_ = bs} b e more) =
    let l : Local (an_atom m w) ws (Ok (a, vs)) = subst (Local (an_atom m w) ws) e (local (atom_at m (term m) free_spot w) ws) in
    let r = row_front m vs rest bs more in
    (w ∷ (l.0 ++ r.0), ap (λ xs. w ∷ xs) (l.1 ∙ ap (λ xs. l.0 ++ xs) r.1 ∙ sym (Rattle.std.proofs.Common.append_assoc l.0 r.0 rest)))

-- ---- of two reasons the further one

-- a word is nested too deep, or one is unexpected that stands at that place or before it
abbrev pub By : ℕ → Stop → Type 0
By q (unexpected m) = m ≤ q
By q (too_nested m) = Unit {0}
By q ended = ⊥

pub further_by : (q : ℕ) (d f : Stop) → By q d → By q f → By q (further d f)
further_by q (unexpected m) (unexpected n) h k = step (nat_lt m n)
  where
    step : (b : Bool) → By q (elim b as (λ _. Stop) [ true ↦ unexpected n | false ↦ unexpected m ])
    step true = k
    step false = h
further_by q (unexpected m) (too_nested n) h k = step (nat_lt n m)
  where
    step : (b : Bool) → By q (elim b as (λ _. Stop) [ true ↦ unexpected m | false ↦ too_nested n ])
    step true = h
    step false = tt
further_by q (too_nested m) (unexpected n) h k = step (nat_lt m n)
  where
    step : (b : Bool) → By q (elim b as (λ _. Stop) [ true ↦ unexpected n | false ↦ too_nested m ])
    step true = k
    step false = tt
further_by q (too_nested m) (too_nested n) h k = step (nat_lt m n)
  where
    step : (b : Bool) → By q (elim b as (λ _. Stop) [ true ↦ too_nested n | false ↦ too_nested m ])
    step true = tt
    step false = tt
further_by q (unexpected m) ended h k = absurd k
further_by q (too_nested m) ended h k = absurd k
further_by q ended f h k = absurd h

-- the one that is nested too deep is the further one
pub nested_wins : (q : ℕ) (e : Stop) → By q e → (r : ℕ) × (further (too_nested q) e ≡ too_nested r) × (q ≤ r)
nested_wins q (unexpected n) h = step (nat_lt q n) refl
  where
    step : (b : Bool) → nat_lt q n ≡ b → (r : ℕ) × (elim b as (λ _. Stop) [ true ↦ unexpected n | false ↦ too_nested q ] ≡ too_nested r) × (q ≤ r)
    step true e = absurd (omega (arith, ltb-true q n e, h))
    step false e = (q, refl, omega arith)
nested_wins q (too_nested n) h = step (nat_lt q n) refl
  where
    step : (b : Bool) → nat_lt q n ≡ b → (r : ℕ) × (elim b as (λ _. Stop) [ true ↦ too_nested n | false ↦ too_nested q ] ≡ too_nested r) × (q ≤ r)
    step true e = (n, refl, omega (arith, ltb-true q n e))
    step false e = (q, refl, omega arith)
nested_wins q ended h = absurd h
