-- Runs of characters in a text.
use Rattle.std.proofs.Common.{◌≡◌, ℕ, ◌+◌, ◌<◌, ◌≤◌, Bool, true, false, List, [], ◌∷◌, ◌++◌, drop, length, length-drop, Some, refl, sym, ap, ◌∙◌, subst, arith, inl, inr}
use Rattle.std.specs.Prelude.{◌⊎◌}
use Rattle.std.proofs.lemmas.List.{drop-append-le}
use Rattle.bstr.specs.Utf8.{decoded}
use Rattle.bstr.proofs.lemmas.PieceLemmas.{piece-bounds}
use Rattle.lq_grammar.specs.Cells.{Cells, beyond, letter, place, past, goes_on, view}
use Rattle.lq_grammar.specs.Tokens.{continues_name}
use Rattle.lq_grammar.proofs.Computing.{cutting}
use Rattle.lq_texts.proofs.Fronts.{Shows, shows_in, shows_ascii, drop_next}

-- a blank, a closing bracket or a comma
pub data IsEnd : ℕ → Type 0 where
  end_blank : IsEnd 32
  end_close : IsEnd 41
  end_comma : IsEnd 44

-- the bytes begin with one of these
abbrev pub Ends : List ℕ → Type 0
Ends [] = ⊥
Ends (b ∷ bs) = IsEnd b

pub end_ascii : (b : ℕ) → IsEnd b → b < 128
end_ascii b end_blank = omega arith
end_ascii b end_close = omega arith
end_ascii b end_comma = omega arith

pub end_stops : (b : ℕ) → IsEnd b → continues_name b ≡ false
unfolding cutting
end_stops b end_blank = refl
end_stops b end_close = refl
end_stops b end_comma = refl

-- the bytes decode, and their characters pass a test
pub data Run (test : ℕ → Bool) : List ℕ → Type 0 where
  run_end : Run test []
  run_more : {bs : List ℕ} {c : ℕ} → (decoded bs).char ≡ Some c → test c ≡ true → Run test (drop (decoded bs).size bs) → Run test bs

pub size_within : (bs : List ℕ) (c : ℕ) → (decoded bs).char ≡ Some c → (1 ≤ (decoded bs).size) × ((decoded bs).size ≤ length bs)
size_within [] c e = absurd cc
size_within (b ∷ bs) c e = let s = piece-bounds (b ∷ bs) (omega arith) in (s.0, s.2)

-- ---- the run of characters

module _ (test : ℕ → Bool) where
  pub past_yes : (p c : ℕ) (cs : Cells) → test c ≡ true → past test (letter p c cs) ≡ past test cs
  unfolding past
  past_yes p c cs e = step (test c) e
    where
      step : (b : Bool) → b ≡ true → elim b as (λ _. Cells) [ true ↦ past test cs | false ↦ letter p c cs ] ≡ past test cs
      step true f = refl
      step false f = absurd cc

  pub past_none : (p c : ℕ) (cs : Cells) → test c ≡ false → past test (letter p c cs) ≡ letter p c cs
  unfolding past
  past_none p c cs e = step (test c) e
    where
      step : (b : Bool) → b ≡ false → elim b as (λ _. Cells) [ true ↦ past test cs | false ↦ letter p c cs ] ≡ letter p c cs
      step true f = absurd cc
      step false f = refl

  pub past_beyond : (p c : ℕ) → past test (beyond p c) ≡ beyond p c
  unfolding past
  past_beyond p c = refl

  -- no run where the first character does not pass
  pub past_stays : (L : ℕ) (text : List ℕ) (at c n : ℕ) → Shows L text at c n → test c ≡ false →
      (past test (view L text at) ≡ view L text at) × (goes_on test (view L text at) ≡ false)
  unfolding goes_on
  past_stays L text at c n (inl s) e = (ap (past test) s.1 ∙ past_none at c _ e ∙ sym s.1, ap (goes_on test) s.1)
  past_stays L text at c n (inr s) e = (ap (past test) s.1 ∙ past_beyond at c ∙ sym s.1, ap (goes_on test) s.1 ∙ e)

  -- the run ends within the bound, or goes on behind it
  abbrev pub RunsTo : ℕ → List ℕ → ℕ → ℕ → Type 0
  RunsTo L text at stop =
      ((stop ≤ L) × (past test (view L text at) ≡ view L text stop) × (goes_on test (view L text stop) ≡ false))
      ⊎ ((L < stop) × (goes_on test (past test (view L text at)) ≡ true) × (place (past test (view L text at)) ≤ stop))

  pub runs_on : (L : ℕ) (text : List ℕ) (at c n stop : ℕ) → Shows L text at c n → test c ≡ true → at + n ≤ stop → (at + n ≤ L → RunsTo L text (at + n) stop) →
      RunsTo L text at stop
  unfolding goes_on place
  runs_on L text at c n stop (inl s) e h r = through (r s.0)
    where
      f : past test (view L text at) ≡ past test (view L text (at + n))
      f = ap (past test) s.1 ∙ past_yes at c _ e

      through : RunsTo L text (at + n) stop → RunsTo L text at stop
      through (inl r) = inl (r.0, f ∙ r.1, r.2)
      through (inr r) = inr (r.0, ap (goes_on test) f ∙ r.1, subst (λ cs. place cs ≤ stop) (sym f) r.2)
  runs_on L text at c n stop (inr s) e h r =
      let f = ap (past test) s.1 ∙ past_beyond at c in
      inr (omega (arith, s.0, h), ap (goes_on test) f ∙ e, subst (λ cs. place cs ≤ stop) (sym f) (omega arith))

  pub run_to : (L : ℕ) (text : List ℕ) (at b : ℕ) (bs more : List ℕ) → Run test bs → at ≤ L → drop at text ≡ bs ++ (b ∷ more) → b < 128 → test b ≡ false →
      RunsTo L text at (at + length bs)
  run_to L text at b bs more run_end h e low stops =
      let P : ℕ → Type 0 = λ stop. RunsTo L text at stop in
      let same : at ≡ at + 0 = omega arith in
      let s = past_stays L text at b 1 (shows_ascii L text at b more e low) stops in
      subst P same (inl (h, s.0, s.1))
  run_to L text at b bs more (run_more {c = c} f g r) h e low stops =
      let n = (decoded bs).size in
      let s = size_within bs c f in
      let len = length-drop n bs in
      let same : at + n + length (drop n bs) ≡ at + length bs = omega (arith, s.1, len) in
      let behind = drop_next text at n (bs ++ (b ∷ more)) e ∙ drop-append-le n bs (b ∷ more) s.1 in
      runs_on L text at c n (at + length bs) (shows_in L text at bs (b ∷ more) c e f) g (omega (arith, s.1))
      (λ low_at. subst (λ stop. RunsTo L text (at + n) stop) same (run_to L text (at + n) b (drop n bs) more r low_at behind low stops))
