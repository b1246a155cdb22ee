-- Bytes that end no sentence, in front of a script.
use Rattle.std.proofs.Common.{◌≡◌, ℕ, ◌+◌, ◌-◌, ◌<◌, ◌≤◌, Bool, true, false, eqb, ◌&&◌, List, [], ◌∷◌, ◌++◌, drop, length, get_or, refl, sym, ap, ◌∙◌, add-one, arith}
use Rattle.std.proofs.Math.ListN.{drop_of_length-le}
use Rattle.std.proofs.Math.Seq.{drop-cons}
use Rattle.std.proofs.lemmas.List.{append-nil}
use Rattle.std.proofs.lemmas.List.Edits.{between_more}
use Rattle.std.proofs.lemmas.Slice.{between_to_end}
use Rattle.std.specs.List.{slice_range}
use Rattle.lq_output.specs.Script.{Script, is_clear, in_front, cut}
use Rattle.lq_script.specs.Ends.{with_sentence}

-- a script behind bytes that end no sentence
abbrev pub behind : List ℕ → Script → Script
behind [] s = s
behind (b ∷ bs) s = in_front b (behind bs s).sentences (behind bs s).rest

behind-push : (bs : List ℕ) (b : ℕ) (s : Script) → behind (bs ++ b ∷ []) s ≡ behind bs (in_front b s.sentences s.rest)
behind-push [] b s = refl
behind-push (c ∷ bs) b s = ap (λ (t : Script). in_front c t.sentences t.rest) (behind-push bs b s)

behind-with_sentence : (bs p : List ℕ) (s : Script) → behind bs (with_sentence p s) ≡ with_sentence (bs ++ p) s
unfolding in_front
behind-with_sentence [] p s = refl
behind-with_sentence (b ∷ bs) p s = ap (λ (t : Script). in_front b t.sentences t.rest) (behind-with_sentence bs p s)

behind-nothing : (bs : List ℕ) → behind bs (record { sentences = []; rest = [] }) ≡ record { sentences = []; rest = bs }
unfolding in_front
behind-nothing [] = refl
behind-nothing (b ∷ bs) = ap (λ (t : Script). in_front b t.sentences t.rest) (behind-nothing bs)

-- a dot that ends a sentence, and any other byte
abbrev cut_by : Bool → ℕ → Script → Script
cut_by true b s = with_sentence [] s
cut_by false b s = in_front b s.sentences s.rest

cut-cons : (b : ℕ) (bs : List ℕ) → cut (b ∷ bs) ≡ cut_by (eqb b 46 && is_clear bs) b (cut bs)
unfolding cut
cut-cons b bs = step (eqb b 46 && is_clear bs) where
  step : (v : Bool) → elim v [ true ↦ with_sentence [] (cut bs) | false ↦ in_front b (cut bs).sentences (cut bs).rest ] ≡ cut_by v b (cut bs)
  step true = refl
  step false = refl

-- a loop over the bytes from a place on
at_place : (text : List ℕ) (dot : ℕ) → dot < length text → drop dot text ≡ get_or text dot 0 ∷ drop (dot + 1) text
at_place text dot h = rw (add-one dot) (drop-cons text dot 0 h)

pub end_start : (text : List ℕ) (from : ℕ) → cut (drop from text) ≡ behind (slice_range text from from) (cut (drop from text))
end_start text from = let none : from - from ≡ 0 = omega arith in rw none refl

pub end_goes : (text : List ℕ) (from dot : ℕ) → from ≤ dot → dot < length text → (eqb (get_or text dot 0) 46 && is_clear (drop (dot + 1) text)) ≡ false →
    cut (drop from text) ≡ behind (slice_range text from dot) (cut (drop dot text)) →
    cut (drop from text) ≡ behind (slice_range text from (dot + 1)) (cut (drop (dot + 1) text))
end_goes text from dot order within other so_far =
    so_far
    ∙ ap (λ bs. behind (slice_range text from dot) (cut bs)) (at_place text dot within)
    ∙ ap (behind (slice_range text from dot)) (cut-cons (get_or text dot 0) (drop (dot + 1) text) ∙ ap (λ v. cut_by v (get_or text dot 0) (cut (drop (dot + 1) text))) other)
    ∙ sym (behind-push (slice_range text from dot) (get_or text dot 0) (cut (drop (dot + 1) text)))
    ∙ ap (λ bs. behind bs (cut (drop (dot + 1) text))) (sym (between_more text from dot 0 order within))

pub end_found : (text : List ℕ) (from dot : ℕ) → dot < length text → (eqb (get_or text dot 0) 46 && is_clear (drop (dot + 1) text)) ≡ true →
    cut (drop from text) ≡ behind (slice_range text from dot) (cut (drop dot text)) →
    cut (drop from text) ≡ with_sentence (slice_range text from dot) (cut (drop (dot + 1) text))
end_found text from dot within end so_far =
    so_far
    ∙ ap (λ bs. behind (slice_range text from dot) (cut bs)) (at_place text dot within)
    ∙ ap (behind (slice_range text from dot)) (cut-cons (get_or text dot 0) (drop (dot + 1) text) ∙ ap (λ v. cut_by v (get_or text dot 0) (cut (drop (dot + 1) text))) end)
    ∙ behind-with_sentence (slice_range text from dot) [] (cut (drop (dot + 1) text))
    ∙ ap (λ bs. with_sentence bs (cut (drop (dot + 1) text))) (append-nil (slice_range text from dot))

pub end_none : (text : List ℕ) (from dot : ℕ) → length text ≤ dot →
    cut (drop from text) ≡ behind (slice_range text from dot) (cut (drop dot text)) →
    cut (drop from text) ≡ record { sentences = []; rest = drop from text }
unfolding cut
end_none text from dot past so_far =
    so_far
    ∙ ap (λ bs. behind (slice_range text from dot) (cut bs)) (drop_of_length-le text past)
    ∙ behind-nothing (slice_range text from dot)
    ∙ ap (λ (bs : List ℕ). record { sentences = []; rest = bs }) (between_to_end text from dot past)
