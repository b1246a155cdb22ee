-- Rules that read alike but for their trees.
use Rattle.std.proofs.Common.{◌≡◌, ℕ, zero, suc, Bool, true, false, [], ◌∷◌, length, Ok, Err, refl, sym, ap, ◌∙◌}
use Rattle.lq_sentences.specs.Words.{Word, Words}
use Rattle.lq_sentences.specs.Rules.{Rule, loop, sees, Stop, Read, and_then, read_word, turns, repeated, read}
use Rattle.lq_sentences.specs.Reading.{to_the_end, whole_map}
use Rattle.lq_sentences.proofs.RuleLaws.{done_is}
use Rattle.lq_sentences.proofs.PlaceLaws.{map_fails}

-- an answer without its tree
abbrev pub shape : {A : Type 0} → Read A → Read (Unit {0})
shape (Ok (a, ws)) = Ok (tt, ws)
shape (Err e) = Err e

abbrev leaves : Words → Read (Unit {0})
leaves ws = Ok (tt, ws)

abbrev stops : Stop → Read (Unit {0})
stops e = Err e

same_rest : (vs us : Words) → leaves vs ≡ leaves us → vs ≡ us
same_rest vs us e = ap (λ (r : Unit {0} × Words). r.1) (done_is (tt, vs) (tt, us) e)

same_stop : (d e : Stop) → stops d ≡ stops e → d ≡ e
same_stop d e h = cc

leaves_stops : (vs : Words) (e : Stop) → leaves vs ≡ stops e → ⊥
leaves_stops vs e h = absurd cc

-- two parts in a row
pub then_alike : {A B C D : Type 0} (r : Read A) (s : Read B) (f : A → Words → Read C) (g : B → Words → Read D) → shape r ≡ shape s →
    ((a : A) (b : B) (ws : Words) → shape (f a ws) ≡ shape (g b ws)) → shape (and_then r f) ≡ shape (and_then s g)
then_alike (Ok (a, vs)) (Ok (b, us)) f g e h = h a b vs ∙ ap (λ ws. shape (g b ws)) (same_rest vs us e)
then_alike (Ok (a, vs)) (Err d) f g e h = absurd (leaves_stops vs d e)
then_alike (Err d) (Ok (b, us)) f g e h = absurd (leaves_stops us d (sym e))
then_alike (Err d) (Err c) f g e h = e

pub then_under : {A C D : Type 0} (r : Read A) (f : A → Words → Read C) (g : A → Words → Read D) → ((a : A) (ws : Words) → shape (f a ws) ≡ shape (g a ws)) →
    shape (and_then r f) ≡ shape (and_then r g)
then_under (Ok (a, vs)) f g h = h a vs
then_under (Err d) f g h = refl

pub choice_alike : {A B : Type 0} (x : Bool) (r s : Read A) (t u : Read B) → shape r ≡ shape t → shape s ≡ shape u →
    shape (elim x as (λ _. Read A) [ true ↦ r | false ↦ s ]) ≡ shape (elim x as (λ _. Read B) [ true ↦ t | false ↦ u ])
choice_alike true r s t u e f = e
choice_alike false r s t u e f = f

module _ {A B : Type 0} (n : ℕ) (test : Word → Bool) (f : A → Word × ℕ → Words → Read A) (g : B → Word × ℕ → Words → Read B)
    (alike : (a : A) (b : B) (w : Word × ℕ) (ws : Words) → shape (f a w ws) ≡ shape (g b w ws)) where
  turns_alike : (k : ℕ) (a : A) (b : B) (ws : Words) → shape (turns k n (λ c w. test w) f a ws) ≡ shape (turns k n (λ c w. test w) g b ws)
  unfolding turns
  turns_alike zero a b ws = refl
  turns_alike (suc k) a b ws =
      choice_alike (sees test ws) _ _ _ _
      (then_under (read_word n test ws) _ _ (λ w vs.
      then_alike (f a w vs) (g b w vs) _ _ (alike a b w vs) (λ c d us. turns_alike k c d us)))
      refl

-- loops whose turns begin at one test and read alike
pub loops_alike : {A B : Type 0} (n : ℕ) (test : Word → Bool) (body : A → Word × ℕ → Rule A) (other : B → Word × ℕ → Rule B) →
    ((a : A) (b : B) (w : Word × ℕ) (ws : Words) → shape (read (body a w) ws) ≡ shape (read (other b w) ws)) →
    (a : A) (b : B) (ws : Words) → shape (read (loop n (λ c w. test w) body a) ws) ≡ shape (read (loop n (λ c w. test w) other b) ws)
unfolding repeated
loops_alike n test body other h a b ws = turns_alike n test (λ c w vs. read (body c w) vs) (λ c w vs. read (other c w) vs) h (length ws) a b ws

-- ---- all the words

end_shape : {A : Type 0} (r : Read A) → to_the_end (shape r) ≡ whole_map (λ a. tt) (to_the_end r)
end_shape (Ok (a, [])) = refl
end_shape (Ok (a, w ∷ ws)) = refl
end_shape (Err e) = refl

-- what reads alike fails alike
pub end_alike : {A B : Type 0} (r : Read A) (s : Read B) (e : Stop) → shape r ≡ shape s → to_the_end r ≡ Err e → to_the_end s ≡ Err e
end_alike r s e h i = map_fails (λ b. tt) (to_the_end s) e (sym (end_shape s) ∙ sym (ap to_the_end h) ∙ end_shape r ∙ ap (whole_map (λ a. tt)) i)
