-- An answer, or a word that is nested too deep.
use Rattle.std.proofs.Common.{◌≡◌, ℕ, zero, suc, Bool, true, false, ◌∷◌, Ok, Err, refl, ap, ◌∙◌, inl, inr}
use Rattle.std.specs.Prelude.{◌⊎◌}
use Rattle.lq_sentences.specs.Words.{Word, Words}
use Rattle.lq_sentences.specs.Rules.{Rule, choose, too_nested, Read, and_then, read_word, sees, read}
use Rattle.lq_sentences.proofs.RuleLaws.{chosen_true, chosen_false}

-- the answer is that one, or some word is nested too deep
abbrev pub Good : {A : Type 0} → Read A → A × Words → Type 0
Good r y = (r ≡ Ok y) ⊎ ((q : ℕ) × (r ≡ Err (too_nested q)))

pub good_then : {A B : Type 0} (r : Read A) (f : A → Words → Read B) (y : A × Words) (z : B × Words) → Good r y → Good (f y.0 y.1) z → Good (and_then r f) z
good_then r f y z (inl e) (inl g) = inl (ap (λ x. and_then x f) e ∙ g)
good_then r f y z (inl e) (inr g) = inr (g.0, ap (λ x. and_then x f) e ∙ g.1)
good_then r f y z (inr e) h = inr (e.0, ap (λ x. and_then x f) e.1)

pub good_word : (n : ℕ) (test : Word → Bool) (w : Word × ℕ) (rest : Words) → test w.0 ≡ true → Good (read_word n test (w ∷ rest)) (w, rest)
unfolding read_word
good_word zero test w rest e = inr (w.1, chosen_true (test w.0) _ _ e)
good_word (suc n) test w rest e = inl (chosen_true (test w.0) _ _ e)

pub good_first : {A : Type 0} (test : Word → Bool) (p q : Rule A) (ws : Words) (y : A × Words) → sees test ws ≡ true → Good (read p ws) y →
    Good (read (choose test p q) ws) y
good_first test p q ws y e (inl g) = inl (chosen_true (sees test ws) _ _ e ∙ g)
good_first test p q ws y e (inr g) = inr (g.0, chosen_true (sees test ws) _ _ e ∙ g.1)

pub good_second : {A : Type 0} (test : Word → Bool) (p q : Rule A) (ws : Words) (y : A × Words) → sees test ws ≡ false → Good (read q ws) y →
    Good (read (choose test p q) ws) y
good_second test p q ws y e (inl g) = inl (chosen_false (sees test ws) _ _ e ∙ g)
good_second test p q ws y e (inr g) = inr (g.0, chosen_false (sees test ws) _ _ e ∙ g.1)

pub good_is : {A : Type 0} (r s : Read A) (y : A × Words) → r ≡ s → Good s y → Good r y
good_is r s y e (inl g) = inl (e ∙ g)
good_is r s y e (inr g) = inr (g.0, e ∙ g.1)

pub good_done : {A : Type 0} (y : A × Words) → Good (Ok y) y
good_done y = inl refl
