-- Quotes in the text of a string.
use Rattle.std.proofs.Common.{◌≡◌, ℕ, suc, ◌<◌, Bool, true, false, List, [], ◌∷◌, ◌++◌, length, get_or, refl, sym, ap, ◌∙◌, arith}
use Rattle.std.specs.Prelude.{◌==◌}
use Rattle.lq_sentences.specs.Words.{undoubled}
use Rattle.lq_sentences.proofs.RuleLaws.{chosen_false}

-- no byte is a quote
abbrev pub Lacks : List ℕ → Type 0
Lacks bs = (i : ℕ) → i < length bs → get_or bs i 0 ≡ 34 → ⊥

lacks_tail : (b : ℕ) (bs : List ℕ) → Lacks (b ∷ bs) → Lacks bs
lacks_tail b bs h i l e = h (suc i) (omega arith) e

other : (b : ℕ) → (b ≡ 34 → ⊥) → (b == 34) ≡ false
other b h = by (b == 34) refl
  where
    by : (t : Bool) → (b == 34) ≡ t → (b == 34) ≡ false
    by true e = absurd (h (grind (arith, e)))
    by false e = e

pub none_doubled : (bs : List ℕ) → Lacks bs → undoubled false bs ≡ bs
unfolding undoubled
none_doubled [] h = refl
none_doubled (b ∷ bs) h =
    ap (λ t. b ∷ undoubled t bs) (other b (h 0 (omega arith))) ∙ ap (λ cs. b ∷ cs) (none_doubled bs (lacks_tail b bs h))

pub quote_found : (xs ys : List ℕ) → Lacks xs → undoubled false (xs ++ 34 ∷ ys) ≡ xs ++ 34 ∷ undoubled true ys
unfolding undoubled
quote_found [] ys h = refl
quote_found (x ∷ xs) ys h =
    ap (λ t. x ∷ undoubled t (xs ++ 34 ∷ ys)) (other x (h 0 (omega arith))) ∙ ap (λ cs. x ∷ cs) (quote_found xs ys (lacks_tail x xs h))

pub pair_skipped : (bs rest : List ℕ) → bs ≡ 34 ∷ rest → undoubled true bs ≡ undoubled false rest
unfolding undoubled
pair_skipped bs rest e = ap (λ cs. undoubled true cs) e

pub pair_missing : (bs : List ℕ) → ((rest : List ℕ) → bs ≡ 34 ∷ rest → ⊥) → undoubled true bs ≡ undoubled false bs
unfolding undoubled
pair_missing [] h = refl
pair_missing (b ∷ bs) h =
    let e = other b (λ i. h bs (ap (λ x. x ∷ bs) i)) in
    chosen_false (b == 34) _ _ e ∙ ap (λ t. b ∷ undoubled t bs) (sym e)
