-- The table of numbers that are used behind a text, by numbers of texts.
use Rattle.std.proofs.Common.{◌≡◌, ◌≢◌, ◌∙◌, ℕ, ◌+◌, ◌<◌, ◌≤◌, ◌^◌, Bool, true, false, true≢false, ◌||◌, List, [], ◌∷◌, ◌++◌, map, length, take, get_or, Option, Some, refl, sym, ap, subst, arith}
use Rattle.std.specs.Prelude.{decimal, IfSome}
use Rattle.std.proofs.lemmas.List.{take_more, map-append}
use Rattle.std.proofs.lemmas.Slice.Eq.{bytes_eq-Decides}
use Rattle.lq_trees.specs.Tree.{Name, same_name}
use Rattle.lq_trees.specs.Fresh.{is_listed}
use Rattle.lq_terms.specs.Numbers.{AreUsed}
use Rattle.lq_terms.proofs.NumberLaws.{listed_push}

or_true : (b : Bool) → (b || true) ≡ true
or_true true = refl
or_true false = refl

or_false : (b : Bool) → (b || false) ≡ b
or_false true = refl
or_false false = refl

-- one name more in the table
module _ (text : ℕ → Name) (ts : List ℕ) (i d : ℕ) (inside : i < length ts) (base : Name) (n : ℕ) (small : n ≤ 2 ^ 63) (number : Option ℕ) (t b : Name) (t_is : t ≡ text (get_or ts i d)) (b_is : b ≡ base) where
  pub used_more :
      (old new : List Bool) → IfSome number (λ k. t ≡ b ++ decimal k) → ((k : ℕ) → k < 2 ^ 64 → t ≡ b ++ decimal k → number ≡ Some k)
      → length new ≡ length old → ((k : ℕ) → k < length old → number ≡ Some k → get_or new k false ≡ true) → ((k : ℕ) → number ≢ Some k → get_or new k false ≡ get_or old k false)
      → AreUsed (map text (take i ts)) base n old → AreUsed (map text (take (i + 1) ts)) base n new
  used_more old new is only same_length marked kept h = record {
    length = same_length ∙ h.length;
    told = λ k l. told k l (same_name (text (get_or ts i d)) (base ++ decimal k)) refl ∙ sym (now k);
  }
    where
      now : (k : ℕ) → is_listed (map text (take (i + 1) ts)) (base ++ decimal k) ≡ (is_listed (map text (take i ts)) (base ++ decimal k) || same_name (text (get_or ts i d)) (base ++ decimal k))
      now k = ap (λ us. is_listed us (base ++ decimal k)) (ap (map text) (take_more ts i d inside) ∙ map-append text (take i ts) (get_or ts i d ∷ [])) ∙ listed_push (map text (take i ts)) (text (get_or ts i d)) (base ++ decimal k)

      found : (k : ℕ) → number ≡ Some k → text (get_or ts i d) ≡ base ++ decimal k
      found k e = let here : t ≡ b ++ decimal k = subst (λ o. IfSome o (λ j. t ≡ b ++ decimal j)) e is in sym t_is ∙ here ∙ ap (λ z. z ++ decimal k) b_is

      told : (k : ℕ) → k < n → (b : Bool) → same_name (text (get_or ts i d)) (base ++ decimal k) ≡ b
          → get_or new k false ≡ (is_listed (map text (take i ts)) (base ++ decimal k) || b)
      told k l true e = marked k (omega (arith, h.length)) (only k (omega arith) (t_is ∙ (bytes_eq-Decides (text (get_or ts i d)) (base ++ decimal k)).0 e ∙ ap (λ z. z ++ decimal k) (sym b_is))) ∙ sym (or_true (is_listed (map text (take i ts)) (base ++ decimal k)))
      told k l false e =
          kept k (λ f. absurd (true≢false (sym ((bytes_eq-Decides (text (get_or ts i d)) (base ++ decimal k)).1 (found k f)) ∙ e)))
          ∙ h.told k l ∙ sym (or_false (is_listed (map text (take i ts)) (base ++ decimal k)))
