-- Numbers in decimal digits behind a text, and the table of those that are used.
use Rattle.std.proofs.Common.{◌≡◌, ◌≢◌, ◌∙◌, inl, inr, ⊎_elim, ℕ, zero, suc, ◌+◌, ◌<◌, ◌≤◌, ◌^◌, Bool, true, false, true≢false, ◌||◌, cond, List, [], ◌∷◌, ◌++◌, map, length, drop, take, get_or, Option, Some, refl, sym, ap, subst, arith, eqb, eqb-true}
use Rattle.std.specs.Prelude.{decimal, Result, Ok, IfSome}
use Rattle.std.specs.Str.Parse.{AllDigits, IsNumeral, digits_value, ParsesUnsigned, without_leading_plus}
use Rattle.std.proofs.lemmas.Bool.{cases_lt}
use Rattle.std.proofs.lemmas.Fmt.{decimal_digit, first_decimal, decimal-digits_value, parse-decimal}
use Rattle.std.proofs.lemmas.List.{take_more, map-append, length-drop, length-replicate, get_or-replicate}
use Rattle.std.specs.Prelude.{replicate}
use Rattle.std.proofs.lemmas.Slice.Eq.{bytes_eq-Decides}
use Rattle.std.proofs.lemmas.Str.Parse.{IsNumeralModel, numerals_by_value, tells_digits}
use Rattle.lq_trees.specs.Tree.{Name, same_name}
use Rattle.lq_trees.specs.Fresh.{is_listed, fresh_from}
use Rattle.lq_terms.specs.declared.nodes.NameId.{NameId}
use Rattle.lq_terms.specs.Numbers.{IsFirstFree, AreUsed}
use Rattle.lq_terms.proofs.FreshNames.{none_listed, fresh_here, fresh_later, fresh_last}

numerals : IsNumeralModel (AllDigits 10) (digits_value 10)
numerals = numerals_by_value (AllDigits 10) tells_digits

-- one digit, or a first digit that is not zero
pub decimal_first : (k : ℕ) (bs : List ℕ) → k < 2 ^ 64 → bs ≡ decimal k → 1 < length bs → get_or bs 0 0 ≤ 48 → ⊥
decimal_first zero bs l e long low = absurd (omega (arith, ap length (e ∙ decimal_digit 0 (omega arith))))
decimal_first (suc k) bs l e long low =
    let high : 48 < get_or (decimal (suc k)) 0 0 = first_decimal (suc k) (omega arith) l in
    absurd (omega (arith, ap (λ (z : List ℕ). get_or z 0 0) e))

-- what is read of digits with no sign and no zero ahead
pub read_is : (bs : List ℕ) (k : ℕ) → (IsNumeral 10 (without_leading_plus bs) × (digits_value 10 (without_leading_plus bs) < 2 ^ 64)) × (k ≡ digits_value 10 (without_leading_plus bs)) → (1 < length bs → 48 < get_or bs 0 0) → decimal k ≡ bs
read_is bs k h first = by (eqb (get_or bs 0 0) 43) refl h
  where
    one : 0 < length bs → get_or bs 0 0 ≤ 48 → length bs ≡ 1
    one some low = elim (cases_lt 1 (length bs)) [ inl long ↦ absurd (omega (arith, first long)) | inr short ↦ omega arith ]

    by : (b : Bool) → eqb (get_or bs 0 0) 43 ≡ b → (IsNumeral 10 (drop (cond b 1 0) bs) × (digits_value 10 (drop (cond b 1 0) bs) < 2 ^ 64)) × (k ≡ digits_value 10 (drop (cond b 1 0) bs)) → decimal k ≡ bs
    by true e g =
        let plus : get_or bs 0 0 ≡ 43 = eqb-true (get_or bs 0 0) 43 e in
        let left : 0 < length (drop 1 bs) = g.0.0.0 in
        let alone : length bs ≡ 1 = one (omega (arith, length-drop 1 bs)) (omega arith) in
        absurd (omega (arith, length-drop 1 bs))
    by false e g = ap decimal g.1 ∙ decimal-digits_value numerals bs g.0.0.1 g.0.0.0 (λ z. one g.0.0.0 (omega arith)) g.0.1

pub read_only : {E : Type 0} (bs : List ℕ) (r : Result ℕ E) (k : ℕ) → k < 2 ^ 64 → bs ≡ decimal k → ParsesUnsigned 64 10 bs r → r ≡ Ok k
read_only bs r k l e h = parse-decimal 64 k bs r l l e h

or_true : (b : Bool) → (b || true) ≡ true
or_true true = refl
or_true false = refl

or_false : (b : Bool) → (b || false) ≡ b
or_false true = refl
or_false false = refl

-- a name more at the end
pub listed_push : (xs : List Name) (y x : Name) → is_listed (xs ++ y ∷ []) x ≡ (is_listed xs x || same_name y x)
unfolding is_listed
listed_push [] y x = grind arith
listed_push (z ∷ zs) y x = let rest : is_listed (zs ++ y ∷ []) x ≡ (is_listed zs x || same_name y x) = listed_push zs y x in grind (arith, rest)

-- the table of no names
pub used_none : (base : Name) (n : ℕ) (used : List Bool) → used ≡ replicate n false → AreUsed [] base n used
used_none base n used e = record {
  length = ap length e ∙ length-replicate n false;
  told = λ k l. ap (λ (us : List Bool). get_or us k false) e ∙ get_or-replicate n k false false l ∙ sym (none_listed (base ++ decimal k));
}

-- one name more in the table
module _ (text : NameId → Name) (ts : List NameId) (i : ℕ) (d : NameId) (inside : i < length ts) (base : Name) (n : ℕ) (small : n ≤ 2 ^ 63) (number : Option ℕ) (t b : Name) (t_is : t ≡ text (get_or ts i d)) (b_is : b ≡ base) where
  pub used_more :
      (old new : List Bool) → IfSome number (λ k. t ≡ b ++ decimal k) → ((k : ℕ) → k < 2 ^ 64 → t ≡ b ++ decimal k → number ≡ Some k)
      → length new ≡ length old → ((k : ℕ) → k < length old → number ≡ Some k → get_or new k false ≡ true) → ((k : ℕ) → number ≢ Some k → get_or new k false ≡ get_or old k false)
      → AreUsed (map text (take i ts)) base n old → AreUsed (map text (take (i + 1) ts)) base n new
  used_more old new is only same_length marked kept h = record {
    length = same_length ∙ h.length;
    told = λ k l. told k l (same_name (text (get_or ts i d)) (base ++ decimal k)) refl ∙ sym (now k);
  }
    where
      now : (k : ℕ) → is_listed (map text (take (i + 1) ts)) (base ++ decimal k) ≡ (is_listed (map text (take i ts)) (base ++ decimal k) || same_name (text (get_or ts i d)) (base ++ decimal k))
      now k = ap (λ us. is_listed us (base ++ decimal k)) (ap (map text) (take_more ts i d inside) ∙ map-append text (take i ts) (get_or ts i d ∷ [])) ∙ listed_push (map text (take i ts)) (text (get_or ts i d)) (base ++ decimal k)

      found : (k : ℕ) → number ≡ Some k → text (get_or ts i d) ≡ base ++ decimal k
      found k e = let here : t ≡ b ++ decimal k = subst (λ o. IfSome o (λ j. t ≡ b ++ decimal j)) e is in sym t_is ∙ here ∙ ap (λ z. z ++ decimal k) b_is

      told : (k : ℕ) → k < n → (b : Bool) → same_name (text (get_or ts i d)) (base ++ decimal k) ≡ b
          → get_or new k false ≡ (is_listed (map text (take i ts)) (base ++ decimal k) || b)
      told k l true e = marked k (omega (arith, h.length)) (only k (omega arith) (t_is ∙ (bytes_eq-Decides (text (get_or ts i d)) (base ++ decimal k)).0 e ∙ ap (λ z. z ++ decimal k) (sym b_is))) ∙ sym (or_true (is_listed (map text (take i ts)) (base ++ decimal k)))
      told k l false e =
          kept k (λ f. absurd (true≢false (sym ((bytes_eq-Decides (text (get_or ts i d)) (base ++ decimal k)).1 (found k f)) ∙ e)))
          ∙ h.told k l ∙ sym (or_false (is_listed (map text (take i ts)) (base ++ decimal k)))

-- the search ends at the first number that is not used
module _ (taken : List Name) (x : Name) (m : ℕ) where
  pub fresh_first :
      (k tries : ℕ) → k ≤ m → m ≤ k + tries → ((j : ℕ) → j < m → is_listed taken (x ++ decimal j) ≡ true) → (m < k + tries → is_listed taken (x ++ decimal m) ≡ false)
      → fresh_from taken x k tries ≡ x ++ decimal m
  fresh_first k zero l h used free = let e : k ≡ m = omega arith in fresh_last taken x k ∙ ap (λ j. x ++ decimal j) e
  fresh_first k (suc tries) l h used free =
      ⊎_elim
      (λ (less : k < m). fresh_later taken x k tries (used k less) ∙ fresh_first (suc k) tries (omega arith) (omega arith) used (λ s. free (omega arith)))
      (λ (more : m ≤ k).
      let e : k ≡ m = omega arith in
      fresh_here taken x k tries (ap (λ j. is_listed taken (x ++ decimal j)) e ∙ free (omega arith)) ∙ ap (λ j. x ++ decimal j) e)
      (cases_lt k m)

  -- by the table of as many numbers as there are names
  pub table_first :
      (n : ℕ) (used : List Bool) → length taken ≡ n → AreUsed taken x n used → ((k : ℕ) → k < m → get_or used k false ≡ true) → m ≤ length used → (m < length used → get_or used m false ≡ false)
      → IsFirstFree taken x m
  table_first n used count h before within free =
      ap (fresh_from taken x 0) count
      ∙ fresh_first 0 n (omega arith) (omega (arith, h.length)) (λ j l. sym (h.told j (omega (arith, h.length))) ∙ before j l)
      (λ l. let inside : m < n = omega arith in sym (h.told m inside) ∙ free (omega (arith, h.length)))
