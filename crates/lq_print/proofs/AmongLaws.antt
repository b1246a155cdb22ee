-- Whether a text is among those of some numbers.
use Rattle.std.proofs.Common.{◌≡◌, ◌∙◌, ℕ, ◌+◌, ◌<◌, ◌≤◌, Bool, true, false, ◌||◌, List, [], ◌∷◌, ◌++◌, map, length, get_or, drop, Some, None, refl, sym, ap, subst, arith}
use Rattle.std.specs.Prelude.{reverse, codes, decimal, Result, IfOk}
use Rattle.std.proofs.lemmas.List.{drop_more, drop_all, map-append}
use Rattle.std.proofs.lemmas.Grind.{reverse_onto}
use Rattle.std.proofs.lemmas.Slice.Eq.{bytes_eq-Decides}
use Rattle.lq_trees.specs.Tree.{Name, same_name}
use Rattle.lq_trees.specs.Fresh.{is_listed, fresh_of}
use Rattle.lq_terms.specs.declared.nodes.NoMemory.{NoMemory}
use Rattle.lq_terms.specs.Numbers.{IsFirstFree}
use Rattle.lq_terms.proofs.FreshNames.{fresh_free, fresh_taken}
use Rattle.lq_texts.specs.Printing.{own_name}
use Rattle.lq_print.specs.Tables.{text_at, IsText, AreWithin}
use Rattle.lq_print.proofs.TableLaws.{is_text}
use Rattle.lq_print.proofs.NameLaws.{listed_append}

-- a text that has no number is not among any
pub none_among : (ts : List Name) (ks : List ℕ) (x : Name) → ((k : ℕ) → IsText ts k x → None ≡ Some k) → AreWithin ts ks → is_listed (map (text_at ts) ks) x ≡ false
unfolding is_listed
none_among ts [] x absent h = refl
none_among ts (k ∷ ks) x absent h = by (same_name (text_at ts k) x) refl (none_among ts ks x absent h.1)
  where
    by : (b : Bool) → same_name (text_at ts k) x ≡ b → is_listed (map (text_at ts) ks) x ≡ false → (same_name (text_at ts k) x || is_listed (map (text_at ts) ks) x) ≡ false
    by true e others =
        let there : IsText ts k x = subst (IsText ts k) ((bytes_eq-Decides (text_at ts k) x).0 e) (is_text ts k h.0) in
        let no : None ≡ Some k = absent k there in
        absurd cc
    by false e others = ap (λ b. b || is_listed (map (text_at ts) ks) x) e ∙ others

module _ (ts : List Name) (ks : List ℕ) (i d : ℕ) (x : Name) where
  next : i < length ks → is_listed (map (text_at ts) (drop i ks)) x ≡ (same_name (text_at ts (get_or ks i d)) x || is_listed (map (text_at ts) (drop (i + 1) ks)) x)
  unfolding is_listed
  next l = rw (drop_more ks i d l) refl

  pub among_found : (k : ℕ) → IsText ts k x → i < length ks → get_or ks i d ≡ k → text_at ts k ≡ x → is_listed (map (text_at ts) ks) x ≡ is_listed (map (text_at ts) (drop i ks)) x → true ≡ is_listed (map (text_at ts) ks) x
  among_found k t l e is so_far =
      sym (so_far ∙ next l ∙ ap (λ b. b || is_listed (map (text_at ts) (drop (i + 1) ks)) x) ((bytes_eq-Decides (text_at ts (get_or ks i d)) x).1 (ap (text_at ts) e ∙ is)))

  pub among_passed :
      (k : ℕ) → ((j : ℕ) → IsText ts j x → Some k ≡ Some j) → i < length ks → get_or ks i d < length ts → ¬ (get_or ks i d ≡ k)
      → is_listed (map (text_at ts) ks) x ≡ is_listed (map (text_at ts) (drop i ks)) x → is_listed (map (text_at ts) ks) x ≡ is_listed (map (text_at ts) (drop (i + 1) ks)) x
  among_passed k only l within other so_far =
      so_far ∙ next l ∙ ap (λ b. b || is_listed (map (text_at ts) (drop (i + 1) ks)) x) (by (same_name (text_at ts (get_or ks i d)) x) refl)
    where
      by : (b : Bool) → same_name (text_at ts (get_or ks i d)) x ≡ b → same_name (text_at ts (get_or ks i d)) x ≡ false
      by true e =
          let there : IsText ts (get_or ks i d) x = subst (IsText ts (get_or ks i d)) ((bytes_eq-Decides (text_at ts (get_or ks i d)) x).0 e) (is_text ts (get_or ks i d) within) in
          let same : Some k ≡ Some (get_or ks i d) = only (get_or ks i d) there in
          absurd (other (sym (let s : k ≡ get_or ks i d = cc in s)))
      by false e = e

  pub among_nowhere : length ks ≤ i → is_listed (map (text_at ts) ks) x ≡ is_listed (map (text_at ts) (drop i ks)) x → false ≡ is_listed (map (text_at ts) ks) x
  unfolding is_listed
  among_nowhere l so_far = sym (so_far ∙ ap (λ us. is_listed (map (text_at ts) us) x) (drop_all i ks l))

or_turned : (a b : Bool) → (a || b) ≡ (b || a)
or_turned true true = refl
or_turned true false = refl
or_turned false true = refl
or_turned false false = refl

or_false : (b : Bool) → (b || false) ≡ b
or_false true = refl
or_false false = refl

-- the order does not matter
pub listed_reverse : (f : ℕ → Name) (ks : List ℕ) (x : Name) → is_listed (map f (reverse ks)) x ≡ is_listed (map f ks) x
unfolding is_listed
listed_reverse f [] x = refl
listed_reverse f (k ∷ ks) x =
    ap (λ us. is_listed (map f us) x) (reverse_onto ks k [])
    ∙ ap (λ us. is_listed us x) (map-append f (reverse ks) (k ∷ []))
    ∙ listed_append (map f (reverse ks)) (f k ∷ []) x
    ∙ ap (λ b. b || (same_name (f k) x || false)) (listed_reverse f ks x)
    ∙ ap (λ b. is_listed (map f ks) x || b) (or_false (same_name (f k) x))
    ∙ or_turned (is_listed (map f ks) x) (same_name (f k) x)

-- among two lists, the second of which is turned round
module _ (f : ℕ → Name) (inside binders : List ℕ) (x : Name) where
  both : is_listed (map f inside ++ map f (reverse binders)) x ≡ (is_listed (map f inside) x || is_listed (map f binders) x)
  both = listed_append (map f inside) (map f (reverse binders)) x ∙ ap (λ b. is_listed (map f inside) x || b) (listed_reverse f binders x)

  pub taken_first : is_listed (map f binders) x ≡ true → is_listed (map f inside ++ map f (reverse binders)) x ≡ true
  taken_first e = both ∙ ap (λ b. is_listed (map f inside) x || b) e ∙ or_turned (is_listed (map f inside) x) true

  pub taken_second : is_listed (map f binders) x ≡ false → is_listed (map f inside ++ map f (reverse binders)) x ≡ is_listed (map f inside) x
  taken_second e = both ∙ ap (λ b. is_listed (map f inside) x || b) e ∙ or_false (is_listed (map f inside) x)

-- a binder's own name
pub own_empty : (t : Name) → length t ≡ 0 → codes "x" ≡ own_name t
unfolding own_name
own_empty [] e = refl
own_empty (b ∷ bs) e = absurd (omega arith)

pub own_named : (t : Name) → ¬ (length t ≡ 0) → t ≡ own_name t
unfolding own_name
own_named [] e = absurd (e refl)
own_named (b ∷ bs) e = refl

-- the first number that is free gives the fresh name
pub renumbered_is : (xs : List Name) (base t : Name) (k : ℕ) → is_listed xs base ≡ true → IsFirstFree xs base k → t ≡ base ++ decimal k → t ≡ fresh_of xs base
renumbered_is xs base t k taken first e = e ∙ sym first ∙ sym (fresh_taken xs base taken)

-- a base that is not taken is fresh
pub fresh_base : (xs : List Name) (base : Name) → is_listed xs base ≡ false → base ≡ fresh_of xs base
fresh_base xs base e = sym (fresh_free xs base e)

-- what has a number under one name has it under an equal one
pub number_as : (ts : List Name) (r : Result ℕ NoMemory) (x y : Name) → x ≡ y → IfOk r (λ k. IsText ts k x) → IfOk r (λ k. IsText ts k y)
number_as ts r x y e h = subst (λ z. IfOk r (λ k. IsText ts k z)) e h
