-- How many variables have no value, counted from the last one on.
use Rattle.std.proofs.Common.{◌≡◌, ◌∙◌, refl, sym, ap, arith, ℕ, suc, ◌+◌, ◌-◌, ◌<◌, true, false, length, Option, Some, None, inl, inr}
use Rattle.std.specs.Prelude.{not, slice_get, option_map}
use Rattle.std.proofs.lemmas.List.{length-map}
use Rattle.std.proofs.lemmas.Option.{slice_get_cases}
use Rattle.lq_trees.specs.Tree.{Tree}
use Rattle.lq_terms.specs.declared.nodes.TermId.{TermId}
use Rattle.lq_terms.specs.Terms.{Terms, tree_of}
use Rattle.lq_solving.specs.Stores.{Store, Variable as TreeVariable, value, has_value, is_open}
use Rattle.lq_solving.specs.Elaboration.{numbers}
use Rattle.lq_evars.specs.Places.{Places, store_of, variable_of}
use Rattle.lq_sessions.specs.Sessions.{open_among}

module _ (st : Store) where
  -- whether a variable that is there is open, by its value
  open_without : (k : ℕ) → k < length st.variables → value st k ≡ None → is_open st k ≡ true
  unfolding is_open has_value
  open_without k h e = elim (slice_get_cases st.variables k).1 [
    | inl found ↦ ap (λ o. elim o [ None ↦ false | Some v ↦ not (has_value st k) ]) found.2 ∙ ap (λ o. not (elim o [ Some b ↦ true | None ↦ false ])) e
    | inr past ↦ absurd (omega (arith, h, past.0))
  ]

  closed_with : (k : ℕ) (b : Tree) → value st k ≡ Some b → is_open st k ≡ false
  unfolding is_open has_value
  closed_with k b e = by (slice_get st.variables k) where
    by : (o : Option TreeVariable) → elim o [ None ↦ false | Some v ↦ not (has_value st k) ] ≡ false
    by None = refl
    by (Some v) = ap (λ o. not (elim o [ Some b ↦ true | None ↦ false ])) e

  next_is : (k : ℕ) → suc k ≡ k + 1
  next_is k = omega arith

  -- one number more at the front
  one_more : (k n : ℕ) → is_open st k ≡ true → open_among st (numbers k (suc n)) ≡ suc (open_among st (numbers (k + 1) n))
  unfolding open_among numbers
  one_more k n e = ap (λ b. elim b [ true ↦ suc (open_among st (numbers (suc k) n)) | false ↦ open_among st (numbers (suc k) n) ]) e ∙ ap (λ j. suc (open_among st (numbers j n))) (next_is k)

  no_more : (k n : ℕ) → is_open st k ≡ false → open_among st (numbers k (suc n)) ≡ open_among st (numbers (k + 1) n)
  unfolding open_among numbers
  no_more k n e = ap (λ b. elim b [ true ↦ suc (open_among st (numbers (suc k) n)) | false ↦ open_among st (numbers (suc k) n) ]) e ∙ ap (λ j. open_among st (numbers j n)) (next_is k)

  -- the numbers from k on up to n, with the first of them set apart
  from_first : (k n : ℕ) → k < n → numbers k (n - k) ≡ numbers k (suc (n - (k + 1)))
  from_first k n h = ap (numbers k) (omega (arith, h))

-- by what a store tells of a variable's value
pub counts_one : (bank : Terms) (s : Places) (k c : ℕ) → k < length s.variables → option_map (tree_of bank) None ≡ value (store_of bank s) k →
    c ≡ open_among (store_of bank s) (numbers (k + 1) (length s.variables - (k + 1))) → c + 1 ≡ open_among (store_of bank s) (numbers k (length s.variables - k))
counts_one bank s k c h told e =
    ap (λ z. z + 1) e ∙ sym (next_is st (open_among st (numbers (k + 1) (length s.variables - (k + 1)))))
    ∙ sym (one_more st k (length s.variables - (k + 1)) (open_without st k (omega (arith, h, length-map s.variables (variable_of bank))) (sym told)))
    ∙ ap (open_among st) (sym (from_first st k (length s.variables) h))
  where
    st : Store
    st = store_of bank s

pub counts_none : (bank : Terms) (s : Places) (k c : ℕ) (t : TermId) → k < length s.variables → option_map (tree_of bank) (Some t) ≡ value (store_of bank s) k →
    c ≡ open_among (store_of bank s) (numbers (k + 1) (length s.variables - (k + 1))) → c ≡ open_among (store_of bank s) (numbers k (length s.variables - k))
counts_none bank s k c t h told e =
    e
    ∙ sym (no_more st k (length s.variables - (k + 1)) (closed_with st k (tree_of bank t) (sym told)))
    ∙ ap (open_among st) (sym (from_first st k (length s.variables) h))
  where
    st : Store
    st = store_of bank s

-- behind the last one
pub counts_last : (bank : Terms) (s : Places) (n : ℕ) → n ≡ length s.variables → 0 ≡ open_among (store_of bank s) (numbers n (length s.variables - n))
unfolding open_among numbers
counts_last bank s n e = let none : length s.variables - n ≡ 0 = omega (arith, e) in ap (λ k. open_among (store_of bank s) (numbers n k)) (sym none)

pub counts_first : (bank : Terms) (s : Places) (at first c : ℕ) → at ≡ first → c ≡ open_among (store_of bank s) (numbers at (length s.variables - at)) →
    c ≡ open_among (store_of bank s) (numbers first (length s.variables - first))
counts_first bank s at first c e h = h ∙ ap (λ k. open_among (store_of bank s) (numbers k (length s.variables - k))) e
