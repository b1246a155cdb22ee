-- What a change of the variables does to the numbers of names, and to the store over trees.
use Rattle.std.proofs.Common.{◌≡◌, ◌<◌, ◌≤◌, ◌+◌, ◌∙◌, sym, refl, ap, ap₂, subst, arith, append-nil, ℕ, zero, suc, Bool, true, false, List, [], ◌∷◌, ◌++◌, map, length, Ok, Err, Option, Some, None, leb, le-leb, leb-true, slice_set, slice_index_or}
use Rattle.std.specs.Prelude.{if◌then◌else◌, ◌==◌, option_map}
use Rattle.std.proofs.lemmas.List.{length-append, length-map, map-append}
use Rattle.indexmap.specs.IndexMap.{insert_entry}
use Rattle.lq_trees.specs.Tree.{Name}
use Rattle.lq_terms.specs.declared.nodes.NameId.{NameId}
use Rattle.lq_terms.specs.declared.nodes.TermId.{TermId}
use Rattle.lq_terms.specs.Terms.{Terms, text_of, tree_of}
use Rattle.lq_solving.specs.Stores.{Variable as TreeVariable, new_variable, with_variable, with_kind, kind_set, store_full, count, named_variable}
use Rattle.lq_solving.specs.Kept.{IsStore, IsVariable}
use Rattle.lq_solving.proofs.StoreLaws.{more_store}
use Rattle.lq_solving.proofs.Readings.{none_some}
use Rattle.lq_evars.specs.declared.store.Variable.{Variable}
use Rattle.lq_evars.specs.Places.{Places, store_of, variable_of, numbered, numbers_from, number_in, one_more, kind_put, kind_changed, HasStore, IsOwnOr, IsNewName}
use Rattle.lq_evars.proofs.Lookups.{numbers_told, some_is}

-- a new name goes last
module _ (x : NameId) (n : ℕ) (eq : NameId → NameId → Bool) (is_place : (y : NameId) → eq x y ≡ (x.place == y.place)) where
  pub number_last : (es : List (NameId × ℕ)) → number_in es x ≡ None → insert_entry eq es x n ≡ es ++ (x, n) ∷ []
  number_last [] e = refl
  number_last (d ∷ es) e = either (eq x d.0) (x.place == d.0.place) (is_place d.0) e (λ k. number_last es k)
    where
      either :
          (a b : Bool) → a ≡ b → (if b then Some d.1 else number_in es x) ≡ None → (number_in es x ≡ None → insert_entry eq es x n ≡ es ++ (x, n) ∷ [])
          → (if a then (d.0, n) ∷ es else d ∷ insert_entry eq es x n) ≡ d ∷ es ++ (x, n) ∷ []
      either true true e k h = absurd cc
      either true false e k h = absurd cc
      either false true e k h = absurd cc
      either false false e k h = rw (h k) refl

pub numbered_append : (o : Option NameId) (k : ℕ) (es ys : List (NameId × ℕ)) → numbered o k (es ++ ys) ≡ numbered o k es ++ ys
numbered_append None k es ys = refl
numbered_append (Some x) k es ys = refl

-- the number of the newest variable stands last
pub numbers_more : (k : ℕ) (vs : List Variable) (v : Variable) → numbers_from k (vs ++ v ∷ []) ≡ numbers_from k vs ++ numbered v.name (k + length vs) []
numbers_more k [] v = ap (λ n. numbered v.name n []) (omega arith)
numbers_more k (w ∷ vs) v =
    let e : suc k + length vs ≡ k + suc (length vs) = omega arith in
    ap (numbered w.name k) (numbers_more (suc k) vs v ∙ ap (λ n. numbers_from (suc k) vs ++ numbered v.name n []) e)
    ∙ numbered_append w.name k (numbers_from (suc k) vs) (numbered v.name (k + suc (length vs)) [])

-- so the numbers stay those of the names, whether or not the newest variable has one
pub numbers_unnamed : (es : List (NameId × ℕ)) (vs : List Variable) (v : Variable) → es ≡ numbers_from 0 vs → v.name ≡ None → es ≡ numbers_from 0 (vs ++ v ∷ [])
numbers_unnamed es vs v e n =
    e ∙ sym (numbers_more 0 vs v ∙ ap (λ o. numbers_from 0 vs ++ numbered o (0 + length vs) []) n ∙ append-nil (numbers_from 0 vs))

pub numbers_named : (es : List (NameId × ℕ)) (vs : List Variable) (v : Variable) (x : NameId) → es ≡ numbers_from 0 vs → v.name ≡ Some x → es ++ (x, length vs) ∷ [] ≡ numbers_from 0 (vs ++ v ∷ [])
numbers_named es vs v x e n =
    let i : 0 + length vs ≡ length vs = omega arith in
    ap (λ ys. ys ++ (x, length vs) ∷ []) e
    ∙ sym (numbers_more 0 vs v ∙ ap (λ o. numbers_from 0 vs ++ numbered o (0 + length vs) []) n ∙ ap (λ k. numbers_from 0 vs ++ (x, k) ∷ []) i)

-- a store with that many variables is full
pub full_told : (bank : Terms) (s : Places) (v : TreeVariable) → 16777216 ≤ length s.variables → new_variable (store_of bank s) v ≡ Err store_full
unfolding new_variable
full_told bank s v h =
    ap (λ t. elim t [ true ↦ Err store_full | false ↦ Ok (with_variable (store_of bank s) v, count (store_of bank s)) ])
    (le-leb 16777216 (length (map (variable_of bank) s.variables)) (subst (λ n. 16777216 ≤ n) (sym (length-map s.variables (variable_of bank))) h))

pub more_told : (bank : Terms) (s : Places) (v : Variable) → with_variable (store_of bank s) (variable_of bank v) ≡ store_of bank (one_more s v)
unfolding with_variable
more_told bank s v = ap (λ vs. record { variables = vs; values = (store_of bank s).values }) (sym (map-append (variable_of bank) s.variables (v ∷ [])))

-- a store with fewer gets the variable
pub added_told : (bank : Terms) (s : Places) (v : Variable) → length s.variables < 16777216 →
    new_variable (store_of bank s) (variable_of bank v) ≡ Ok (store_of bank (one_more s v), length s.variables)
unfolding new_variable
added_told bank s v h =
    ap (λ t. elim t [ true ↦ Err store_full | false ↦ Ok (with_variable (store_of bank s) (variable_of bank v), count (store_of bank s)) ]) (few (leb 16777216 (count (store_of bank s))) refl)
    ∙ ap₂ (λ t n. Ok (t, n)) (more_told bank s v) (length-map s.variables (variable_of bank))
  where
    few : (t : Bool) → leb 16777216 (length (map (variable_of bank) s.variables)) ≡ t → t ≡ false
    few false e = refl
    few true e =
        let most : 16777216 ≤ length (map (variable_of bank) s.variables) = leb-true 16777216 (length (map (variable_of bank) s.variables)) e in
        let less : 16777216 ≤ length s.variables = subst (λ n. 16777216 ≤ n) (length-map s.variables (variable_of bank)) most in
        absurd (omega (arith, less, h))

-- another type at a place is the change of the definition
pub put_set : (vs : List Variable) (k : ℕ) (t : TermId) (v : Variable) → k < length vs → v ≡ slice_index_or vs k v →
    slice_set vs k (record { context = v.context; kind = t; name = v.name }) ≡ kind_put vs k t
put_set [] k t v h e = absurd (omega (arith, h))
put_set (w ∷ vs) zero t v h e = ap (λ u. record { context = u.context; kind = t; name = u.name } ∷ vs) e
put_set (w ∷ vs) (suc k) t v h e = ap (λ us. w ∷ us) (put_set vs k t v (omega (arith, h)) e)

pub numbers_put : (j : ℕ) (vs : List Variable) (k : ℕ) (t : TermId) → numbers_from j (kind_put vs k t) ≡ numbers_from j vs
numbers_put j [] k t = refl
numbers_put j (w ∷ vs) zero t = refl
numbers_put j (w ∷ vs) (suc k) t = ap (numbered w.name j) (numbers_put (suc j) vs k t)

pub length_put : (vs : List Variable) (k : ℕ) (t : TermId) → length (kind_put vs k t) ≡ length vs
length_put [] k t = refl
length_put (w ∷ vs) zero t = refl
length_put (w ∷ vs) (suc k) t = ap suc (length_put vs k t)

pub put_told : (bank : Terms) (vs : List Variable) (k : ℕ) (t : TermId) → map (variable_of bank) (kind_put vs k t) ≡ kind_set (map (variable_of bank) vs) k (tree_of bank t)
unfolding kind_set
put_told bank [] k t = refl
put_told bank (w ∷ vs) zero t = refl
put_told bank (w ∷ vs) (suc k) t = ap (λ us. variable_of bank w ∷ us) (put_told bank vs k t)

pub kind_told : (bank : Terms) (s : Places) (k : ℕ) (t : TermId) → store_of bank (kind_changed s k t) ≡ with_kind (store_of bank s) k (tree_of bank t)
unfolding with_kind
kind_told bank s k t = ap (λ vs. record { variables = vs; values = (store_of bank s).values }) (put_told bank s.variables k t)

-- there is room for one more
pub room_left : (vs : List Variable) (v : Variable) → length vs < 16777216 → length (vs ++ v ∷ []) ≤ 16777216
room_left vs v h = let e = length-append vs (v ∷ []) in omega (arith, e, h)

-- a store with a variable more is one as the calls keep it
pub more_stands : (bank : Terms) (s : Places) (v : Variable) → HasStore bank s → IsStore (store_of bank s) → IsVariable (store_of bank s) (variable_of bank v) →
    IsOwnOr bank v.name → IsNewName s v.name → IsStore (store_of bank (one_more s v))
more_stands bank s v h i w own new = subst IsStore (more_told bank s v) (more_store (store_of bank s) (variable_of bank v) i w (names v.name own new))
  where
    names : (o : Option NameId) → IsOwnOr bank o → IsNewName s o → (x : Name) → option_map (text_of bank) o ≡ Some x → named_variable (store_of bank s) x ≡ None
    names None own new x e = absurd (none_some refl e)
    names (Some y) own new x e = subst (λ z. named_variable (store_of bank s) z ≡ None) (some_is e) (sym (numbers_told bank s y h own) ∙ new)
