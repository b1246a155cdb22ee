-- What a store tells of values is what the definition tells.
use Rattle.std.proofs.Common.{◌≡◌, ◌<◌, ◌≤◌, ◌⊎◌, inl, inr, ◌∙◌, sym, refl, ap, arith, ℕ, Bool, true, false, List, [], ◌∷◌, map, length, Option, Some, None, eqb, eqb-true, subst, get_or}
use Rattle.std.specs.Prelude.{option_map, slice_get}
use Rattle.std.proofs.lemmas.Option.{slice_get_cases}
use Rattle.std.proofs.lemmas.List.{length-map}
use Rattle.lq_trees.specs.Tree.{Tree}
use Rattle.lq_terms.specs.declared.nodes.Hypothesis.{Hypothesis}
use Rattle.lq_terms.specs.declared.nodes.TermId.{TermId}
use Rattle.lq_terms.specs.Terms.{Terms, text_of, tree_of}
use Rattle.lq_terms.specs.Contexts.{context_of}
use Rattle.lq_terms.specs.Telling.{values_in}
use Rattle.lq_solving.specs.Stores.{Variable as TreeVariable, Assigned, find_value, value, value_told as tells, told_of, values_of, names_at, names_in}
use Rattle.lq_solving.specs.Kept.{Sound, IsStore}
use Rattle.lq_solving.proofs.Readings.{none_some}
use Rattle.lq_evars.specs.declared.store.Variable.{Variable}
use Rattle.lq_evars.specs.Places.{Places, store_of, variable_of, value_at, body_in, body_at}
use Rattle.lq_evars.proofs.Lookups.{values_told, variable_told, newest_other}

-- a variable with a value is there
pub found_inside : (vs : List TreeVariable) (as_ : List Assigned) → Sound vs as_ → (k : ℕ) (b : Tree) → find_value as_ k ≡ Some b → k < length vs
unfolding find_value
found_inside vs [] s k b e = absurd (none_some refl e)
found_inside vs (a ∷ older) s k b e = by (eqb k a.id) refl (λ f. found_inside vs older s.0 k b f)
  where
    by : (t : Bool) → eqb k a.id ≡ t → (find_value older k ≡ Some b → k < length vs) → k < length vs
    by true i h = subst (λ j. j < length vs) (sym (eqb-true k a.id i)) s.1.inside
    by false i h = h (sym (newest_other a older k i) ∙ e)

-- the names of a context by places
pub names_told : (bank : Terms) (hs : List Hypothesis) → map (λ h. text_of bank h.name) hs ≡ names_in (context_of bank hs)
names_told bank [] = refl
names_told bank (h ∷ hs) = ap (λ xs. text_of bank h.name ∷ xs) (names_told bank hs)

-- a place below the length holds something
is_there : (vs : List Variable) (k : ℕ) (P : Variable → Type 0) → ((v : Variable) × (k < length vs) × (slice_get vs k ≡ Some v) × P v) ⊎ ((length vs ≤ k) × (slice_get vs k ≡ None)) → k < length vs → slice_get vs k ≡ None → ⊥
is_there vs k P (inl r) h j = none_some j r.2
is_there vs k P (inr r) h j = omega (arith, r.0, h)

-- the values that the store tells reduction are those of the definition
pub bodies_told : (bank : Terms) (s : Places) (k : ℕ) → IsStore (store_of bank s) → values_in bank (body_at s) k ≡ values_of (store_of bank s) k
unfolding values_of told_of tells names_at value
bodies_told bank s k i = by (value_at s k) (slice_get s.variables k) refl (values_told bank s k i)
  where
    by : (o : Option TermId) (w : Option Variable) → slice_get s.variables k ≡ w → option_map (tree_of bank) o ≡ find_value (store_of bank s).values k →
        option_map (λ v. record { names = map (λ h. text_of bank h.name) v.0; body = tree_of bank v.1 }) (body_in o w) ≡ tells (store_of bank s).variables k (find_value (store_of bank s).values k)
    by None w j e = ap (tells (store_of bank s).variables k) e
    by (Some t) (Some v) j e =
        ap (λ xs. Some (record { names = xs; body = tree_of bank t })) (names_told bank v.context ∙ sym (ap (λ u. elim u [ Some v ↦ names_in v.context | None ↦ [] ]) (variable_told bank s k v j)))
        ∙ ap (tells (store_of bank s).variables k) e
    by (Some t) None j e = absurd (missing (found_inside (store_of bank s).variables (store_of bank s).values i.values k (tree_of bank t) (sym e)))
      where
        missing : k < length (map (variable_of bank) s.variables) → ⊥
        missing h = is_there s.variables k (λ v. get_or s.variables k v ≡ v) (slice_get_cases s.variables k).1 (subst (λ n. k < n) (length-map s.variables (variable_of bank)) h) j
