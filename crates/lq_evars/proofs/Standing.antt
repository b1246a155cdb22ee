-- What a store tells reduction of its variables' values is what is asked of such values.
use Rattle.std.proofs.Common.{◌≡◌, ◌∙◌, ℕ, arith, refl, sym, ap, List, [], map, Option, Some, None}
use Rattle.std.proofs.Common.{subst as along}
use Rattle.std.proofs.Math.Path.{fun_ext}
use Rattle.std.specs.Prelude.{option_map, slice_get}
use Rattle.lq_trees.specs.Hypotheses.{HoldsOnly}
use Rattle.lq_trees.specs.Reading.{Reads}
use Rattle.lq_terms.specs.declared.nodes.Hypothesis.{Hypothesis}
use Rattle.lq_terms.specs.declared.nodes.TermId.{TermId}
use Rattle.lq_terms.specs.Terms.{Terms, text_of, tree_of}
use Rattle.lq_terms.specs.Telling.{values_in, HasValue}
use Rattle.lq_solving.specs.Stores.{Variable as TreeVariable, find_value, value, values_of, names_at, names_in, read}
use Rattle.lq_solving.specs.Kept.{IsStore}
use Rattle.lq_solving.proofs.ReadLaws.{given_over}
use Rattle.lq_solving.proofs.Readings.{reads_read}
use Rattle.lq_solving.proofs.StoreLaws.{values_hold}
use Rattle.lq_evars.specs.declared.store.Variable.{Variable}
use Rattle.lq_evars.specs.Places.{Places, store_of, value_at, body_in, body_at, HasStore}
use Rattle.lq_evars.specs.Reading.{as_read}
use Rattle.lq_evars.proofs.Bodies.{bodies_told, names_told}
use Rattle.lq_evars.proofs.Lookups.{values_told, variable_told}
use Rattle.lq_evars.proofs.ValueRead.{value_has, variable_has}

pub values_are : (bank : Terms) (s : Places) → IsStore (store_of bank s) → values_in bank (body_at s) ≡ values_of (store_of bank s)
values_are bank s i = fun_ext (λ k. bodies_told bank s k i)

module _ (bank : Terms) (s : Places) (h : HasStore bank s) (i : IsStore (store_of bank s)) (n : ℕ) where
  has_value : (t : TermId) (w : Variable) → value_at s n ≡ Some t → slice_get s.variables n ≡ Some w → HasValue bank (values_in bank (body_at s)) (w.context, t)
  unfolding read names_at value find_value
  has_value t w e f =
      let found : find_value (store_of bank s).values n ≡ Some (tree_of bank t) = sym (values_told bank s n i) ∙ ap (option_map (tree_of bank)) e in
      let given = given_over (store_of bank s).variables (store_of bank s).values i.values n (tree_of bank t) found in
      let names : map (λ x. text_of bank x.name) w.context ≡ names_at (store_of bank s).variables n =
      names_told bank w.context ∙ sym (ap (λ (o : Option TreeVariable). elim o [ Some v ↦ names_in v.context | None ↦ [] ]) (variable_told bank s n w f)) in
      record {
        context = (variable_has bank s.variables n w h.variables f).context;
        has = value_has bank s.values n t h.values e;
        within = given.1;
        tree = read (store_of bank s) (tree_of bank t);
        reads = along (λ vs. Reads vs (tree_of bank t) (read (store_of bank s) (tree_of bank t))) (sym (values_are bank s i)) (reads_read (store_of bank s) i (tree_of bank t) given.0);
        holds = along (λ xs. HoldsOnly xs (as_read (store_of bank s) (tree_of bank t))) (sym names) (values_hold (store_of bank s).variables (store_of bank s).values i.values n (tree_of bank t) found);
      }

  pub value_stands : (v : List Hypothesis × TermId) → body_at s n ≡ Some v → HasValue bank (values_in bank (body_at s)) v
  value_stands v e = by (value_at s n) (slice_get s.variables n) refl refl e
    where
      by : (o : Option TermId) (p : Option Variable) → value_at s n ≡ o → slice_get s.variables n ≡ p → body_in o p ≡ Some v → HasValue bank (values_in bank (body_at s)) v
      by (Some t) (Some w) f g q = along (HasValue bank (values_in bank (body_at s))) (ap (λ o. elim o [ Some x ↦ x | None ↦ v ]) q) (has_value t w f g)
      by None p f g q = absurd (grind arith)
      by (Some t) None f g q = absurd (grind arith)
