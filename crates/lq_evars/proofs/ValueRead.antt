-- A variable with a value, read.
use Rattle.std.proofs.Common.{◌≡◌, ◌≤◌, ◌<◌, ◌∙◌, inl, inr, ℕ, zero, suc, Bool, true, false, refl, sym, ap, ap₂, arith, List, [], ◌∷◌, map, length, Result, Ok, Err, Option, Some, None}
use Rattle.std.proofs.Common.{subst as along}
use Rattle.std.specs.Prelude.{◌==◌, IfOk, option_map, slice_get, zip, if◌then◌else◌}
use Rattle.std.specs.List.{AllByRecursion}
use Rattle.std.proofs.lemmas.Bool.{cases_lt}
use Rattle.std.proofs.lemmas.List.{length-map}
use Rattle.lq_trees.specs.Tree.{Name, Tree, Trees}
use Rattle.lq_trees.specs.Tree.Tree.{Evar}
use Rattle.lq_trees.specs.Change.{instance, instantiating}
use Rattle.lq_trees.specs.Size.{size}
use Rattle.lq_trees.specs.Index.{Within}
use Rattle.lq_trees.specs.Reading.{entries}
use Rattle.lq_trees.proofs.MarkLaws.{loose-within}
use Rattle.lq_trees.proofs.Sizes.{size-replaced}
use Rattle.lq_terms.specs.declared.nodes.Hypothesis.{Hypothesis}
use Rattle.lq_terms.specs.declared.nodes.NoMemory.{NoMemory}
use Rattle.lq_terms.specs.declared.nodes.TermId.{TermId}
use Rattle.lq_terms.specs.Terms.{Terms, HasTerm, text_of, tree_of, trees_by}
use Rattle.lq_terms.specs.Contexts.{HasContext}
use Rattle.lq_terms.specs.Changes.{bindings, HasHypothesis}
use Rattle.lq_solving.specs.Stores.{Variable as TreeVariable, find_value, value, names_at, names_in, body_at}
use Rattle.lq_solving.specs.Kept.{IsOver}
use Rattle.lq_solving.proofs.ReadLaws.{filled_each, filled_within, given_over, reads_as_value}
use Rattle.lq_evars.specs.declared.store.Variable.{Variable}
use Rattle.lq_evars.specs.Places.{Places, store_of, variable_of, value_in, value_at, HasVariable}
use Rattle.lq_evars.specs.Near.{weighs, IsNear, stand_in}
use Rattle.lq_evars.specs.Turns.{with_value}
use Rattle.lq_evars.specs.Reading.{as_read, IsIn, AllIn, trees_known, Finds, HasEntries, Reads}
use Rattle.lq_evars.proofs.Bodies.{names_told}
use Rattle.lq_evars.proofs.Lookups.{values_told, variable_told}
use Rattle.lq_evars.proofs.Fillings.{bindings_zip}
use Rattle.lq_evars.proofs.NearLaws.{near_equal, near_to, near_trans, near_put, near_pairs, near_large}
use Rattle.lq_evars.proofs.Rebuilt.{parts_at, each_near, each_many, entries_map}

pub value_has : (bank : Terms) (as_ : List (ℕ × TermId)) (k : ℕ) (t : TermId) → AllByRecursion (λ a. HasTerm bank a.1) as_ → value_in as_ k ≡ Some t → HasTerm bank t
value_has bank [] k t h e = absurd (grind arith)
value_has bank (a ∷ as_) k t h e = by (k == a.0) e (λ f. value_has bank as_ k t h.1 f)
  where
    by : (b : Bool) → (if b then Some a.1 else value_in as_ k) ≡ Some t → (value_in as_ k ≡ Some t → HasTerm bank t) → HasTerm bank t
    by true f ih = along (HasTerm bank) (ap (λ o. elim o [ Some x ↦ x | None ↦ t ]) f) h.0
    by false f ih = ih f

pub names_have : (bank : Terms) (hs : List Hypothesis) → HasContext bank hs → AllByRecursion (HasHypothesis bank) hs
names_have bank [] h = tt
names_have bank (x ∷ xs) h = (h.0.name, names_have bank xs h.1)

pub variable_has : (bank : Terms) (vs : List Variable) (k : ℕ) (v : Variable) → AllByRecursion (HasVariable bank) vs → slice_get vs k ≡ Some v → HasVariable bank v
variable_has bank [] k v h e = absurd (grind arith)
variable_has bank (w ∷ vs) zero v h e = along (HasVariable bank) (ap (λ o. elim o [ Some x ↦ x | None ↦ v ]) e) h.0
variable_has bank (w ∷ vs) (suc k) v h e = variable_has bank vs k v h.1 e

-- a variable that is there
pub there : (vs : List Variable) (k : ℕ) → k < length vs → (v : Variable) × (slice_get vs k ≡ Some v)
there [] k h = absurd (omega (arith, h))
there (v ∷ vs) zero h = (v, refl)
there (v ∷ vs) (suc k) h = there vs k (omega (arith, h))

module _ (bank : Terms) (s : Places) (known : List (TermId × TermId)) (t : TermId) (n : ℕ) (us : List TermId) (f : Finds bank s known t) (e : HasEntries bank s t n us) where
  over : IsOver (store_of bank s).variables (Evar n (trees_by (tree_of bank) e.parts))
  over = along (IsOver (store_of bank s).variables) (sym e.is) f.part.over

  pub inside : n < length s.variables
  inside = along (λ k. n < k) (length-map s.variables (variable_of bank)) over.0

  -- its value
  module _ (v : TermId) (at_value : Some v ≡ value_at s n) where
    pub value_found : find_value (store_of bank s).values n ≡ Some (tree_of bank v)
    unfolding value find_value
    value_found = sym (values_told bank s n f.kept) ∙ ap (option_map (tree_of bank)) (sym at_value)

    pub value_known : IsIn (tree_of bank v) (trees_known bank known)
    value_known =
        let all : AllIn (with_value (find_value (store_of bank s).values n) (entries (trees_by (tree_of bank) e.parts))) (trees_known bank known) =
        parts_at bank s known t f (Evar n (trees_by (tree_of bank) e.parts)) e.is in
        (along (λ o. AllIn (with_value o (entries (trees_by (tree_of bank) e.parts))) (trees_known bank known)) value_found all).0

    closed : Within 0 (as_read (store_of bank s) (tree_of bank v))
    closed =
        filled_within (store_of bank s).variables (store_of bank s).values f.kept.values 0 (tree_of bank v)
        (given_over (store_of bank s).variables (store_of bank s).values f.kept.values n (tree_of bank v) value_found).1

    pub body_closed : (b : TermId) → Reads bank s v b → weighs 0 (tree_of bank b) ≤ 1000000 → Within 0 (tree_of bank b)
    body_closed b r h = along (Within 0) (sym (r.near.small h)) closed

  pub none_found : None ≡ value_at s n → find_value (store_of bank s).values n ≡ None
  unfolding value find_value
  none_found q = sym (values_told bank s n f.kept) ∙ ap (option_map (tree_of bank)) (sym q)

  -- the hypotheses among which the variable stands
  module _ (hs : List Hypothesis) (at : (v : Variable) → slice_get s.variables n ≡ Some v → hs ≡ v.context) where
    pub context_has : AllByRecursion (HasHypothesis bank) hs
    context_has =
        let v = there s.variables n inside in
        along (AllByRecursion (HasHypothesis bank)) (sym (at v.0 v.1)) (names_have bank v.0.context (variable_has bank s.variables n v.0 f.store.variables v.1).context)

    names_are : map (λ h. text_of bank h.name) hs ≡ names_at (store_of bank s).variables n
    unfolding names_at
    names_are =
        let v = there s.variables n inside in
        ap (map (λ h. text_of bank h.name)) (at v.0 v.1) ∙ names_told bank v.0.context
        ∙ sym (ap (λ (o : Option TreeVariable). elim o [ Some v ↦ names_in v.context | None ↦ [] ]) (variable_told bank s n v.0 v.1))

    pub as_many : length hs ≡ length us
    as_many =
        sym (length-map hs (λ h. text_of bank h.name)) ∙ ap length names_are ∙ sym over.1 ∙ ap length (entries_map bank e.parts) ∙ length-map e.parts (tree_of bank)
        ∙ sym (each_many bank s e.parts us e.read)

    module _ (v b : TermId) (at_value : Some v ≡ value_at s n) (r : Reads bank s v b) where
      -- the variable as it reads
      instance_is : instance (zip (map (λ h. text_of bank h.name) hs) (entries (filled_each (store_of bank s).variables (store_of bank s).values (trees_by (tree_of bank) e.parts)))) (as_read (store_of bank s) (tree_of bank v))
          ≡ as_read (store_of bank s) (tree_of bank t)
      unfolding body_at
      instance_is =
          ap (λ xs. instance (zip xs (entries (filled_each (store_of bank s).variables (store_of bank s).values (trees_by (tree_of bank) e.parts)))) (as_read (store_of bank s) (tree_of bank v))) names_are
          ∙ sym (reads_as_value (store_of bank s).variables (store_of bank s).values f.kept.values n (tree_of bank v) (trees_by (tree_of bank) e.parts) (value_found v at_value) over.2)
          ∙ ap (as_read (store_of bank s)) e.is

      value_small : (T : Tree) → weighs 0 (tree_of bank b) ≤ 1000000 → IsNear 0 T (instance (bindings bank hs us) (tree_of bank b)) → IsNear 0 T (as_read (store_of bank s) (tree_of bank t))
      value_small T h m =
          let xs : List Name = map (λ h. text_of bank h.name) hs in
          let R : Tree = as_read (store_of bank s) (tree_of bank v) in
          let ts : Trees = filled_each (store_of bank s).variables (store_of bank s).values (trees_by (tree_of bank) e.parts) in
          let first : IsNear 0 T (instance (zip xs (entries (trees_by (tree_of bank) us))) R) =
          near_to 0 T _ _ m (ap₂ (λ ps z. instance ps z) (bindings_zip bank hs us) (r.near.small h)) in
          let next : IsNear 0 (instance (zip xs (entries (trees_by (tree_of bank) us))) R) (instance (zip xs (entries ts)) R) =
          near_put (zip xs (entries (trees_by (tree_of bank) us))) (zip xs (entries ts)) (near_pairs xs (trees_by (tree_of bank) us) ts (each_near bank s e.parts us e.read)) 0 R in
          near_to 0 T _ _ (near_trans 0 T _ _ first next) instance_is

      value_large : (T : Tree) → 1000000 < weighs 0 (tree_of bank b) → T ≡ stand_in → IsNear 0 T (as_read (store_of bank s) (tree_of bank t))
      value_large T h q =
          let R : Tree = as_read (store_of bank s) (tree_of bank v) in
          let ts : Trees = filled_each (store_of bank s).variables (store_of bank s).values (trees_by (tree_of bank) e.parts) in
          let ps : List (Name × Tree) = zip (map (λ h. text_of bank h.name) hs) (entries ts) in
          let big : 1000000 < size (instance ps R) = omega (arith, r.near.large h, loose-within 0 R (closed v at_value), size-replaced (instantiating ps) 0 R) in
          near_equal 0 T stand_in _ q (near_to 0 stand_in _ _ (near_large 0 (instance ps R) (omega (arith, big)) (omega arith)) instance_is)

      pub value_near : (new : Terms) (o : Result TermId NoMemory) → IfOk o (λ u. weighs 0 (tree_of bank b) ≤ 1000000 → IsNear 0 (tree_of new u) (instance (bindings bank hs us) (tree_of bank b)))
          → IfOk o (λ u. 1000000 < weighs 0 (tree_of bank b) → tree_of new u ≡ stand_in) → IfOk o (λ u. IsNear 0 (tree_of new u) (as_read (store_of bank s) (tree_of bank t)))
      value_near new (Err x) h k = tt
      value_near new (Ok u) h k = elim (cases_lt 1000000 (weighs 0 (tree_of bank b))) [ inl l ↦ value_large (tree_of new u) l (k l) | inr l ↦ value_small (tree_of new u) l (h l) ]
