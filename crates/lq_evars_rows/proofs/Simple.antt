-- A simple term of a free variable may be given as a value.
use Rattle.std.proofs.Common.{◌≡◌, ◌<◌, ◌∙◌, ℕ, Bool, true, false, eqb, eqb-true, refl, sym, ap, ap₂, arith, List, [], ◌∷◌, map, length, Option, Some, None}
use Rattle.std.proofs.Common.{subst as along}
use Rattle.std.specs.Prelude.{option_map, slice_get, is_none}
use Rattle.std.specs.List.{AllByRecursion}
use Rattle.std.proofs.lemmas.List.{length-map}
use Rattle.lq_trees.specs.Tree.{Name, Tree, Trees, none, more}
use Rattle.lq_trees.specs.Tree.Tree.{Rel, Var, Sort, Prod, Lam, Let, App, Const, Ind, Ctor, Elim, Evar}
use Rattle.lq_trees.specs.Hypotheses.{HoldsOnly}
use Rattle.lq_trees.specs.Index.{Within}
use Rattle.lq_trees.specs.Reading.{entries}
use Rattle.lq_terms.specs.declared.nodes.Hypothesis.{Hypothesis}
use Rattle.lq_terms.specs.declared.nodes.TermId.{TermId}
use Rattle.lq_terms.specs.Terms.{Terms, HasTerm, text_of, tree_of}
use Rattle.lq_terms.specs.Contexts.{HasContext}
use Rattle.lq_solving.specs.Occurs.{holds_variable, holds_variable_in}
use Rattle.lq_solving.specs.Stores.{Variable as TreeVariable, Assigned, find_value, value, names_at, names_in, read}
use Rattle.lq_solving.specs.Kept.{IsOver, IsStore, IsValue, IsVariable, leads}
use Rattle.lq_solving.proofs.DoneLaws.{IsDone, done_leads}
use Rattle.lq_solving.proofs.FreeLaws.{both_false}
use Rattle.lq_solving.proofs.ReadLaws.{filled_holds}
use Rattle.lq_evars.specs.declared.store.Variable.{Variable}
use Rattle.lq_evars.specs.Places.{Places, store_of, variable_of, HasVariable, HasNameOr, HasStore, one_more}
use Rattle.lq_evars.proofs.Having.{more_has}
use Rattle.lq_evars.proofs.Bodies.{names_told}
use Rattle.lq_evars.proofs.Lookups.{variable_told}
use Rattle.lq_evars.proofs.ValueRead.{there}
use Rattle.lq_evars_rows.specs.Looks.{IsSimple, HasSimple, IsSort, IsKept}

-- a list without elements
pub none_of : (hs : List Hypothesis) → length hs ≡ 0 → hs ≡ []
none_of [] e = refl
none_of (h ∷ hs) e = absurd (omega (arith, e))

-- a variable without hypotheses has no names
pub no_names : (bank : Terms) (s : Places) (n : ℕ) (hs : List Hypothesis) → n < length s.variables → ((v : Variable) → slice_get s.variables n ≡ Some v → hs ≡ v.context) → hs ≡ [] →
    names_at (store_of bank s).variables n ≡ []
unfolding names_at
no_names bank s n hs h at e =
    let v = there s.variables n h in
    ap (λ (o : Option TreeVariable). elim o [ Some w ↦ names_in w.context | None ↦ [] ]) (variable_told bank s n v.0 v.1)
    ∙ sym (names_told bank v.0.context) ∙ ap (map (λ x. text_of bank x.name)) (sym (at v.0 v.1) ∙ e)

pub no_value : (bank : Terms) (s : Places) (n : ℕ) (o : Option TermId) → is_none o ≡ true → option_map (tree_of bank) o ≡ value (store_of bank s) n → find_value (store_of bank s).values n ≡ None
unfolding value find_value
no_value bank s n None e f = sym f
no_value bank s n (Some t) e f = absurd (grind arith)

module _ (vs : List TreeVariable) (as_ : List Assigned) (k n : ℕ) (inside : n < length vs) (bare : names_at vs n ≡ []) where
  pub simple_over : (t : Tree) → IsSimple n t → IsOver vs t
  unfolding entries
  simple_over (Sort s) h = tt
  simple_over (Ctor c i) h = tt
  simple_over (App f a) h = (simple_over f h.0, simple_over a h.1)
  simple_over (Evar m none) h = (along (λ i. i < length vs) (sym h) inside, ap length (sym (ap (names_at vs) h ∙ bare)), tt)
  simple_over (Evar m (more t ts)) h = absurd h
  simple_over (Rel i) h = absurd h
  simple_over (Var x) h = absurd h
  simple_over (Prod x A B) h = absurd h
  simple_over (Lam x A B) h = absurd h
  simple_over (Let x v A B) h = absurd h
  simple_over (Const c) h = absurd h
  simple_over (Ind c) h = absurd h
  simple_over (Elim c s) h = absurd h

pub simple_within : (n : ℕ) (t : Tree) → IsSimple n t → Within 0 t
simple_within n (Sort s) h = tt
simple_within n (Ctor c i) h = tt
simple_within n (App f a) h = (simple_within n f h.0, simple_within n a h.1)
simple_within n (Evar m none) h = tt
simple_within n (Evar m (more t ts)) h = absurd h
simple_within n (Rel i) h = absurd h
simple_within n (Var x) h = absurd h
simple_within n (Prod x A B) h = absurd h
simple_within n (Lam x A B) h = absurd h
simple_within n (Let x v A B) h = absurd h
simple_within n (Const c) h = absurd h
simple_within n (Ind c) h = absurd h
simple_within n (Elim c s) h = absurd h

pub simple_holds : (xs : List Name) (n : ℕ) (t : Tree) → IsSimple n t → HoldsOnly xs t
simple_holds xs n (Sort s) h = tt
simple_holds xs n (Ctor c i) h = tt
simple_holds xs n (App f a) h = (simple_holds xs n f h.0, simple_holds xs n a h.1)
simple_holds xs n (Evar m none) h = tt
simple_holds xs n (Evar m (more t ts)) h = absurd h
simple_holds xs n (Rel i) h = absurd h
simple_holds xs n (Var x) h = absurd h
simple_holds xs n (Prod x A B) h = absurd h
simple_holds xs n (Lam x A B) h = absurd h
simple_holds xs n (Let x v A B) h = absurd h
simple_holds xs n (Const c) h = absurd h
simple_holds xs n (Ind c) h = absurd h
simple_holds xs n (Elim c s) h = absurd h

module _ (as_ : List Assigned) (k n : ℕ) (other : eqb k n ≡ false) (open_ : find_value as_ n ≡ None) where
  simple_done : (t : Tree) → IsSimple n t → IsDone as_ t
  simple_done (Sort s) h = tt
  simple_done (Ctor c i) h = tt
  simple_done (App f a) h = (simple_done f h.0, simple_done a h.1)
  simple_done (Evar m none) h = (ap (find_value as_) h ∙ open_, tt)
  simple_done (Evar m (more t ts)) h = absurd h
  simple_done (Rel i) h = absurd h
  simple_done (Var x) h = absurd h
  simple_done (Prod x A B) h = absurd h
  simple_done (Lam x A B) h = absurd h
  simple_done (Let x v A B) h = absurd h
  simple_done (Const c) h = absurd h
  simple_done (Ind c) h = absurd h
  simple_done (Elim c s) h = absurd h

  simple_free : (t : Tree) → IsSimple n t → holds_variable k t ≡ false
  unfolding holds_variable holds_variable_in
  simple_free (Sort s) h = refl
  simple_free (Ctor c i) h = refl
  simple_free (App f a) h = both_false _ _ (simple_free f h.0) (simple_free a h.1)
  simple_free (Evar m none) h = both_false _ _ (ap (eqb k) h ∙ other) refl
  simple_free (Evar m (more t ts)) h = absurd h
  simple_free (Rel i) h = absurd h
  simple_free (Var x) h = absurd h
  simple_free (Prod x A B) h = absurd h
  simple_free (Lam x A B) h = absurd h
  simple_free (Let x v A B) h = absurd h
  simple_free (Const c) h = absurd h
  simple_free (Ind c) h = absurd h
  simple_free (Elim c s) h = absurd h

  pub simple_leads : (t : Tree) → IsSimple n t → leads as_ k t ≡ false
  simple_leads t h = done_leads as_ k t (simple_done t h) (simple_free t h)

-- two numbers that differ
pub apart : (a b : ℕ) → (a ≡ b → ⊥) → eqb a b ≡ false
apart a b f = by (eqb a b) (eqb-true a b)
  where
    by : (o : Bool) → (o ≡ true → a ≡ b) → o ≡ false
    by true g = absurd (f (g refl))
    by false g = refl

-- the condition of a value
pub simple_value : (bank : Terms) (s : Places) (k n : ℕ) (t : TermId) → IsKept bank s → HasSimple bank n t → k < length (store_of bank s).variables → n < length (store_of bank s).variables → names_at (store_of bank s).variables n ≡ []
    → eqb k n ≡ false → find_value (store_of bank s).values k ≡ None → find_value (store_of bank s).values n ≡ None
    → IsValue (store_of bank s).variables (store_of bank s).values (record { id = k; body = tree_of bank t })
simple_value bank s k n t i h l m bare other free open_ = record {
  inside = l;
  new = free;
  free = simple_leads (store_of bank s).values k n other open_ (tree_of bank t) h.simple;
  over = simple_over (store_of bank s).variables (store_of bank s).values k n m bare (tree_of bank t) h.simple;
  within = simple_within n (tree_of bank t) h.simple;
  holds = filled_holds (store_of bank s).variables (store_of bank s).values i.kept.values (names_at (store_of bank s).variables k) (tree_of bank t)
      (simple_over (store_of bank s).variables (store_of bank s).values k n m bare (tree_of bank t) h.simple) (simple_holds (names_at (store_of bank s).variables k) n (tree_of bank t) h.simple);
}

-- a variable without hypotheses, of the type of propositions
pub plain_variable : (bank : Terms) (s : Places) (v : Variable) → IsKept bank s → v.context ≡ [] → IsSort bank v.kind → IsVariable (store_of bank s) (variable_of bank v)
unfolding read
plain_variable bank s v i e k =
    along (λ hs. IsVariable (store_of bank s) (record { context = map (λ h. record { name = text_of bank h.name; body = option_map (tree_of bank) h.body; kind = tree_of bank h.kind }) hs; kind = tree_of bank v.kind; name = option_map (text_of bank) v.name })) (sym e)
    (along (λ t. IsVariable (store_of bank s) (record { context = []; kind = t; name = option_map (text_of bank) v.name })) (sym k.is)
    (tt, record { over = tt; within = tt; holds = filled_holds (store_of bank s).variables (store_of bank s).values i.kept.values [] _ tt tt }))

pub plain_has : (bank : Terms) (s : Places) (v : Variable) → IsKept bank s → v.context ≡ [] → IsSort bank v.kind → v.name ≡ None → HasStore bank (one_more s v)
plain_has bank s v i e k n = more_has bank s v i.has (record { context = along (λ hs. HasContext bank hs) (sym e) tt; kind = k.has; name = along (λ o. HasNameOr bank o) (sym n) tt })
