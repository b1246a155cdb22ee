-- A value that is given, over trees; a term without variables reads as itself.
use Rattle.std.proofs.Common.{◌≡◌, ◌≤◌, ◌<◌, ◌∙◌, ℕ, Bool, true, false, refl, sym, ap, ap₂, arith, List, [], ◌∷◌, ◌++◌, Result, Ok, Err, Option, Some, None}
use Rattle.std.proofs.Common.{subst as along}
use Rattle.std.specs.Prelude.{◌==◌, option_map, if◌then◌else◌}
use Rattle.indexmap.specs.IndexMap.{insert_entry}
use Rattle.lq_trees.specs.Tree.{Tree}
use Rattle.lq_trees.specs.Tree.Tree.{Rel, Var, Sort, Prod, Lam, Let, App, Const, Ind, Ctor, Elim, Evar}
use Rattle.lq_trees.specs.Size.{size, fit}
use Rattle.lq_trees.specs.Index.{Within}
use Rattle.lq_trees.specs.Marks.{loose, holds_unknown}
use Rattle.lq_trees.specs.declared.Fit.{Fit}
use Rattle.lq_trees.proofs.MarkLaws.{or_left, or_right, or_first, or_second, or_third, loose-within}
use Rattle.lq_terms.specs.declared.nodes.TermId.{TermId}
use Rattle.lq_terms.specs.Terms.{Terms, HasTerm, Grows, tree_of}
use Rattle.lq_terms.proofs.Builds.{all_both}
use Rattle.lq_solving.specs.Occurs.{holds_variable}
use Rattle.lq_solving.specs.Stores.{Variable as TreeVariable, Assigned, Store as TreeStore, StoreFault as TreeFault, find_value, value, names_at, put_value, fill_values, read_values, read_next, read, read_fitting, assigned, with_value, size_fault, read_too_large, read_too_deep}
use Rattle.lq_solving.specs.Kept.{IsValue, IsStore}
use Rattle.lq_solving.proofs.ValueLaws.{not_held}
use Rattle.lq_solving.proofs.FreeLaws.{both_false}
use Rattle.lq_solving.proofs.ReadLaws.{filled, filled_within}
use Rattle.lq_solving.proofs.StoreLaws.{given_store}
use Rattle.lq_evars.specs.Places.{Places, store_of, assigned_of, values_from, value_in, value_at, one_given, HasStore}
use Rattle.lq_evars.specs.Near.{weighs, IsNear}
use Rattle.lq_evars.specs.declared.store.StoreFault.{StoreFault}
use Rattle.lq_evars.specs.Reading.{as_read, Answers, Gives}
use Rattle.lq_evars.proofs.Growing.{store_of-grown, HasStore-grown}
use Rattle.lq_evars.proofs.Lookups.{values_told}

-- a term without variables holds none, so it reads as itself
pub no_variable : (k : ℕ) (t : Tree) → holds_unknown t ≡ false → holds_variable k t ≡ false
unfolding holds_variable
no_variable k (Rel i) e = refl
no_variable k (Var x) e = refl
no_variable k (Sort s) e = refl
no_variable k (Prod x A B) e = both_false _ _ (no_variable k A (or_left _ _ e)) (no_variable k B (or_right _ _ e))
no_variable k (Lam x A B) e = both_false _ _ (no_variable k A (or_left _ _ e)) (no_variable k B (or_right _ _ e))
no_variable k (Let x v A B) e =
    both_false _ _ (both_false _ _ (no_variable k v (or_first (holds_unknown v) (holds_unknown A) (holds_unknown B) e)) (no_variable k A (or_second (holds_unknown v) (holds_unknown A) (holds_unknown B) e)))
    (no_variable k B (or_third (holds_unknown v) (holds_unknown A) (holds_unknown B) e))
no_variable k (App f a) e = both_false _ _ (no_variable k f (or_left _ _ e)) (no_variable k a (or_right _ _ e))
no_variable k (Const c) e = refl
no_variable k (Ind c) e = refl
no_variable k (Ctor c i) e = refl
no_variable k (Elim c s) e = refl
no_variable k (Evar n ts) e = absurd (grind arith)

pub plain_read : (vs : List TreeVariable) (as_ : List Assigned) (t : Tree) → holds_unknown t ≡ false → filled vs as_ t ≡ t
unfolding fill_values read_values read_next
plain_read vs [] t e = refl
plain_read vs (a ∷ older) t e =
    ap (put_value a.id (names_at vs a.id) (filled vs older a.body)) (plain_read vs older t e) ∙ not_held a.id (names_at vs a.id) (filled vs older a.body) t (no_variable a.id t e)

-- the answer by the limit that is passed
unfoldable fault_of : Fit → Option TreeFault
fault_of g = elim g [ Fit.Fits ↦ None | Fit.TooLarge ↦ Some read_too_large | Fit.TooDeep ↦ Some read_too_deep ]

unfoldable fitting : Option TreeFault → Tree → Result Tree TreeFault
fitting o t = elim o [ None ↦ Ok t | Some f ↦ Err f ]

unfoldable giving : Option TreeFault → TreeStore → Result TreeStore TreeFault
giving o s = elim o [ None ↦ Ok s | Some f ↦ Err f ]

-- what a term reads as, by what stands for it
module _ (bank new : Terms) (s : Places) (t u : TermId) (kept : IsStore (store_of bank s)) (closed : Within 0 (tree_of bank t)) (n : IsNear 0 (tree_of new u) (as_read (store_of bank s) (tree_of bank t))) where
  read_closed : loose (as_read (store_of bank s) (tree_of bank t)) ≤ 0
  read_closed = loose-within 0 (as_read (store_of bank s) (tree_of bank t)) (filled_within (store_of bank s).variables (store_of bank s).values kept.values 0 (tree_of bank t) closed)

  answer_by : (f : Fit) → fit (as_read (store_of bank s) (tree_of bank t)) ≡ f → read_fitting (store_of bank s) (tree_of bank t) ≡ fitting (fault_of f) (as_read (store_of bank s) (tree_of bank t))
  unfolding read_fitting size_fault read fitting fault_of
  answer_by f e = ap (λ g. fitting (fault_of g) (as_read (store_of bank s) (tree_of bank t))) e

  large_is : (x : Tree) → 1000000 < size x → fit x ≡ Fit.TooLarge
  large_is x h = grind arith

  pub over_read : 1000000 < weighs 0 (tree_of new u) → read_fitting (store_of bank s) (tree_of bank t) ≡ Err read_too_large
  unfolding fitting fault_of
  over_read h = answer_by Fit.TooLarge (large_is (as_read (store_of bank s) (tree_of bank t)) (omega (arith, n.large h, read_closed)))

  fit_by : weighs 0 (tree_of new u) ≤ 1000000 → (f : Fit) → f ≡ fit (tree_of new u) → read_fitting (store_of bank s) (tree_of bank t) ≡ fitting (fault_of f) (tree_of new u)
  fit_by h f e =
      let is : tree_of new u ≡ as_read (store_of bank s) (tree_of bank t) = n.small h in
      answer_by f (ap fit (sym is) ∙ sym e) ∙ ap (fitting (fault_of f)) (sym is)

  pub fits_read : weighs 0 (tree_of new u) ≤ 1000000 → Fit.Fits ≡ fit (tree_of new u) → read_fitting (store_of bank s) (tree_of bank t) ≡ Ok (tree_of new u)
  unfolding fitting fault_of
  fits_read h e = fit_by h Fit.Fits e

  pub large_read : weighs 0 (tree_of new u) ≤ 1000000 → Fit.TooLarge ≡ fit (tree_of new u) → read_fitting (store_of bank s) (tree_of bank t) ≡ Err read_too_large
  unfolding fitting fault_of
  large_read h e = fit_by h Fit.TooLarge e

  pub deep_read : weighs 0 (tree_of new u) ≤ 1000000 → Fit.TooDeep ≡ fit (tree_of new u) → read_fitting (store_of bank s) (tree_of bank t) ≡ Err read_too_deep
  unfolding fitting fault_of
  deep_read h e = fit_by h Fit.TooDeep e

-- a value that is given last
module _ (k : ℕ) (t : TermId) (eq : ℕ → ℕ → Bool) (is_number : (i j : ℕ) → eq i j ≡ (i == j)) where
  pub given_last : (as_ : List (ℕ × TermId)) → value_in as_ k ≡ None → insert_entry eq as_ k t ≡ as_ ++ (k, t) ∷ []
  given_last [] e = refl
  given_last (a ∷ as_) e = by (eq k a.0) (k == a.0) (is_number k a.0) e (λ f. given_last as_ f)
    where
      by : (b c : Bool) → b ≡ c → ◌≡◌ {A = Option TermId} (if c then Some a.1 else value_in as_ k) None → (value_in as_ k ≡ None → insert_entry eq as_ k t ≡ as_ ++ (k, t) ∷ []) →
          (if b then (a.0, t) ∷ as_ else a ∷ insert_entry eq as_ k t) ≡ a ∷ as_ ++ (k, t) ∷ []
      by true true p f ih = absurd (grind arith)
      by false false p f ih = ap (λ xs. a ∷ xs) (ih f)
      by true false p f ih = absurd cc
      by false true p f ih = absurd cc

pub values_last : (bank : Terms) (older : List Assigned) (as_ : List (ℕ × TermId)) (a : ℕ × TermId) → values_from bank older (as_ ++ a ∷ []) ≡ assigned_of bank a ∷ values_from bank older as_
values_last bank older [] a = refl
values_last bank older (b ∷ as_) a = values_last bank (assigned_of bank b ∷ older) as_ a

pub given_told : (bank : Terms) (s : Places) (k : ℕ) (t : TermId) → store_of bank (one_given s k t) ≡ with_value (store_of bank s) k (tree_of bank t)
unfolding with_value
given_told bank s k t = ap (λ as_. record { variables = (store_of bank s).variables; values = as_ }) (values_last bank [] s.values (k, t))

module _ (old new : Terms) (s : Places) (k : ℕ) (t : TermId) (g : Grows old new) (h : HasStore old s) (i : IsStore (store_of old s)) (there : HasTerm old t)
    (v : IsValue (store_of old s).variables (store_of old s).values (record { id = k; body = tree_of old t })) where
  pub no_value : value_at s k ≡ None
  unfolding value find_value
  no_value = by (value_at s k) (values_told old s k i ∙ found)
    where
      found : value (store_of old s) k ≡ None
      found = v.new

      by : (o : Option TermId) → option_map (tree_of old) o ≡ None → o ≡ None
      by None e = refl
      by (Some x) e = absurd (grind arith)

  pub given_is : with_value (store_of old s) k (tree_of old t) ≡ store_of new (one_given s k t)
  given_is = sym (given_told new s k t ∙ ap₂ (λ z x. with_value z k x) (store_of-grown old new g s h) (g.tree t there))

  pub given_stands : IsStore (store_of new (one_given s k t))
  given_stands = along IsStore given_is (given_store (store_of old s) k (tree_of old t) i v)

  pub given_has : HasStore new (one_given s k t)
  given_has =
      let b = HasStore-grown old new g s h in
      record { variables = b.variables; values = all_both (λ a. HasTerm new a.1) s.values ((k, t) ∷ []) b.values (omega (arith, there, g.nodes), tt) }

  -- by what reading the value answers
  pub given_fits : (x : Tree) → read_fitting (store_of old s) (tree_of old t) ≡ Ok x → assigned (store_of old s) k (tree_of old t) ≡ Ok (store_of new (one_given s k t))
  unfolding read_fitting assigned fitting giving
  given_fits x e = by (size_fault (read (store_of old s) (tree_of old t))) e
    where
      by : (o : Option TreeFault) → fitting o (read (store_of old s) (tree_of old t)) ≡ Ok x → giving o (with_value (store_of old s) k (tree_of old t)) ≡ Ok (store_of new (one_given s k t))
      by None f = ap Ok given_is
      by (Some y) f = absurd (grind arith)

  pub given_not : (y : TreeFault) → read_fitting (store_of old s) (tree_of old t) ≡ Err y → assigned (store_of old s) k (tree_of old t) ≡ Err y
  unfolding read_fitting assigned fitting giving
  given_not y e = by (size_fault (read (store_of old s) (tree_of old t))) e
    where
      by : (o : Option TreeFault) → fitting o (read (store_of old s) (tree_of old t)) ≡ Err y → giving o (with_value (store_of old s) k (tree_of old t)) ≡ Err y
      by None f = absurd (grind arith)
      by (Some z) f = ap Err (ap (λ r. elim r [ Ok x ↦ z | Err w ↦ w ]) f)

  -- what reading refuses is refused
  pub gives_fault : (s1 : Places) (f : StoreFault) → Answers new (Err f) (read_fitting (store_of old s) (tree_of old t)) → Gives new (Err f) s1 (assigned (store_of old s) k (tree_of old t))
  gives_fault s1 StoreFault.TooLarge a = given_not read_too_large a
  gives_fault s1 StoreFault.TooDeep a = given_not read_too_deep a
  gives_fault s1 StoreFault.Full a = a
  gives_fault s1 StoreFault.NoMemory a = tt
