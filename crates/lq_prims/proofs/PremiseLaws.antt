-- The premises of a term that is applied: those on which something depends, and those that become goals.
use Rattle.std.proofs.Common.{◌≡◌, ◌<◌, ◌≤◌, ◌+◌, ◌∙◌, ℕ, zero, suc, refl, sym, ap, ap₂, arith, Bool, true, false, ◌||◌, not, eqb, List, [], ◌∷◌, ◌++◌, map, length, get_or, drop, Option, Some, None, Result, Ok, Err, Vec, Global}
use Rattle.std.proofs.Common.{subst as along}
use Rattle.std.proofs.lemmas.List.{drop_more, drop_all}
use Rattle.std.specs.Prelude.{IfOk, codes, option_map, slice_get}
use Rattle.std.specs.List.{AllByRecursion}
use Rattle.lq_trees.specs.Tree.{Name, Tree}
use Rattle.lq_trees.specs.Tree.Tree.{App, Rel}
use Rattle.lq_trees.specs.Ticks.{gives, fails, ◌>>=◌}
use Rattle.lq_calculus.specs.Contraction.{apply}
use Rattle.lq_terms.specs.declared.nodes.NameId.{NameId}
use Rattle.lq_terms.specs.Terms.{Terms, HasName, text_of}
use Rattle.lq_solving.specs.Occurs.{holds_variable}
use Rattle.lq_solving.specs.Stores.{Store, read, is_open, count}
use Rattle.lq_solving.proofs.Moving.{get_map}
use Rattle.lq_evars.specs.declared.store.Variable.{Variable}
use Rattle.lq_evars.specs.Places.{Places, HasNameOr, HasStore, HasVariable, store_of, variable_of}
use Rattle.lq_states.specs.Goals.{has, without}
use Rattle.lq_tactics.specs.Applying.{Opening, any_depends, is_needed, dependent_in, name_of_variable, premise_name, determined}
use Rattle.lq_tactics.specs.Rows.{open_of, made_open, not_determined}
use Rattle.lq_prims.specs.declared.faults.PrimFault.{PrimFault}
use Rattle.lq_prims.specs.Applied.{binder_at, or_blank, needed_ones, goals_after, goals_work}
use Rattle.lq_prims.specs.Listing.{is_left}
use Rattle.lq_prims.specs.Working.{Refuses}
use Rattle.lq_prims.proofs.SceneLaws.{something, all_at}
use Rattle.lq_prims.proofs.ShelfLaws.{one_more, one_behind}
use Rattle.lq_prims.proofs.RefineLaws.{made_inside}
use Rattle.lq_prims.proofs.WorkLaws.{refuses_first}

-- ---- those elements of a list that pass a test

module _ (F : List ℕ → List ℕ) (p : ℕ → Bool) (nothing : F [] ≡ []) (next : (k : ℕ) (ks : List ℕ) → F (k ∷ ks) ≡ one_more (p k) k (F ks)) where
  module _ (js : List ℕ) (i d : ℕ) where
    step : i < length js → (b : Bool) → b ≡ p (get_or js i d) → F (drop i js) ≡ one_more b (get_or js i d) (F (drop (i + 1) js))
    step l b e = ap F (drop_more js i d l) ∙ next (get_or js i d) (drop (i + 1) js) ∙ ap (λ z. one_more z (get_or js i d) (F (drop (i + 1) js))) (sym e)

    pub picked : i < length js → (b : Bool) → b ≡ p (get_or js i d) → b ≡ true → (found longer all : List ℕ) → longer ≡ found ++ get_or js i d ∷ [] → found ++ F (drop i js) ≡ all → longer ++ F (drop (i + 1) js) ≡ all
    picked l b e y found longer all is so_far =
        ap (λ z. z ++ F (drop (i + 1) js)) is ∙ one_behind found (get_or js i d) (F (drop (i + 1) js))
        ∙ ap (λ z. found ++ z) (sym (step l b e ∙ ap (λ z. one_more z (get_or js i d) (F (drop (i + 1) js))) y)) ∙ so_far

    pub passed : i < length js → (b : Bool) → b ≡ p (get_or js i d) → b ≡ false → (found all : List ℕ) → found ++ F (drop i js) ≡ all → found ++ F (drop (i + 1) js) ≡ all
    passed l b e y found all so_far = ap (λ z. found ++ z) (sym (step l b e ∙ ap (λ z. one_more z (get_or js i d) (F (drop (i + 1) js))) y)) ∙ so_far

    pub at_end : length js ≤ i → (found all : List ℕ) → found ++ F (drop i js) ≡ all → found ≡ all
    at_end l found all so_far = sym (no_more found) ∙ ap (λ z. found ++ z) (sym nothing ∙ ap F (sym (drop_all i js l))) ∙ so_far
      where
        no_more : (ks : List ℕ) → ks ++ [] ≡ ks
        no_more [] = refl
        no_more (k ∷ ks) = ap (λ z. k ∷ z) (no_more ks)

  -- what holds of all holds of those
  pub among : (P : ℕ → Type 0) (js : List ℕ) → AllByRecursion P js → AllByRecursion P (F js)
  among P [] h = along (AllByRecursion P) (sym nothing) tt
  among P (j ∷ js) h = along (AllByRecursion P) (sym (next j js)) (at (p j) (among P js h.1))
    where
      at : (b : Bool) → AllByRecursion P (F js) → AllByRecursion P (one_more b j (F js))
      at true k = (h.0, k)
      at false k = k

-- ---- those on which something depends

pub dependent_none : (s : Store) (o : Opening) → dependent_in s o [] ≡ []
unfolding dependent_in
dependent_none s o = refl

pub dependent_next : (s : Store) (o : Opening) (k : ℕ) (ks : List ℕ) → dependent_in s o (k ∷ ks) ≡ one_more (is_needed s o k) k (dependent_in s o ks)
unfolding dependent_in
dependent_next s o k ks = by (is_needed s o k)
  where
    by : (b : Bool) → elim b as (λ z. List ℕ) [ true ↦ k ∷ dependent_in s o ks | false ↦ dependent_in s o ks ] ≡ one_more b k (dependent_in s o ks)
    by true = refl
    by false = refl

module _ (s : Store) (o : Opening) (j : ℕ) (b : Bool) (e : b ≡ any_depends s j o.premises) where
  pub needed_here : b ≡ true → true ≡ is_needed s o j
  unfolding is_needed
  needed_here y = sym (ap (λ z. z || holds_variable j (read s o.rest)) (sym e ∙ y))

  pub needed_by : {E : Type 0} → b ≡ false → (q : Result Bool E) → IfOk q (λ z. z ≡ holds_variable j (read s o.rest)) → IfOk q (λ z. z ≡ is_needed s o j)
  unfolding is_needed
  needed_by y (Ok r) h = h ∙ sym (ap (λ z. z || holds_variable j (read s o.rest)) (sym e ∙ y))
  needed_by y (Err x) h = tt

-- ---- those without a value, but for some

-- those of the variables
abbrev pub open_but : Store → List ℕ → List ℕ → List ℕ
open_but s but ks = without but (open_of s ks)

pub open_none : (s : Store) (but : List ℕ) → open_but s but [] ≡ []
unfolding without open_of
open_none s but = refl

pub open_next : (s : Store) (but : List ℕ) (k : ℕ) (ks : List ℕ) → open_but s but (k ∷ ks) ≡ one_more (is_left but s k) k (open_but s but ks)
unfolding without open_of
open_next s but k ks = by (is_open s k)
  where
    inner : (h : Bool) → elim h as (λ z. List ℕ) [ true ↦ without but (open_of s ks) | false ↦ k ∷ without but (open_of s ks) ] ≡ one_more (not h) k (without but (open_of s ks))
    inner true = refl
    inner false = refl

    by : (b : Bool) → without but (elim b as (λ z. List ℕ) [ true ↦ k ∷ open_of s ks | false ↦ open_of s ks ]) ≡ one_more (elim b as (λ z. Bool) [ true ↦ not (has but k) | false ↦ false ]) k (without but (open_of s ks))
    by true = inner (has but k)
    by false = refl

-- ---- the names

module _ (f : NameId → Name) (ks : List ℕ) (ns : List NameId) (j i d : ℕ) (e : NameId) where
  binder_step : i < length ks → i < length ns →
      binder_at (drop i ks) (map f (drop i ns)) j ≡ elim (eqb (get_or ks i d) j) as (λ z. Option Name) [ true ↦ Some (f (get_or ns i e)) | false ↦ binder_at (drop (i + 1) ks) (map f (drop (i + 1) ns)) j ]
  unfolding binder_at
  binder_step l m = ap₂ (λ x y. binder_at x (map f y) j) (drop_more ks i d l) (drop_more ns i e m)

  pub binder_here : i < length ks → i < length ns → eqb (get_or ks i d) j ≡ true → binder_at ks (map f ns) j ≡ binder_at (drop i ks) (map f (drop i ns)) j → Some (f (get_or ns i e)) ≡ binder_at ks (map f ns) j
  binder_here l m y so_far =
      sym (so_far ∙ binder_step l m ∙ ap (λ z. elim z as (λ w. Option Name) [ true ↦ Some (f (get_or ns i e)) | false ↦ binder_at (drop (i + 1) ks) (map f (drop (i + 1) ns)) j ]) y)

  pub binder_later : i < length ks → i < length ns → eqb (get_or ks i d) j ≡ false → binder_at ks (map f ns) j ≡ binder_at (drop i ks) (map f (drop i ns)) j → binder_at ks (map f ns) j ≡ binder_at (drop (i + 1) ks) (map f (drop (i + 1) ns)) j
  binder_later l m y so_far =
      so_far ∙ binder_step l m ∙ ap (λ z. elim z as (λ w. Option Name) [ true ↦ Some (f (get_or ns i e)) | false ↦ binder_at (drop (i + 1) ks) (map f (drop (i + 1) ns)) j ]) y

no_premise : (xs : List Name) (j : ℕ) → binder_at [] xs j ≡ None
unfolding binder_at
no_premise [] j = refl
no_premise (x ∷ xs) j = refl

no_name : (ks : List ℕ) (j : ℕ) → binder_at ks [] j ≡ None
unfolding binder_at
no_name [] j = refl
no_name (k ∷ ks) j = refl

pub no_more_premises : (f : NameId → Name) (ks : List ℕ) (ns : List NameId) (j i : ℕ) → length ks ≤ i → binder_at ks (map f ns) j ≡ binder_at (drop i ks) (map f (drop i ns)) j → None ≡ binder_at ks (map f ns) j
no_more_premises f ks ns j i l so_far = sym (so_far ∙ ap (λ z. binder_at z (map f (drop i ns)) j) (drop_all i ks l) ∙ no_premise (map f (drop i ns)) j)

pub no_more_names : (f : NameId → Name) (ks : List ℕ) (ns : List NameId) (j i : ℕ) → length ns ≤ i → binder_at ks (map f ns) j ≡ binder_at (drop i ks) (map f (drop i ns)) j → None ≡ binder_at ks (map f ns) j
no_more_names f ks ns j i l so_far = sym (so_far ∙ ap (λ z. binder_at (drop i ks) (map f z) j) (drop_all i ns l) ∙ no_name (drop i ks) j)

pub blank_empty : (t : Name) → length t ≡ 0 → codes "_" ≡ or_blank t
unfolding or_blank
blank_empty [] e = refl
blank_empty (b ∷ bs) e = absurd (omega (arith, e))

pub blank_named : (t : Name) → (length t ≡ 0 → ⊥) → t ≡ or_blank t
unfolding or_blank
blank_named [] f = absurd (f refl)
blank_named (b ∷ bs) f = refl

-- the name by the binder that was found
abbrev pub name_by : Store → ℕ → Option Name → Name
name_by s j (Some x) = or_blank x
name_by s j None = name_of_variable (slice_get s.variables j)

pub name_is : (s : Store) (ks : List ℕ) (xs : List Name) (j : ℕ) → premise_name s ks xs j ≡ name_by s j (binder_at ks xs j)
unfolding premise_name binder_at or_blank
name_is s [] [] j = refl
name_is s [] (x ∷ xs) j = refl
name_is s (k ∷ ks) [] j = refl
name_is s (k ∷ ks) (x ∷ xs) j = by (eqb k j) (name_is s ks xs j)
  where
    named : (y : Name) → elim y as (λ z. Name) [ [] ↦ codes "_" | b ∷ bs ↦ b ∷ bs ] ≡ or_blank y
    named [] = refl
    named (b ∷ bs) = refl

    by : (b : Bool) → premise_name s ks xs j ≡ name_by s j (binder_at ks xs j) →
        elim b as (λ z. Name) [ true ↦ elim x as (λ z. Name) [ [] ↦ codes "_" | c ∷ cs ↦ c ∷ cs ] | false ↦ premise_name s ks xs j ]
        ≡ name_by s j (elim b as (λ z. Option Name) [ true ↦ Some x | false ↦ binder_at ks xs j ])
    by true h = named x
    by false h = h

pub name_found : (s : Store) (ks : List ℕ) (xs : List Name) (j : ℕ) (w : Option Name) → w ≡ binder_at ks xs j → name_by s j w ≡ premise_name s ks xs j
name_found s ks xs j w e = ap (name_by s j) e ∙ sym (name_is s ks xs j)

-- ---- what must be determined

pub not_strict : (strict : Bool) (s : Store) (o : Opening) (js : List ℕ) → strict ≡ false → determined strict s o js ≡ gives tt
unfolding determined
not_strict false s o js e = refl
not_strict true s o js e = absurd cc

pub none_needed : (strict : Bool) (s : Store) (o : Opening) (js : List ℕ) → length js ≡ 0 → determined strict s o js ≡ gives tt
unfolding determined
none_needed false s o js e = refl
none_needed true s o [] e = refl
none_needed true s o (j ∷ js) e = absurd (omega (arith, e))

pub one_needed : (strict : Bool) (s : Store) (o : Opening) (js : List ℕ) (d : ℕ) → strict ≡ true → (length js ≡ 0 → ⊥) → determined strict s o js ≡ fails (not_determined (premise_name s o.premises o.names (get_or js 0 d)))
unfolding determined
one_needed false s o js d e f = absurd cc
one_needed true s o [] d e f = absurd (f refl)
one_needed true s o (j ∷ js) d e f = refl

-- the new goals
pub goals_given : (strict : Bool) (s : Store) (o : Opening) → determined strict o.store o (needed_ones s o) ≡ gives tt → goals_work strict s o ≡ gives (goals_after s o)
unfolding goals_work ◌>>=◌
goals_given strict s o e = ap (λ w. w >>= λ ok. gives (goals_after s o)) e

pub goals_refused : (bank : Terms) (x : PrimFault) (strict : Bool) (s : Store) (o : Opening) (b : ℕ) → Refuses bank x (λ n. determined strict o.store o (needed_ones s o)) b b → Refuses bank x (λ n. goals_work strict s o) b b
unfolding goals_work
goals_refused bank x strict s o b h = refuses_first bank x (λ n. determined strict o.store o (needed_ones s o)) (λ ok n. gives (goals_after s o)) b b h

-- ---- the term applied to the premises

pub apply_step : (g : ℕ → Tree) (ks : List ℕ) (i d : ℕ) (f u : Tree) → i < length ks → u ≡ App f (g (get_or ks i d)) → apply u (map g (drop (i + 1) ks)) ≡ apply f (map g (drop i ks))
unfolding apply
apply_step g ks i d f u l e = ap (λ z. apply z (map g (drop (i + 1) ks))) e ∙ sym (ap (λ z. apply f (map g z)) (drop_more ks i d l))

pub apply_end : (g : ℕ → Tree) (ks : List ℕ) (i : ℕ) (f : Tree) → length ks ≤ i → apply f (map g (drop i ks)) ≡ f
unfolding apply
apply_end g ks i f l = ap (λ z. apply f (map g z)) (drop_all i ks l)

-- those of the premises are variables of the store
pub open_inside : (P : ℕ → Type 0) (s : Store) (but ks : List ℕ) → AllByRecursion P ks → AllByRecursion P (open_but s but ks)
open_inside P s but ks h = among (open_but s but) (is_left but s) (open_none s but) (open_next s but) P ks h

pub dependent_inside : {E : Type 0} (P : ℕ → Type 0) (s : Store) (o : Opening) (ks : List ℕ) (r : Result (Vec ℕ Global) E) → AllByRecursion P ks → IfOk r (λ v. v.items ≡ dependent_in s o ks) → IfOk r (λ v. AllByRecursion P v.items)
dependent_inside P s o ks (Ok v) h e = along (AllByRecursion P) (sym e) (among (dependent_in s o) (is_needed s o) (dependent_none s o) (dependent_next s o) P ks h)
dependent_inside P s o ks (Err x) h e = tt

-- ---- the name of a variable of the store

abbrev pub name_or_blank : Option Name → Name
name_or_blank None = codes "_"
name_or_blank (Some x) = x

module _ (bank : Terms) (s : Places) (k : ℕ) (l : k < length s.variables) (w : Option NameId) (f : (v : Variable) → slice_get s.variables k ≡ Some v → w ≡ v.name) where
  pub variable_name : name_or_blank (option_map (text_of bank) w) ≡ name_of_variable (slice_get (store_of bank s).variables k)
  unfolding name_of_variable
  variable_name =
      let v = something s.variables k l in
      ap (λ z. name_or_blank (option_map (text_of bank) z)) (f v.0 v.1) ∙ by (option_map (text_of bank) v.0.name)
      ∙ sym (ap name_of_variable (get_map (variable_of bank) s.variables k ∙ ap (option_map (variable_of bank)) v.1))
    where
      by : (o : Option Name) → name_or_blank o ≡ elim o as (λ z. Name) [ None ↦ codes "_" | Some x ↦ x ]
      by None = refl
      by (Some x) = refl

  pub variable_has : HasStore bank s → (x : NameId) → w ≡ Some x → HasName bank x
  variable_has h x e = let v = something s.variables k l in along (HasNameOr bank) (sym (f v.0 v.1) ∙ e) (all_at (HasVariable bank) s.variables k v.0 h.variables v.1).name

-- ---- the variables that were made since there were so many

pub any_many : (n : ℕ) → (r : Store) × (count r ≡ n)
any_many zero = (record { variables = []; values = [] }, refl)
any_many (suc n) = let r = any_many n in (record { variables = record { context = []; kind = Rel 0; name = None } ∷ r.0.variables; values = [] }, ap suc r.1)

pub made_all : (s1 : Store) (before : ℕ) (ks : List ℕ) → ((s : Store) → count s ≡ before → ks ≡ made_open s s1) → AllByRecursion (λ k. k < count s1) ks
made_all s1 before ks h = let s = any_many before in made_inside s.0 s1 ks (h s.0 s.1)
