-- Look-ups by key, as a map finds, and as the definitions do.
use Rattle.std.proofs.Common.{◌≡◌, ◌<◌, ◌∙◌, sym, refl, ap, ap₂, subst, ℕ, suc, Bool, true, false, cond, List, [], ◌∷◌, map, length, take, Option, Some, None, eqb, eqb-true, eq-eqb}
use Rattle.std.specs.Prelude.{if◌then◌else◌, ◌==◌, option_map, slice_get}
use Rattle.std.specs.Map.{lookup}
use Rattle.std.proofs.Math.Seq.{take-append_seam}
use Rattle.std.specs.List.{AllByRecursion}
use Rattle.std.proofs.lemmas.Slice.Eq.{bytes_eq-Decides}
use Rattle.std.proofs.lemmas.Option.{slice_get-map}
use Rattle.lq_terms.specs.declared.nodes.NameId.{NameId}
use Rattle.lq_terms.specs.declared.nodes.TermId.{TermId}
use Rattle.lq_trees.specs.Tree.{Tree, same_name}
use Rattle.lq_terms.specs.Terms.{Terms, HasName, text_of, tree_of}
use Rattle.lq_solving.specs.Stores.{Variable as TreeVariable, Assigned, find_value, find_name, value, named_variable}
use Rattle.lq_solving.specs.Kept.{Sound, IsStore}
use Rattle.lq_solving.proofs.InstanceLaws.{same_is}
use Rattle.lq_solving.proofs.Readings.{none_some}
use Rattle.lq_evars.specs.declared.store.Variable.{Variable}
use Rattle.lq_evars.specs.Places.{Places, store_of, variable_of, assigned_of, values_from, value_in, numbered, numbers_from, number_in, HasNameOr, HasVariable, HasStore, GivesMore, IsOwn, number_of, value_at}

module _ (x : NameId) (test : NameId → Bool) (is_place : (y : NameId) → test y ≡ (x.place == y.place)) where
  pub number_by : (es : List (NameId × ℕ)) → lookup test es ≡ number_in es x
  number_by [] = refl
  number_by (e ∷ es) = either (test e.0) (x.place == e.0.place) (is_place e.0) (number_by es)
    where
      either : (a b : Bool) → a ≡ b → lookup test es ≡ number_in es x → cond a (Some e.1) (lookup test es) ≡ (if b then Some e.1 else number_in es x)
      either true true i k = refl
      either false false i k = k
      either true false i k = absurd cc
      either false true i k = absurd cc

module _ (n : ℕ) (test : ℕ → Bool) (is_number : (k : ℕ) → test k ≡ (n == k)) where
  pub value_by : (as_ : List (ℕ × TermId)) → lookup test as_ ≡ value_in as_ n
  value_by [] = refl
  value_by (e ∷ es) = either (test e.0) (n == e.0) (is_number e.0) (value_by es)
    where
      either : (a b : Bool) → a ≡ b → lookup test es ≡ value_in es n → cond a (Some e.1) (lookup test es) ≡ (if b then Some e.1 else value_in es n)
      either true true i k = refl
      either false false i k = k
      either true false i k = absurd cc
      either false true i k = absurd cc

-- the values that stand behind others were given later, so those are values of sound ones
pub sound_before : (bank : Terms) (vs : List TreeVariable) (older : List Assigned) (as_ : List (ℕ × TermId)) → Sound vs (values_from bank older as_) → Sound vs older
sound_before bank vs older [] s = s
sound_before bank vs older (a ∷ as_) s = (sound_before bank vs (assigned_of bank a ∷ older) as_ s).0

-- two numbers are compared either way
pub eqb_swap : (i j : ℕ) → eqb i j ≡ eqb j i
eqb_swap i j = either (eqb i j) (eqb j i) refl refl
  where
    either : (a b : Bool) → eqb i j ≡ a → eqb j i ≡ b → a ≡ b
    either true true e f = refl
    either false false e f = refl
    either true false e f = let k : eqb j i ≡ true = eq-eqb j i (sym (eqb-true i j e)) in absurd cc
    either false true e f = let k : eqb i j ≡ true = eq-eqb i j (sym (eqb-true j i f)) in absurd cc

-- the newest value is found by its number, and another one behind it
pub newest_found : (a : Assigned) (older : List Assigned) (k : ℕ) → eqb k a.id ≡ true → find_value (a ∷ older) k ≡ Some a.body
unfolding find_value
newest_found a older k e = ap (λ t. elim t [ true ↦ Some a.body | false ↦ find_value older k ]) (eqb_swap a.id k ∙ e)

pub newest_other : (a : Assigned) (older : List Assigned) (k : ℕ) → eqb k a.id ≡ false → find_value (a ∷ older) k ≡ find_value older k
unfolding find_value
newest_other a older k e = ap (λ t. elim t [ true ↦ Some a.body | false ↦ find_value older k ]) (eqb_swap a.id k ∙ e)

-- one value more: what was found before is found
pub found_more : (a : Assigned) (older : List Assigned) (k : ℕ) (b : Tree) → find_value older k ≡ Some b → (c : Tree) × (find_value (a ∷ older) k ≡ Some c)
found_more a older k b e = either (eqb k a.id) refl
  where
    either : (t : Bool) → eqb k a.id ≡ t → (c : Tree) × (find_value (a ∷ older) k ≡ Some c)
    either true i = (a.body, newest_found a older k i)
    either false i = (b, newest_other a older k i ∙ e)

-- a variable that has a value gets no other
pub given_once : (bank : Terms) (vs : List TreeVariable) (older : List Assigned) (as_ : List (ℕ × TermId)) (k : ℕ) (b : Tree) →
    Sound vs (values_from bank older as_) → find_value older k ≡ Some b → value_in as_ k ≡ None
given_once bank vs older [] k b s e = refl
given_once bank vs older (a ∷ as_) k b s e =
    let m = found_more (assigned_of bank a) older k b e in
    either (k == a.0) refl (given_once bank vs (assigned_of bank a ∷ older) as_ k m.0 s m.1)
  where
    either : (t : Bool) → (k == a.0) ≡ t → value_in as_ k ≡ None → (if t then Some a.1 else value_in as_ k) ≡ None
    either false i h = h
    either true i h =
        let new : find_value older a.0 ≡ None = (sound_before bank vs (assigned_of bank a ∷ older) as_ s).1.new in
        absurd (none_some (subst (λ j. find_value older j ≡ None) (sym (eqb-true k a.0 i)) new) e)

-- the first of two
abbrev pub or_older : Option Tree → Option Tree → Option Tree
or_older None o = o
or_older (Some t) o = Some t

-- the value by places is that of the definition, in which the newest stands first
pub value_told : (bank : Terms) (vs : List TreeVariable) (older : List Assigned) (as_ : List (ℕ × TermId)) (k : ℕ) →
    Sound vs (values_from bank older as_) → find_value (values_from bank older as_) k ≡ or_older (option_map (tree_of bank) (value_in as_ k)) (find_value older k)
value_told bank vs older [] k s = refl
value_told bank vs older (a ∷ as_) k s =
    value_told bank vs (assigned_of bank a ∷ older) as_ k s ∙ either (k == a.0) refl
  where
    either : (t : Bool) → (k == a.0) ≡ t →
        or_older (option_map (tree_of bank) (value_in as_ k)) (find_value (assigned_of bank a ∷ older) k) ≡ or_older (option_map (tree_of bank) (if t then Some a.1 else value_in as_ k)) (find_value older k)
    either false i = ap (or_older (option_map (tree_of bank) (value_in as_ k))) (newest_other (assigned_of bank a) older k i)
    either true i =
        let f = newest_found (assigned_of bank a) older k i in
        ap (λ o. or_older (option_map (tree_of bank) o) (find_value (assigned_of bank a ∷ older) k)) (given_once bank vs (assigned_of bank a ∷ older) as_ k (tree_of bank a.1) s f) ∙ f

pub same_place : (bank : Terms) (x y : NameId) → IsOwn bank x → HasName bank y → same_name (text_of bank x) (text_of bank y) ≡ (x.place == y.place)
same_place bank x y own h = either (same_name (text_of bank x) (text_of bank y)) (x.place == y.place) refl refl
  where
    either : (a b : Bool) → same_name (text_of bank x) (text_of bank y) ≡ a → (x.place == y.place) ≡ b → a ≡ b
    either true true e f = refl
    either false false e f = refl
    either true false e f =
        let same : y ≡ x = own.apart y h (sym (same_is (text_of bank x) (text_of bank y) e)) in
        let j : (x.place == y.place) ≡ true = eq-eqb x.place y.place (ap (λ z. z.place) (sym same)) in
        absurd cc
    either false true e f =
        let same : x.place ≡ y.place = eqb-true x.place y.place f in
        let j : same_name (text_of bank x) (text_of bank y) ≡ true = (bytes_eq-Decides (text_of bank x) (text_of bank y)).1 (ap (λ n. text_of bank (record { place = n })) same) in
        absurd cc

-- the number by places is that of the definition
pub number_told : (bank : Terms) (x : NameId) → IsOwn bank x → (k : ℕ) (vs : List Variable) → AllByRecursion (HasVariable bank) vs →
    find_name (map (variable_of bank) vs) k (text_of bank x) ≡ number_in (numbers_from k vs) x
unfolding find_name
number_told bank x own k [] h = refl
number_told bank x own k (v ∷ vs) h = by v.name h.0.name (number_told bank x own (suc k) vs h.1)
  where
    by : (o : Option NameId) → HasNameOr bank o → find_name (map (variable_of bank) vs) (suc k) (text_of bank x) ≡ number_in (numbers_from (suc k) vs) x →
        elim (option_map (text_of bank) o) [
          | None ↦ find_name (map (variable_of bank) vs) (suc k) (text_of bank x)
          | Some y ↦ elim (same_name (text_of bank x) y) [ true ↦ Some k | false ↦ find_name (map (variable_of bank) vs) (suc k) (text_of bank x) ]
        ] ≡ number_in (numbered o k (numbers_from (suc k) vs)) x
    by None n e = e
    by (Some y) n e = test (same_name (text_of bank x) (text_of bank y)) (x.place == y.place) (same_place bank x y own n) e
      where
        test : (a b : Bool) → a ≡ b → find_name (map (variable_of bank) vs) (suc k) (text_of bank x) ≡ number_in (numbers_from (suc k) vs) x →
            elim a [ true ↦ Some k | false ↦ find_name (map (variable_of bank) vs) (suc k) (text_of bank x) ] ≡ (if b then Some k else number_in (numbers_from (suc k) vs) x)
        test true true i f = refl
        test false false i f = f
        test true false i f = absurd cc
        test false true i f = absurd cc

-- a variable by places stands for the one of the definition
pub variable_told : (bank : Terms) (s : Places) (k : ℕ) (v : Variable) → slice_get s.variables k ≡ Some v → slice_get (store_of bank s).variables k ≡ Some (variable_of bank v)
variable_told bank s k v e = slice_get-map (variable_of bank) s.variables k ∙ ap (option_map (variable_of bank)) e

-- so for the whole list
pub numbers_told : (bank : Terms) (s : Places) (x : NameId) → HasStore bank s → IsOwn bank x → number_of s x ≡ named_variable (store_of bank s) (text_of bank x)
unfolding named_variable
numbers_told bank s x h own = sym (number_told bank x own 0 s.variables h.variables)

pub values_told : (bank : Terms) (s : Places) (k : ℕ) → IsStore (store_of bank s) → option_map (tree_of bank) (value_at s k) ≡ value (store_of bank s) k
unfolding value find_value
values_told bank s k i = either (option_map (tree_of bank) (value_at s k)) ∙ sym (value_told bank (map (variable_of bank) s.variables) [] s.values k i.values)
  where
    either : (o : Option Tree) → o ≡ or_older o None
    either None = refl
    either (Some t) = refl

pub some_is : {A : Type 0} {v w : A} → Some v ≡ Some w → v ≡ w
some_is {A} {v} e = ap (λ o. elim o [ Some x ↦ x | None ↦ v ]) e

-- a variable of the definition is the one by places
pub variable_back : (bank : Terms) (s : Places) (k : ℕ) (v : TreeVariable) → k < length s.variables → slice_get (store_of bank s).variables k ≡ Some v →
    (w : Variable) × (slice_get s.variables k ≡ Some w) × (v ≡ variable_of bank w)
variable_back bank s k v h e = by (slice_get s.variables k) refl
  where
    by : (o : Option Variable) → slice_get s.variables k ≡ o → (w : Variable) × (o ≡ Some w) × (v ≡ variable_of bank w)
    by (Some w) i = (w, refl, some_is (sym e ∙ variable_told bank s k w i))
    by None i = absurd (none_some (slice_get-map (variable_of bank) s.variables k ∙ ap (option_map (variable_of bank)) i) e)

-- the values that were given since are taken back
pub taken_back : (old new : Places) (n : ℕ) → GivesMore old new → n ≡ length old.values → record { variables = new.variables; values = take n new.values } ≡ old
taken_back old new n m e =
    ap₂ (λ vs as_. record { variables = vs; values = as_ }) m.variables
    (ap (λ k. take k new.values) e ∙ ap (take (length old.values)) m.values ∙ take-append_seam old.values m.more)
