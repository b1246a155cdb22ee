-- What the map of names tells, and how it changes.
use Rattle.std.proofs.Common.{◌≡◌, ◌∙◌, ℕ, refl, sym, ap, ap₂, arith, Bool, true, false, cond, List, [], ◌∷◌, length, Option, None, Some, if◌then◌else◌}
use Rattle.std.proofs.Common.{subst as along}
use Rattle.std.specs.Prelude.{◌==◌}
use Rattle.std.specs.Map.{lookup}
use Rattle.indexmap.specs.IndexMap.{insert_entry}
use Rattle.lq_trees.specs.Tree.{Name, same_name}
use Rattle.lq_terms.specs.declared.nodes.NameId.{NameId}
use Rattle.lq_terms.specs.Terms.{Terms, HasName, Grows, text_of}
use Rattle.lq_terms.proofs.Growth.{Grows-refl, Grows-trans}
use Rattle.lq_solving.proofs.InstanceLaws.{same_is, is_same}
use Rattle.lq_elab.specs.Naming as tree
use Rattle.lq_elab.specs.Naming.{with_meaning}
use Rattle.lq_elab.specs.declared.scope.Meaning.{Meaning}
use Rattle.lq_elab.specs.Scopes.{NamesApart, meaning_of, HasMeaning, set_at, IsScope}

-- what a look-up finds, else a global
abbrev pub or_global : Option Meaning → Meaning
or_global (Some m) = m
or_global None = Meaning.Global

module _ (x : NameId) (test : NameId → Bool) (is_place : (y : NameId) → test y ≡ (x.place == y.place)) where
  pub set_by : (es : List (NameId × Meaning)) → or_global (lookup test es) ≡ set_at es x
  set_by [] = refl
  set_by (e ∷ es) = either (test e.0) (x.place == e.0.place) (is_place e.0) (set_by es)
    where
      either : (a b : Bool) → a ≡ b → or_global (lookup test es) ≡ set_at es x → or_global (cond a (Some e.1) (lookup test es)) ≡ (if b then e.1 else set_at es x)
      either true true i k = refl
      either false false i k = k
      either true false i k = absurd cc
      either false true i k = absurd cc

itself : (n : ℕ) → (n == n) ≡ true
itself n = grind arith

-- one place is another
place_is : (x y : NameId) → (x.place == y.place) ≡ true → x ≡ y
place_is x y e = grind (arith, e)

module _ (eq : NameId → NameId → Bool) (is_place : (x y : NameId) → eq x y ≡ (x.place == y.place)) (k : NameId) (v : Meaning) (x : NameId) where
  pub set_inserted : (es : List (NameId × Meaning)) → set_at (insert_entry eq es k v) x ≡ (if x.place == k.place then v else set_at es x)
  set_inserted [] = refl
  set_inserted (e ∷ es) = at (eq k e.0) refl (set_inserted es)
    where
      other : (b c : Bool) → (x.place == e.0.place) ≡ b → (x.place == k.place) ≡ c → eq k e.0 ≡ false → set_at (insert_entry eq es k v) x ≡ (if c then v else set_at es x) →
          (if b then e.1 else set_at (insert_entry eq es k v) x) ≡ (if c then v else if b then e.1 else set_at es x)
      other true true i j n ih = absurd (grind (arith, is_place k e.0, i, j, n))
      other true false i j n ih = refl
      other false true i j n ih = ih
      other false false i j n ih = ih

      at : (b : Bool) → eq k e.0 ≡ b → set_at (insert_entry eq es k v) x ≡ (if x.place == k.place then v else set_at es x) →
          set_at (if b then (e.0, v) ∷ es else e ∷ insert_entry eq es k v) x ≡ (if x.place == k.place then v else if x.place == e.0.place then e.1 else set_at es x)
      at true i ih =
          let same : e.0 ≡ k = sym (place_is k e.0 (sym (is_place k e.0) ∙ i)) in
          ap (λ z. if x.place == z.place then v else set_at es x) same ∙ hidden (x.place == k.place) refl same
        where
          hidden : (c : Bool) → (x.place == k.place) ≡ c → e.0 ≡ k → (if c then v else set_at es x) ≡ (if c then v else if x.place == e.0.place then e.1 else set_at es x)
          hidden true j same = refl
          hidden false j same = ap (λ d. if d then e.1 else set_at es x) (sym (ap (λ z. x.place == z.place) same ∙ j))
      at false i ih = other (x.place == e.0.place) (x.place == k.place) refl refl i ih

-- a meaning keeps what it stands for while the bank grows
pub meaning_grown : (old new : Terms) → Grows old new → (m : Meaning) → HasMeaning old m → meaning_of new m ≡ meaning_of old m
meaning_grown old new g (Meaning.Variable y K) h = ap₂ (λ z w. Some (tree.variable z w)) (g.text y h.0) (g.tree K h.1)
meaning_grown old new g (Meaning.Value t) h = ap (λ z. Some (tree.term z)) (g.tree t h)
meaning_grown old new g Meaning.Nothing h = refl
meaning_grown old new g Meaning.NoTerm h = refl
meaning_grown old new g Meaning.Global h = refl

pub has_meaning_grown : (old new : Terms) → Grows old new → (m : Meaning) → HasMeaning old m → HasMeaning new m
has_meaning_grown old new g (Meaning.Variable y K) h = (omega (arith, h.0, g.names), omega (arith, h.1, g.nodes))
has_meaning_grown old new g (Meaning.Value t) h = omega (arith, h, g.nodes)
has_meaning_grown old new g Meaning.Nothing h = tt
has_meaning_grown old new g Meaning.NoTerm h = tt
has_meaning_grown old new g Meaning.Global h = tt

pub scope_grown : (old new : Terms) → Grows old new → (M : Name → Option tree.Meaning) (es : List (NameId × Meaning)) → IsScope old M es → IsScope new M es
scope_grown old new g M es h = record {
  has = λ x. has_meaning_grown old new g (set_at es x) (h.has x);
  is = λ later k apart x has. h.is later (Grows-trans old new later g k) apart x has;
}

-- meanings that are the same for each name
pub scope_same : (bank : Terms) (M N : Name → Option tree.Meaning) (es : List (NameId × Meaning)) → ((z : Name) → M z ≡ N z) → IsScope bank M es → IsScope bank N es
scope_same bank M N es e h = record { has = h.has; is = λ new g apart x has. h.is new g apart x has ∙ e (text_of new x) }

-- one name has another meaning
module _ (eq : NameId → NameId → Bool) (is_place : (x y : NameId) → eq x y ≡ (x.place == y.place)) (bank : Terms) (M N : Name → Option tree.Meaning) (es : List (NameId × Meaning)) (h : IsScope bank M es) (k : NameId) (own : HasName bank k)
    (v : Meaning) (has : HasMeaning bank v) (here : meaning_of bank v ≡ N (text_of bank k)) (others : (z : Name) → same_name (text_of bank k) z ≡ false → N z ≡ M z) where
  pub scope_inserted : IsScope bank N (insert_entry eq es k v)
  scope_inserted = record {
    has = λ x. along (HasMeaning bank) (sym (set_inserted eq is_place k v x es)) (one x (x.place == k.place));
    is = λ new g apart x inside. ap (meaning_of new) (set_inserted eq is_place k v x es) ∙ at new g apart x inside (x.place == k.place) refl;
  }
    where
      one : (x : NameId) (b : Bool) → HasMeaning bank (if b then v else set_at es x)
      one x true = has
      one x false = h.has x

      apart_from : (new : Terms) → Grows bank new → NamesApart new → (x : NameId) → HasName new x → (x.place == k.place) ≡ false → (b : Bool) → same_name (text_of bank k) (text_of new x) ≡ b → b ≡ false
      apart_from new g apart x inside i false e = refl
      apart_from new g apart x inside i true e =
          let same : x ≡ k = apart x k inside (omega (arith, own, g.names)) (sym (same_is (text_of bank k) (text_of new x) e) ∙ sym (g.text k own)) in
          let q : ◌≡◌ {A = Bool} false true = sym i ∙ ap (λ z. z.place == k.place) same ∙ itself k.place in
          absurd (grind (arith, q))

      at : (new : Terms) → Grows bank new → NamesApart new → (x : NameId) → HasName new x → (b : Bool) → (x.place == k.place) ≡ b → meaning_of new (if b then v else set_at es x) ≡ N (text_of new x)
      at new g apart x inside true i =
          meaning_grown bank new g v has ∙ here ∙ ap N (sym (g.text k own)) ∙ ap (λ z. N (text_of new z)) (sym (place_is x k i))
      at new g apart x inside false i =
          h.is new g apart x inside
          ∙ sym (others (text_of new x) (let q = apart_from new g apart x inside i (same_name (text_of bank k) (text_of new x)) refl in q))

-- what is set, and what is restored
pub set_here : (x : Name) (m : tree.Meaning) (M : Name → Option tree.Meaning) → (x ≡ [] → ⊥) → Some m ≡ with_meaning x m M x
unfolding with_meaning
set_here [] m M e = absurd (e refl)
set_here (c ∷ x) m M e = ap (λ b. elim b [ true ↦ Some m | false ↦ M (c ∷ x) ]) (sym (is_same (c ∷ x)))

pub set_others : (x : Name) (m : tree.Meaning) (M : Name → Option tree.Meaning) (z : Name) → same_name x z ≡ false → with_meaning x m M z ≡ M z
unfolding with_meaning
set_others [] m M z e = refl
set_others (c ∷ x) m M z e = ap (λ b. elim b [ true ↦ Some m | false ↦ M z ]) e

pub set_none : (x : Name) (m : tree.Meaning) (M : Name → Option tree.Meaning) → x ≡ [] → (z : Name) → with_meaning x m M z ≡ M z
unfolding with_meaning
set_none [] m M e z = refl
set_none (c ∷ x) m M e z = absurd (grind (arith, e))

module _ (eq : NameId → NameId → Bool) (is_place : (x y : NameId) → eq x y ≡ (x.place == y.place)) (bank : Terms) (es : List (NameId × Meaning)) (k : NameId) (own : HasName bank k) (v : Meaning) (has : HasMeaning bank v) where
  pub is_set : (text_of bank k ≡ [] → ⊥) → (old : Name → Option tree.Meaning) (m : tree.Meaning) → IsScope bank old es → meaning_of bank v ≡ Some m → IsScope bank (with_meaning (text_of bank k) m old) (insert_entry eq es k v)
  is_set some old m h e =
      scope_inserted eq is_place bank old (with_meaning (text_of bank k) m old) es h k own v has (e ∙ set_here (text_of bank k) m old some) (λ z n. set_others (text_of bank k) m old z n)

  pub is_restored : (new : Name → Option tree.Meaning) (m : tree.Meaning) → IsScope bank (with_meaning (text_of bank k) m new) es → meaning_of bank v ≡ new (text_of bank k) → IsScope bank new (insert_entry eq es k v)
  is_restored new m h e = scope_inserted eq is_place bank (with_meaning (text_of bank k) m new) new es h k own v has e (λ z n. sym (set_others (text_of bank k) m new z n))

-- a name that is set is not absent
pub not_absent : (bank : Terms) → NamesApart bank → (es : List (NameId × Meaning)) (k : NameId) → HasName bank k → (text_of bank k ≡ [] → ⊥) → (new : Name → Option tree.Meaning) (m : tree.Meaning) → IsScope bank (with_meaning (text_of bank k) m new) es → set_at es k ≡ Meaning.Global → ⊥
not_absent bank apart es k own some new m h e =
    let q : ◌≡◌ {A = Option tree.Meaning} None (Some m) = ap (meaning_of bank) (sym e) ∙ h.is bank (Grows-refl bank) apart k own ∙ sym (set_here (text_of bank k) m new some) in
    absurd (grind (arith, q))

-- a text without bytes, and one with some
pub none_of : (x : Name) → (length x == 0) ≡ true → x ≡ []
none_of [] e = refl
none_of (c ∷ x) e = absurd (grind (arith, e))

pub some_of : (x : Name) → (length x == 0) ≡ false → x ≡ [] → ⊥
some_of [] e q = absurd (grind (arith, e))
some_of (c ∷ x) e q = absurd (grind (arith, q))
