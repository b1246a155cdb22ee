-- What is declared under a name, as a map finds it, and as the definition does.
use Rattle.std.proofs.Common.{◌≡◌, ◌∙◌, sym, refl, ap, subst, Bool, true, false, cond, List, [], ◌∷◌, ◌++◌, Some, None, eqb-true, eq-eqb}
use Rattle.std.specs.Prelude.{if◌then◌else◌, ◌==◌, option_map}
use Rattle.std.specs.Map.{lookup}
use Rattle.std.proofs.lemmas.Slice.Eq.{bytes_eq-Decides}
use Rattle.indexmap.specs.IndexMap.{insert_entry}
use Rattle.lq_trees.specs.Tree.{Name, same_name}
use Rattle.lq_terms.specs.declared.nodes.NameId.{NameId}
use Rattle.lq_terms.specs.Terms.{Terms, HasName, text_of}
use Rattle.lq_calculus.specs.Declarations.{Entry as TreeEntry, lookup as entry_under}
use Rattle.lq_env.specs.declared.environment.Declared.{Declared}
use Rattle.lq_env.specs.Environments.{declared_of, entry_of, env_of, IsOwn, IsDeclared, AreDeclared}

module _ (x : NameId) (test : NameId → Bool) (is_place : (y : NameId) → test y ≡ (x.place == y.place)) where
  pub declared_by : (ds : List (NameId × Declared)) → lookup test ds ≡ declared_of ds x
  declared_by [] = refl
  declared_by (d ∷ ds) = either (test d.0) (x.place == d.0.place) (is_place d.0) (declared_by ds)
    where
      either : (a b : Bool) → a ≡ b → lookup test ds ≡ declared_of ds x → cond a (Some d.1) (lookup test ds) ≡ (if b then Some d.1 else declared_of ds x)
      either true true e k = refl
      either false false e k = k
      either true false e k = absurd cc
      either false true e k = absurd cc

-- a new declaration goes last
module _ (x : NameId) (v : Declared) (eq : NameId → NameId → Bool) (is_place : (y : NameId) → eq x y ≡ (x.place == y.place)) where
  pub declared_last : (ds : List (NameId × Declared)) → declared_of ds x ≡ None → insert_entry eq ds x v ≡ ds ++ (x, v) ∷ []
  declared_last [] e = refl
  declared_last (d ∷ ds) e = either (eq x d.0) (x.place == d.0.place) (is_place d.0) e (λ k. declared_last ds k)
    where
      either :
          (a b : Bool) → a ≡ b → (if b then Some d.1 else declared_of ds x) ≡ None → (declared_of ds x ≡ None → insert_entry eq ds x v ≡ ds ++ (x, v) ∷ [])
          → (if a then (d.0, v) ∷ ds else d ∷ insert_entry eq ds x v) ≡ d ∷ ds ++ (x, v) ∷ []
      either true true e k h = absurd cc
      either true false e k h = absurd cc
      either false true e k h = absurd cc
      either false false e k h = rw (h k) refl

pub name_is : (x y : Name) → same_name x y ≡ true → x ≡ y
name_is x y e = (bytes_eq-Decides x y).0 e

pub name_same : (x y : Name) → x ≡ y → same_name x y ≡ true
name_same x y e = (bytes_eq-Decides x y).1 e

-- two names are one exactly where their texts are
pub own_same : (bank : Terms) (x y : NameId) → IsOwn bank x → HasName bank y → same_name (text_of bank x) (text_of bank y) ≡ (x.place == y.place)
own_same bank x y own h = either (same_name (text_of bank x) (text_of bank y)) (x.place == y.place) refl refl
  where
    either : (a b : Bool) → same_name (text_of bank x) (text_of bank y) ≡ a → (x.place == y.place) ≡ b → a ≡ b
    either true true e f = refl
    either false false e f = refl
    either true false e f =
        let same : y ≡ x = own.apart y h (sym (name_is (text_of bank x) (text_of bank y) e)) in
        let j : (x.place == y.place) ≡ true = eq-eqb x.place y.place (ap (λ z. z.place) (sym same)) in
        absurd cc
    either false true e f =
        let same : x.place ≡ y.place = eqb-true x.place y.place f in
        let j : same_name (text_of bank x) (text_of bank y) ≡ true = name_same (text_of bank x) (text_of bank y) (ap (λ n. text_of bank (record { place = n })) same) in
        absurd cc

pub same_swap : (a b : Name) → same_name a b ≡ same_name b a
same_swap a b = either (same_name a b) (same_name b a) refl refl
  where
    either : (p q : Bool) → same_name a b ≡ p → same_name b a ≡ q → p ≡ q
    either true true e f = refl
    either false false e f = refl
    either true false e f = let j : same_name b a ≡ true = name_same b a (sym (name_is a b e)) in absurd cc
    either false true e f = let j : same_name a b ≡ true = name_same a b (sym (name_is b a f)) in absurd cc

pub same_turned : (bank : Terms) (x y : NameId) → IsOwn bank x → HasName bank y → same_name (text_of bank y) (text_of bank x) ≡ (x.place == y.place)
same_turned bank x y own h = same_swap (text_of bank y) (text_of bank x) ∙ own_same bank x y own h

-- the entry of a text is that of the name
pub lookup_of : (bank : Terms) (x : NameId) → IsOwn bank x → (env : List (Name × TreeEntry)) (ds : List (NameId × Declared)) → AreDeclared bank env ds → entry_under (env_of bank ds) (text_of bank x) ≡ option_map (λ d. entry_of bank d.entry) (declared_of ds x)
lookup_of bank x own env [] p = refl
lookup_of bank x own env (d ∷ ds) p = either (same_name (text_of bank x) (text_of bank d.0)) (x.place == d.0.place) (own_same bank x d.0 own p.0.name) (lookup_of bank x own env ds p.1)
  where
    either :
        (a b : Bool) → a ≡ b → entry_under (env_of bank ds) (text_of bank x) ≡ option_map (λ d. entry_of bank d.entry) (declared_of ds x)
        → (if a then Some (entry_of bank d.1.entry) else entry_under (env_of bank ds) (text_of bank x)) ≡ option_map (λ d. entry_of bank d.entry) (if b then Some d.1 else declared_of ds x)
    either true true e k = refl
    either false false e k = k
    either true false e k = absurd cc
    either false true e k = absurd cc

-- what is found is declared
pub declared_is : (bank : Terms) (x : NameId) (env : List (Name × TreeEntry)) (ds : List (NameId × Declared)) (v : Declared) → AreDeclared bank env ds → declared_of ds x ≡ Some v → (y : NameId) × IsDeclared bank env (y, v)
declared_is bank x env [] v p e = absurd cc
declared_is bank x env (d ∷ ds) v p e = either (x.place == d.0.place) e (λ f. declared_is bank x env ds v p.1 f)
  where
    either : (b : Bool) → (if b then Some d.1 else declared_of ds x) ≡ Some v → (declared_of ds x ≡ Some v → (y : NameId) × IsDeclared bank env (y, v)) → (y : NameId) × IsDeclared bank env (y, v)
    either true f k = let same : d.1 ≡ v = cc in (d.0, subst (λ z. IsDeclared bank env (d.0, z)) same p.0)
    either false f k = k f
