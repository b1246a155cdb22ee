-- The entries of a family as they are declared are those of the definition.
use Rattle.std.proofs.Common.{◌≡◌, ◌∙◌, ◌+◌, ℕ, zero, suc, refl, sym, ap, ap₂, subst, arith, Bool, true, false, ◌||◌, List, [], ◌∷◌, ◌++◌, map, Option, Some, None, Result, Ok, Err}
use Rattle.std.specs.Prelude.{if◌then◌else◌, slice_get}
use Rattle.std.specs.List.{AllByRecursion}
use Rattle.std.specs.Result.{IsErrAnd, OnOk, is_err}
use Rattle.lq_trees.specs.declared.Sort.{Sort as Universe}
use Rattle.lq_trees.specs.Tree.{Name, Tree, same_name}
use Rattle.lq_trees.specs.Fresh.{is_listed}
use Rattle.lq_terms.specs.declared.nodes.NameId.{NameId}
use Rattle.lq_terms.specs.declared.nodes.TermId.{TermId}
use Rattle.lq_terms.specs.Terms.{Terms, HasName, Grows, text_of}
use Rattle.lq_calculus.specs.Declarations.{Family as TreeFamily, Env as Environment, Entry as TreeEntry, EnvFault as Fault, family, constructor, eliminator, lookup, constructor_type, constructor_kind, first_taken, declared_names, names_of, name_taken, eliminator_name, sorts, family_fault, family_entries, constructor_entries, add_inductive}
use Rattle.lq_env.specs.declared.family.Family.{Family}
use Rattle.lq_env.specs.declared.environment.Declared.{Declared}
use Rattle.lq_env.specs.declared.made.FamilyTypes.{FamilyTypes}
use Rattle.lq_env.specs.declared.family.EnvFault.{EnvFault}
use Rattle.lq_env.specs.Families.{family_of, IsFamily, IsSort, Refuses}
use Rattle.lq_env.specs.Environments.{env_of, IsTyped, IsMade, AreDeclared, IsEnv, Adds, fault_in}
use Rattle.lq_env.specs.Inductive.{HasNames, firsts, eliminator_named, eliminator_for, AreEliminatorNames, constructors_declared, eliminators_declared, family_declared, AreConstructors, AreFree, IsReady}
use Rattle.lq_env.proofs.Families.{family_of-grown, IsFamily-grown}
use Rattle.lq_env.proofs.Lookups.{name_same, same_swap}
use Rattle.lq_env.proofs.Grown.{env_of-grown, IsEnv-grown}
use Rattle.lq_env.proofs.Adding.{env_of-append, env-append, declared-append}
use Rattle.lq_env.proofs.StoredTypes.{map-append}
use Rattle.lq_env.proofs.Declaring.{inductive_ok, inductive_fault, free_names, ready_texts}

clash : (a b : Bool) → a ≡ true → (a || b) ≡ false → ⊥
clash true b e f = absurd cc
clash false b e f = absurd cc

-- the entry of a name that is not listed before it
pub lookup_first : (env rest : Environment) (c : Name) (e : TreeEntry) → is_listed (names_of env) c ≡ false → lookup (env ++ (c, e) ∷ rest) c ≡ Some e
unfolding is_listed
lookup_first [] rest c e h = ap (λ b. if b then Some e else lookup rest c) (name_same c c refl)
lookup_first (d ∷ ds) rest c e h = by (same_name c d.0) (same_swap c d.0) h (λ k. lookup_first ds rest c e k)
  where
    by :
        (b : Bool) → b ≡ same_name d.0 c → (same_name d.0 c || is_listed (names_of ds) c) ≡ false → (is_listed (names_of ds) c ≡ false → lookup (ds ++ (c, e) ∷ rest) c ≡ Some e)
        → (if b then Some d.1 else lookup (ds ++ (c, e) ∷ rest) c) ≡ Some e
    by true s h k = absurd (clash (same_name d.0 c) _ (sym s) h)
    by false s h k = k (ap (λ b. b || is_listed (names_of ds) c) s ∙ h)

-- the first name is not taken
pub not_taken : (taken xs : List Name) (x : Name) → first_taken taken (x ∷ xs) ≡ None → is_listed taken x ≡ false
unfolding first_taken
not_taken taken xs x h = by (is_listed taken x) refl h
  where
    by : (b : Bool) → is_listed taken x ≡ b → ◌≡◌ {A = Option Fault} (elim b [ true ↦ Some (name_taken x) | false ↦ first_taken (x ∷ taken) xs ]) None → is_listed taken x ≡ false
    by true e k = absurd cc
    by false e k = e

module _ (bank : Terms) (f : TreeFamily) where
  -- a family's constructors as entries
  pub constructors_entries : (c : NameId) (k : ℕ) (cs : List (Name × Tree)) (ms : List (NameId × TermId)) → AreConstructors bank f cs ms → env_of bank (constructors_declared c k ms) ≡ constructor_entries (text_of bank c) k cs
  unfolding constructor_entries
  constructors_entries c k [] [] h = refl
  constructors_entries c k [] (m ∷ ms) h = absurd h
  constructors_entries c k (d ∷ ds) [] h = absurd h
  constructors_entries c k (d ∷ ds) (m ∷ ms) h = ap₂ (λ x xs. (x, constructor (text_of bank c) k) ∷ xs) h.1 (constructors_entries c (suc k) ds ms h.3)

  -- they are declared behind their family
  pub constructors_are :
      (env : Environment) (c : NameId) (ss : List Universe) → HasName bank c → lookup env (text_of bank c) ≡ Some (family f ss) → (k : ℕ) (cs : List (Name × Tree)) (ms : List (NameId × TermId)) → AreConstructors bank f cs ms
      → ((j : ℕ) (d : Name × Tree) → slice_get cs j ≡ Some d → slice_get f.constructors (k + j) ≡ Some d) → AreDeclared bank env (constructors_declared c k ms)
  unfolding constructor_kind
  constructors_are env c ss own found k [] [] h at = tt
  constructors_are env c ss own found k [] (m ∷ ms) h at = absurd h
  constructors_are env c ss own found k (d ∷ ds) [] h at = absurd h
  constructors_are env c ss own found k (d ∷ ds) (m ∷ ms) h at =
      let here : k + 0 ≡ k = omega arith in (
        record {
          name = h.0;
          entry = own;
          kind = record {
            owner = f;
            permitted = ss;
            declared = found;
            term = m.1;
            tree = constructor_type f d.1;
            is = kind_at (slice_get f.constructors k) (ap (slice_get f.constructors) (sym here) ∙ at zero d refl);
            kept = refl;
            stored = h.2;
          };
          made = refl;
        },
        constructors_are env c ss own found (suc k) ds ms h.3 (λ j e i. let next : suc k + j ≡ k + suc j = omega arith in ap (slice_get f.constructors) next ∙ at (suc j) e i),
      )
    where
      kind_at : (o : Option (Name × Tree)) → o ≡ Some d → (elim o [ None ↦ None | Some c ↦ Some (constructor_type f c.1) ]) ≡ Some (constructor_type f d.1)
      kind_at o e = ap (λ (z : Option (Name × Tree)). elim z [ None ↦ None | Some c ↦ Some (constructor_type f c.1) ]) e

-- a family's eliminators as entries
module _ (bank : Terms) (c : NameId) where
  as_pairs : (es : List (NameId × Universe)) → env_of bank (eliminators_declared c es) ≡ map {B = Name × TreeEntry} (λ p. (p.0, eliminator (text_of bank c) p.1)) (map (eliminator_named bank) es)
  as_pairs [] = refl
  as_pairs (e ∷ es) = ap (λ xs. (text_of bank e.0, eliminator (text_of bank c) e.1) ∷ xs) (as_pairs es)

  for_pairs : (x : Name) (ss : List Universe) → map {B = Name × TreeEntry} (λ p. (p.0, eliminator x p.1)) (map (eliminator_for x) ss) ≡ map {B = Name × TreeEntry} (λ s. (eliminator_name x s, eliminator x s)) ss
  for_pairs x [] = refl
  for_pairs x (s ∷ ss) = ap (λ xs. (eliminator_name x s, eliminator x s) ∷ xs) (for_pairs x ss)

  pub eliminators_entries : (es : List (NameId × Universe)) → AreEliminatorNames bank (text_of bank c) es → env_of bank (eliminators_declared c es) ≡ map {B = Name × TreeEntry} (λ s. (eliminator_name (text_of bank c) s, eliminator (text_of bank c) s)) sorts
  eliminators_entries es h = as_pairs es ∙ ap (map {B = Name × TreeEntry} (λ p. (p.0, eliminator (text_of bank c) p.1))) h.texts ∙ for_pairs (text_of bank c) sorts

  named_sorts : (es : List (NameId × Universe)) → map (λ p. p.1) (map (eliminator_named bank) es) ≡ map (λ e. e.1) es
  named_sorts [] = refl
  named_sorts (e ∷ es) = ap (λ xs. e.1 ∷ xs) (named_sorts es)

  for_sorts : (x : Name) (ss : List Universe) → map (λ p. p.1) (map (eliminator_for x) ss) ≡ ss
  for_sorts x [] = refl
  for_sorts x (s ∷ ss) = ap (λ xs. s ∷ xs) (for_sorts x ss)

  are_eliminators : (env : Environment) (es : List (NameId × Universe)) → HasName bank c → HasNames bank (firsts es) → AllByRecursion IsSort (map (λ e. e.1) es) → AreDeclared bank env (eliminators_declared c es)
  are_eliminators env [] own h s = tt
  are_eliminators env (e ∷ es) own h s = (record { name = h.0; entry = (own, s.0); kind = refl; made = refl }, are_eliminators env es own h.1 s.1)

  every_sort_is : AllByRecursion IsSort sorts
  every_sort_is = (tt, (omega arith, (omega arith, (omega arith, (omega arith, tt)))))

  pub eliminators_are : (env : Environment) (es : List (NameId × Universe)) (x : Name) → HasName bank c → AreEliminatorNames bank x es → AreDeclared bank env (eliminators_declared c es)
  eliminators_are env es x own h =
      are_eliminators env es own h.has (subst (AllByRecursion IsSort) (sym (sym (named_sorts es) ∙ ap (map (λ p. p.1)) h.texts ∙ for_sorts x sorts)) every_sort_is)

-- the names of a family's entries
entries_names : (c : Name) (k : ℕ) (cs : List (Name × Tree)) → names_of (constructor_entries c k cs) ≡ map (λ d. d.0) cs
unfolding constructor_entries
entries_names c k [] = refl
entries_names c k (d ∷ ds) = ap (λ xs. d.0 ∷ xs) (entries_names c (suc k) ds)

sorts_names : (c : Name) (ss : List Universe) → names_of (map {B = Name × TreeEntry} (λ s. (eliminator_name c s, eliminator c s)) ss) ≡ map (eliminator_name c) ss
sorts_names c [] = refl
sorts_names c (s ∷ ss) = ap (λ xs. eliminator_name c s ∷ xs) (sorts_names c ss)

pub family_names : (f : TreeFamily) (ss : List Universe) → names_of (family_entries f ss) ≡ declared_names f
unfolding family_entries declared_names
family_names f ss =
    ap (λ xs. f.name ∷ xs)
    (map-append (λ e. e.0) (constructor_entries f.name 0 f.constructors) (map {B = Name × TreeEntry} (λ s. (eliminator_name f.name s, eliminator f.name s)) sorts) ∙ ap₂ (λ xs ys. xs ++ ys) (entries_names f.name 0 f.constructors) (sorts_names f.name sorts))

-- a family that is ready, behind the others
module _ (old new : Terms) (g : Grows old new) (ds : List (NameId × Declared)) (p : IsEnv old ds) (f : Family) (q : IsFamily old f) (ss : List Universe) (s : AllByRecursion IsSort ss) (es : List (NameId × Universe)) (t : FamilyTypes)
    (r : IsReady new (env_of old ds) (family_of old f) ss es t) where
  own_name : text_of new f.name ≡ text_of old f.name
  own_name = g.text f.name q.has.name

  own : family_of new f ≡ family_of old f
  own = family_of-grown old new g f q.has

  is_new : IsFamily new f
  is_new = IsFamily-grown old new g f q

  own_names : AreEliminatorNames new (text_of new f.name) es
  own_names = subst (λ c. AreEliminatorNames new c es) (sym own_name) r.names

  pub entries_are : env_of new (family_declared f ss t es) ≡ family_entries (family_of old f) ss
  unfolding family_entries
  entries_are =
      ap₂ (λ x xs. x ∷ xs) (ap₂ (λ c F. (c, family F ss)) own_name own)
      (env_of-append new (constructors_declared f.name 0 t.constructors.items) (eliminators_declared f.name es)
      ∙ ap₂ (λ xs ys. xs ++ ys) (constructors_entries new (family_of old f) f.name 0 (family_of old f).constructors t.constructors.items r.types.constructors ∙ ap (λ c. constructor_entries c 0 (family_of old f).constructors) own_name)
      (eliminators_entries new f.name es own_names ∙ ap (λ c. map {B = Name × TreeEntry} (λ s. (eliminator_name c s, eliminator c s)) sorts) own_name))

  whole : env_of new (ds ++ family_declared f ss t es) ≡ env_of old ds ++ family_entries (family_of old f) ss
  whole = env_of-append new ds (family_declared f ss t es) ∙ ap₂ (λ xs ys. xs ++ ys) (env_of-grown old new g ds p) entries_are

  found : lookup (env_of old ds ++ family_entries (family_of old f) ss) (text_of new f.name) ≡ Some (family (family_of old f) ss)
  unfolding family_entries declared_names
  found =
      ap (lookup (env_of old ds ++ family_entries (family_of old f) ss)) own_name
      ∙ lookup_first (env_of old ds) _ (text_of old f.name) (family (family_of old f) ss) (not_taken (names_of (env_of old ds)) _ (text_of old f.name) r.new)

  parts_are : AreDeclared new (env_of old ds ++ family_entries (family_of old f) ss) (family_declared f ss t es)
  parts_are = (
    record {
      name = is_new.has.name;
      entry = (is_new, s);
      kind = subst (λ F. IsTyped new F (Some t.kind)) (sym own) (record { term = t.kind; kept = refl; stored = r.types.kind });
      made = subst (λ F. IsMade new F ss (Some t.made)) (sym own) (record { kept = t.made; is = refl; eliminators = r.types.eliminators; rules = r.types.rules });
    },
    declared-append new _ (constructors_declared f.name 0 t.constructors.items) (eliminators_declared f.name es)
        (constructors_are new (family_of old f) _ f.name ss is_new.has.name found 0 (family_of old f).constructors t.constructors.items r.types.constructors (λ j d e. let same : 0 + j ≡ j = omega arith in ap (slice_get (family_of old f).constructors) same ∙ e))
        (eliminators_are new f.name _ es (text_of old f.name) is_new.has.name r.names),
  )

  pub declares : (result : List (NameId × Declared)) → result ≡ ds ++ family_declared f ss t es → Adds new (Ok tt) result (add_inductive (env_of old ds) (family_of old f) ss)
  declares result is =
      let names : first_taken (names_of (env_of new ds)) (names_of (env_of new (family_declared f ss t es))) ≡ None =
      ap₂ (λ env more. first_taken (names_of env) (names_of more)) (env_of-grown old new g ds p) entries_are ∙ ap (first_taken (names_of (env_of old ds))) (family_names (family_of old f) ss) ∙ r.new in
      subst (λ z. Adds new (Ok tt) z (add_inductive (env_of old ds) (family_of old f) ss)) (sym is) (
        env-append new ds (family_declared f ss t es) (IsEnv-grown old new g ds p) names (subst (λ env. AreDeclared new env (family_declared f ss t es)) (sym whole) parts_are),
        inductive_ok new (env_of old ds) (family_of old f) ss es t r ∙ ap Ok (sym whole),
      )

  pub ready_free : (cs : List (NameId × TermId)) → firsts cs ≡ firsts f.constructors → (xs : List (NameId × Universe)) → xs ≡ es → AreFree ds (f.name ∷ firsts cs ++ firsts xs)
  ready_free cs e xs h =
      subst (λ zs. AreFree ds (f.name ∷ zs ++ firsts xs)) (sym e)
      (subst (λ zs. AreFree ds (f.name ∷ firsts f.constructors ++ firsts zs)) (sym h)
      (free_names new ds (names_of (env_of old ds)) (f.name ∷ firsts f.constructors ++ firsts es) (λ y k. ap (λ env. is_listed (names_of env) y) (env_of-grown old new g ds p) ∙ k)
      (ap (first_taken (names_of (env_of old ds))) (ready_texts old new g ds p f q.has es r.names) ∙ r.new)))

-- a refusal of what comes before
pub refused : (bank : Terms) (r : Result (Unit {0}) EnvFault) (e : EnvFault) (new : List (NameId × Declared)) (env : Environment) (f : TreeFamily) (ss : List Universe) → IsErrAnd r (λ y. y ≡ e) → Refuses bank e (family_fault env f ss)
    → Adds bank r new (add_inductive env f ss)
refused bank (Ok a) e new env f ss i h = absurd i
refused bank (Err y) e new env f ss i h = subst (λ z. Refuses bank z (fault_in (add_inductive env f ss))) (sym i) (subst (Refuses bank e) (sym (inductive_fault bank e env f f ss)) h)

-- what holds of an answer that is none of an error
pub on_ok : {A E : Type 0} (r : Result A E) (P : Type 0) → OnOk r P → is_err r ≡ false → P
on_ok (Ok a) P h e = h
on_ok (Err y) P h e = absurd cc
