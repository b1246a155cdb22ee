-- A family's declaration is that of the definition: its faults in order, and its entries.
use Rattle.std.proofs.Common.{◌≡◌, ◌∙◌, ◌+◌, ◌<◌, ℕ, zero, suc, refl, sym, ap, ap₂, subst, arith, Bool, true, false, ◌||◌, List, [], ◌∷◌, ◌++◌, map, length, get_or, drop, take, Option, Some, None, Ok, Err, eqb-true}
use Rattle.std.proofs.lemmas.List.{drop_more, take_more}
use Rattle.std.specs.Prelude.{if◌then◌else◌, ◌==◌}
use Rattle.std.specs.List.{AllByRecursion}
use Rattle.lq_trees.specs.declared.Sort.{Sort as Universe}
use Rattle.lq_trees.specs.declared.Fit.{Fit}
use Rattle.lq_trees.specs.Tree.{Name, Tree, same_name}
use Rattle.lq_trees.specs.Fresh.{is_listed}
use Rattle.lq_trees.specs.Size.{fit}
use Rattle.lq_terms.specs.declared.nodes.NameId.{NameId}
use Rattle.lq_terms.specs.declared.nodes.TermId.{TermId}
use Rattle.lq_terms.specs.Terms.{Terms, Grows, text_of}
use Rattle.lq_calculus.specs.Declarations.{Family as TreeFamily, Env as Environment, EnvFault as Fault, family_type, constructor_type, elim_type, constructors_fault, first_taken, first_fault, first_stored, stored_types, declared_names, names_of, name_taken, eliminator_name, permitted_of, sorts, family_fault, family_entries, add_inductive}
use Rattle.lq_env.specs.declared.family.Family.{Family}
use Rattle.lq_env.specs.declared.family.EnvFault.{EnvFault}
use Rattle.lq_env.specs.declared.environment.Entry.{Entry}
use Rattle.lq_env.specs.declared.environment.Declared.{Declared}
use Rattle.lq_env.specs.declared.made.FamilyTypes.{FamilyTypes}
use Rattle.lq_env.specs.Families.{constructors_of, family_of, HasConstructor, HasFamily, IsFamily, Refuses, Stores}
use Rattle.lq_env.specs.Environments.{declared_of, named_of, env_of, fault_in, IsStored, AreEliminators, AreRules, IsEnv, Extends}
use Rattle.lq_env.specs.Inductive.{HasNames, texts_of, firsts, eliminator_named, eliminator_for, AreEliminatorNames, AreFree, constructors_declared, eliminators_declared, AreConstructors, AreTypes, IsReady}
use Rattle.lq_env.proofs.Families.{family_of-grown, HasFamily-grown}
use Rattle.lq_env.proofs.Lookups.{name_same}
use Rattle.lq_terms.proofs.Growth.{Grows-trans}
use Rattle.lq_env.proofs.Grown.{env_of-grown, IsStored-grown, each_stored-grown}
use Rattle.lq_env.proofs.Adding.{env_of-append}
use Rattle.lq_env.proofs.Naming.{HasNames-grown, named-grown}
use Rattle.lq_env.proofs.StoredTypes.{AllFit, refuses_at, stored_behind, stored_all, constructors_fit, map-append, constructors-grown}

-- the first of two faults
pub refuses_first : (bank : Terms) (e : EnvFault) (a b : Option Fault) → Refuses bank e a → Refuses bank e (first_fault a b)
refuses_first bank (EnvFault.NameTaken x) a b h = (h.0, ap (λ z. first_fault z b) h.1)
refuses_first bank (EnvFault.NotPositive c k) a b h = (h.0, ap (λ z. first_fault z b) h.1)
refuses_first bank (EnvFault.NestedUse c k) a b h = (h.0, ap (λ z. first_fault z b) h.1)
refuses_first bank (EnvFault.BadResult c) a b h = (h.0, ap (λ z. first_fault z b) h.1)
refuses_first bank (EnvFault.ElimForbidden c s) a b h = (h.0, ap (λ z. first_fault z b) h.1)
refuses_first bank EnvFault.TooLarge a b h = ap (λ z. first_fault z b) h
refuses_first bank EnvFault.TooDeep a b h = ap (λ z. first_fault z b) h
refuses_first bank EnvFault.NoMemory a b h = tt

pub refuses_second : (bank : Terms) (e : EnvFault) (a b : Option Fault) → a ≡ None → Refuses bank e b → Refuses bank e (first_fault a b)
refuses_second bank e a b n h = subst (λ z. Refuses bank e (first_fault z b)) (sym n) h

-- the first fault of two lists
pub stored_append : (ts us : List Tree) → first_stored (ts ++ us) ≡ first_fault (first_stored ts) (first_stored us)
unfolding first_stored
stored_append [] us = refl
stored_append (t ∷ ts) us = ap (first_fault _) (stored_append ts us) ∙ assoc _ (first_stored ts) (first_stored us)
  where
    assoc : (a b c : Option Fault) → first_fault a (first_fault b c) ≡ first_fault (first_fault a b) c
    assoc None b c = refl
    assoc (Some e) b c = refl

-- the faults of what is stored, in order
module _ (bank : Terms) (e : EnvFault) (f g : TreeFamily) (ss : List Universe) where
  pub types_first : Stores bank (Err e) (family_type f) → Refuses bank e (first_stored (stored_types f ss))
  unfolding stored_types
  types_first h = refuses_at bank e [] (family_type f) (map (λ c. constructor_type f c.1) f.constructors ++ map (elim_type f) (permitted_of ss sorts)) tt h

  pub types_second : g ≡ f → fit (family_type f) ≡ Fit.Fits → Refuses bank e (first_stored (map (λ c. constructor_type g c.1) g.constructors)) → Refuses bank e (first_stored (stored_types f ss))
  unfolding stored_types
  types_second is k h =
      let own : Refuses bank e (first_stored (map (λ c. constructor_type f c.1) f.constructors)) = subst (λ z. Refuses bank e (first_stored (map (λ c. constructor_type z c.1) z.constructors))) is h in
      subst (Refuses bank e)
      (sym (stored_behind (family_type f ∷ []) (map (λ c. constructor_type f c.1) f.constructors ++ map (elim_type f) (permitted_of ss sorts)) (k, tt) ∙ stored_append (map (λ c. constructor_type f c.1) f.constructors) (map (elim_type f) (permitted_of ss sorts))))
      (refuses_first bank e _ (first_stored (map (elim_type f) (permitted_of ss sorts))) own)

  pub types_third : g ≡ f → fit (family_type f) ≡ Fit.Fits → AllFit (map (λ c. constructor_type f c.1) f.constructors) → Refuses bank e (first_stored (map (elim_type g) (permitted_of ss sorts))) → Refuses bank e (first_stored (stored_types f ss))
  unfolding stored_types
  types_third is k l h =
      subst (Refuses bank e) (sym (stored_behind (family_type f ∷ map (λ c. constructor_type f c.1) f.constructors) (map (elim_type f) (permitted_of ss sorts)) (k, l))) (subst (λ z. Refuses bank e (first_stored (map (elim_type z) (permitted_of ss sorts)))) is h)

-- what is stored is within the limits
pub elims_fit : (bank : Terms) (f : TreeFamily) (es : List (Universe × TermId)) → AllByRecursion (λ e. IsStored bank e.1 (elim_type f e.0)) es → AllFit (map (elim_type f) (map (λ e. e.0) es))
elims_fit bank f [] h = tt
elims_fit bank f (e ∷ es) h = (h.0.fits, elims_fit bank f es h.1)

pub types_none : (bank : Terms) (f : TreeFamily) (ss : List Universe) (t : FamilyTypes) → AreTypes bank f ss t → first_stored (stored_types f ss) ≡ None
unfolding stored_types
types_none bank f ss t h =
    stored_behind (family_type f ∷ map (λ c. constructor_type f c.1) f.constructors) (map (elim_type f) (permitted_of ss sorts)) (h.kind.fits, constructors_fit bank f f.constructors t.constructors.items h.constructors)
    ∙ stored_all (map (elim_type f) (permitted_of ss sorts)) (subst (λ xs. AllFit (map (elim_type f) xs)) h.eliminators.into (elims_fit bank f t.made.eliminators.items h.eliminators.types))

-- the faults of a family, in order
module _ (bank : Terms) (e : EnvFault) (env : Environment) (f g : TreeFamily) (ss : List Universe) where
  pub fault_names : Refuses bank e (first_taken (names_of env) (declared_names f)) → Refuses bank e (family_fault env f ss)
  unfolding family_fault
  fault_names h = refuses_first bank e _ _ h

  pub fault_tests : g ≡ f → first_taken (names_of env) (declared_names f) ≡ None → Refuses bank e (constructors_fault g g.constructors) → Refuses bank e (family_fault env f ss)
  unfolding family_fault
  fault_tests is n h = refuses_second bank e _ _ n (refuses_first bank e _ _ (subst (λ z. Refuses bank e (constructors_fault z z.constructors)) is h))

  pub fault_types : g ≡ f → first_taken (names_of env) (declared_names f) ≡ None → constructors_fault f f.constructors ≡ None → Refuses bank e (first_stored (stored_types g ss)) → Refuses bank e (family_fault env f ss)
  unfolding family_fault
  fault_types is n m h = refuses_second bank e _ _ n (refuses_second bank e _ _ m (subst (λ z. Refuses bank e (first_stored (stored_types z ss))) is h))

  pub inductive_fault : fault_in (add_inductive env f ss) ≡ family_fault env f ss
  unfolding add_inductive
  inductive_fault = by (family_fault env f ss)
    where
      by : (o : Option Fault) → fault_in (elim o [ Some e ↦ Err e | None ↦ Ok (env ++ family_entries f ss) ]) ≡ o
      by None = refl
      by (Some e) = refl

pub inductive_ok : (bank : Terms) (env : Environment) (f : TreeFamily) (ss : List Universe) (es : List (NameId × Universe)) (t : FamilyTypes) → IsReady bank env f ss es t → add_inductive env f ss ≡ Ok (env ++ family_entries f ss)
unfolding add_inductive family_fault
inductive_ok bank env f ss es t h =
    ap (λ (o : Option Fault). elim o [ Some e ↦ Err e | None ↦ Ok (env ++ family_entries f ss) ])
    (ap (λ z. first_fault z (first_fault (constructors_fault f f.constructors) (first_stored (stored_types f ss)))) h.new ∙ ap (λ z. first_fault z (first_stored (stored_types f ss))) h.sound ∙ types_none bank f ss t h.types)

-- the names that a family declares, in a bank
pub has_append : (bank : Terms) (xs ys : List NameId) → HasNames bank xs → HasNames bank ys → HasNames bank (xs ++ ys)
has_append bank [] ys h k = k
has_append bank (x ∷ xs) ys h k = (h.0, has_append bank xs ys h.1 k)

pub constructors_have : (bank : Terms) (cs : List (NameId × TermId)) → AllByRecursion (HasConstructor bank) cs → HasNames bank (firsts cs)
constructors_have bank [] h = tt
constructors_have bank (c ∷ cs) h = (h.0.0, constructors_have bank cs h.1)

pub declared_have : (bank : Terms) (f : Family) (es : List (NameId × Universe)) → HasFamily bank f → HasNames bank (firsts es) → HasNames bank (f.name ∷ firsts f.constructors ++ firsts es)
declared_have bank f es h k = (h.name, has_append bank (firsts f.constructors) (firsts es) (constructors_have bank f.constructors h.constructors) k)

module _ (bank : Terms) where
  constructor_texts : (cs : List (NameId × TermId)) → texts_of bank (firsts cs) ≡ map (λ c. c.0) (constructors_of bank cs)
  constructor_texts [] = refl
  constructor_texts (c ∷ cs) = ap (λ xs. text_of bank c.0 ∷ xs) (constructor_texts cs)

  eliminator_texts : (es : List (NameId × Universe)) → texts_of bank (firsts es) ≡ map (λ p. p.0) (map (eliminator_named bank) es)
  eliminator_texts [] = refl
  eliminator_texts (e ∷ es) = ap (λ xs. text_of bank e.0 ∷ xs) (eliminator_texts es)

  for_texts : (c : Name) (ss : List Universe) → map (λ p. p.0) (map (eliminator_for c) ss) ≡ map (eliminator_name c) ss
  for_texts c [] = refl
  for_texts c (s ∷ ss) = ap (λ xs. eliminator_name c s ∷ xs) (for_texts c ss)

  pub declared_texts : (f : Family) (es : List (NameId × Universe)) → AreEliminatorNames bank (text_of bank f.name) es → texts_of bank (f.name ∷ firsts f.constructors ++ firsts es) ≡ declared_names (family_of bank f)
  unfolding declared_names
  declared_texts f es h =
      ap (λ xs. text_of bank f.name ∷ xs)
      (map-append (text_of bank) (firsts f.constructors) (firsts es)
      ∙ ap₂ (λ xs ys. xs ++ ys) (constructor_texts f.constructors) (eliminator_texts es ∙ ap (map (λ p. p.0)) h.texts ∙ for_texts (text_of bank f.name) sorts))

pub names_grown : (old new : Terms) → Grows old new → (c : Name) (es : List (NameId × Universe)) → AreEliminatorNames old c es → AreEliminatorNames new c es
names_grown old new g c es h = record { has = HasNames-grown old new g (firsts es) h.has; texts = named-grown old new g es h.has ∙ h.texts }

-- new names, each declared behind the others
pub free_part : (ds : List (NameId × Declared)) (xs ys : List NameId) → AreFree ds (xs ++ ys) → AreFree ds xs
free_part ds [] ys h = tt
free_part ds (x ∷ xs) ys h = (h.0, λ v. free_part (ds ++ (x, v) ∷ []) xs ys (h.1 v))

append_assoc : {A : Type 0} (xs ys zs : List A) → (xs ++ ys) ++ zs ≡ xs ++ (ys ++ zs)
append_assoc [] ys zs = refl
append_assoc (x ∷ xs) ys zs = ap (λ ws. x ∷ ws) (append_assoc xs ys zs)

append_none : {A : Type 0} (xs : List A) → xs ++ [] ≡ xs
append_none [] = refl
append_none (x ∷ xs) = ap (λ ws. x ∷ ws) (append_none xs)

pub free_behind : (ds es : List (NameId × Declared)) (xs ys : List NameId) → firsts es ≡ xs → AreFree ds (xs ++ ys) → AreFree (ds ++ es) ys
free_behind ds [] [] ys e h = subst (λ z. AreFree z ys) (sym (append_none ds)) h
free_behind ds [] (x ∷ xs) ys e h = absurd cc
free_behind ds (d ∷ es) [] ys e h = absurd cc
free_behind ds (d ∷ es) (x ∷ xs) ys e h =
    let first : d.0 ≡ x = cc in
    let rest : firsts es ≡ xs = cc in
    subst (λ z. AreFree z ys) (append_assoc ds (d ∷ []) es) (free_behind (ds ++ d ∷ []) es xs ys rest (subst (λ z. AreFree (ds ++ (z, d.1) ∷ []) (xs ++ ys)) (sym first) (h.1 d.1)))

true_false : (a b : Bool) → a ≡ true → (a || b) ≡ false → ⊥
true_false true b e f = absurd cc
true_false false b e f = absurd cc

other : (a b : Bool) → (a || b) ≡ false → b ≡ false
other true b f = absurd cc
other false b f = f

-- what is not listed is not declared
pub unlisted : (bank : Terms) (ds : List (NameId × Declared)) (x : NameId) → is_listed (names_of (env_of bank ds)) (text_of bank x) ≡ false → declared_of ds x ≡ None
unfolding is_listed
unlisted bank [] x h = refl
unlisted bank (d ∷ ds) x h = by (x.place == d.0.place) refl (λ k. unlisted bank ds x k) h
  where
    by :
        (b : Bool) → (x.place == d.0.place) ≡ b → (is_listed (names_of (env_of bank ds)) (text_of bank x) ≡ false → declared_of ds x ≡ None)
        → (same_name (text_of bank d.0) (text_of bank x) || is_listed (names_of (env_of bank ds)) (text_of bank x)) ≡ false → (if b then Some d.1 else declared_of ds x) ≡ None
    by true e k h =
        let place : x.place ≡ d.0.place = eqb-true x.place d.0.place e in
        let s : same_name (text_of bank d.0) (text_of bank x) ≡ true = name_same (text_of bank d.0) (text_of bank x) (ap (λ n. text_of bank (record { place = n })) (sym place)) in
        absurd (true_false (same_name (text_of bank d.0) (text_of bank x)) _ s h)
    by false e k h = k (other (same_name (text_of bank d.0) (text_of bank x)) _ h)

-- what a family stores, made one after the other while the bank grows
pub are_types :
    (old b c d e : Terms) (g : Grows old b) (h : Grows b c) (i : Grows c d) (j : Grows d e) (f : Family) → IsFamily old f → (ss : List Universe) (t : FamilyTypes) → Stores b (Ok t.kind) (family_type (family_of old f))
    → AreConstructors c (family_of b f) (family_of b f).constructors t.constructors.items → AreEliminators d (family_of c f) ss t.made.eliminators.items → AreRules e (family_of d f) t.made.rules
    → AreTypes e (family_of old f) ss t
are_types old b c d e g h i j f p ss t k l m n =
    let gc = Grows-trans old b c g h in
    let gd = Grows-trans old c d gc i in
    let own = subst (λ F. AreEliminators d F ss t.made.eliminators.items) (family_of-grown old c gc f p.has) m in
    record {
      kind = IsStored-grown b e (Grows-trans b d e (Grows-trans b c d h i) j) t.kind _ (record { term = k.0; fits = k.1 });
      constructors = constructors-grown c e (Grows-trans c d e i j) (family_of old f) (family_of old f).constructors t.constructors.items (subst (λ F. AreConstructors c F F.constructors t.constructors.items) (family_of-grown old b g f p.has) l);
      eliminators = record { into = own.into; types = each_stored-grown d e j (family_of old f) t.made.eliminators.items own.types };
      rules = subst (λ F. AreRules e F t.made.rules) (family_of-grown old d gd f p.has) n;
    }

-- the names of a family, in a bank that has grown by those of its eliminators
module _ (old b : Terms) (g : Grows old b) (ds : List (NameId × Declared)) (p : IsEnv old ds) (f : Family) (q : HasFamily old f) (es : List (NameId × Universe)) (n : AreEliminatorNames b (text_of old f.name) es) where
  pub ready_has : HasNames b (f.name ∷ firsts f.constructors ++ firsts es)
  ready_has = declared_have b f es (HasFamily-grown old b g f q) n.has

  pub ready_texts : texts_of b (f.name ∷ firsts f.constructors ++ firsts es) ≡ declared_names (family_of old f)
  ready_texts =
      declared_texts b f es (subst (λ c. AreEliminatorNames b c es) (sym (g.text f.name q.name)) n) ∙ ap declared_names (family_of-grown old b g f q)

  pub ready_taken : first_taken (names_of (env_of b ds)) (texts_of b (f.name ∷ firsts f.constructors ++ firsts es)) ≡ first_taken (names_of (env_of old ds)) (declared_names (family_of old f))
  ready_taken = ap₂ (λ env xs. first_taken (names_of env) xs) (env_of-grown old b g ds p) ready_texts

  pub ready_at :
      (xs : List NameId) → xs ≡ f.name ∷ firsts f.constructors ++ firsts es → first_taken (names_of (env_of b ds)) (texts_of b xs) ≡ first_taken (names_of (env_of old ds)) (declared_names (family_of old f))
  ready_at xs is = ap (λ ys. first_taken (names_of (env_of b ds)) (texts_of b ys)) is ∙ ready_taken

-- names with one more at the end
listed_last : (xs : List Name) (x y : Name) → is_listed (xs ++ x ∷ []) y ≡ (is_listed xs y || same_name x y)
unfolding is_listed
listed_last [] x y = swap (same_name x y)
  where
    swap : (b : Bool) → (b || false) ≡ (false || b)
    swap true = refl
    swap false = refl
listed_last (z ∷ zs) x y = ap (λ b. same_name z y || b) (listed_last zs x y) ∙ assoc (same_name z y) (is_listed zs y) (same_name x y)
  where
    assoc : (a b c : Bool) → (a || (b || c)) ≡ ((a || b) || c)
    assoc true b c = refl
    assoc false b c = refl

both_false : (a b : Bool) → (a || b) ≡ false → (a ≡ false) × (b ≡ false)
both_false true b e = absurd cc
both_false false b e = (refl, e)

neither : (a b : Bool) → a ≡ false → b ≡ false → (a || b) ≡ false
neither true b e f = absurd cc
neither false b e f = f

-- names that are not taken are free
pub free_names : (bank : Terms) (ds : List (NameId × Declared)) (taken : List Name) (xs : List NameId) → ((y : Name) → is_listed taken y ≡ false → is_listed (names_of (env_of bank ds)) y ≡ false)
    → first_taken taken (texts_of bank xs) ≡ None → AreFree ds xs
unfolding first_taken is_listed
free_names bank ds taken [] h e = tt
free_names bank ds taken (x ∷ xs) h e = by (is_listed taken (text_of bank x)) refl e (λ v k. free_names bank (ds ++ (x, v) ∷ []) (text_of bank x ∷ taken) xs (more v) k)
  where
    more : (v : Declared) (y : Name) → is_listed (text_of bank x ∷ taken) y ≡ false → is_listed (names_of (env_of bank (ds ++ (x, v) ∷ []))) y ≡ false
    more v y k =
        let two = both_false (same_name (text_of bank x) y) (is_listed taken y) k in
        ap (λ env. is_listed (names_of env) y) (env_of-append bank ds ((x, v) ∷ [])) ∙ ap (λ ns. is_listed ns y) (map-append (λ e. e.0) (env_of bank ds) (named_of bank (x, v) ∷ []))
        ∙ listed_last (names_of (env_of bank ds)) (text_of bank x) y ∙ neither (is_listed (names_of (env_of bank ds)) y) (same_name (text_of bank x) y) (h y two.1) two.0

    by :
        (b : Bool) → is_listed taken (text_of bank x) ≡ b → ◌≡◌ {A = Option Fault} (elim b [ true ↦ Some (name_taken (text_of bank x)) | false ↦ first_taken (text_of bank x ∷ taken) (texts_of bank xs) ]) None
        → ((v : Declared) → first_taken (text_of bank x ∷ taken) (texts_of bank xs) ≡ None → AreFree (ds ++ (x, v) ∷ []) xs) → AreFree ds (x ∷ xs)
    by true f k m = absurd cc
    by false f k m = (unlisted bank ds x (h (text_of bank x) f), λ v. m v k)

-- the next of free names
pub free_next : {A : Type 0} (ds : List (NameId × Declared)) (ps : List (NameId × A)) (i : ℕ) (d : NameId × A) → i < length ps → AreFree ds (firsts (drop i ps))
    → (declared_of ds (get_or ps i d).0 ≡ None) × ((v : Declared) → AreFree (ds ++ ((get_or ps i d).0, v) ∷ []) (firsts (drop (i + 1) ps)))
free_next ds ps i d l h = subst (λ xs. AreFree ds (firsts xs)) (drop_more ps i d l) h

-- one more constructor, eliminator
pub constructors_more : (f : NameId) (k : ℕ) (cs : List (NameId × TermId)) (i n : ℕ) (d : NameId × TermId) → i < length cs → n ≡ k + i
    → constructors_declared f k (take (i + 1) cs) ≡ constructors_declared f k (take i cs) ++ ((get_or cs i d).0, record { entry = Entry.Constructor f n; kind = Some (get_or cs i d).1; made = None }) ∷ []
constructors_more f k [] i n d l e = absurd (omega arith)
constructors_more f k (c ∷ cs) zero n d l e =
    let same : k ≡ n = omega (arith, e) in ap (λ m. (c.0, record { entry = Entry.Constructor f m; kind = Some c.1; made = None }) ∷ []) same
constructors_more f k (c ∷ cs) (suc i) n d l e =
    let more : suc i + 1 ≡ suc (i + 1) = omega arith in
    ap (λ m. constructors_declared f k (take m (c ∷ cs))) more
    ∙ ap (λ xs. (c.0, record { entry = Entry.Constructor f k; kind = Some c.1; made = None }) ∷ xs) (constructors_more f (suc k) cs i n d (omega arith) (omega (arith, e)))

pub eliminators_more : (f : NameId) (es : List (NameId × Universe)) (i : ℕ) (d : NameId × Universe) → i < length es
    → eliminators_declared f (take (i + 1) es) ≡ eliminators_declared f (take i es) ++ ((get_or es i d).0, record { entry = Entry.Eliminator f (get_or es i d).1; kind = None; made = None }) ∷ []
eliminators_more f es i d l = ap (eliminators_declared f) (take_more es i d l) ∙ map-append (λ e. (e.0, record { entry = Entry.Eliminator f e.1; kind = None; made = None })) (take i es) (get_or es i d ∷ [])

pub firsts_constructors : (f : NameId) (k : ℕ) (cs : List (NameId × TermId)) → firsts (constructors_declared f k cs) ≡ firsts cs
firsts_constructors f k [] = refl
firsts_constructors f k (c ∷ cs) = ap (λ xs. c.0 ∷ xs) (firsts_constructors f (suc k) cs)

-- what stands behind, one step on
pub behind : (old mid new : List (NameId × Declared)) (d : NameId × Declared) (es fs : List (NameId × Declared)) → mid ≡ old ++ es → new ≡ mid ++ d ∷ [] → fs ≡ es ++ d ∷ [] → new ≡ old ++ fs
behind old mid new d es fs e f g = f ∙ ap (λ z. z ++ d ∷ []) e ∙ append_assoc old es (d ∷ []) ∙ ap (λ z. old ++ z) (sym g)

pub all_behind : (old mid new es fs : List (NameId × Declared)) → mid ≡ old ++ es → new ≡ mid ++ fs → new ≡ old ++ (es ++ fs)
all_behind old mid new es fs e f = f ∙ ap (λ z. z ++ fs) e ∙ append_assoc old es fs

pub none_behind : (old : List (NameId × Declared)) → old ≡ old ++ []
none_behind old = sym (append_none old)

pub extends_more : (old mid new : List (NameId × Declared)) (es : List (NameId × Declared)) → mid ≡ old ++ es → Extends mid new → Extends old new
extends_more old mid new es e h = record { more = es ++ h.more; is = all_behind old mid new es h.more e h.is }

pub free_after : (ds new : List (NameId × Declared)) (x : NameId) (v : Declared) (xs : List NameId) → new ≡ ds ++ (x, v) ∷ [] → AreFree ds (x ∷ xs) → AreFree new xs
free_after ds new x v xs e h = subst (λ z. AreFree z xs) (sym e) (h.1 v)
