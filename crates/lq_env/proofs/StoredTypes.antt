-- What a family stores is what the definition gives.
use Rattle.std.proofs.Common.{◌≡◌, ◌∙◌, ◌+◌, ◌<◌, ◌≤◌, ℕ, zero, suc, refl, sym, ap, ap₂, subst, arith, Bool, true, false, ◌||◌, List, [], ◌∷◌, ◌++◌, map, length, get_or, drop, take, Option, Some, None, Result, Ok, Err, ◌⊎◌, inl, inr}
use Rattle.std.proofs.lemmas.List.{drop_more, drop_all, take_more}
use Rattle.std.specs.Prelude.{slice_get}
use Rattle.std.specs.List.{AllByRecursion}
use Rattle.std.specs.Result.{IsErrAnd, IfErr}
use Rattle.lq_trees.specs.declared.Sort.{Sort as Universe}
use Rattle.lq_trees.specs.declared.Fit.{Fit}
use Rattle.lq_trees.specs.Tree.{Name, Tree}
use Rattle.lq_trees.specs.Size.{fit}
use Rattle.lq_trees.specs.Index.{Within}
use Rattle.lq_terms.specs.declared.nodes.NameId.{NameId}
use Rattle.lq_terms.specs.declared.nodes.TermId.{TermId}
use Rattle.lq_terms.specs.declared.rules.Counts.{Counts}
use Rattle.lq_terms.specs.declared.rules.IotaRule.{IotaRule}
use Rattle.lq_terms.specs.Contexts.{hypothesis_of}
use Rattle.lq_terms.specs.Terms.{Terms, HasName, Grows, text_of, tree_of}
use Rattle.lq_terms.proofs.Trees.{slice_get-push}
use Rattle.lq_calculus.specs.Declarations.{Family as TreeFamily, EnvFault as Fault, constructor_type, elim_type, first_stored, first_fault, stored_fault, env_too_large, env_too_deep, permits, permitted_of, sorts, constructors_fault, rule_arguments}
use Rattle.lq_env.specs.declared.family.Family.{Family}
use Rattle.lq_env.specs.declared.family.EnvFault.{EnvFault}
use Rattle.lq_env.specs.Families.{constructor_of, constructors_of, family_of, HasConstructor, IsFamily, StandsUnder, names_behind, Refuses, Stores}
use Rattle.lq_terms.specs.Telling.{HasTargets, arguments_by}
use Rattle.lq_env.specs.Computing.{AreWithinLimits, HasNumbers}
use Rattle.lq_env.specs.Making.{Computing, arguments_kept, HasCounts}
use Rattle.lq_env.specs.Environments.{is_sort, IsStored, IsRule, AreRules}
use Rattle.lq_env.specs.Inductive.{TellsRule, AreConstructors, firsts}
use Rattle.lq_env.proofs.Families.{family_of-grown}
use Rattle.lq_env.proofs.Naming.{firsts-append, firsts_more}
use Rattle.lq_env.proofs.Grown.{IsStored-grown, IsRule-grown, each_stored-grown}
use Rattle.lq_env.proofs.Eliminating.{permits_step, permits_none}

-- a fault of what is stored
pub stored_refuses : (bank : Terms) (e : EnvFault) (t : Tree) → Stores bank (Err e) t → (rest : Option Fault) → Refuses bank e (first_fault (stored_fault t) rest)
unfolding stored_fault
stored_refuses bank (EnvFault.NameTaken x) t h rest = absurd h
stored_refuses bank (EnvFault.NotPositive c k) t h rest = absurd h
stored_refuses bank (EnvFault.NestedUse c k) t h rest = absurd h
stored_refuses bank (EnvFault.BadResult c) t h rest = absurd h
stored_refuses bank (EnvFault.ElimForbidden c s) t h rest = absurd h
stored_refuses bank EnvFault.TooLarge t h rest = ap (λ (z : Fit). first_fault (elim z [ Fit.Fits ↦ None | Fit.TooLarge ↦ Some env_too_large | Fit.TooDeep ↦ Some env_too_deep ]) rest) h
stored_refuses bank EnvFault.TooDeep t h rest = ap (λ (z : Fit). first_fault (elim z [ Fit.Fits ↦ None | Fit.TooLarge ↦ Some env_too_large | Fit.TooDeep ↦ Some env_too_deep ]) rest) h
stored_refuses bank EnvFault.NoMemory t h rest = tt

pub stored_none : (t : Tree) → fit t ≡ Fit.Fits → stored_fault t ≡ None
unfolding stored_fault
stored_none t h = ap (λ (z : Fit). elim z [ Fit.Fits ↦ None | Fit.TooLarge ↦ Some env_too_large | Fit.TooDeep ↦ Some env_too_deep ]) h

pub stored_cons : (t : Tree) (ts : List Tree) → first_stored (t ∷ ts) ≡ first_fault (stored_fault t) (first_stored ts)
unfolding first_stored
stored_cons t ts = refl

-- each tree of a list is within the limits
abbrev pub AllFit : List Tree → Type 0
AllFit ts = AllByRecursion (λ t. fit t ≡ Fit.Fits) ts

-- what comes behind trees that are
pub stored_behind : (ts us : List Tree) → AllFit ts → first_stored (ts ++ us) ≡ first_stored us
stored_behind [] us h = refl
stored_behind (t ∷ ts) us h = stored_cons t (ts ++ us) ∙ ap (λ z. first_fault z (first_stored (ts ++ us))) (stored_none t h.0) ∙ stored_behind ts us h.1

pub stored_all : (ts : List Tree) → AllFit ts → first_stored ts ≡ None
unfolding first_stored
stored_all [] h = refl
stored_all (t ∷ ts) h = ap (λ z. first_fault z (first_stored ts)) (stored_none t h.0) ∙ stored_all ts h.1

-- a fault behind them, and before others
pub refuses_at : (bank : Terms) (e : EnvFault) (ts : List Tree) (t : Tree) (us : List Tree) → AllFit ts → Stores bank (Err e) t → Refuses bank e (first_stored (ts ++ t ∷ us))
refuses_at bank e ts t us h k =
    subst (Refuses bank e) (sym (stored_behind ts (t ∷ us) h ∙ stored_cons t us)) (stored_refuses bank e t k (first_stored us))

-- a list up to an index and from there on
pub split_at : {A : Type 0} (xs : List A) (i : ℕ) (d : A) → i < length xs → take i xs ++ get_or xs i d ∷ drop (i + 1) xs ≡ xs
split_at [] i d l = absurd (omega arith)
split_at (x ∷ xs) zero d l = refl
split_at (x ∷ xs) (suc i) d l = let e : suc i + 1 ≡ suc (i + 1) = omega arith in ap (λ n. x ∷ (take i xs ++ get_or xs i d ∷ drop n (x ∷ xs))) e ∙ ap (λ ys. x ∷ ys) (split_at xs i d (omega arith))

pub map-append : {A B : Type 0} (f : A → B) (xs ys : List A) → map f (xs ++ ys) ≡ map f xs ++ map f ys
map-append f [] ys = refl
map-append f (x ∷ xs) ys = ap (λ zs. f x ∷ zs) (map-append f xs ys)

module _ (bank : Terms) (f : TreeFamily) where
  -- the whole types of constructors are within the limits
  pub constructors_fit : (cs : List (Name × Tree)) (ms : List (NameId × TermId)) → AreConstructors bank f cs ms → AllFit (map (λ c. constructor_type f c.1) cs)
  constructors_fit [] [] h = tt
  constructors_fit [] (m ∷ ms) h = absurd h
  constructors_fit (c ∷ cs) [] h = absurd h
  constructors_fit (c ∷ cs) (m ∷ ms) h = (h.2.fits, constructors_fit cs ms h.3)

  pub constructors-push : (cs : List (Name × Tree)) (ms : List (NameId × TermId)) (c : Name × Tree) (m : NameId × TermId) → AreConstructors bank f cs ms
      → HasName bank m.0 → text_of bank m.0 ≡ c.0 → IsStored bank m.1 (constructor_type f c.1) → AreConstructors bank f (cs ++ c ∷ []) (ms ++ m ∷ [])
  constructors-push [] [] c m h a b s = (a, b, s, tt)
  constructors-push [] (n ∷ ns) c m h a b s = absurd h
  constructors-push (d ∷ ds) [] c m h a b s = absurd h
  constructors-push (d ∷ ds) (n ∷ ns) c m h a b s = (h.0, h.1, h.2, constructors-push ds ns c m h.3 a b s)

  -- the eliminators' types are within the limits
  pub eliminators_fit : (es : List (Universe × TermId)) → AllByRecursion (λ e. IsStored bank e.1 (elim_type f e.0)) es → AllFit (map (elim_type f) (map (λ e. e.0) es))
  eliminators_fit [] h = tt
  eliminators_fit (e ∷ es) h = (h.0.fits, eliminators_fit es h.1)

  pub types-push : (es : List (Universe × TermId)) (e : Universe × TermId) → AllByRecursion (λ e. IsStored bank e.1 (elim_type f e.0)) es → IsStored bank e.1 (elim_type f e.0) → AllByRecursion (λ e. IsStored bank e.1 (elim_type f e.0)) (es ++ e ∷ [])
  types-push [] e h k = (k, tt)
  types-push (x ∷ xs) e h k = (h.0, types-push xs e h.1 k)

pub constructors-grown : (old new : Terms) → Grows old new → (f : TreeFamily) (cs : List (Name × Tree)) (ms : List (NameId × TermId)) → AreConstructors old f cs ms → AreConstructors new f cs ms
constructors-grown old new g f [] [] h = tt
constructors-grown old new g f [] (m ∷ ms) h = h
constructors-grown old new g f (c ∷ cs) [] h = h
constructors-grown old new g f (c ∷ cs) (m ∷ ms) h =
    (omega (arith, h.0, g.names), g.text m.0 h.0 ∙ h.1, IsStored-grown old new g m.1 (constructor_type f c.1) h.2, constructors-grown old new g f cs ms h.3)

-- a constructor of a family lies in the bank
pub constructor_at : (bank : Terms) (cs : List (NameId × TermId)) (i : ℕ) (d : NameId × TermId) → AllByRecursion (HasConstructor bank) cs → i < length cs → HasConstructor bank (get_or cs i d)
constructor_at bank [] i d h l = absurd (omega arith)
constructor_at bank (c ∷ cs) zero d h l = h.0
constructor_at bank (c ∷ cs) (suc i) d h l = constructor_at bank cs i d h.1 (omega arith)

-- a constructor's type stands under the parameters
pub standing_at : (bank : Terms) (names : List Name) (cs : List (NameId × TermId)) (i : ℕ) (d : NameId × TermId) → AllByRecursion (λ c. StandsUnder names c.1) (constructors_of bank cs) → i < length cs
    → StandsUnder names (tree_of bank (get_or cs i d).1)
standing_at bank names [] i d h l = absurd (omega arith)
standing_at bank names (c ∷ cs) zero d h l = h.0
standing_at bank names (c ∷ cs) (suc i) d h l = standing_at bank names cs i d h.1 (omega arith)

-- the whole type of one constructor of a family
module _ (old mid : Terms) (g : Grows old mid) (f : Family) (p : IsFamily old f) (xs : List (NameId × TermId)) (is : xs ≡ f.constructors) (i : ℕ) (d : NameId × TermId) (l : i < length xs) where
  pub item_has : HasConstructor old (get_or xs i d)
  item_has = constructor_at old xs i d (subst (AllByRecursion (HasConstructor old)) (sym is) p.has.constructors) l

  pub item_within : Within 0 (tree_of mid (get_or xs i d).1)
  item_within =
      subst (Within 0) (sym (g.tree (get_or xs i d).1 item_has.1))
      (standing_at old (names_behind [] (family_of old f).parameters) xs i d
      (subst (λ cs. AllByRecursion (λ c. StandsUnder (names_behind [] (family_of old f).parameters) c.1) (constructors_of old cs)) (sym is) p.written.constructors) l).within

  pub type_same : constructor_type (family_of mid f) (tree_of mid (get_or xs i d).1) ≡ constructor_type (family_of old f) (tree_of old (get_or xs i d).1)
  type_same = ap₂ constructor_type (family_of-grown old mid g f p.has) (g.tree (get_or xs i d).1 item_has.1)

  pub types_split : map (λ c. constructor_type (family_of old f) c.1) (constructors_of old f.constructors)
      ≡ map (λ c. constructor_type (family_of old f) c.1) (constructors_of old (take i xs))
      ++ constructor_type (family_of old f) (tree_of old (get_or xs i d).1) ∷ map (λ c. constructor_type (family_of old f) c.1) (constructors_of old (drop (i + 1) xs))
  types_split =
      ap (λ cs. map (λ c. constructor_type (family_of old f) c.1) (constructors_of old cs)) (sym is ∙ sym (split_at xs i d l))
      ∙ ap (map (λ c. constructor_type (family_of old f) c.1)) (map-append (constructor_of old) (take i xs) (get_or xs i d ∷ drop (i + 1) xs))
      ∙ map-append (λ c. constructor_type (family_of old f) c.1) (constructors_of old (take i xs)) (constructors_of old (get_or xs i d ∷ drop (i + 1) xs))

  pub constructor_refused :
      (new : Terms) (ms : List (NameId × TermId)) (e : EnvFault) → AreConstructors mid (family_of old f) (constructors_of old (take i xs)) ms
      → Stores new (Err e) (constructor_type (family_of mid f) (tree_of mid (get_or xs i d).1)) → Refuses new e (first_stored (map (λ c. constructor_type (family_of old f) c.1) (constructors_of old f.constructors)))
  constructor_refused new ms e h k =
      subst (λ ts. Refuses new e (first_stored ts)) (sym types_split)
      (refuses_at new e (map (λ c. constructor_type (family_of old f) c.1) (constructors_of old (take i xs))) _ _ (constructors_fit mid (family_of old f) (constructors_of old (take i xs)) ms h) (subst (Stores new (Err e)) type_same k))

  pub constructor_made :
      (new : Terms) (ms : List (NameId × TermId)) (t : TermId) → Grows mid new → AreConstructors mid (family_of old f) (constructors_of old (take i xs)) ms
      → Stores new (Ok t) (constructor_type (family_of mid f) (tree_of mid (get_or xs i d).1)) → AreConstructors new (family_of old f) (constructors_of old (take (i + 1) xs)) (ms ++ ((get_or xs i d).0, t) ∷ [])
  constructor_made new ms t k h s =
      let stored = subst (Stores new (Ok t)) type_same s in
      subst (λ cs. AreConstructors new (family_of old f) cs (ms ++ ((get_or xs i d).0, t) ∷ [])) (sym (ap (constructors_of old) (take_more xs i d l) ∙ map-append (constructor_of old) (take i xs) (get_or xs i d ∷ [])))
      (constructors-push new (family_of old f) (constructors_of old (take i xs)) ms (constructor_of old (get_or xs i d)) ((get_or xs i d).0, t) (constructors-grown mid new k (family_of old f) (constructors_of old (take i xs)) ms h)
      (omega (arith, item_has.0, g.names, k.names)) (k.text (get_or xs i d).0 (omega (arith, item_has.0, g.names)) ∙ g.text (get_or xs i d).0 item_has.0) (record { term = stored.0; fits = stored.1 }))

  pub names_made : (ms : List (NameId × TermId)) (t : TermId) → firsts ms ≡ firsts (take i xs) → firsts (ms ++ ((get_or xs i d).0, t) ∷ []) ≡ firsts (take (i + 1) xs)
  names_made ms t e = firsts-append ms (((get_or xs i d).0, t) ∷ []) ∙ ap (λ ys. ys ++ (get_or xs i d).0 ∷ []) e ∙ sym (firsts_more xs i d l)

-- the permitted sorts of a list
pub permitted-append : (ss xs ys : List Universe) → permitted_of ss (xs ++ ys) ≡ permitted_of ss xs ++ permitted_of ss ys
unfolding permitted_of
permitted-append ss [] ys = refl
permitted-append ss (x ∷ xs) ys = by (permits ss x) (permitted-append ss xs ys)
  where
    by :
        (b : Bool) → permitted_of ss (xs ++ ys) ≡ permitted_of ss xs ++ permitted_of ss ys → elim b [ true ↦ x ∷ permitted_of ss (xs ++ ys) | false ↦ permitted_of ss (xs ++ ys) ]
        ≡ elim b [ true ↦ x ∷ permitted_of ss xs | false ↦ permitted_of ss xs ] ++ permitted_of ss ys
    by true rest = ap (λ zs. x ∷ zs) rest
    by false rest = rest

pub permitted_here : (ss : List Universe) (x : Universe) (xs : List Universe) → permits ss x ≡ true → permitted_of ss (x ∷ xs) ≡ x ∷ permitted_of ss xs
unfolding permitted_of
permitted_here ss x xs e = ap (λ (b : Bool). elim b [ true ↦ x ∷ permitted_of ss xs | false ↦ permitted_of ss xs ]) e

pub permitted_not : (ss : List Universe) (x : Universe) (xs : List Universe) → permits ss x ≡ false → permitted_of ss (x ∷ xs) ≡ permitted_of ss xs
unfolding permitted_of
permitted_not ss x xs e = ap (λ (b : Bool). elim b [ true ↦ x ∷ permitted_of ss xs | false ↦ permitted_of ss xs ]) e

pub permitted_none : (ss : List Universe) → permitted_of ss [] ≡ []
unfolding permitted_of
permitted_none ss = refl

-- the eliminator into one of the sorts
module _ (old mid : Terms) (g : Grows old mid) (f : Family) (p : IsFamily old f) (ss xs : List Universe) (is : xs ≡ sorts) (i : ℕ) (d : Universe) (l : i < length xs) (es : List (Universe × TermId)) (so_far : map (λ e. e.0) es ≡ permitted_of ss (take i xs)) (types : AllByRecursion (λ e. IsStored mid e.1 (elim_type (family_of old f) e.0)) es) where
  permitted_more : permitted_of ss (take (i + 1) xs) ≡ permitted_of ss (take i xs) ++ permitted_of ss (get_or xs i d ∷ [])
  permitted_more = ap (permitted_of ss) (take_more xs i d l) ∙ permitted-append ss (take i xs) (get_or xs i d ∷ [])

  pub eliminator_skipped : permits ss (get_or xs i d) ≡ false → map (λ e. e.0) es ≡ permitted_of ss (take (i + 1) xs)
  eliminator_skipped e = so_far ∙ no_more (permitted_of ss (take i xs)) ∙ ap (λ ys. permitted_of ss (take i xs) ++ ys) (sym (permitted_not ss (get_or xs i d) [] e ∙ permitted_none ss)) ∙ sym permitted_more
    where
      no_more : (ys : List Universe) → ys ≡ ys ++ []
      no_more [] = refl
      no_more (y ∷ ys) = ap (λ zs. y ∷ zs) (no_more ys)

  same : elim_type (family_of mid f) (get_or xs i d) ≡ elim_type (family_of old f) (get_or xs i d)
  same = ap (λ F. elim_type F (get_or xs i d)) (family_of-grown old mid g f p.has)

  pub eliminator_into : (t : TermId) → permits ss (get_or xs i d) ≡ true → map (λ e. e.0) (es ++ (get_or xs i d, t) ∷ []) ≡ permitted_of ss (take (i + 1) xs)
  eliminator_into t e =
      map-append (λ e. e.0) es ((get_or xs i d, t) ∷ []) ∙ ap (λ ys. ys ++ get_or xs i d ∷ []) so_far
      ∙ ap (λ ys. permitted_of ss (take i xs) ++ ys) (sym (permitted_here ss (get_or xs i d) [] e ∙ ap (λ ys. get_or xs i d ∷ ys) (permitted_none ss))) ∙ sym permitted_more

  pub eliminator_made : (new : Terms) (t : TermId) → Grows mid new → Stores new (Ok t) (elim_type (family_of mid f) (get_or xs i d))
      → AllByRecursion (λ e. IsStored new e.1 (elim_type (family_of old f) e.0)) (es ++ (get_or xs i d, t) ∷ [])
  eliminator_made new t k s =
      let stored = subst (Stores new (Ok t)) same s in
      types-push new (family_of old f) es (get_or xs i d, t) (each_stored-grown mid new k (family_of old f) es types) (record { term = stored.0; fits = stored.1 })

  pub eliminator_refused : (new : Terms) (e : EnvFault) → permits ss (get_or xs i d) ≡ true → Stores new (Err e) (elim_type (family_of mid f) (get_or xs i d))
      → Refuses new e (first_stored (map (elim_type (family_of old f)) (permitted_of ss sorts)))
  eliminator_refused new e b s =
      let split : permitted_of ss sorts ≡ permitted_of ss (take i xs) ++ get_or xs i d ∷ permitted_of ss (drop (i + 1) xs) =
      ap (permitted_of ss) (sym is ∙ sym (split_at xs i d l)) ∙ permitted-append ss (take i xs) (get_or xs i d ∷ drop (i + 1) xs)
      ∙ ap (λ ys. permitted_of ss (take i xs) ++ ys) (permitted_here ss (get_or xs i d) (drop (i + 1) xs) b) in
      subst (λ ts. Refuses new e (first_stored ts)) (sym (ap (map (elim_type (family_of old f))) split ∙ map-append (elim_type (family_of old f)) (permitted_of ss (take i xs)) (get_or xs i d ∷ permitted_of ss (drop (i + 1) xs))))
      (refuses_at new e (map (elim_type (family_of old f)) (permitted_of ss (take i xs))) _ _ (subst (λ ys. AllFit (map (elim_type (family_of old f)) ys)) so_far (eliminators_fit mid (family_of old f) es types)) (subst (Stores new (Err e)) same s))

-- rules
pub TellsRule-grown : (old new : Terms) → Grows old new → (f : TreeFamily) (k : ℕ) (r : IotaRule) → TellsRule old f k r → TellsRule new f k r
TellsRule-grown old new g f k r h = record { parameters = h.parameters; indices = h.indices; constructors = h.constructors; rule = IsRule-grown old new g f k r.parameters r.indices (arguments_kept r) h.rule }

-- each element by its index
pub all_by_get : {A : Type 0} (P : A → Type 0) (xs : List A) → ((k : ℕ) (x : A) → slice_get xs k ≡ Some x → P x) → AllByRecursion P xs
all_by_get P [] h = tt
all_by_get P (x ∷ xs) h = (h zero x refl, all_by_get P xs (λ k y e. h (suc k) y e))

pub get_map : {A B : Type 0} (f : A → B) (xs : List A) (k : ℕ) (b : B) → slice_get (map f xs) k ≡ Some b → (a : A) × (slice_get xs k ≡ Some a) × (f a ≡ b)
get_map f [] k b e = absurd cc
get_map f (x ∷ xs) zero b e = (x, refl, cc)
get_map f (x ∷ xs) (suc k) b e = get_map f xs k b e

-- the search for a sort
module _ (ss : List Universe) (s : Universe) (i : ℕ) where
  step : (d : Universe) → i < length ss → permits (drop i ss) s ≡ (is_sort (get_or ss i d) s || permits (drop (i + 1) ss) s)
  step d l = ap (λ xs. permits xs s) (drop_more ss i d l) ∙ permits_step (get_or ss i d) s (drop (i + 1) ss)

  pub permits_found : (d : Universe) → i < length ss → is_sort (get_or ss i d) s ≡ true → permits ss s ≡ permits (drop i ss) s → true ≡ permits ss s
  permits_found d l e so_far = sym (so_far ∙ step d l ∙ ap (λ b. b || permits (drop (i + 1) ss) s) e)

  pub permits_on : (d : Universe) → i < length ss → is_sort (get_or ss i d) s ≡ false → permits ss s ≡ permits (drop i ss) s → permits ss s ≡ permits (drop (i + 1) ss) s
  permits_on d l e so_far = so_far ∙ step d l ∙ ap (λ b. b || permits (drop (i + 1) ss) s) e

  pub permits_end : length ss ≤ i → permits ss s ≡ permits (drop i ss) s → false ≡ permits ss s
  permits_end l so_far = sym (so_far ∙ ap (λ xs. permits xs s) (drop_all i ss l) ∙ permits_none s)

-- an answer that hands a fault on
pub err_by : {A : Type 0} (r : Result A EnvFault) (e : EnvFault) (P : EnvFault → Type 0) → IsErrAnd r (λ y. y ≡ e) → P e → IfErr r P
err_by (Ok a) e P i h = absurd i
err_by (Err y) e P i h = subst P (sym i) h

-- a family that passes the tests passes them in a bank that has grown
pub sound-grown : (old new : Terms) → Grows old new → (f : Family) → IsFamily old f → constructors_fault (family_of old f) (family_of old f).constructors ≡ None → constructors_fault (family_of new f) (family_of new f).constructors ≡ None
sound-grown old new g f p h = subst (λ F. constructors_fault F F.constructors ≡ None) (sym (family_of-grown old new g f p.has)) h

-- a family whose types are within the limits has them so in a bank that has grown
pub limits-grown : (old new : Terms) → Grows old new → (f : Family) → IsFamily old f → AreWithinLimits (family_of old f) → AreWithinLimits (family_of new f)
limits-grown old new g f p h = subst AreWithinLimits (sym (family_of-grown old new g f p.has)) h

-- one by one
pub each_limit : (f : TreeFamily) (cs : List (Name × Tree)) → AllFit (map (λ c. constructor_type f c.1) cs) → AllByRecursion (λ c. fit (constructor_type f c.1) ≡ Fit.Fits) cs
each_limit f [] h = tt
each_limit f (c ∷ cs) h = (h.0, each_limit f cs h.1)

length-map : {A B : Type 0} (f : A → B) (xs : List A) → length (map f xs) ≡ length xs
length-map f [] = refl
length-map f (x ∷ xs) = ap suc (length-map f xs)

-- what is told of one rule
pub tells_rule :
    (old new : Terms) (f : Family) (k : ℕ) (r : IotaRule) → HasNumbers f r → rule_arguments (family_of old f) k ≡ Some (arguments_by (tree_of new) r.recursive r.targets) → HasTargets new r.indices r.parameters r.recursive r.targets
    → TellsRule new (family_of old f) k r
tells_rule old new f k r n t h = record {
  parameters = n.parameters ∙ sym (length-map (hypothesis_of old) f.parameters);
  indices = n.indices ∙ sym (length-map (hypothesis_of old) f.indices);
  constructors = n.constructors ∙ sym (length-map (constructor_of old) f.constructors);
  rule = record { tells = t; has = h };
}

-- one more rule
pub rules-push :
    (old mid new : Terms) → Grows old mid → Grows mid new → (f : Family) → IsFamily old f → (rs : List IotaRule) (r : IotaRule) → ((k : ℕ) (q : IotaRule) → slice_get rs k ≡ Some q → TellsRule mid (family_of old f) k q)
    → TellsRule new (family_of mid f) (length rs) r → (k : ℕ) (q : IotaRule) → slice_get (rs ++ r ∷ []) k ≡ Some q → TellsRule new (family_of old f) k q
rules-push old mid new g h f p rs r so_far last k q e = by (slice_get-push rs r q k e)
  where
    by : (slice_get rs k ≡ Some q) ⊎ ((k ≡ length rs) × (r ≡ q)) → TellsRule new (family_of old f) k q
    by (inl i) = TellsRule-grown mid new h (family_of old f) k q (so_far k q i)
    by (inr i) = subst (λ n. TellsRule new (family_of old f) n q) (sym i.0) (subst (TellsRule new (family_of old f) (length rs)) i.1 (subst (λ F. TellsRule new F (length rs) r) (family_of-grown old mid g f p.has) last))

-- a family's numbers, by its lists
module _ (bank : Terms) (f : Family) (n : Counts) (is : n ≡ record { parameters = length f.parameters; indices = length f.indices; constructors = length f.constructors }) where
  pub number_parameters : n.parameters ≡ length (family_of bank f).parameters
  number_parameters = ap (λ c. c.parameters) is ∙ sym (length-map (hypothesis_of bank) f.parameters)

  pub number_indices : n.indices ≡ length (family_of bank f).indices
  number_indices = ap (λ c. c.indices) is ∙ sym (length-map (hypothesis_of bank) f.indices)

  pub number_constructors : n.constructors ≡ length (family_of bank f).constructors
  number_constructors = ap (λ c. c.constructors) is ∙ sym (length-map (constructor_of bank) f.constructors)

  pub have_counts : (new : Terms) (rs : List IotaRule) → ((k : ℕ) (q : IotaRule) → slice_get rs k ≡ Some q → TellsRule new (family_of bank f) k q) → AllByRecursion (HasCounts n) rs
  have_counts new rs h =
      all_by_get (HasCounts n) rs (λ k r e. let t = h k r e in record { parameters = t.parameters ∙ sym number_parameters; indices = t.indices ∙ sym number_indices; constructors = t.constructors ∙ sym number_constructors })

  pub are_rules :
      (new : Terms) (rs : List IotaRule) (c : Computing) → length rs ≡ n.constructors → ((k : ℕ) (q : IotaRule) → slice_get rs k ≡ Some q → TellsRule new (family_of bank f) k q) → c.parameters ≡ n.parameters
      → c.indices ≡ n.indices → c.arguments ≡ map arguments_kept rs → AreRules new (family_of bank f) c
  are_rules new rs c l h a b d = record {
    parameters = a ∙ number_parameters;
    indices = b ∙ number_indices;
    constructors = ap length d ∙ length-map arguments_kept rs ∙ l ∙ number_constructors;
    rules = λ k x e.
        let r = get_map arguments_kept rs k x (ap (λ ys. slice_get ys k) (sym d) ∙ e) in
        let t = h k r.0 r.1 in
        subst (λ m. IsRule new (family_of bank f) k m c.indices x) (t.parameters ∙ sym (a ∙ number_parameters))
        (subst (λ m. IsRule new (family_of bank f) k r.0.parameters m x) (t.indices ∙ sym (b ∙ number_indices)) (subst (IsRule new (family_of bank f) k r.0.parameters r.0.indices) r.2 t.rule));
  }
