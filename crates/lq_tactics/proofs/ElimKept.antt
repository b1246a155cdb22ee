-- Predicates and the elimination of a term keep what holds.
use Rattle.std.proofs.Common.{◌≡◌, ◌≤◌, ◌<◌, ◌+◌, ◌∙◌, ℕ, zero, suc, refl, sym, ap, arith, eqb, eqb-true, Bool, true, false, ◌||◌, if◌then◌else◌, List, [], ◌∷◌}
use Rattle.std.proofs.Common.{◌++◌, map, length, drop, append_assoc, append-nil, Option, Some, None}
use Rattle.std.proofs.Common.{subst as along}
use Rattle.std.proofs.lemmas.List.{length-map, length-drop}
use Rattle.std.specs.Prelude.{slice_get, codes}
use Rattle.std.specs.List.{AllByRecursion}
use Rattle.lq_trees.specs.Tree.{Name, Tree, Context, same_name, value_of}
use Rattle.lq_trees.specs.Tree.Tree.{Rel, Var, Sort, Ind, Elim}
use Rattle.lq_trees.specs.Change.{instance}
use Rattle.lq_trees.specs.Fresh.{is_listed, fresh_of}
use Rattle.lq_trees.specs.Reading.{entries}
use Rattle.lq_trees.specs.Ticks.{◌>>=◌}
use Rattle.lq_calculus.specs.Contraction.{spine, apply}
use Rattle.lq_calculus.specs.Declarations.{lookup, variables, products, family_type, constructor_type, constructor_kind, premise}
use Rattle.lq_calculus.proofs.ConvSound.{Gives, gives_bind, same_name_is}
use Rattle.lq_ast.specs.Syntax.{Surface}
use Rattle.lq_solving.specs.Stores.{Store, Variable, Assigned, names_in, names_at, count, has_value, read, instance_list, own_instance}
use Rattle.lq_solving.specs.Kept.{Stands, StandsIn, IsStore}
use Rattle.lq_solving.specs.Elaboration.{Found}
use Rattle.lq_solving.proofs.StoreLaws.{context_keeps}
use Rattle.lq_solving.proofs.InstanceLaws.{is_same}
use Rattle.lq_solving.proofs.Moving.{AllHave}
use Rattle.lq_solving.proofs.Motions.{all_take, all_drop}
use Rattle.lq_solving.proofs.Good.{IsGood, plain_good, apply_good, spine_good}
use Rattle.lq_solving.proofs.UnifyForms.{good_names}
use Rattle.lq_solving.proofs.StandsLaws.{listed_more, listed_end, listed_last}
use Rattle.lq_solving.proofs.Later.{good_stands}
use Rattle.lq_solving.proofs.ElabKept.{Grown, grown_now, grown_then}
use Rattle.lq_solving.proofs.ElabStands.{Finds, deep}
use Rattle.lq_states.specs.Kept.{times}
use Rattle.lq_tactics.specs.Rows.{Scene, Done, head_of, renewed, new_goal, goal_term, term_of, goal_sort}
use Rattle.lq_tactics.specs.Applying.{Inductive, inductive_of, inductive_or, parameter_values, parameters_of, premise_terms}
use Rattle.lq_tactics.specs.Exchanging.{first_or, fresh_names, exchanged, abstracted, over}
use Rattle.lq_tactics.specs.Elimination.{over_indices, indices_of, predicate, typed_predicate, permitted_entry, premise_of, premise_goals, Eliminated}
use Rattle.lq_tactics.specs.Elimination.{eliminate_at, eliminate, do_elim}
use Rattle.lq_tactics.proofs.BetaKept.{subst_open_good}
use Rattle.lq_tactics.proofs.RowsKept.{IsScene, AreNew, IsReached, IsMade, head_good, goal_made, same_values, unborn_valueless}
use Rattle.lq_tactics.proofs.StepsKept.{first_stands}
use Rattle.lq_tactics.proofs.ApplyKept.{HasRoom, term_found, told_none, apply_stands}
use Rattle.lq_tactics.proofs.ConstructorsKept.{IsBare, under_products, put_good, zip_value, IsInductive, is_inductive}
use Rattle.lq_tactics.proofs.RetypingKept.{exchanged_good, renewed_is, renewed_kept}
use Rattle.lq_tactics.proofs.TelescopesKept.{close_good, premise_bare, AreBare, kinds_bare}

-- ---- predicates

module _ (vs : List Variable) (as_ : List Assigned) where
  -- each of the names has a value that stands among others
  abbrev Covers : List Name → List Name → List (Name × Tree) → Type 0
  Covers xs zs ps = (x : Name) → is_listed zs x ≡ true → (v : Tree) × (value_of ps x ≡ Some v) × IsGood vs as_ xs 0 v

  covers_more : (xs zs : List Name) (ps : List (Name × Tree)) (z y : Name) → Covers xs zs ps → Covers (xs ++ y ∷ []) (zs ++ z ∷ []) ((z, Var y) ∷ ps)
  covers_more xs zs ps z y f x e = at (same_name x z) refl
    where
      at : (b : Bool) → same_name x z ≡ b → (v : Tree) × ((if b then Some (Var y) else value_of ps x) ≡ Some v) × IsGood vs as_ (xs ++ y ∷ []) 0 v
      at true p = (Var y, refl, listed_end xs y)
      at false p = let q = f x (listed_last zs z x e p) in (q.0, q.1, good_names vs as_ xs (xs ++ y ∷ []) (λ w l. listed_more xs (y ∷ []) w l) 0 q.0 q.2)

  -- abstractions over indices
  indices_good : (xs zs : List Name) (ps : List (Name × Tree)) (hs : Context) (ys : List Name) (rest : List (Name × Tree) → Tree) → AreBare zs hs → length hs ≡ length ys → Covers xs zs ps →
      ((qs : List (Name × Tree)) → IsGood vs as_ (xs ++ ys) 0 (rest qs)) → IsGood vs as_ xs 0 (over_indices ps hs ys rest)
  unfolding over_indices
  indices_good xs zs ps [] [] rest b l f g = along (λ ws. IsGood vs as_ ws 0 (rest ps)) (append-nil xs) (g ps)
  indices_good xs zs ps [] (y ∷ ys) rest b l f g = absurd (omega (arith, l))
  indices_good xs zs ps (h ∷ hs) [] rest b l f g = absurd (omega (arith, l))
  indices_good xs zs ps (h ∷ hs) (y ∷ ys) rest b l f g = (
    put_good vs as_ xs zs ps f 0 0 (omega arith) h.kind b.0,
    close_good vs as_ xs y 0 0 (omega arith) (over_indices ((h.name, Var y) ∷ ps) hs ys rest)
        (indices_good (xs ++ y ∷ []) (zs ++ h.name ∷ []) ((h.name, Var y) ∷ ps) hs ys rest b.1 (omega (arith, l)) (covers_more xs zs ps h.name y f)
        (λ qs. along (λ ws. IsGood vs as_ ws 0 (rest qs)) (sym (append_assoc xs (y ∷ []) ys)) (g qs))),
  )

  -- trees that become hypotheses
  abstracted_good : (ws : List Name) (xs : List Name) (us : List Tree) (T : Tree) → ((x : Name) → is_listed xs x ≡ true → is_listed ws x ≡ true) → IsGood vs as_ ws 0 T → IsGood vs as_ ws 0 (abstracted xs us T)
  unfolding abstracted is_listed
  abstracted_good ws [] [] T f h = h
  abstracted_good ws [] (u ∷ us) T f h = h
  abstracted_good ws (x ∷ xs) [] T f h = h
  abstracted_good ws (x ∷ xs) (u ∷ us) T f h =
      abstracted_good ws xs us (exchanged u (Var x) T) (λ y l. f y (later (same_name x y) (is_listed xs y) l))
      (exchanged_good vs as_ ws u (Var x) (f x (ap (λ b. b || is_listed xs x) (is_same x))) 0 T h)
    where
      later : (a b : Bool) → b ≡ true → (a || b) ≡ true
      later true b e = refl
      later false b e = e

  variables_good : (ws : List Name) (ys : List Name) → ((x : Name) → is_listed ys x ≡ true → is_listed ws x ≡ true) → AllHave (IsGood vs as_ ws 0) (map (λ y. Var y) ys)
  unfolding is_listed
  variables_good ws [] f = tt
  variables_good ws (y ∷ ys) f = (f y (ap (λ b. b || is_listed ys y) (is_same y)), variables_good ws ys (λ x l. f x (later (same_name y x) (is_listed ys x) l)))
    where
      later : (a b : Bool) → b ≡ true → (a || b) ≡ true
      later true b e = refl
      later false b e = e

  all_more_names : (xs ws : List Name) → ((x : Name) → is_listed xs x ≡ true → is_listed ws x ≡ true) → (ts : List Tree) → AllHave (IsGood vs as_ xs 0) ts → AllHave (IsGood vs as_ ws 0) ts
  all_more_names xs ws f [] h = tt
  all_more_names xs ws f (t ∷ ts) h = (good_names vs as_ xs ws f 0 t h.0, all_more_names xs ws f ts h.1)

  all_append_good : (ws : List Name) (ts us : List Tree) → AllHave (IsGood vs as_ ws 0) ts → AllHave (IsGood vs as_ ws 0) us → AllHave (IsGood vs as_ ws 0) (ts ++ us)
  all_append_good ws [] us h k = k
  all_append_good ws (t ∷ ts) us h k = (h.0, all_append_good ws ts us h.1 k)

many_fresh : (taken : List Name) (n : ℕ) → length (fresh_names taken n) ≡ n
unfolding fresh_names
many_fresh taken zero = refl
many_fresh taken (suc n) = ap suc (many_fresh (fresh_of taken (codes "x") ∷ taken) n)

-- names in one of two lists
listed_second : (xs ys : List Name) (y : Name) → is_listed ys y ≡ true → is_listed (xs ++ ys) y ≡ true
unfolding is_listed
listed_second [] ys y e = e
listed_second (x ∷ xs) ys y e = at (same_name x y) (listed_second xs ys y e)
  where
    at : (b : Bool) → is_listed (xs ++ ys) y ≡ true → (b || is_listed (xs ++ ys) y) ≡ true
    at true l = refl
    at false l = l

first_or_rest : (z : Name) (ys : List Name) (ws : List Name) → is_listed ws z ≡ true → ((x : Name) → is_listed ys x ≡ true → is_listed ws x ≡ true) → (x : Name) → is_listed (z ∷ ys) x ≡ true → is_listed ws x ≡ true
unfolding is_listed
first_or_rest z ys ws h f x e = at (same_name z x) refl e
  where
    at : (b : Bool) → same_name z x ≡ b → (b || is_listed ys x) ≡ true → is_listed ws x ≡ true
    at true p l = along (λ w. is_listed ws w ≡ true) (same_name_is z x p) h
    at false p l = f x l

-- one goal more before new ones
cons_new : (s0 s1 s2 : Store) (j : ℕ) (ks : List ℕ) → j ≡ count s0 → count s1 ≡ suc (count s0) → count s1 ≤ count s2 → has_value s2 j ≡ false → AreNew s1 s2 ks → AreNew s0 s2 (j ∷ ks)
unfolding times
cons_new s0 s1 s2 j ks e n l v h = record {
  once = λ m. once m (eqb j m) refl;
  inside = λ m i. by m (m < count s2) i (λ q. omega (arith, q, e, n, l)) (λ k. h.inside m k);
  valueless = λ m i. by m (has_value s2 m ≡ false) i (λ q. along (λ z. has_value s2 z ≡ false) q v) (λ k. h.valueless m k);
  new = λ m i. by m (count s0 ≤ m) i (λ q. omega (arith, q, e)) (λ k. omega (arith, h.new m k, n));
}
  where
    by : (m : ℕ) (P : Type 0) → 1 ≤ times (j ∷ ks) m → (j ≡ m → P) → (1 ≤ times ks m → P) → P
    by m P i f g = at (eqb j m) refl i
      where
        at : (b : Bool) → eqb j m ≡ b → 1 ≤ elim b as (λ z. ℕ) [ true ↦ 1 + times ks m | false ↦ times ks m ] → P
        at true q k = f (eqb-true j m q)
        at false q k = g k

    once : (m : ℕ) (b : Bool) → eqb j m ≡ b → elim b as (λ z. ℕ) [ true ↦ 1 + times ks m | false ↦ times ks m ] ≤ 1
    once m true q = none (times ks m) refl
      where
        none : (i : ℕ) → times ks m ≡ i → 1 + times ks m ≤ 1
        none zero p = omega (arith, p)
        none (suc i) p = absurd (omega (arith, h.new m (omega (arith, p)), eqb-true j m q, e, n))
    once m false q = h.once m

all_from_get : {A : Type 0} (P : A → Type 0) (xs : List A) → ((k : ℕ) (x : A) → slice_get xs k ≡ Some x → P x) → AllByRecursion P xs
all_from_get P [] f = tt
all_from_get P (x ∷ xs) f = (f 0 x refl, all_from_get P xs (λ k y e. f (suc k) y e))

-- goals whose contexts have at most so many names
abbrev pub AreShort : ℕ → Store → List ℕ → Type 0
AreShort m s ks = (k : ℕ) → 1 ≤ times ks k → length (names_at s.variables k) ≤ m

own_many : (g : Context) → length (entries (own_instance g)) ≡ length g
unfolding own_instance instance_list variables entries
own_many [] = refl
own_many (h ∷ g) = ap suc (own_many g)

-- ---- what a family says

module _ (c : Scene) (s : IsScene c) (i : Inductive) (h : IsInductive c i) where
  abbrev params : List Name
  params = names_in i.family.parameters

  abbrev Good : List Name → ℕ → Tree → Type 0
  Good xs n t = IsGood c.store.variables c.store.values xs n t

  values_cover : Covers c.store.variables c.store.values (names_in c.context) params (parameter_values i)
  unfolding parameter_values
  values_cover = zip_value (IsGood c.store.variables c.store.values (names_in c.context) 0) params i.args (omega (arith, h.many, length-map i.family.parameters (λ p. p.name))) h.args

  indices_bare : AreBare params i.family.indices
  unfolding family_type
  indices_bare =
      let plain = s.plain.families i.name i.family h.sorts h.declared in
      kinds_bare i.family.indices params (Sort i.family.sort) (under_products i.family.parameters [] (products i.family.indices (Sort i.family.sort)) (plain_good [] [] [] 0 (family_type i.family) plain.over plain.within plain.holds))

  constructor_bare : (k : ℕ) (d : Name × Tree) → slice_get i.family.constructors k ≡ Some d → IsBare params 0 d.1
  unfolding constructor_kind constructor_type
  constructor_bare k d e =
      let plain = s.plain.constructors i.name i.family h.sorts k (constructor_type i.family d.1) h.declared (ap (λ o. elim o as (λ z. Option Tree) [ None ↦ None | Some x ↦ Some (constructor_type i.family x.1) ]) e) in
      under_products i.family.parameters [] d.1 (plain_good [] [] [] 0 (products i.family.parameters d.1) plain.over plain.within plain.holds)

  parameters_good : AllHave (IsGood c.store.variables c.store.values (names_in c.context) 0) (parameters_of i)
  parameters_good = all_take (IsGood c.store.variables c.store.values (names_in c.context) 0) (length i.family.parameters) i.args h.args

  -- the predicate for a type that is as read
  predicate_good : (us : List Tree) (T : Tree) → Good (names_in c.context) 0 T →
      Good (names_in c.context) 0 (predicate i (first_or (fresh_names (names_in c.context) (suc (length (indices_of i)))) []) (drop 1 (fresh_names (names_in c.context) (suc (length (indices_of i)))))
      (abstracted (fresh_names (names_in c.context) (suc (length (indices_of i)))) us T))
  unfolding predicate fresh_names first_or
  predicate_good us T g =
      let z = fresh_of (names_in c.context) (codes "x") in
      let ys = fresh_names (z ∷ names_in c.context) (length (indices_of i)) in
      let ws = names_in c.context ++ ys in
      let inner = ws ++ z ∷ [] in
      let named = first_or_rest z ys inner (listed_end ws z) (λ x e. listed_more ws (z ∷ []) x (listed_second (names_in c.context) ys x e)) in
      let body = abstracted_good c.store.variables c.store.values inner (z ∷ ys) us T named
      (good_names c.store.variables c.store.values (names_in c.context) inner (λ x e. listed_more ws (z ∷ []) x (listed_more (names_in c.context) ys x e)) 0 T g) in
      let args = all_append_good c.store.variables c.store.values ws (parameters_of i) (map (λ y. Var y) ys)
      (all_more_names c.store.variables c.store.values (names_in c.context) ws (λ x e. listed_more (names_in c.context) ys x e) (parameters_of i) parameters_good)
      (variables_good c.store.variables c.store.values ws ys (λ x e. listed_second (names_in c.context) ys x e)) in
      indices_good c.store.variables c.store.values (names_in c.context) params (parameter_values i) i.family.indices ys
      (λ ps. over z (apply (Ind i.name) (parameters_of i ++ map (λ y. Var y) ys)) (abstracted (z ∷ ys) us T)) indices_bare
      (omega (arith, h.many, length-drop (length i.family.parameters) i.args, many_fresh (z ∷ names_in c.context) (length (indices_of i)))) values_cover
      (λ qs. (
        apply_good c.store.variables c.store.values ws (Ind i.name) (parameters_of i ++ map (λ y. Var y) ys) tt args,
        close_good c.store.variables c.store.values ws z 0 0 (omega arith) (abstracted (z ∷ ys) us T) body,
      ))

  -- the premise of a constructor
  premise_good : (P : Tree) (k : ℕ) (A : Tree) → Good (names_in c.context) 0 P → IsBare params 0 A → Good (names_in c.context) 0 (premise_of i P k A)
  unfolding premise_of
  premise_good P k A p a =
      subst_open_good c.store.variables c.store.values (names_in c.context) 0 P (instance (parameter_values i) (premise i.family k (Rel 0) [] A)) p
      (put_good c.store.variables c.store.values (names_in c.context) params (parameter_values i) values_cover 0 1 (omega arith) (premise i.family k (Rel 0) [] A)
      (premise_bare i.family params (λ x e. e) k 1 0 (Rel 0) [] A refl (omega arith) (omega arith) tt a))

  -- ---- a goal for each premise

  pub record ArePremises (s0 : Store) (r : Store × List ℕ) : Type 0 where
    pub grown : Grown s0 r.0
    pub values : r.0.values ≡ s0.values
    pub goals : AreNew s0 r.0 r.1
    pub terms : (k : ℕ) → 1 ≤ times r.1 k → StandsIn r.0 c.context (goal_term k c.context)

  no_premises : (s0 : Store) → IsStore s0 → ArePremises s0 (s0, [])
  unfolding times
  no_premises s0 j = record {
    grown = grown_now s0 j;
    values = refl;
    goals = record { once = λ k. omega arith; inside = λ k l. absurd (omega (arith, l)); valueless = λ k l. absurd (omega (arith, l)); new = λ k l. absurd (omega (arith, l)) };
    terms = λ k l. absurd (omega (arith, l));
  }

  premises_made : (P : Tree) → Good (names_in c.context) 0 P → (ds : List (Name × Tree)) (k : ℕ) (s0 : Store) (r : Store × List ℕ) → Grown c.store s0 → AllByRecursion (λ d. IsBare params 0 d.1) ds →
      Gives (premise_goals c i P k ds s0) r → ArePremises s0 r
  unfolding premise_goals times
  premises_made P p [] k s0 r g b y = along (ArePremises s0) y (no_premises s0 g.store)
  premises_made P p (d ∷ ds) k s0 r g b y =
      let a = gives_bind (new_goal c s0 c.context (premise_of i P k d.1)) _ r y in
      let q = gives_bind (premise_goals c i P (suc k) ds a.0.0) _ r a.2 in
      let stands = g.keeps (names_in c.context) (premise_of i P k d.1) (good_stands c.store s.store c.store.values (names_in c.context) (premise_of i P k d.1) (premise_good P k d.1 p b.0)) in
      let m = goal_made c s0 c.context (premise_of i P k d.1) a.0 g.store (context_keeps c.store s0 g.keeps [] c.context s.context) stands a.1 in
      let rest = premises_made P p ds (suc k) a.0.0 q.0 (grown_then c.store s0 a.0.0 g m.grown) b.1 q.1 in
      along (ArePremises s0) q.2 (record {
        grown = grown_then s0 a.0.0 q.0.0 m.grown rest.grown;
        values = rest.values ∙ m.values;
        goals = cons_new s0 a.0.0 q.0.0 a.0.1 q.0.1 m.number m.many rest.grown.more
            (same_values a.0.0 q.0.0 rest.values a.0.1 ∙ same_values s0 a.0.0 m.values a.0.1 ∙ unborn_valueless s0 g.store a.0.1 (omega (arith, m.number))) rest.goals;
        terms = λ j l. first_term s0 a.0 q.0 m rest j l;
      })
    where
      first_term : (s1 : Store) (a : Store × ℕ) (q : Store × List ℕ) → IsMade s1 c.context a → ArePremises a.0 q → (j : ℕ) → 1 ≤ times (a.1 ∷ q.1) j → StandsIn q.0 c.context (goal_term j c.context)
      first_term s1 a q m rest j l = at (eqb a.1 j) refl (times_of a.1 q.1 j l)
        where
          times_of : (x : ℕ) (ks : List ℕ) (z : ℕ) → 1 ≤ times (x ∷ ks) z → 1 ≤ elim (eqb x z) as (λ w. ℕ) [ true ↦ 1 + times ks z | false ↦ times ks z ]
          times_of x ks z e = e

          at : (o : Bool) → eqb a.1 j ≡ o → 1 ≤ elim o as (λ w. ℕ) [ true ↦ 1 + times q.1 j | false ↦ times q.1 j ] → StandsIn q.0 c.context (goal_term j c.context)
          at true e n = along (λ z. StandsIn q.0 c.context (goal_term z c.context)) (eqb-true a.1 j e) (rest.grown.keeps (names_in c.context) (goal_term a.1 c.context) m.term)
          at false e n = rest.terms j n

  -- ---- the term is eliminated

  premise_terms_stand : (s1 : Store) (ks : List ℕ) → ((k : ℕ) → 1 ≤ times ks k → StandsIn s1 c.context (goal_term k c.context)) → AllByRecursion (StandsIn s1 c.context) (premise_terms c ks)
  unfolding premise_terms times
  premise_terms_stand s1 [] f = tt
  premise_terms_stand s1 (k ∷ ks) f = (f k (first_stands k ks), premise_terms_stand s1 ks (λ j l. f j (there j (eqb k j) l)))
    where
      there : (j : ℕ) (b : Bool) → 1 ≤ times ks j → 1 ≤ elim b as (λ z. ℕ) [ true ↦ 1 + times ks j | false ↦ times ks j ]
      there j true l = omega (arith, l)
      there j false l = l

  all_stand : (s1 : Store) → Grown c.store s1 → (ts : List Tree) → AllHave (IsGood c.store.variables c.store.values (names_in c.context) 0) ts → AllByRecursion (StandsIn s1 c.context) ts
  all_stand s1 g [] h = tt
  all_stand s1 g (t ∷ ts) h = (g.keeps (names_in c.context) t (good_stands c.store s.store c.store.values (names_in c.context) t h.0), all_stand s1 g ts h.1)

  both_stand : (s1 : Store) (ts us : List Tree) → AllByRecursion (StandsIn s1 c.context) ts → AllByRecursion (StandsIn s1 c.context) us → AllByRecursion (StandsIn s1 c.context) (ts ++ us)
  both_stand s1 [] us h k = k
  both_stand s1 (t ∷ ts) us h k = (h.0, both_stand s1 ts us h.1 k)

  -- the new goals have contexts with as many names
  premises_short : (s1 : Store) (ks : List ℕ) → ((k : ℕ) → 1 ≤ times ks k → StandsIn s1 c.context (goal_term k c.context)) → AreShort (length c.context) s1 ks
  premises_short s1 ks f k l = let h = (f k l).over in omega (arith, h.1, own_many c.context)

  pub eliminated_reached : (f : Found) (e : Eliminated) → StandsIn c.store c.context f.term → Gives (eliminate_at c f i) e → IsReached c e.did × (e.type ≡ i) × AreShort (length c.context) e.did.store e.did.goals
  unfolding eliminate_at
  eliminated_reached f e t y =
      let u = gives_bind (goal_sort c) _ e y in
      let ok = gives_bind (permitted_entry i.name u.0 (lookup c.env i.name)) _ e u.2 in
      let ns = fresh_names (names_in c.context) (suc (length (indices_of i))) in
      let T = abstracted ns (read c.store f.term ∷ indices_of i) c.kind in
      let P = predicate i (first_or ns []) (drop 1 ns) T in
      let ok2 = gives_bind (typed_predicate c c.store P) _ e ok.2 in
      let r = gives_bind (premise_goals c i P 0 i.family.constructors c.store) _ e ok2.2 in
      let p = predicate_good (read c.store f.term ∷ indices_of i) c.kind s.good in
      let m = premises_made P p i.family.constructors 0 c.store r.0 (grown_now c.store s.store) (all_from_get (λ d. IsBare params 0 d.1) i.family.constructors constructor_bare) r.1 in
      let g = m.grown in
      let predicate_stands = g.keeps (names_in c.context) P (good_stands c.store s.store c.store.values (names_in c.context) P p) in
      let args = both_stand r.0.0 (parameters_of i ++ (P ∷ premise_terms c r.0.1) ++ indices_of i) (f.term ∷ [])
      (both_stand r.0.0 (parameters_of i ++ (P ∷ premise_terms c r.0.1)) (indices_of i)
      (both_stand r.0.0 (parameters_of i) (P ∷ premise_terms c r.0.1) (all_stand r.0.0 g (parameters_of i) parameters_good) (predicate_stands, premise_terms_stand r.0.0 r.0.1 m.terms))
      (all_stand r.0.0 g (indices_of i) (all_drop (IsGood c.store.variables c.store.values (names_in c.context) 0) (length i.family.parameters) i.args h.args)))
      (g.keeps (names_in c.context) f.term t, tt) in
      along (λ z. IsReached c z.did × (z.type ≡ i) × AreShort (length c.context) z.did.store z.did.goals) r.2 (
        record {
          grown = g;
          body = apply_stands r.0.0 g.store (names_in c.context) (Elim i.name u.0) _ (good_stands r.0.0 g.store [] (names_in c.context) (Elim i.name u.0) tt) args;
          goals = m.goals;
        },
        refl,
        premises_short r.0.0 r.0.1 m.terms,
      )

-- what is reached from a later store of the scene
reached_earlier : (c d : Scene) (e : Done) → Grown c.store d.store → d.context ≡ c.context → IsReached d e → IsReached c e
reached_earlier c d e g q r = record {
  grown = grown_then c.store d.store e.store g r.grown;
  body = along (λ k. StandsIn e.store k e.body) q r.body;
  goals = record { once = r.goals.once; inside = r.goals.inside; valueless = r.goals.valueless; new = λ k l. omega (arith, r.goals.new k l, g.more) };
}

pub eliminate_reached : (c : Scene) → IsScene c → (f : Found) (e : Eliminated) → Finds c.store c.context f → Gives (eliminate c f) e → IsReached c e.did × AreShort (length c.context) e.did.store e.did.goals
unfolding eliminate inductive_or
eliminate_reached c s f e k y =
    let d = gives_bind (renewed c f.store) _ e y in
    let is = renewed_is c d.0 f.store d.1 in
    let sd = renewed_kept c d.0 f.store s k.0 d.1 in
    let store : d.0.store ≡ f.store = sym (ap (λ z. z.store) is) in
    let context : d.0.context ≡ c.context = sym (ap (λ z. z.context) is) in
    let kind = along (λ z. Stands z.store (names_in z.context) f.kind) is k.2 in
    let term = along (λ z. Stands z.store (names_in z.context) f.term) is k.1 in
    let t = gives_bind (head_of d.0 d.0.store f.kind) _ e d.2 in
    let i = gives_bind (inductive_or t.0 (inductive_of d.0.env (spine t.0 []))) (eliminate_at d.0 f) e t.2 in
    let good = head_good d.0 sd.plain d.0.store sd.store sd.context f.kind t.0 kind t.1 in
    let args = (spine_good d.0.store.variables d.0.store.values (names_in d.0.context) t.0 [] good tt).1 in
    let r = eliminated_reached d.0 sd i.0 (at d.0 sd t.0 i.0 (inductive_of d.0.env (spine t.0 [])) refl args i.1) f e term i.2 in
    (reached_earlier c d.0 e.did (along (Grown c.store) (sym store) k.0) context r.0, along (λ g. AreShort (length g) e.did.store e.did.goals) context r.2)
  where
    at : (d : Scene) → IsScene d → (t : Tree) (i : Inductive) (o : Option Inductive) → inductive_of d.env (spine t []) ≡ o → AllHave (IsGood d.store.variables d.store.values (names_in d.context) 0) (spine t []).1 →
        Gives (inductive_or t o) i → IsInductive d i
    at d sd t i None q h z = absurd (told_none (t ∷ []) _ i z)
    at d sd t i (Some j) q h z = along (IsInductive d) z (is_inductive d sd (spine t []).0 (spine t []).1 j h q)

pub elim_reached : (c : Scene) → IsScene c → (t : Surface) (d : Done) → HasRoom c (deep t) → Gives (do_elim c t) d → IsReached c d
unfolding do_elim
elim_reached c s t d few y =
    let e = gives_bind (term_of c t None >>= eliminate c) _ d y in
    let f = gives_bind (term_of c t None) (eliminate c) e.0 e.1 in
    along (IsReached c) e.2 (eliminate_reached c s f.0 e.0 (term_found c s t None f.0 tt few f.1) f.2).0
