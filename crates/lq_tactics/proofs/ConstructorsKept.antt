-- Constructors at a type's parameters stand where the parameters do, and so their rows keep what holds.
use Rattle.std.proofs.Common.{◌≡◌, ◌≤◌, ◌+◌, ◌∙◌, ℕ, zero, suc, refl, sym, ap, arith, eqb, eqb-true, Bool, true, false, ◌||◌, if◌then◌else◌, List, [], ◌∷◌, ◌++◌, length, Option, Some, None, inl, inr}
use Rattle.std.proofs.Common.{subst as along}
use Rattle.std.proofs.lemmas.Bool.{cases_lt}
use Rattle.std.proofs.lemmas.List.{append-nil, append_assoc, length-map}
use Rattle.std.specs.Prelude.{slice_get, zip}
use Rattle.lq_trees.specs.declared.Sort.{Sort as Universe}
use Rattle.lq_trees.specs.Tree.{Name, Tree, Trees, Context, same_name, value_of}
use Rattle.lq_trees.specs.Tree.Tree.{Rel, Var, Sort, Prod, Lam, Let, App, Const, Ind, Ctor, Elim, Evar}
use Rattle.lq_trees.specs.Change.{close_at, closed, lift, lifted, put, standing, instance}
use Rattle.lq_trees.specs.Fresh.{is_listed}
use Rattle.lq_trees.specs.Ticks.{gives, fails, ◌>>=◌}
use Rattle.lq_trees.proofs.FillLaws.{lifted_above}
use Rattle.lq_calculus.specs.Contraction.{spine, apply}
use Rattle.lq_calculus.specs.Declarations.{Entry, Family, lookup, constant, family, arity, constructor, eliminator, family_in, product, products, constructor_type, constructor_kind}
use Rattle.lq_calculus.proofs.ConvSound.{Gives, gives_bind, same_name_is}
use Rattle.lq_solving.specs.Stores.{Variable, Assigned, names_in}
use Rattle.lq_solving.specs.Elaboration.{Found}
use Rattle.lq_solving.proofs.InstanceLaws.{same_flip}
use Rattle.lq_solving.proofs.Moving.{AllHave}
use Rattle.lq_solving.proofs.Motions.{all_take}
use Rattle.lq_solving.proofs.Good.{IsGood, EachIsGood, good_more, plain_good, apply_good, spine_good}
use Rattle.lq_solving.proofs.StandsLaws.{listed_end, listed_more}
use Rattle.lq_solving.proofs.Later.{good_stands}
use Rattle.lq_solving.proofs.ElabKept.{grown_now}
use Rattle.lq_solving.proofs.ElabStands.{Finds}
use Rattle.lq_tactics.specs.Rows.{RowFault, Doing, Scene, Done, head_of, wrong_number}
use Rattle.lq_tactics.specs.Applying.{Inductive, inductive_if, inductive_at, inductive_of, inductive_or, goal_inductive, parameter_values, parameters_of, constructor_at, constructor_found, apply_constructor, numbered, has_number}
use Rattle.lq_tactics.proofs.BetaKept.{lift_good}
use Rattle.lq_tactics.proofs.RowsKept.{IsScene, IsReached, head_good}
use Rattle.lq_tactics.proofs.ApplyKept.{HasRoom, apply_found_reached, told_none}

-- ---- what stood under products

-- a term that is plain but for hypotheses of these names, in which so many bound variables may be loose
abbrev pub IsBare : List Name → ℕ → Tree → Type 0
IsBare xs n t = IsGood [] [] xs n t

abbrev EachIsBare : List Name → ℕ → Trees → Type 0
EachIsBare xs n ts = EachIsGood [] [] xs n ts

rel_unclosed : (xs : List Name) (d n i : ℕ) → d ≤ n → IsBare xs (n + 1) (lifted 1 d i) → suc i ≤ n
rel_unclosed xs d n i l h = elim (cases_lt i d) [
  | inl b ↦ omega (arith, b, l)
  | inr b ↦ let q : suc (i + 1) ≤ n + 1 = along (IsBare xs (n + 1)) (lifted_above 1 d i b) h in omega (arith, q)
]

name_unclosed : (xs : List Name) (y x : Name) (d n : ℕ) → IsBare xs n (closed y d x) → is_listed (xs ++ y ∷ []) x ≡ true
name_unclosed xs y x d n h = at (same_name x y) refl h
  where
    at : (b : Bool) → same_name x y ≡ b → IsBare xs n (if b then Rel d else Var x) → is_listed (xs ++ y ∷ []) x ≡ true
    at true e k = along (λ z. is_listed (xs ++ y ∷ []) z ≡ true) (sym (same_name_is x y e)) (listed_end xs y)
    at false e k = listed_more xs (y ∷ []) x k

module _ (xs : List Name) (y : Name) where
  mutual
    pub unclosed : (d n : ℕ) → d ≤ n → (t : Tree) → IsBare xs (n + 1) (close_at y d t) → IsBare (xs ++ y ∷ []) n t
    unclosed d n l (Rel i) h = rel_unclosed xs d n i l h
    unclosed d n l (Var x) h = name_unclosed xs y x d (n + 1) h
    unclosed d n l (Sort u) h = tt
    unclosed d n l (Prod x A B) h = (unclosed d n l A h.0, unclosed (d + 1) (n + 1) (omega (arith, l)) B h.1)
    unclosed d n l (Lam x A B) h = (unclosed d n l A h.0, unclosed (d + 1) (n + 1) (omega (arith, l)) B h.1)
    unclosed d n l (Let x v A B) h = (unclosed d n l v h.0, unclosed d n l A h.1, unclosed (d + 1) (n + 1) (omega (arith, l)) B h.2)
    unclosed d n l (App f a) h = (unclosed d n l f h.0, unclosed d n l a h.1)
    unclosed d n l (Const c) h = tt
    unclosed d n l (Ind c) h = tt
    unclosed d n l (Ctor c k) h = tt
    unclosed d n l (Elim c u) h = tt
    unclosed d n l (Evar k ts) h = absurd (omega (arith, h.0))

-- the end of products over a context
pub under_products : (g : Context) (xs : List Name) (t : Tree) → IsBare xs 0 (products g t) → IsBare (xs ++ names_in g) 0 t
unfolding products product
under_products [] xs t h = along (λ ys. IsBare ys 0 t) (sym (append-nil xs)) h
under_products (k ∷ g) xs t h =
    along (λ ys. IsBare ys 0 t) (append_assoc xs (k.name ∷ []) (names_in g)) (under_products g (xs ++ k.name ∷ []) t (unclosed xs k.name 0 0 (omega arith) (products g t) h.1))

-- ---- values for hypotheses

module _ (vs : List Variable) (as_ : List Assigned) (xs ys : List Name) (ps : List (Name × Tree))
    (every : (x : Name) → is_listed ys x ≡ true → (v : Tree) × (value_of ps x ≡ Some v) × IsGood vs as_ xs 0 v) where
  name_put : (d n : ℕ) (x : Name) → d ≤ n → is_listed ys x ≡ true → IsGood vs as_ xs n (standing (value_of ps x) d x)
  name_put d n x l e =
      let q = every x e in
      along (λ o. IsGood vs as_ xs n (standing o d x)) (sym q.1) (good_more vs as_ xs d n l (lift d 0 q.0) (lift_good vs as_ xs d 0 0 d (omega arith) q.0 q.2))

  mutual
    pub put_good : (d n : ℕ) → d ≤ n → (t : Tree) → IsBare ys n t → IsGood vs as_ xs n (put ps d t)
    put_good d n l (Rel i) h = h
    put_good d n l (Var x) h = name_put d n x l h
    put_good d n l (Sort u) h = tt
    put_good d n l (Prod x A B) h = (put_good d n l A h.0, put_good (d + 1) (n + 1) (omega (arith, l)) B h.1)
    put_good d n l (Lam x A B) h = (put_good d n l A h.0, put_good (d + 1) (n + 1) (omega (arith, l)) B h.1)
    put_good d n l (Let x v A B) h = (put_good d n l v h.0, put_good d n l A h.1, put_good (d + 1) (n + 1) (omega (arith, l)) B h.2)
    put_good d n l (App f a) h = (put_good d n l f h.0, put_good d n l a h.1)
    put_good d n l (Const c) h = tt
    put_good d n l (Ind c) h = tt
    put_good d n l (Ctor c k) h = tt
    put_good d n l (Elim c u) h = tt
    put_good d n l (Evar k ts) h = absurd (omega (arith, h.0))

-- names with a value each
pub zip_value : (P : Tree → Type 0) (xs : List Name) (ts : List Tree) → length xs ≤ length ts → AllHave P ts → (x : Name) → is_listed xs x ≡ true → (v : Tree) × (value_of (zip xs ts) x ≡ Some v) × P v
unfolding is_listed
zip_value P [] ts l h x e = absurd (grind (arith, e))
zip_value P (y ∷ xs) [] l h x e = absurd (omega (arith, l))
zip_value P (y ∷ xs) (t ∷ ts) l h x e = at (same_name x y) refl (λ f. zip_value P xs ts (omega (arith, l)) h.1 x f)
  where
    at : (b : Bool) → same_name x y ≡ b → (is_listed xs x ≡ true → (v : Tree) × (value_of (zip xs ts) x ≡ Some v) × P v) →
        (v : Tree) × ((if b then Some t else value_of (zip xs ts) x) ≡ Some v) × P v
    at true f ih = (t, refl, h.0)
    at false f ih = ih (rest (same_name y x) (same_flip y x ∙ f) e)
      where
        rest : (b : Bool) → b ≡ false → (b || is_listed xs x) ≡ true → is_listed xs x ≡ true
        rest true p q = absurd (grind (arith, p))
        rest false p q = q

-- ---- inductive types

-- an inductive type in the goal's context: a declared family with all its arguments, as read
pub record IsInductive (c : Scene) (i : Inductive) : Type 0 where
  pub sorts : List Universe
  pub declared : lookup c.env i.name ≡ Some (family i.family sorts)
  pub many : length i.args ≡ length i.family.parameters + length i.family.indices
  pub args : AllHave (IsGood c.store.variables c.store.values (names_in c.context) 0) i.args

family_is : (o : Option Entry) (f : Family) → family_in o ≡ Some f → (ss : List Universe) × (o ≡ Some (family f ss))
unfolding family_in
family_is (Some (family g ss)) f e = (ss, ap (λ z. Some (family z ss)) (ap (λ o. elim o as (λ z. Family) [ Some z ↦ z | None ↦ g ]) e))
family_is (Some (constant A t b)) f e = absurd (grind (arith, e))
family_is (Some (arity A)) f e = absurd (grind (arith, e))
family_is (Some (constructor x k)) f e = absurd (grind (arith, e))
family_is (Some (eliminator x u)) f e = absurd (grind (arith, e))
family_is None f e = absurd (grind (arith, e))

module _ (c : Scene) (s : IsScene c) where
  abbrev AreArgs : List Tree → Type 0
  AreArgs ts = AllHave (IsGood c.store.variables c.store.values (names_in c.context) 0) ts

  at_family : (x : Name) (args : List Tree) (i : Inductive) → AreArgs args → inductive_at c.env x args ≡ Some i → IsInductive c i
  unfolding inductive_at inductive_if
  at_family x args i h e = at (family_in (lookup c.env x)) refl e
    where
      enough : (f : Family) (b : Bool) → eqb (length args) (length f.parameters + length f.indices) ≡ b → family_in (lookup c.env x) ≡ Some f → inductive_if b x f args ≡ Some i → IsInductive c i
      enough f false p q r = absurd (grind (arith, r))
      enough f true p q r =
          let d = family_is (lookup c.env x) f q in
          along (IsInductive c) (ap (λ o. elim o as (λ z. Inductive) [ Some z ↦ z | None ↦ i ]) r)
          (record { sorts = d.0; declared = d.1; many = eqb-true (length args) (length f.parameters + length f.indices) p; args = h })

      at : (o : Option Family) → family_in (lookup c.env x) ≡ o →
          elim o as (λ z. Option Inductive) [ None ↦ None | Some f ↦ inductive_if (eqb (length args) (length f.parameters + length f.indices)) x f args ] ≡ Some i → IsInductive c i
      at None p q = absurd (grind (arith, q))
      at (Some f) p q = enough f (eqb (length args) (length f.parameters + length f.indices)) refl p q

  pub is_inductive : (t : Tree) (args : List Tree) (i : Inductive) → AreArgs args → inductive_of c.env (t, args) ≡ Some i → IsInductive c i
  unfolding inductive_of
  is_inductive (Ind x) args i h e = at_family x args i h e
  is_inductive (Rel x) args i h e = absurd (grind (arith, e))
  is_inductive (Var x) args i h e = absurd (grind (arith, e))
  is_inductive (Sort x) args i h e = absurd (grind (arith, e))
  is_inductive (Prod x A B) args i h e = absurd (grind (arith, e))
  is_inductive (Lam x A B) args i h e = absurd (grind (arith, e))
  is_inductive (Let x v A B) args i h e = absurd (grind (arith, e))
  is_inductive (App f a) args i h e = absurd (grind (arith, e))
  is_inductive (Const x) args i h e = absurd (grind (arith, e))
  is_inductive (Ctor x k) args i h e = absurd (grind (arith, e))
  is_inductive (Elim x u) args i h e = absurd (grind (arith, e))
  is_inductive (Evar k ts) args i h e = absurd (grind (arith, e))

  pub goal_is_inductive : (i : Inductive) → Gives (goal_inductive c) i → IsInductive c i
  unfolding goal_inductive inductive_or
  goal_is_inductive i y =
      let t = gives_bind (head_of c c.store c.kind) _ i y in
      let good = head_good c s.plain c.store s.store s.context c.kind t.0 s.kind t.1 in
      at t.0 (inductive_of c.env (spine t.0 [])) refl (spine_good c.store.variables c.store.values (names_in c.context) t.0 [] good tt).1 t.2
    where
      at : (t : Tree) (o : Option Inductive) → inductive_of c.env (spine t []) ≡ o → AreArgs (spine t []).1 → Gives (inductive_or t o) i → IsInductive c i
      at t None e h z = absurd (told_none (t ∷ []) _ i z)
      at t (Some j) e h z = along (IsInductive c) z (is_inductive (spine t []).0 (spine t []).1 j h e)

  -- ---- constructors

  module _ (i : Inductive) (h : IsInductive c i) where
    -- the type of a constructor at the type's parameters
    pub kind_good : (k : ℕ) (d : Name × Tree) → slice_get i.family.constructors k ≡ Some d → IsGood c.store.variables c.store.values (names_in c.context) 0 (instance (parameter_values i) d.1)
    unfolding constructor_kind constructor_type parameter_values
    kind_good k d e =
        let plain = s.plain.constructors i.name i.family h.sorts k (constructor_type i.family d.1) h.declared (ap (λ o. elim o as (λ z. Option Tree) [ None ↦ None | Some x ↦ Some (constructor_type i.family x.1) ]) e) in
        put_good c.store.variables c.store.values (names_in c.context) (names_in i.family.parameters) (zip (names_in i.family.parameters) i.args)
        (zip_value (IsGood c.store.variables c.store.values (names_in c.context) 0) (names_in i.family.parameters) i.args (omega (arith, h.many, length-map i.family.parameters (λ p. p.name))) h.args)
        0 0 (omega arith) d.1 (under_products i.family.parameters [] d.1 (plain_good [] [] [] 0 (products i.family.parameters d.1) plain.over plain.within plain.holds))

    pub constructor_finds : (k : ℕ) (f : Found) → Gives (constructor_found c i k (slice_get i.family.constructors k)) f → Finds c.store c.context f
    unfolding constructor_found constructor_at
    constructor_finds k f y = at (slice_get i.family.constructors k) refl y
      where
        at : (o : Option (Name × Tree)) → slice_get i.family.constructors k ≡ o → Gives (constructor_found c i k o) f → Finds c.store c.context f
        at None e z = absurd z
        at (Some d) e z =
            along (Finds c.store c.context) z (
              grown_now c.store s.store,
              good_stands c.store s.store c.store.values (names_in c.context) (apply (Ctor i.name k) (parameters_of i))
                  (apply_good c.store.variables c.store.values (names_in c.context) (Ctor i.name k) (parameters_of i) tt (all_take (IsGood c.store.variables c.store.values (names_in c.context) 0) (length i.family.parameters) i.args h.args)),
              good_stands c.store s.store c.store.values (names_in c.context) (instance (parameter_values i) d.1) (kind_good k d e),
            )

    pub constructor_reached : (k : ℕ) (d : Done) → HasRoom c 0 → Gives (apply_constructor c i k) d → IsReached c d
    unfolding apply_constructor
    constructor_reached k d few y =
        let f = gives_bind (constructor_found c i k (slice_get i.family.constructors k)) _ d y in
        apply_found_reached c s true f.0 d (constructor_finds k f.0 f.1) few f.2

    pub numbered_reached : (n : ℕ) (d : Done) → HasRoom c 0 → Gives (numbered c i n) d → IsReached c d
    unfolding numbered
    numbered_reached zero d few y = absurd y
    numbered_reached (suc k) d few y = constructor_reached k d few y

  -- a type with so many constructors is the type
  number_is : (n : ℕ) (i j : Inductive) → Gives (has_number n i) j → i ≡ j
  unfolding has_number
  number_is n i j y = at (eqb (length i.family.constructors) n) y
    where
      at : (b : Bool) → Gives {F = RowFault} (elim b as (λ z. Doing Inductive) [ true ↦ gives i | false ↦ fails (wrong_number (length i.family.constructors) n) ]) j → i ≡ j
      at true z = z
      at false z = absurd z

  pub right_number : (n : ℕ) (i : Inductive) → Gives (goal_inductive c >>= has_number n) i → IsInductive c i
  right_number n i y =
      let j = gives_bind (goal_inductive c) (has_number n) i y in along (IsInductive c) (number_is n j.0 i j.2) (goal_is_inductive j.0 j.1)

  pub numbered_row_reached : (n k : ℕ) (d : Done) → HasRoom c 0 → Gives (goal_inductive c >>= has_number n >>= λ i. apply_constructor c i k) d → IsReached c d
  numbered_row_reached n k d few y =
      let i = gives_bind (goal_inductive c >>= has_number n) _ d y in constructor_reached i.0 (right_number n i.0 i.1) k d few i.2
