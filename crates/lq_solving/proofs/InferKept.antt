-- The type that inference finds for a term that is good is good.
use Rattle.std.proofs.Common.{◌≡◌, ◌≤◌, ◌+◌, ◌∙◌, ℕ, zero, suc, refl, sym, ap, arith, Bool, true, false, if◌then◌else◌, List, [], ◌∷◌, ◌++◌, length, Option, Some, None, ◌⊎◌, inl, inr}
use Rattle.std.proofs.Common.{subst as along}
use Rattle.std.proofs.lemmas.Bool.{cases_lt}
use Rattle.std.proofs.lemmas.List.{length-map, map-append}
use Rattle.std.specs.Prelude.{zip, ltb, slice_get}
use Rattle.lq_trees.specs.declared.Sort.{Sort as Universe}
use Rattle.lq_trees.specs.declared.Fit.{Fit}
use Rattle.lq_trees.specs.Tree.{Name, Tree, Trees, Context, Hypothesis, none, more, same_name, value_of}
use Rattle.lq_trees.specs.Tree.Tree.{Rel, Var, Sort, Prod, Lam, Let, App, Const, Ind, Ctor, Elim, Evar}
use Rattle.lq_trees.specs.Change.{replace, replace_each, lifted, closed, closing, close_at, close, subst, standing, put}
use Rattle.lq_trees.specs.Fresh.{is_listed, fresh, opened, under, under_let}
use Rattle.lq_trees.specs.Size.{fit}
use Rattle.lq_trees.specs.Reading.{entries}
use Rattle.lq_trees.specs.Ticks.{gives, fails, ◌>>=◌}
use Rattle.lq_trees.proofs.FillLaws.{lifted_below, lifted_above}
use Rattle.lq_calculus.specs.Contraction.{hypothesis, whnf}
use Rattle.lq_calculus.specs.Declarations.{Env, Entry, Family, EnvFault, lookup, constant, family, arity, constructor, eliminator, family_type, constructor_kind, permits, elim_type, rules_of}
use Rattle.lq_calculus.specs.Checking.{KernelFault, fitting, as_sort, as_product, needed_form, matching, sort_above, constant_kind, family_kind, ctor_kind, elim_kind}
use Rattle.lq_calculus.proofs.ConvSound.{Gives, gives_bind}
use Rattle.lq_solving.specs.Stores.{Variable, Assigned, Store, names_in, names_at, body_at, read}
use Rattle.lq_solving.specs.Kept.{IsVariable, IsStore}
use Rattle.lq_solving.proofs.KindLaws.{all_get}
use Rattle.lq_inference.specs.Inference.{infer_by, matching_by}
use Rattle.lq_solving.specs.Inference.{by_store_types, variable_kind}
use Rattle.lq_solving.specs.Claims.{IsPlain, ArePlainDeclarations}
use Rattle.lq_solving.proofs.InstanceLaws.{found_value}
use Rattle.lq_solving.proofs.Steady.{entries_replace}
use Rattle.lq_solving.proofs.LiftLaws.{put_each}
use Rattle.lq_solving.proofs.OverLaws.{length_put}
use Rattle.lq_solving.proofs.EqualUnder.{lift_closed}
use Rattle.lq_solving.proofs.Moving.{AllHave}
use Rattle.lq_solving.proofs.Good.{IsGood, EachIsGood, good_more, good_within, plain_good, subst_good, form_good}
use Rattle.lq_solving.proofs.UnifyForms.{good_names}
use Rattle.lq_solving.proofs.StandsLaws.{listed_last, listed_more, listed_end}
use Rattle.lq_solving.proofs.Later.{body_of, contract_var, good_read}

-- ---- a hypothesis becomes bound in a good term

module _ (vs : List Variable) (as_ : List Assigned) (xs : List Name) (y : Name) where
  name_good : (x : Name) (d n : ℕ) → suc d ≤ n → is_listed (xs ++ y ∷ []) x ≡ true → IsGood vs as_ xs n (closed y d x)
  name_good x d n l e = at (same_name x y) refl
    where
      at : (b : Bool) → same_name x y ≡ b → IsGood vs as_ xs n (if b then Rel d else Var x)
      at true f = l
      at false f = listed_last xs y x e f

  rel_good : (d n i : ℕ) → suc i ≤ n → d ≤ n → IsGood vs as_ xs (suc n) (lifted 1 d i)
  rel_good d n i h k = elim (cases_lt i d) [
    | inl l ↦ along (IsGood vs as_ xs (suc n)) (sym (lifted_below 1 d i l)) (omega (arith, h))
    | inr l ↦ along (IsGood vs as_ xs (suc n)) (sym (lifted_above 1 d i l)) (omega (arith, h))
  ]

  mutual
    pub close_good : (d n : ℕ) → d ≤ n → (t : Tree) → IsGood vs as_ (xs ++ y ∷ []) n t → IsGood vs as_ xs (suc n) (close_at y d t)
    close_good d n l (Rel i) g = rel_good d n i g l
    close_good d n l (Var x) g = name_good x d (suc n) (omega (arith, l)) g
    close_good d n l (Sort u0) g = tt
    close_good d n l (Prod x0 A0 B0) g = (close_good d n l A0 g.0, along (λ m. IsGood vs as_ xs m (close_at y (d + 1) B0)) (omega arith) (close_good (d + 1) (n + 1) (omega (arith, l)) B0 g.1))
    close_good d n l (Lam x0 A0 B0) g = (close_good d n l A0 g.0, along (λ m. IsGood vs as_ xs m (close_at y (d + 1) B0)) (omega arith) (close_good (d + 1) (n + 1) (omega (arith, l)) B0 g.1))
    close_good d n l (Let x0 v0 A0 B0) g =
        (close_good d n l v0 g.0, close_good d n l A0 g.1, along (λ m. IsGood vs as_ xs m (close_at y (d + 1) B0)) (omega arith) (close_good (d + 1) (n + 1) (omega (arith, l)) B0 g.2))
    close_good d n l (App f0 a0) g = (close_good d n l f0 g.0, close_good d n l a0 g.1)
    close_good d n l (Const c0) g = tt
    close_good d n l (Ind c0) g = tt
    close_good d n l (Ctor c0 k0) g = tt
    close_good d n l (Elim c0 u0) g = tt
    close_good d n l (Evar n0 ts0) g =
        (g.0, ap length (entries_replace (closing y) d ts0) ∙ length-map (entries ts0) (replace (closing y) d) ∙ g.1, g.2, each_close_good d n l ts0 g.3)

    pub each_close_good : (d n : ℕ) → d ≤ n → (ts : Trees) → EachIsGood vs as_ (xs ++ y ∷ []) n ts → EachIsGood vs as_ xs (suc n) (replace_each (closing y) d ts)
    each_close_good d n l none g = tt
    each_close_good d n l (more t0 ts0) g = (close_good d n l t0 g.0, each_close_good d n l ts0 g.1)

-- ---- an instance of a good term

module _ (vs : List Variable) (as_ : List Assigned) (xs ys : List Name) (us : List Tree) (many : length ys ≤ length us) (good : AllHave (IsGood vs as_ xs 0) us) where
  entry_good : (zs : List Name) (ws : List Tree) → AllHave (IsGood vs as_ xs 0) ws → (x : Name) (v : Tree) → value_of (zip zs ws) x ≡ Some v → IsGood vs as_ xs 0 v
  entry_good [] ws g x v e = absurd (grind (arith, e))
  entry_good (z ∷ zs) [] g x v e = absurd (grind (arith, e))
  entry_good (z ∷ zs) (w ∷ ws) g x v e = at (same_name x z) e (λ f. entry_good zs ws g.1 x v f)
    where
      at : (b : Bool) → (if b then Some w else value_of (zip zs ws) x) ≡ Some v → (value_of (zip zs ws) x ≡ Some v → IsGood vs as_ xs 0 v) → IsGood vs as_ xs 0 v
      at true f ih = along (IsGood vs as_ xs 0) (ap (λ o. elim o as (λ z. Tree) [ Some u ↦ u | None ↦ v ]) f) g.0
      at false f ih = ih f

  standing_good : (n : ℕ) (x : Name) (v : Tree) → value_of (zip ys us) x ≡ Some v → IsGood vs as_ xs n (standing (value_of (zip ys us) x) n x)
  standing_good n x v e =
      let g = entry_good ys us good x v e in
      along (λ o. IsGood vs as_ xs n (standing o n x)) (sym e)
      (along (IsGood vs as_ xs n) (sym (lift_closed n 0 0 (omega arith) v (good_within vs as_ xs 0 v g))) (good_more vs as_ xs 0 n (omega arith) v g))

  mutual
    pub put_good : (n : ℕ) → (t : Tree) → IsGood vs as_ ys n t → IsGood vs as_ xs n (put (zip ys us) n t)
    put_good n (Rel i) g = g
    put_good n (Var x) g = let v = found_value ys us x many g in standing_good n x v.0 v.1
    put_good n (Sort u0) g = tt
    put_good n (Prod x0 A0 B0) g = (put_good n A0 g.0, put_good (n + 1) B0 g.1)
    put_good n (Lam x0 A0 B0) g = (put_good n A0 g.0, put_good (n + 1) B0 g.1)
    put_good n (Let x0 v0 A0 B0) g = (put_good n v0 g.0, put_good n A0 g.1, put_good (n + 1) B0 g.2)
    put_good n (App f0 a0) g = (put_good n f0 g.0, put_good n a0 g.1)
    put_good n (Const c0) g = tt
    put_good n (Ind c0) g = tt
    put_good n (Ctor c0 k0) g = tt
    put_good n (Elim c0 u0) g = tt
    put_good n (Evar n0 ts0) g = (g.0, length_put (zip ys us) n ts0 ∙ g.1, g.2, each_put_good n ts0 g.3)

    pub each_put_good : (n : ℕ) → (ts : Trees) → EachIsGood vs as_ ys n ts → EachIsGood vs as_ xs n (put_each (zip ys us) n ts)
    each_put_good n none g = tt
    each_put_good n (more t0 ts0) g = (put_good n t0 g.0, each_put_good n ts0 g.1)

-- ---- contexts of good terms

pub record IsGoodContext (vs : List Variable) (as_ : List Assigned) (g : Context) : Type 0 where
  pub named : (x : Name) (h : Hypothesis) → hypothesis g x ≡ Some h → is_listed (names_in g) h.name ≡ true
  pub kinds : (x : Name) (h : Hypothesis) → hypothesis g x ≡ Some h → IsGood vs as_ (names_in g) 0 h.kind
  pub bodies : (x : Name) (b : Tree) → body_of (hypothesis g x) ≡ Some b → IsGood vs as_ (names_in g) 0 b

pub names_more : (g : Context) (h : Hypothesis) → names_in (g ++ h ∷ []) ≡ names_in g ++ h.name ∷ []
names_more g h = map-append (λ k. k.name) g (h ∷ [])

-- the hypothesis of a name in a longer context
pub found_more : (g : Context) (h : Hypothesis) (x : Name) (k : Hypothesis) → hypothesis (g ++ h ∷ []) x ≡ Some k → (hypothesis g x ≡ Some k) ⊎ (h ≡ k)
unfolding hypothesis
found_more [] h x k e = at (same_name h.name x) e
  where
    at : (b : Bool) → elim b as (λ z. Option Hypothesis) [ true ↦ Some h | false ↦ None ] ≡ Some k → (None ≡ Some k) ⊎ (h ≡ k)
    at true f = inr (ap (λ o. elim o as (λ z. Hypothesis) [ Some z ↦ z | None ↦ h ]) f)
    at false f = inl f
found_more (i ∷ g) h x k e = at (same_name i.name x) e (λ f. found_more g h x k f)
  where
    at : (b : Bool) → elim b as (λ z. Option Hypothesis) [ true ↦ Some i | false ↦ hypothesis (g ++ h ∷ []) x ] ≡ Some k →
        (hypothesis (g ++ h ∷ []) x ≡ Some k → (hypothesis g x ≡ Some k) ⊎ (h ≡ k)) →
        (elim b as (λ z. Option Hypothesis) [ true ↦ Some i | false ↦ hypothesis g x ] ≡ Some k) ⊎ (h ≡ k)
    at true f ih = inl f
    at false f ih = ih f

body_is : (o : Option Hypothesis) (b : Tree) → body_of o ≡ Some b → (h : Hypothesis) × (o ≡ Some h) × (h.body ≡ Some b)
body_is None b e = absurd (grind (arith, e))
body_is (Some h) b e = (h, refl, e)

module _ (vs : List Variable) (as_ : List Assigned) (g : Context) (h : Hypothesis) where
  longer : (n : ℕ) (t : Tree) → IsGood vs as_ (names_in g) n t → IsGood vs as_ (names_in (g ++ h ∷ [])) n t
  longer n t k =
      along (λ xs. IsGood vs as_ xs n t) (sym (names_more g h))
      (good_names vs as_ (names_in g) (names_in g ++ h.name ∷ []) (λ x e. listed_more (names_in g) (h.name ∷ []) x e) n t k)

  pub context_more : IsGoodContext vs as_ g → IsGood vs as_ (names_in g) 0 h.kind → ((b : Tree) → h.body ≡ Some b → IsGood vs as_ (names_in g) 0 b) → IsGoodContext vs as_ (g ++ h ∷ [])
  context_more c kind body = record {
    named = λ x k e. named x k (found_more g h x k e);
    kinds = λ x k e. kinds x k (found_more g h x k e);
    bodies = λ x b e. let q = body_is (hypothesis (g ++ h ∷ []) x) b e in bodies x q.0 b (found_more g h x q.0 q.1) q.2;
  }
    where
      named : (x : Name) (k : Hypothesis) → (hypothesis g x ≡ Some k) ⊎ (h ≡ k) → is_listed (names_in (g ++ h ∷ [])) k.name ≡ true
      named x k (inl e) = along (λ xs. is_listed xs k.name ≡ true) (sym (names_more g h)) (listed_more (names_in g) (h.name ∷ []) k.name (c.named x k e))
      named x k (inr e) = along (λ xs. is_listed xs k.name ≡ true) (sym (names_more g h)) (along (λ z. is_listed (names_in g ++ h.name ∷ []) z.name ≡ true) e (listed_end (names_in g) h.name))

      kinds : (x : Name) (k : Hypothesis) → (hypothesis g x ≡ Some k) ⊎ (h ≡ k) → IsGood vs as_ (names_in (g ++ h ∷ [])) 0 k.kind
      kinds x k (inl e) = longer 0 k.kind (c.kinds x k e)
      kinds x k (inr e) = longer 0 k.kind (along (λ z. IsGood vs as_ (names_in g) 0 z.kind) e kind)

      bodies : (x : Name) (k : Hypothesis) (b : Tree) → (hypothesis g x ≡ Some k) ⊎ (h ≡ k) → k.body ≡ Some b → IsGood vs as_ (names_in (g ++ h ∷ [])) 0 b
      bodies x k b (inl e) f = longer 0 b (c.bodies x b (ap body_of e ∙ f))
      bodies x k b (inr e) f = longer 0 b (body b (ap (λ z. z.body) e ∙ f))

-- a binder's rest, opened, is good under it; and closed again it is good
module _ (vs : List Variable) (as_ : List Assigned) (g : Context) (h : Hypothesis) where
  pub open_good : (t : Tree) → IsGood vs as_ (names_in g) 1 t → IsGood vs as_ (names_in (g ++ h ∷ [])) 0 (opened h.name t)
  unfolding opened
  open_good t k =
      subst_good vs as_ (names_in (g ++ h ∷ [])) (Var h.name) t (along (λ xs. is_listed xs h.name ≡ true) (sym (names_more g h)) (listed_end (names_in g) h.name)) (longer vs as_ g h 1 t k)

  pub shut_good : (t : Tree) → IsGood vs as_ (names_in (g ++ h ∷ [])) 0 t → IsGood vs as_ (names_in g) 1 (close h.name t)
  shut_good t k = close_good vs as_ (names_in g) h.name 0 0 (omega arith) t (along (λ xs. IsGood vs as_ xs 0 t) (names_more g h) k)

-- ---- inference

-- a type that keeps within the limits is the one that was measured
pub fitting_is : (t A : Tree) → Gives (fitting t) A → t ≡ A
unfolding fitting
fitting_is t A y = at (fit t) y
  where
    at : (o : Fit) → Gives {F = KernelFault} (elim o [ Fit.Fits ↦ gives t | Fit.TooLarge ↦ fails KernelFault.type_too_large | Fit.TooDeep ↦ fails KernelFault.type_too_deep ]) A → t ≡ A
    at Fit.Fits z = z
    at Fit.TooLarge z = absurd z
    at Fit.TooDeep z = absurd z

module _ (env : Env) (plain : ArePlainDeclarations env) (s : Store) (i : IsStore s) where
  abbrev Good : List Name → ℕ → Tree → Type 0
  Good xs n t = IsGood s.variables s.values xs n t

  plain_kind : (xs : List Name) (A : Tree) → IsPlain 0 A → Good xs 0 A
  plain_kind xs A p = plain_good s.variables s.values xs 0 A p.over p.within p.holds

  form_kept : (n : ℕ) (g : Context) → IsGoodContext s.variables s.values g → (K T : Tree) → Good (names_in g) 0 K → Gives (needed_form env n g K) T → Good (names_in g) 0 T
  unfolding needed_form
  form_kept n g c K T k y =
      let a = gives_bind (whnf (rules_of env) g n K) fitting T y in
      along (Good (names_in g) 0) (fitting_is a.0 T a.2)
      (form_good s.variables s.values (names_in g) KernelFault (rules_of env) plain.rules g (λ x v e. c.bodies x v (sym (contract_var (rules_of env) g x) ∙ e)) n K a.0 k a.1)

  -- the declared types
  pub constant_good : (xs : List Name) (x : Name) (A : Tree) → Gives (constant_kind x (lookup env x)) A → Good xs 0 A
  unfolding constant_kind
  constant_good xs x A y = at (lookup env x) refl y
    where
      at : (o : Option Entry) → lookup env x ≡ o → Gives (constant_kind x o) A → Good xs 0 A
      at (Some (constant B t q)) e z = along (Good xs 0) (fitting_is B A z) (plain_kind xs B (plain.constants x B t q e))
      at None e z = absurd z
      at (Some (family f ss)) e z = absurd z
      at (Some (arity B)) e z = absurd z
      at (Some (constructor c k)) e z = absurd z
      at (Some (eliminator c u)) e z = absurd z

  pub family_good : (xs : List Name) (x : Name) (A : Tree) → Gives (family_kind x (lookup env x)) A → Good xs 0 A
  unfolding family_kind
  family_good xs x A y = at (lookup env x) refl y
    where
      at : (o : Option Entry) → lookup env x ≡ o → Gives (family_kind x o) A → Good xs 0 A
      at (Some (family f ss)) e z = along (Good xs 0) (fitting_is (family_type f) A z) (plain_kind xs (family_type f) (plain.families x f ss e))
      at (Some (arity B)) e z = along (Good xs 0) (fitting_is B A z) (plain_kind xs B (plain.arities x B e))
      at None e z = absurd z
      at (Some (constant B t q)) e z = absurd z
      at (Some (constructor c k)) e z = absurd z
      at (Some (eliminator c u)) e z = absurd z

  pub constructor_good : (xs : List Name) (x : Name) (k : ℕ) (A : Tree) → Gives (ctor_kind x k (lookup env x)) A → Good xs 0 A
  unfolding ctor_kind
  constructor_good xs x k A y = at (lookup env x) refl y
    where
      kind : (f : Family) (ss : List Universe) → lookup env x ≡ Some (family f ss) → (o : Option Tree) → constructor_kind f k ≡ o →
          Gives {F = KernelFault} (elim o [ Some B ↦ fitting B | None ↦ fails (KernelFault.unbound x) ]) A → Good xs 0 A
      kind f ss e None q z = absurd z
      kind f ss e (Some B) q z = along (Good xs 0) (fitting_is B A z) (plain_kind xs B (plain.constructors x f ss k B e q))

      at : (o : Option Entry) → lookup env x ≡ o → Gives (ctor_kind x k o) A → Good xs 0 A
      at (Some (family f ss)) e z = kind f ss e (constructor_kind f k) refl z
      at None e z = absurd z
      at (Some (constant B t q)) e z = absurd z
      at (Some (arity B)) e z = absurd z
      at (Some (constructor c j)) e z = absurd z
      at (Some (eliminator c u)) e z = absurd z

  pub eliminator_good : (xs : List Name) (x : Name) (u : Universe) (A : Tree) → Gives (elim_kind x u (lookup env x)) A → Good xs 0 A
  unfolding elim_kind
  eliminator_good xs x u A y = at (lookup env x) refl y
    where
      kind : (f : Family) (ss : List Universe) → lookup env x ≡ Some (family f ss) → (o : Bool) → permits ss u ≡ o →
          Gives {F = KernelFault} (elim o [ true ↦ fitting (elim_type f u) | false ↦ fails (KernelFault.env_fault (EnvFault.elim_forbidden x u)) ]) A → Good xs 0 A
      kind f ss e false q z = absurd z
      kind f ss e true q z = along (Good xs 0) (fitting_is (elim_type f u) A z) (plain_kind xs (elim_type f u) (plain.eliminators x f ss u e q))

      at : (o : Option Entry) → lookup env x ≡ o → Gives (elim_kind x u o) A → Good xs 0 A
      at (Some (family f ss)) e z = kind f ss e (permits ss u) refl z
      at None e z = absurd z
      at (Some (constant B t q)) e z = absurd z
      at (Some (arity B)) e z = absurd z
      at (Some (constructor c j)) e z = absurd z
      at (Some (eliminator c v)) e z = absurd z

  pub above_good : (xs : List Name) (u : Universe) (A : Tree) → Gives (sort_above u) A → Good xs 0 A
  unfolding sort_above
  above_good xs Universe.Base A y = along (Good xs 0) y tt
  above_good xs (Universe.Level k) A y = at (ltb k 3) y
    where
      at : (o : Bool) → Gives {F = KernelFault} (elim o [ true ↦ gives (Sort (Universe.Level (suc k))) | false ↦ fails KernelFault.no_sort_above ]) A → Good xs 0 A
      at true z = along (Good xs 0) z tt
      at false z = absurd z

  -- the type of a variable at an instance
  entries_good : (xs : List Name) (ts : Trees) → EachIsGood s.variables s.values xs 0 ts → AllHave (Good xs 0) (entries ts)
  unfolding entries
  entries_good xs none g = tt
  entries_good xs (more t ts) g = (g.0, entries_good xs ts g.1)

  names_are : (k : ℕ) (v : Variable) → slice_get s.variables k ≡ Some v → names_at s.variables k ≡ names_in v.context
  unfolding names_at
  names_are k v e = ap (λ o. elim o as (λ z. List Name) [ Some w ↦ names_in w.context | None ↦ [] ]) e

  variable_good : (xs : List Name) (k : ℕ) (ts : Trees) (A : Tree) → Good xs 0 (Evar k ts) → Gives (variable_kind s k ts (slice_get s.variables k)) A → Good xs 0 A
  unfolding variable_kind body_at
  variable_good xs k ts A g y = at (slice_get s.variables k) refl y
    where
      at : (o : Option Variable) → slice_get s.variables k ≡ o → Gives (variable_kind s k ts o) A → Good xs 0 A
      at None e z = absurd z
      at (Some v) e z =
          let many : length (names_in v.context) ≤ length (entries ts) = omega (arith, g.1, ap length (names_are k v e)) in
          let stands = all_get (IsVariable s) s.variables k v i.variables e in
          along (Good xs 0) (fitting_is (put (zip (names_in v.context) (entries ts)) 0 (read s v.kind)) A z)
          (put_good s.variables s.values xs (names_in v.context) (entries ts) many (entries_good xs ts g.3) 0 (read s v.kind) (good_read s i (names_in v.context) v.kind stands.1))

  abbrev InferGood : ℕ → Type 0
  InferGood n = (g : Context) → IsGoodContext s.variables s.values g → (t A : Tree) → Good (names_in g) 0 t → Gives (infer_by (by_store_types s) env n g t) A → Good (names_in g) 0 A

  -- a hypothesis of the context
  hypothesis_good : (g : Context) → IsGoodContext s.variables s.values g → (x : Name) (A : Tree) (o : Option Hypothesis) → hypothesis g x ≡ o →
      Gives {F = KernelFault} (elim o [ Some h ↦ fitting h.kind | None ↦ fails (KernelFault.unbound x) ]) A → Good (names_in g) 0 A
  hypothesis_good g c x A None e z = absurd z
  hypothesis_good g c x A (Some h) e z = along (Good (names_in g) 0) (fitting_is h.kind A z) (c.kinds x h e)

  product_good : (xs : List Name) (T : Tree) (p : Tree × Tree) → Good xs 0 T → Gives (as_product T) p → Good xs 0 p.0 × Good xs 1 p.1
  unfolding as_product
  product_good xs (Prod x A B) p g y = along (λ q. Good xs 0 q.0 × Good xs 1 q.1) y g
  product_good xs (Rel k) p g y = absurd y
  product_good xs (Var x) p g y = absurd y
  product_good xs (Sort u) p g y = absurd y
  product_good xs (Lam x A B) p g y = absurd y
  product_good xs (Let x v A B) p g y = absurd y
  product_good xs (App f a) p g y = absurd y
  product_good xs (Const c) p g y = absurd y
  product_good xs (Ind c) p g y = absurd y
  product_good xs (Ctor c k) p g y = absurd y
  product_good xs (Elim c u) p g y = absurd y
  product_good xs (Evar k ts) p g y = absurd y

  pub infer_good : (n : ℕ) → InferGood n
  unfolding infer_by under under_let
  infer_good zero g c t A k y = absurd y
  infer_good (suc n) g c (Rel j) A k y = absurd y
  infer_good (suc n) g c (Var x) A k y = hypothesis_good g c x A (hypothesis g x) refl y
  infer_good (suc n) g c (Sort u) A k y = above_good (names_in g) u A y
  infer_good (suc n) g c (Const x) A k y = constant_good (names_in g) x A y
  infer_good (suc n) g c (Ind x) A k y = family_good (names_in g) x A y
  infer_good (suc n) g c (Ctor x j) A k y = constructor_good (names_in g) x j A y
  infer_good (suc n) g c (Elim x u) A k y = eliminator_good (names_in g) x u A y
  infer_good (suc n) g c (Evar j ts) A k y = variable_good (names_in g) j ts A k y
  infer_good (suc n) g c (Prod x D B) A k y =
      let a = gives_bind (infer_by (by_store_types s) env n g D) _ A y in
      let d = gives_bind (needed_form env n g a.0 >>= as_sort) _ A a.2 in
      let e = gives_bind (infer_by (by_store_types s) env n (under g (fresh g x) D) (opened (fresh g x) B)) _ A d.2 in
      let h = gives_bind (needed_form env n (under g (fresh g x) D) e.0 >>= as_sort) _ A e.2 in
      along (Good (names_in g) 0) h.2 tt
  infer_good (suc n) g c (Lam x D t) A k y =
      let a = gives_bind (infer_by (by_store_types s) env n g D) _ A y in
      let d = gives_bind (needed_form env n g a.0 >>= as_sort) _ A a.2 in
      let e = gives_bind (infer_by (by_store_types s) env n (under g (fresh g x) D) (opened (fresh g x) t)) _ A d.2 in
      let h : Hypothesis = record { name = fresh g x; body = None; kind = D } in
      let more = context_more s.variables s.values g h c k.0 (λ v q. absurd (grind (arith, q))) in
      let inner = infer_good n (g ++ h ∷ []) more (opened (fresh g x) t) e.0 (open_good s.variables s.values g h t k.1) e.1 in
      along (Good (names_in g) 0) (fitting_is (Prod x D (close (fresh g x) e.0)) A e.2) (k.0, shut_good s.variables s.values g h e.0 inner)
  infer_good (suc n) g c (Let x v D t) A k y =
      let a = gives_bind (infer_by (by_store_types s) env n g D) _ A y in
      let d = gives_bind (needed_form env n g a.0 >>= as_sort) _ A a.2 in
      let e = gives_bind (infer_by (by_store_types s) env n g v) _ A d.2 in
      let f = gives_bind (matching_by (by_store_types s) env n g e.0 D) _ A e.2 in
      let m = gives_bind (infer_by (by_store_types s) env n (under_let g (fresh g x) v D) (opened (fresh g x) t)) _ A f.2 in
      let h : Hypothesis = record { name = fresh g x; body = Some v; kind = D } in
      let more = context_more s.variables s.values g h c k.1 (λ w q. along (Good (names_in g) 0) (ap (λ o. elim o as (λ z. Tree) [ Some z ↦ z | None ↦ v ]) q) k.0) in
      let inner = infer_good n (g ++ h ∷ []) more (opened (fresh g x) t) m.0 (open_good s.variables s.values g h t k.2) m.1 in
      along (Good (names_in g) 0) (fitting_is (subst v (close (fresh g x) m.0)) A m.2)
      (subst_good s.variables s.values (names_in g) v (close (fresh g x) m.0) k.0 (shut_good s.variables s.values g h m.0 inner))
  infer_good (suc n) g c (App f u) A k y =
      let a = gives_bind (infer_by (by_store_types s) env n g f) _ A y in
      let d = gives_bind (needed_form env n g a.0 >>= as_product) _ A a.2 in
      let b = gives_bind (needed_form env n g a.0) as_product d.0 d.1 in
      let e = gives_bind (infer_by (by_store_types s) env n g u) _ A d.2 in
      let m = gives_bind (matching env n g e.0 d.0.0) _ A e.2 in
      let form = form_kept n g c a.0 b.0 (infer_good n g c f a.0 k.0 a.1) b.1 in
      let parts = product_good (names_in g) b.0 d.0 form b.2 in
      along (Good (names_in g) 0) (fitting_is (subst u d.0.1) A m.2) (subst_good s.variables s.values (names_in g) u d.0.1 k.1 parts.1)
