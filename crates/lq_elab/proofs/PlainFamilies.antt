-- The types that a family declares, and its rule of computation, where its telescope and its constructors' types hold no variable.
use Rattle.std.proofs.Common.{◌≡◌, ◌≤◌, ◌+◌, ℕ, zero, suc, refl, sym, ◌∙◌, ap, arith, Bool, true, false, ◌||◌, if◌then◌else◌, List, [], ◌∷◌, ◌++◌, map, length}
use Rattle.std.proofs.Common.{reverse, drop, Option, Some, None}
use Rattle.std.proofs.Common.{subst as along}
use Rattle.std.proofs.lemmas.List.{append_assoc, append-nil}
use Rattle.std.specs.Prelude.{slice_get, zip}
use Rattle.std.specs.List.{AllByRecursion}
use Rattle.lq_trees.specs.declared.Sort.{Sort as Universe}
use Rattle.lq_trees.specs.Tree.{Name, Tree, Hypothesis, Context, same_name, value_of}
use Rattle.lq_trees.specs.Tree.Tree.{Rel, Var, Sort, Prod, Lam, Let, App, Const, Ind, Ctor, Elim, Evar}
use Rattle.lq_trees.specs.Change.{lift, fill, put}
use Rattle.lq_trees.specs.Fresh.{is_listed}
use Rattle.lq_trees.specs.Rules.{Arguments}
use Rattle.lq_calculus.specs.Contraction.{spine, apply}
use Rattle.lq_calculus.specs.Declarations.{Family, product, products, variables, own_of, own, instance_of, family_type, constructor_type, premise_end, premise}
use Rattle.lq_calculus.specs.Declarations.{premises, predicate_type, conclusion, elim_type, arguments_of, count_down, rule_arguments, constructor_kind}
use Rattle.lq_solving.specs.Stores.{names_in}
use Rattle.lq_solving.specs.Claims.{IsPlain, ArePlain}
use Rattle.lq_solving.proofs.Moving.{AllHave}
use Rattle.lq_solving.proofs.Motions.{all_drop}
use Rattle.lq_solving.proofs.InstanceLaws.{same_flip, is_same, length_map}
use Rattle.lq_elab.proofs.PlainTerms.{IsBare, bare_plain, bare_more, bare_names, bare_lift, bare_lift_all, bare_close, have_reverse, bare_fill, bare_fill_all}
use Rattle.lq_elab.proofs.PlainTerms.{bare_put, bare_apply, bare_spine}

-- names of one list that stand in another
abbrev pub AreListed : List Name → List Name → Type 0
AreListed xs ys = (x : Name) → is_listed xs x ≡ true → is_listed ys x ≡ true

pub listed_left : (g h : Context) → AreListed (names_in g) (names_in (g ++ h))
unfolding is_listed
listed_left [] h x e = absurd (grind arith)
listed_left (k ∷ g) h x e = at (same_name k.name x) e (λ f. listed_left g h x f)
  where
    at : (o : Bool) → (o || is_listed (names_in g) x) ≡ true → (is_listed (names_in g) x ≡ true → is_listed (names_in (g ++ h)) x ≡ true) →
        (o || is_listed (names_in (g ++ h)) x) ≡ true
    at true f ih = refl
    at false f ih = ih f

pub listed_right : (g h : Context) → AreListed (names_in h) (names_in (g ++ h))
unfolding is_listed
listed_right [] h x e = e
listed_right (k ∷ g) h x e = at (same_name k.name x) (listed_right g h x e)
  where
    at : (o : Bool) → is_listed (names_in (g ++ h)) x ≡ true → (o || is_listed (names_in (g ++ h)) x) ≡ true
    at true f = refl
    at false f = f

-- a name of a longer context that is not the last one
pub listed_before : (g : Context) (h : Hypothesis) (x : Name) → is_listed (names_in (g ++ h ∷ [])) x ≡ true → same_name x h.name ≡ false →
    is_listed (names_in g) x ≡ true
unfolding is_listed
listed_before [] h x e f = absurd (other (same_name h.name x) (same_flip h.name x ∙ f) e)
  where
    other : (b : Bool) → b ≡ false → (b || false) ≡ true → ⊥
    other true p q = grind (arith, p)
    other false p q = grind (arith, q)
listed_before (k ∷ g) h x e f = at (same_name k.name x) e (λ p. listed_before g h x p f)
  where
    at : (b : Bool) → (b || is_listed (names_in (g ++ h ∷ [])) x) ≡ true → (is_listed (names_in (g ++ h ∷ [])) x ≡ true → is_listed (names_in g) x ≡ true) →
        (b || is_listed (names_in g) x) ≡ true
    at true p ih = refl
    at false p ih = ih p

-- hypotheses whose types stand among those before them
abbrev pub BareBehind : Context → Context → Type 0
BareBehind g [] = Unit {0}
BareBehind g (h ∷ hs) = IsBare (names_in g) 0 h.kind × BareBehind (g ++ h ∷ []) hs

pub behind_left : (g hs ks : Context) → BareBehind g (hs ++ ks) → BareBehind g hs
behind_left g [] ks b = tt
behind_left g (h ∷ hs) ks b = (b.0, behind_left (g ++ h ∷ []) hs ks b.1)

pub behind_right : (g hs ks : Context) → BareBehind g (hs ++ ks) → BareBehind (g ++ hs) ks
behind_right g [] ks b = along (λ z. BareBehind z ks) (sym (append-nil g)) b
behind_right g (h ∷ hs) ks b = along (λ z. BareBehind z ks) (append_assoc g (h ∷ []) hs) (behind_right (g ++ h ∷ []) hs ks b.1)

pub bare_products : (g hs : Context) (n : ℕ) (t : Tree) → BareBehind g hs → IsBare (names_in (g ++ hs)) n t → IsBare (names_in g) n (products hs t)
unfolding products product
bare_products g [] n t b k = along (λ z. IsBare (names_in z) n t) (append-nil g) k
bare_products g (h ∷ hs) n t b k = (
  bare_more (names_in g) 0 n (omega arith) h.kind b.0,
  bare_close (names_in g) (names_in (g ++ h ∷ [])) h.name (λ x e f. listed_before g h x e f) n (products hs t)
      (bare_products (g ++ h ∷ []) hs n t b.1 (along (λ z. IsBare (names_in z) n t) (sym (append_assoc g (h ∷ []) hs)) k)),
)

pub bare_variables : (xs : List Name) (n : ℕ) (g : Context) → AreListed (names_in g) xs → AllHave (IsBare xs n) (variables g)
unfolding variables is_listed
bare_variables xs n [] f = tt
bare_variables xs n (h ∷ g) f =
    (f h.name (ap (λ o. o || is_listed (names_in g) h.name) (is_same h.name)), bare_variables xs n g (λ x e. f x (at (same_name h.name x) x e)))
  where
    at : (o : Bool) (x : Name) → is_listed (names_in g) x ≡ true → (o || is_listed (names_in g) x) ≡ true
    at true x e = refl
    at false x e = e

-- the indices of the family in a term that is of it
own_if : (b : Bool) (ts us : List Tree) → elim b [ true ↦ Some ts | false ↦ None ] ≡ Some us → ts ≡ us
own_if true ts us e = ap (λ o. elim o [ Some z ↦ z | None ↦ ts ]) e
own_if false ts us e = absurd (grind arith)

own_of_is : (f : Family) (h : Tree) (args ts : List Tree) → own_of f h args ≡ Some ts → drop (length f.parameters) args ≡ ts
unfolding own_of
own_of_is f (Ind c) args ts e = own_if _ (drop (length f.parameters) args) ts e
own_of_is f (Rel i) args ts e = absurd (grind arith)
own_of_is f (Var x) args ts e = absurd (grind arith)
own_of_is f (Sort s) args ts e = absurd (grind arith)
own_of_is f (Prod x A B) args ts e = absurd (grind arith)
own_of_is f (Lam x A B) args ts e = absurd (grind arith)
own_of_is f (Let x v A B) args ts e = absurd (grind arith)
own_of_is f (App g a) args ts e = absurd (grind arith)
own_of_is f (Const c) args ts e = absurd (grind arith)
own_of_is f (Ctor c k) args ts e = absurd (grind arith)
own_of_is f (Elim c s) args ts e = absurd (grind arith)
own_of_is f (Evar n us) args ts e = absurd (grind arith)

pub bare_own : (xs : List Name) (n : ℕ) (f : Family) (t : Tree) (ts : List Tree) → IsBare xs n t → own f t ≡ Some ts → AllHave (IsBare xs n) ts
unfolding own
bare_own xs n f t ts g e =
    along (AllHave (IsBare xs n)) (own_of_is f (spine t []).0 (spine t []).1 ts e)
    (all_drop (IsBare xs n) (length f.parameters) (spine t []).1 (bare_spine xs n t [] g tt))

-- the family at indices
pub bare_instance : (xs : List Name) (n : ℕ) (f : Family) (ts : List Tree) → AreListed (names_in f.parameters) xs → AllHave (IsBare xs n) ts →
    IsBare xs n (instance_of f ts)
unfolding instance_of
bare_instance xs n f ts l h = bare_apply xs n _ ts (bare_apply xs n (Ind f.name) (variables f.parameters) tt (bare_variables xs n f.parameters l)) h

-- the premise of a constructor
module _ (f : Family) (k : ℕ) (xs : List Name) (listed : AreListed (names_in f.parameters) xs) where
  -- the predicate and the arguments so far, as they are written at one place
  abbrev pub AreSeen : ℕ → ℕ → Tree → List Tree → Type 0
  AreSeen n m q seen = IsBare xs n q × AllHave (IsBare xs n) seen × (m ≡ length seen) × (m ≤ n)

  seen_one : (n m : ℕ) (q : Tree) (seen : List Tree) → AreSeen n m q seen → AreSeen (n + 1) (m + 1) (lift 1 0 q) (Rel 0 ∷ map (lift 1 0) seen)
  seen_one n m q seen s =
      (bare_lift xs n 1 q s.0, (omega arith, bare_lift_all xs n 1 seen s.1), omega (arith, s.2, length_map (lift 1 0) seen), omega (arith, s.3))

  seen_two : (n m : ℕ) (q : Tree) (seen : List Tree) → AreSeen n m q seen → AreSeen (n + 2) (m + 1) (lift 2 0 q) (Rel 1 ∷ map (lift 2 0) seen)
  seen_two n m q seen s =
      (bare_lift xs n 2 q s.0, (omega arith, bare_lift_all xs n 2 seen s.1), omega (arith, s.2, length_map (lift 2 0) seen), omega (arith, s.3))

  filled_target : (n m : ℕ) (q : Tree) (seen : List Tree) → AreSeen n m q seen → (ts : List Tree) → AllHave (IsBare xs m) ts →
      AllHave (IsBare xs (n + 1)) (map (λ t. lift 1 0 (fill seen 0 t)) ts)
  filled_target n m q seen s [] g = tt
  filled_target n m q seen s (t ∷ ts) g = (bare_lift xs n 1 (fill seen 0 t) (bare_fill xs n m seen s.2 s.1 t g.0), filled_target n m q seen s ts g.1)

  premise_goes : (n m : ℕ) (q : Tree) (seen : List Tree) → AreSeen n m q seen → (x : Name) (A B : Tree) → IsBare xs m A →
      IsBare xs (n + 1) (premise f k (lift 1 0 q) (Rel 0 ∷ map (lift 1 0) seen) B) →
      IsBare xs (n + 2) (premise f k (lift 2 0 q) (Rel 1 ∷ map (lift 2 0) seen) B) →
      (o : Option (List Tree)) → own f A ≡ o →
      IsBare xs n (elim o [
        | None ↦ Prod x (fill seen 0 A) (premise f k (lift 1 0 q) (Rel 0 ∷ map (lift 1 0) seen) B)
        | Some ts ↦
            Prod x (fill seen 0 A)
            (Prod [] (App (apply (lift 1 0 q) (map (λ t. lift 1 0 (fill seen 0 t)) ts)) (Rel 0))
            (premise f k (lift 2 0 q) (Rel 1 ∷ map (lift 2 0) seen) B))
      ])
  premise_goes n m q seen s x A B g one two None e = (bare_fill xs n m seen s.2 s.1 A g, one)
  premise_goes n m q seen s x A B g one two (Some ts) e = (
    bare_fill xs n m seen s.2 s.1 A g,
    (
      (bare_apply xs (n + 1) (lift 1 0 q) _ (bare_lift xs n 1 q s.0) (filled_target n m q seen s ts (bare_own xs m f A ts g e)), omega arith),
      along (λ z. IsBare xs z (premise f k (lift 2 0 q) (Rel 1 ∷ map (lift 2 0) seen) B)) (omega arith) two,
    ),
  )

  premise_ends : (n m : ℕ) (q : Tree) (seen : List Tree) → AreSeen n m q seen → (t : Tree) → IsBare xs m t → (o : Option (List Tree)) → own f t ≡ o →
      IsBare xs n (elim o [ None ↦ t | Some ts ↦ premise_end f k q (reverse seen) (map (fill seen 0) ts) ])
  unfolding premise_end
  premise_ends n m q seen s t g None e = bare_more xs m n s.3 t g
  premise_ends n m q seen s t g (Some ts) e = (
    bare_apply xs n q _ s.0 (bare_fill_all xs n m seen s.2 s.1 ts (bare_own xs m f t ts g e)),
    bare_apply xs n _ (reverse seen) (bare_apply xs n (Ctor f.name k) (variables f.parameters) tt (bare_variables xs n f.parameters listed))
        (have_reverse (IsBare xs n) seen s.1),
  )

  pub bare_premise : (n m : ℕ) (q : Tree) (seen : List Tree) → AreSeen n m q seen → (t : Tree) → IsBare xs m t → IsBare xs n (premise f k q seen t)
  unfolding premise
  bare_premise n m q seen s (Prod x A B) g =
      premise_goes n m q seen s x A B g.0
      (bare_premise (n + 1) (m + 1) (lift 1 0 q) (Rel 0 ∷ map (lift 1 0) seen) (seen_one n m q seen s) B g.1)
      (bare_premise (n + 2) (m + 1) (lift 2 0 q) (Rel 1 ∷ map (lift 2 0) seen) (seen_two n m q seen s) B g.1) (own f A) refl
  bare_premise n m q seen s (Rel i) g = premise_ends n m q seen s (Rel i) g (own f (Rel i)) refl
  bare_premise n m q seen s (Var x) g = premise_ends n m q seen s (Var x) g (own f (Var x)) refl
  bare_premise n m q seen s (Sort u) g = premise_ends n m q seen s (Sort u) g (own f (Sort u)) refl
  bare_premise n m q seen s (Lam x A B) g = premise_ends n m q seen s (Lam x A B) g (own f (Lam x A B)) refl
  bare_premise n m q seen s (Let x v A B) g = premise_ends n m q seen s (Let x v A B) g (own f (Let x v A B)) refl
  bare_premise n m q seen s (App h a) g = premise_ends n m q seen s (App h a) g (own f (App h a)) refl
  bare_premise n m q seen s (Const c) g = premise_ends n m q seen s (Const c) g (own f (Const c)) refl
  bare_premise n m q seen s (Ind c) g = premise_ends n m q seen s (Ind c) g (own f (Ind c)) refl
  bare_premise n m q seen s (Ctor c j) g = premise_ends n m q seen s (Ctor c j) g (own f (Ctor c j)) refl
  bare_premise n m q seen s (Elim c u) g = premise_ends n m q seen s (Elim c u) g (own f (Elim c u)) refl
  bare_premise n m q seen s (Evar j ts) g = premise_ends n m q seen s (Evar j ts) g (own f (Evar j ts)) refl

-- constructors whose types hold no variable, and hypotheses of these names alone
abbrev pub AreConstructors : List Name → List (Name × Tree) → Type 0
AreConstructors xs [] = Unit {0}
AreConstructors xs (c ∷ cs) = IsBare xs 0 c.1 × AreConstructors xs cs

pub constructor_at : (xs : List Name) (cs : List (Name × Tree)) → AreConstructors xs cs → (k : ℕ) (c : Name × Tree) → slice_get cs k ≡ Some c → IsBare xs 0 c.1
constructor_at xs [] g k c e = absurd (grind arith)
constructor_at xs (d ∷ cs) g zero c e = along (λ z. IsBare xs 0 z.1) (ap (λ o. elim o [ Some z ↦ z | None ↦ d ]) e) g.0
constructor_at xs (d ∷ cs) g (suc k) c e = constructor_at xs cs g.1 k c e

-- the premises, in front of what stands below them all
pub bare_premises : (f : Family) (xs : List Name) → AreListed (names_in f.parameters) xs → (n m : ℕ) (k : ℕ) (q : Tree) (cs : List (Name × Tree)) (end : Tree) →
    m ≡ n + length cs →
    IsBare xs n q → AreConstructors xs cs → IsBare xs m end → IsBare xs n (premises f k q cs end)
unfolding premises
bare_premises f xs l n m k q [] end e g h i = along (λ z. IsBare xs z end) (omega arith) i
bare_premises f xs l n m k q (c ∷ cs) end e g h i = (
  bare_premise f k xs l n 0 q [] (g, tt, refl, omega arith) c.1 h.0,
  bare_premises f xs l (n + 1) m (suc k) (lift 1 0 q) cs end (omega (arith, e)) (bare_lift xs n 1 q g) h.1 i,
)

-- a family whose parameters, indices and constructors' types hold no variable, and hypotheses of those before alone
pub record IsBareFamily (f : Family) : Type 0 where
  pub parameters : BareBehind [] f.parameters
  pub indices : BareBehind f.parameters f.indices
  pub constructors : AreConstructors (names_in f.parameters) f.constructors

module _ (f : Family) (b : IsBareFamily f) where
  abbrev outer : List Name
  outer = names_in f.parameters

  abbrev inner : List Name
  inner = names_in (f.parameters ++ f.indices)

  indices_in : (n : ℕ) → AllHave (IsBare inner n) (variables f.indices)
  indices_in n = bare_variables inner n f.indices (listed_right f.parameters f.indices)

  family_at : (n : ℕ) → IsBare inner n (instance_of f (variables f.indices))
  family_at n = bare_instance inner n f (variables f.indices) (listed_left f.parameters f.indices) (indices_in n)

  pub plain_family_type : IsPlain 0 (family_type f)
  unfolding family_type
  plain_family_type = bare_plain 0 _ (bare_products [] f.parameters 0 _ b.parameters (bare_products f.parameters f.indices 0 (Sort f.sort) b.indices tt))

  pub plain_constructor : (k : ℕ) (A : Tree) → constructor_kind f k ≡ Some A → IsPlain 0 A
  unfolding constructor_kind constructor_type
  plain_constructor k A e = at (slice_get f.constructors k) refl e
    where
      at : (o : Option (Name × Tree)) → slice_get f.constructors k ≡ o → elim o [ None ↦ None | Some c ↦ Some (products f.parameters c.1) ] ≡ Some A →
          IsPlain 0 A
      at None p q = absurd (grind arith)
      at (Some c) p q =
          along (IsPlain 0) (ap (λ o. elim o [ Some z ↦ z | None ↦ A ]) q)
          (bare_plain 0 _ (bare_products [] f.parameters 0 c.1 b.parameters (constructor_at outer f.constructors b.constructors k c p)))

  bare_predicate : (s : Universe) → IsBare outer 0 (predicate_type f s)
  unfolding predicate_type
  bare_predicate s = bare_products f.parameters f.indices 0 _ b.indices (family_at 0, tt)

  bare_conclusion : (n : ℕ) (q : Tree) → IsBare outer n q → IsBare outer n (conclusion f q)
  unfolding conclusion
  bare_conclusion n q g =
      bare_products f.parameters f.indices n _
      b.indices (
        family_at n,
        (
          bare_apply inner (n + 1) (lift 1 0 q) (variables f.indices)
              (bare_names outer inner (listed_left f.parameters f.indices) (n + 1) (lift 1 0 q) (bare_lift outer n 1 q g)) (indices_in (n + 1)),
          omega arith,
        ),
      )

  pub plain_elim_type : (s : Universe) → IsPlain 0 (elim_type f s)
  unfolding elim_type
  plain_elim_type s =
      bare_plain 0 _
      (bare_products [] f.parameters 0 _ b.parameters (
        bare_predicate s,
        bare_premises f outer (λ x e. e) 1 (1 + length f.constructors) 0 (Rel 0) f.constructors (conclusion f (Rel (length f.constructors)))
            refl (omega arith) b.constructors
            (bare_conclusion (1 + length f.constructors) (Rel (length f.constructors)) (omega arith)),
      ))

-- bound variables for the parameters
pub length_down : (n : ℕ) → length (count_down n) ≡ n
unfolding count_down
length_down zero = refl
length_down (suc n) = ap suc (length_down n)

pub bare_down : (n m : ℕ) → n ≤ m → AllHave (IsBare [] m) (count_down n)
unfolding count_down
bare_down zero m l = tt
bare_down (suc n) m l = (l, bare_down n m (omega (arith, l)))

-- each name has one of the terms
pub found_bare : (m : ℕ) (ys : List Name) (us : List Tree) → length ys ≤ length us → AllHave (IsBare [] m) us → (x : Name) → is_listed ys x ≡ true →
    (v : Tree) × (value_of (zip ys us) x ≡ Some v) × IsBare [] m v
unfolding is_listed
found_bare m [] us l g x e = absurd (grind arith)
found_bare m (y ∷ ys) [] l g x e = absurd (omega arith)
found_bare m (y ∷ ys) (u ∷ us) l g x e = at (same_name x y) (ap (λ o. o || is_listed ys x) (same_flip x y) ∙ e) (λ f. found_bare m ys us (omega arith) g.1 x f)
  where
    at : (b : Bool) → (b || is_listed ys x) ≡ true → (is_listed ys x ≡ true → (v : Tree) × (value_of (zip ys us) x ≡ Some v) × IsBare [] m v) →
        (v : Tree) × ((if b then Some u else value_of (zip ys us) x) ≡ Some v) × IsBare [] m v
    at true f ih = (u, refl, g.0)
    at false f ih = ih f

-- the arguments of a constructor, with bound variables for the parameters
module _ (f : Family) (xs : List Name) (m : ℕ) (qs : List (Name × Tree))
    (found : (x : Name) → is_listed xs x ≡ true → (v : Tree) × (value_of qs x ≡ Some v) × IsBare [] m v) where
  targets_plain : (d : ℕ) (ts : List Tree) → AllHave (IsBare xs d) ts → AllByRecursion (IsPlain (m + d)) (map (put qs d) ts)
  targets_plain d [] g = tt
  targets_plain d (t ∷ ts) g = (bare_plain (m + d) (put qs d t) (bare_put xs m qs found d t g.0), targets_plain d ts g.1)

  argument_plain : (d : ℕ) (A B : Tree) → IsBare xs d A → ArePlain (suc (m + d)) (arguments_of f qs (suc d) B) → (o : Option (List Tree)) → own f A ≡ o →
      ArePlain (m + d) (elim o [ None ↦ None ∷ arguments_of f qs (suc d) B | Some ts ↦ Some (map (put qs d) ts) ∷ arguments_of f qs (suc d) B ])
  argument_plain d A B g h None e = h
  argument_plain d A B g h (Some ts) e = (targets_plain d ts (bare_own xs d f A ts g e), h)

  pub plain_arguments : (d : ℕ) (t : Tree) → IsBare xs d t → ArePlain (m + d) (arguments_of f qs d t)
  unfolding arguments_of
  plain_arguments d (Prod x A B) g =
      argument_plain d A B g.0
      (along (λ z. ArePlain z (arguments_of f qs (suc d) B)) (omega arith) (plain_arguments (suc d) B (along (λ z. IsBare xs z B) (omega arith) g.1)))
      (own f A) refl
  plain_arguments d (Rel i) g = tt
  plain_arguments d (Var x) g = tt
  plain_arguments d (Sort s) g = tt
  plain_arguments d (Lam x A B) g = tt
  plain_arguments d (Let x v A B) g = tt
  plain_arguments d (App h a) g = tt
  plain_arguments d (Const c) g = tt
  plain_arguments d (Ind c) g = tt
  plain_arguments d (Ctor c k) g = tt
  plain_arguments d (Elim c s) g = tt
  plain_arguments d (Evar n ts) g = tt

pub plain_rule : (f : Family) → IsBareFamily f → (k : ℕ) (rs : Arguments) → rule_arguments f k ≡ Some rs → ArePlain (length f.parameters) rs
unfolding rule_arguments
plain_rule f b k rs e = at (slice_get f.constructors k) refl e
  where
    m : ℕ
    m = length f.parameters

    qs : List (Name × Tree)
    qs = zip (names_in f.parameters) (count_down (length f.parameters))

    found : (x : Name) → is_listed (names_in f.parameters) x ≡ true → (v : Tree) × (value_of qs x ≡ Some v) × IsBare [] m v
    found x l =
        found_bare m (names_in f.parameters) (count_down m)
        (omega (arith, length_map (λ h. h.name) f.parameters, length_down m)) (bare_down m m (omega arith)) x l

    at : (o : Option (Name × Tree)) → slice_get f.constructors k ≡ o →
        elim o [ None ↦ None | Some c ↦ Some (arguments_of f qs 0 c.1) ] ≡ Some rs → ArePlain m rs
    at None p q = absurd (grind arith)
    at (Some c) p q =
        along (ArePlain m) (ap (λ o. elim o [ Some z ↦ z | None ↦ rs ]) q)
        (along (λ z. ArePlain z (arguments_of f qs 0 c.1)) (omega arith)
        (plain_arguments f (names_in f.parameters) m qs found 0 c.1 (constructor_at (names_in f.parameters) f.constructors b.constructors k c p)))
