-- Constructors, and how many there are.
use Rattle.std.proofs.Common.{◌≡◌, ◌<◌, ◌≤◌, ◌+◌, ◌-◌, ◌∙◌, ℕ, zero, suc, refl, sym, ap, ap₂, arith, eqb, eq-eqb, Bool, true, false, if◌then◌else◌, List, [], ◌∷◌, length, map, take, slice_index_or, Option, Some, None}
use Rattle.std.proofs.Common.{subst as along}
use Rattle.std.proofs.lemmas.Bool.{ne_eqb}
use Rattle.std.proofs.lemmas.List.{length-map}
use Rattle.std.specs.Prelude.{slice_get, zip, option_map}
use Rattle.std.specs.List.{AllByRecursion}
use Rattle.lq_trees.specs.Tree.{Name, Tree, same_name, value_of}
use Rattle.lq_trees.specs.Tree.Tree.{Ctor}
use Rattle.lq_trees.specs.Change.{put, standing, instantiating, instance}
use Rattle.lq_trees.specs.Index.{Within, highest, last_index}
use Rattle.lq_trees.specs.Size.{depth}
use Rattle.lq_trees.specs.Ticks.{gives, fails, ◌>>=◌}
use Rattle.lq_trees.proofs.Indices.{highest-within}
use Rattle.lq_trees.proofs.Reach.{AllWithin, within-instance}
use Rattle.lq_calculus.specs.Contraction.{apply}
use Rattle.lq_terms.specs.declared.nodes.NameId.{NameId}
use Rattle.lq_terms.specs.declared.nodes.TermId.{TermId}
use Rattle.lq_terms.specs.declared.nodes.Hypothesis.{Hypothesis}
use Rattle.lq_terms.specs.Changes.{bindings, HasHypothesis}
use Rattle.lq_terms.specs.Contexts.{HasContext, context_of, hypothesis_of}
use Rattle.lq_terms.specs.Terms.{Terms, HasTerm, Grows, text_of, tree_of}
use Rattle.lq_env.specs.Families.{HasConstructor, StandsUnder, constructor_of, constructors_of, family_of, names_behind}
use Rattle.lq_solving.specs.Stores.{names_in}
use Rattle.lq_solving.specs.Elaboration.{Found, found}
use Rattle.lq_solving.proofs.EqualUnder.{lift_closed}
use Rattle.lq_solving.proofs.Moving.{get_map}
use Rattle.lq_beta.proofs.PutLaws.{deep_replaced}
use Rattle.lq_tactics.specs.Rows.{Doing, Scene, wrong_number, no_constructor}
use Rattle.lq_tactics.specs.Applying.{Inductive as TreeInductive, has_number, parameter_values, parameters_of, constructor_at, constructor_found, apply_found, apply_constructor, numbered}
use Rattle.lq_prims.specs.declared.faults.PrimFault.{PrimFault}
use Rattle.lq_prims.specs.declared.inductives.Inductive.{Inductive}
use Rattle.lq_prims.specs.Inductives.{inductive_by, found_by, numbered_work, IsShallow, HasInductive}
use Rattle.lq_prims.specs.Working.{Refuses}
use Rattle.lq_prims.proofs.WorkLaws.{refuses_at_once}

-- ---- how many there are

pub count_is : (bank : Terms) (i : Inductive) (n : ℕ) → n ≡ length i.family.now.constructors → length (inductive_by bank i).family.constructors ≡ n
count_is bank i n e = length-map i.family.now.constructors (constructor_of bank) ∙ sym e

by_number : TreeInductive → ℕ → Bool → Doing TreeInductive
by_number i n b = elim b as (λ z. Doing TreeInductive) [ true ↦ gives i | false ↦ fails (wrong_number (length i.family.constructors) n) ]

number_by : (n : ℕ) (i : TreeInductive) → has_number n i ≡ by_number i n (eqb (length i.family.constructors) n)
unfolding has_number by_number
number_by n i = refl

pub number_right : (n : ℕ) (i : TreeInductive) → length i.family.constructors ≡ n → has_number n i ≡ gives i
unfolding by_number
number_right n i e = number_by n i ∙ ap (by_number i n) (eq-eqb (length i.family.constructors) n e)

pub number_wrong : (bank : Terms) (n k : ℕ) (i : TreeInductive) → length i.family.constructors ≡ k → ¬ (k ≡ n) → (b : ℕ) → Refuses bank (PrimFault.WrongNumber k n) (λ m. has_number n i) b b
unfolding by_number
number_wrong bank n k i e h b =
    refuses_at_once bank (PrimFault.WrongNumber k n) (wrong_number k n) (has_number n i) refl
    (number_by n i ∙ ap (by_number i n) (ne_eqb (length i.family.constructors) n (λ q. h (sym e ∙ q))) ∙ ap (λ z. fails (wrong_number z n)) e) b

-- ---- a constructor at a place

-- what is in a list at a place within it
module _ {X : Type 0} where
  pub get_inside : (xs : List X) (k : ℕ) (d : X) → k < length xs → slice_get xs k ≡ Some (slice_index_or xs k d)
  get_inside [] k d l = absurd (omega (arith, l))
  get_inside (x ∷ xs) zero d l = refl
  get_inside (x ∷ xs) (suc k) d l = get_inside xs k d (omega (arith, l))

  pub get_outside : (xs : List X) (k : ℕ) → length xs ≤ k → slice_get xs k ≡ None
  get_outside [] k l = refl
  get_outside (x ∷ xs) zero l = absurd (omega (arith, l))
  get_outside (x ∷ xs) (suc k) l = get_outside xs k (omega (arith, l))

  pub all_of : (P : X → Type 0) (xs : List X) (k : ℕ) (x : X) → AllByRecursion P xs → slice_get xs k ≡ Some x → P x
  all_of P [] k x h e = absurd (grind (arith, e))
  all_of P (y ∷ xs) zero x h e = along P (ap (λ o. elim o as (λ z. X) [ Some z ↦ z | None ↦ y ]) e) h.0
  all_of P (y ∷ xs) (suc k) x h e = all_of P xs k x h.1 e

constructors_get : (bank : Terms) (cs : List (NameId × TermId)) (k : ℕ) → slice_get (constructors_of bank cs) k ≡ option_map (constructor_of bank) (slice_get cs k)
constructors_get bank cs k = get_map (constructor_of bank) cs k

module _ (bank : Terms) (i : Inductive) (h : HasInductive bank i) (k : ℕ) where
  abbrev there : Option (Name × Tree)
  there = slice_get (inductive_by bank i).family.constructors k

  pub none_there : slice_get i.family.now.constructors k ≡ None → there ≡ None
  none_there e = constructors_get bank i.family.now.constructors k ∙ ap (option_map (constructor_of bank)) e

  module _ (x : NameId) (t : TermId) (e : slice_get i.family.now.constructors k ≡ Some (x, t)) where
    pub one_there : there ≡ Some (text_of bank x, tree_of bank t)
    one_there = constructors_get bank i.family.now.constructors k ∙ ap (option_map (constructor_of bank)) e

    pub kind_has : HasTerm bank t
    kind_has = (all_of (HasConstructor bank) i.family.now.constructors k (x, t) h.family.has.constructors e).1

    pub kind_within : Within 0 (tree_of bank t)
    kind_within =
        (all_of (λ d. StandsUnder (names_behind [] (family_of bank i.family.now).parameters) d.1) (constructors_of bank i.family.now.constructors) k (text_of bank x, tree_of bank t) h.family.written.constructors one_there).within

-- ---- its type at the parameters' values

-- a leaf with a value
module _ (ps : List (Name × Tree)) where
  abbrev AreShallow : List (Name × Tree) → Type 0
  AreShallow qs = AllByRecursion (λ p. IsShallow p.1) qs

  value_deep : (d : ℕ) (x : Name) (qs : List (Name × Tree)) → AreShallow qs → depth (standing (value_of qs x) d x) ≤ 1 + 2000
  value_deep d x [] h = omega arith
  value_deep d x (q ∷ qs) h = at (same_name x q.0) (value_deep d x qs h.1)
    where
      at : (b : Bool) → depth (standing (value_of qs x) d x) ≤ 1 + 2000 → depth (standing (if b then Some q.1 else value_of qs x) d x) ≤ 1 + 2000
      at true r = along (λ z. depth z ≤ 1 + 2000) (sym (lift_closed d 0 0 (omega arith) q.1 h.0.within)) (omega (arith, h.0.deep))
      at false r = r

values_within : (ps : List (Name × Tree)) → AllByRecursion (λ p. IsShallow p.1) ps → AllWithin 0 ps
values_within [] h = tt
values_within (p ∷ ps) h = (h.0.within, values_within ps h.1)

pub instance_index : (ps : List (Name × Tree)) (t : Tree) → AllByRecursion (λ p. IsShallow p.1) ps → Within 0 t → depth t ≤ 4294960000 → highest (put ps 0 t) ≤ last_index
instance_index ps t h w l =
    omega (
      arith,
      highest-within 0 (put ps 0 t) (within-instance 0 ps t (values_within ps h) w),
      deep_replaced (instantiating ps) 2000 (λ d i. omega arith) (λ d x. value_deep ps d x ps h) 0 t,
      l,
    )

pub bindings_shallow : (bank : Terms) (hs : List Hypothesis) (ts : List TermId) → AllByRecursion (λ t. IsShallow (tree_of bank t)) ts → AllByRecursion (λ p. IsShallow p.1) (bindings bank hs ts)
bindings_shallow bank [] ts h = tt
bindings_shallow bank (x ∷ hs) [] h = tt
bindings_shallow bank (x ∷ hs) (t ∷ ts) h = (h.0, bindings_shallow bank hs ts h.1)

-- the parameters with their values, by terms
bindings_zip : (bank : Terms) (hs : List Hypothesis) (ts : List TermId) → bindings bank hs (take (length hs) ts) ≡ zip (names_in (context_of bank hs)) (map (tree_of bank) ts)
bindings_zip bank [] ts = refl
bindings_zip bank (x ∷ hs) [] = refl
bindings_zip bank (x ∷ hs) (t ∷ ts) = ap (λ ps. (text_of bank x.name, tree_of bank t) ∷ ps) (bindings_zip bank hs ts)

take_map : (bank : Terms) (n : ℕ) (ts : List TermId) → map (tree_of bank) (take n ts) ≡ take n (map (tree_of bank) ts)
take_map bank zero ts = refl
take_map bank (suc n) [] = refl
take_map bank (suc n) (t ∷ ts) = ap (λ us. tree_of bank t ∷ us) (take_map bank n ts)

module _ (bank : Terms) (i : Inductive) where
  abbrev params : List Hypothesis
  params = i.family.now.parameters

  abbrev values : List TermId
  values = take (length params) i.args.items

  pub values_are : parameter_values (inductive_by bank i) ≡ bindings bank params values
  unfolding parameter_values
  values_are = sym (bindings_zip bank params i.args.items)

  pub parameters_are : parameters_of (inductive_by bank i) ≡ map (tree_of bank) values
  parameters_are = ap (λ n. take n (map (tree_of bank) i.args.items)) (length-map params (hypothesis_of bank)) ∙ sym (take_map bank (length params) i.args.items)

-- terms in a bank that has grown
module _ (old new : Terms) (g : Grows old new) where
  trees_grown : (ts : List TermId) → AllByRecursion (HasTerm old) ts → map (tree_of new) ts ≡ map (tree_of old) ts
  trees_grown [] h = refl
  trees_grown (t ∷ ts) h = ap₂ (λ x xs. x ∷ xs) (g.tree t h.0) (trees_grown ts h.1)

  bindings_grown : (hs : List Hypothesis) (ts : List TermId) → HasContext old hs → AllByRecursion (HasTerm old) ts → bindings new hs ts ≡ bindings old hs ts
  bindings_grown [] ts p h = refl
  bindings_grown (x ∷ hs) [] p h = refl
  bindings_grown (x ∷ hs) (t ∷ ts) p h = ap₂ (λ q qs. q ∷ qs) (ap₂ (λ a b. (a, b)) (g.text x.name p.0.name) (g.tree t h.0)) (bindings_grown hs ts p.1 h.1)

pub each_take : {X : Type 0} (P : X → Type 0) (n : ℕ) (ts : List X) → AllByRecursion P ts → AllByRecursion P (take n ts)
each_take P zero ts h = tt
each_take P (suc n) [] h = tt
each_take P (suc n) (t ∷ ts) h = (h.0, each_take P n ts h.1)

pub names_have : (bank : Terms) (hs : List Hypothesis) → HasContext bank hs → AllByRecursion (HasHypothesis bank) hs
names_have bank [] h = tt
names_have bank (x ∷ hs) h = (h.0.name, names_have bank hs h.1)

module _ (b0 b1 b2 b3 : Terms) (g1 : Grows b0 b1) (g2 : Grows b0 b2) (g3 : Grows b2 b3) (i : Inductive) (h : HasInductive b0 i) (k : ℕ) (A : TermId) (a : HasTerm b0 A) where
  values_have : AllByRecursion (HasTerm b0) (values b0 i)
  values_have = each_take (HasTerm b0) (length (params b0 i)) i.args.items h.args

  term_is : (u : TermId) (t : Tree) → HasTerm b2 u → t ≡ Ctor (text_of b0 i.name) k → tree_of b2 u ≡ apply t (map (tree_of b1) (values b0 i)) → tree_of b3 u ≡ apply (Ctor (text_of b0 i.name) k) (parameters_of (inductive_by b0 i))
  term_is u t has f e = g3.tree u has ∙ e ∙ ap₂ apply f (trees_grown b0 b1 g1 (values b0 i) values_have ∙ sym (parameters_are b0 i))

  kind_is : (q : TermId) → tree_of b3 q ≡ instance (bindings b2 (params b0 i) (values b0 i)) (tree_of b2 A) → tree_of b3 q ≡ instance (parameter_values (inductive_by b0 i)) (tree_of b0 A)
  kind_is q e = e ∙ ap₂ instance (bindings_grown b0 b2 g2 (params b0 i) (values b0 i) h.family.has.parameters values_have ∙ sym (values_are b0 i)) (g2.tree A a)

  pub constructor_is : (u q : TermId) (t : Tree) → HasTerm b2 u → t ≡ Ctor (text_of b0 i.name) k → tree_of b2 u ≡ apply t (map (tree_of b1) (values b0 i)) →
      tree_of b3 q ≡ instance (bindings b2 (params b0 i) (values b0 i)) (tree_of b2 A) → (c : Scene) → found_by b3 c.store (record { term = u; kind = q }) ≡ constructor_at c (inductive_by b0 i) k (tree_of b0 A)
  unfolding constructor_at
  constructor_is u q t has f e r c = ap₂ (λ x y. found c.store x y) (term_is u t has f e) (kind_is q r)

-- ---- a constructor, if there is one

module _ (bank : Terms) (i : Inductive) (h : HasInductive bank i) (k : ℕ) (c : Scene) where
  abbrev looked_up : Doing Found
  looked_up = constructor_found c (inductive_by bank i) k (slice_get (inductive_by bank i).family.constructors k)

  pub constructor_gives : (x : NameId) (t : TermId) (f : Found) → slice_get i.family.now.constructors k ≡ Some (x, t) → f ≡ constructor_at c (inductive_by bank i) k (tree_of bank t) → looked_up ≡ gives f
  unfolding constructor_found
  constructor_gives x t f e q = ap (constructor_found c (inductive_by bank i) k) (one_there bank i h k x t e) ∙ ap gives (sym q)

  pub constructor_lacks : slice_get i.family.now.constructors k ≡ None → (new : Terms) (b : ℕ) → Refuses new (PrimFault.NoConstructor (k + 1)) (λ n. looked_up) b b
  unfolding constructor_found
  constructor_lacks e new b =
      refuses_at_once new (PrimFault.NoConstructor (k + 1)) (no_constructor (k + 1)) looked_up refl
      (ap (constructor_found c (inductive_by bank i) k) (none_there bank i h k e) ∙ ap (λ n. fails (no_constructor n)) (omega arith)) b

-- ---- by its number

module _ (c : Scene) (i : TreeInductive) where
  pub numbered_none : (n : ℕ) → n ≡ 0 → numbered_work c i n ≡ fails (no_constructor 0)
  unfolding numbered_work
  numbered_none n e = ap (numbered_work c i) e

  pub numbered_some : (n : ℕ) → ¬ (n ≡ 0) → constructor_found c i (n - 1) (slice_get i.family.constructors (n - 1)) ≡ numbered_work c i n
  unfolding numbered_work
  numbered_some zero h = absurd (h refl)
  numbered_some (suc k) h = ap (λ m. constructor_found c i m (slice_get i.family.constructors m)) (omega arith)

  -- what `constructor` does with it
  pub numbered_is : (n : ℕ) → (numbered_work c i n >>= apply_found c true) ≡ numbered c i n
  unfolding numbered_work numbered apply_constructor ◌>>=◌
  numbered_is zero = refl
  numbered_is (suc k) = refl
