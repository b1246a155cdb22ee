-- Goals and whole proofs as they read.
use Rattle.std.proofs.Common.{◌≡◌, ◌≤◌, ◌<◌, ◌+◌, ◌∙◌, ℕ, zero, suc, refl, sym, ap, ap₂, subst, arith, eqb, eqb-true, eq-eqb, Bool, true, false, List, [], ◌∷◌, ◌++◌, map, length, get_or, take, drop, append_assoc, Option, Some, None, Result, Ok, Err, ◌⊎◌, inl, inr}
use Rattle.std.proofs.lemmas.List.{length-map, map-append, take-append-drop, drop_more, take_more}
use Rattle.std.proofs.lemmas.Option.{slice_get_cases}
use Rattle.std.proofs.lemmas.Bool.{cases_lt}
use Rattle.std.specs.Prelude.{option_map, slice_get, ◌||◌}
use Rattle.std.specs.List.{AllByRecursion}
use Rattle.lq_trees.specs.Tree.{Tree, Trees, Hypothesis as TreeHypothesis}
use Rattle.lq_terms.specs.declared.nodes.Hypothesis.{Hypothesis}
use Rattle.lq_terms.specs.declared.nodes.NameId.{NameId}
use Rattle.lq_terms.specs.declared.nodes.TermId.{TermId}
use Rattle.lq_terms.specs.Terms.{Terms, HasTerm, HasName, Grows, text_of, tree_of}
use Rattle.lq_terms.specs.Contexts.{HasBody, HasAllOf, HasContext, hypothesis_of, context_of}
use Rattle.lq_solving.specs.Stores.{Store as TreeStore, StoreFault as TreeFault, Variable as TreeVariable, names_in, read, read_hypothesis, read_context, size_fault}
use Rattle.lq_solving.specs.Kept.{Stands, OptionStands, StandBehind, IsStore, IsVariable}
use Rattle.lq_solving.proofs.KindLaws.{all_get}
use Rattle.lq_evars.specs.declared.store.StoreFault.{StoreFault}
use Rattle.lq_evars.specs.declared.store.Variable.{Variable}
use Rattle.lq_evars.specs.Places.{Places, store_of, variable_of, HasVariable, HasStore, HasNameOr}
use Rattle.lq_evars.proofs.Lookups.{eqb_swap, variable_told}
use Rattle.lq_evars.proofs.Growing.{store_of-grown, HasStore-grown, context_grown}
use Rattle.lq_states.specs.Goals.{has, without}
use Rattle.lq_states.specs.Kept.{times, IsListed}
use Rattle.lq_states.proofs.KeptLaws.{times_listed}
use Rattle.lq_states.proofs.ListLaws.{times_without}
use Rattle.lq_states.specs.Views.{GoalView as TreeView, ProofView as TreeProofView, goal_view, view_of, context_terms, goal_terms, first_unfit, fitting_view, unless_fault, views, all_terms, proof_view}
use Rattle.lq_goals.specs.declared.views.GoalView.{GoalView}
use Rattle.lq_goals.specs.Held.{Held, proof_of}
use Rattle.lq_goals.specs.Seen.{IsReadable, IsReadableOr, CanRead, Tells, ReadsAs, Shows, ShowsGoal, IsTree, AreHypotheses, IsView, AreViews}
use Rattle.lq_goals.proofs.Seeing.{or_fault, unfit_append, unfit_one, unfit_none, told_first, told_behind}

-- ---- a variable of the store

pub variable_at : (s : Places) (k : ℕ) → k < length s.variables → (v : Variable) × (slice_get s.variables k ≡ Some v)
variable_at s k l = by (slice_get_cases s.variables k).1
  where
    by : ((x : Variable) × (k < length s.variables) × (slice_get s.variables k ≡ Some x) × (get_or s.variables k x ≡ x)) ⊎ ((length s.variables ≤ k) × (slice_get s.variables k ≡ None)) →
        (v : Variable) × (slice_get s.variables k ≡ Some v)
    by (inl h) = (h.0, h.2)
    by (inr h) = absurd (omega (arith, l, h.0))

-- what a context of the store has can be read
option_readable : (bank : Terms) (s : Places) (xs : List (List ℕ)) (o : Option TermId) → HasBody bank o → OptionStands (store_of bank s) xs (option_map (tree_of bank) o) → IsReadableOr bank s o
option_readable bank s xs None h k = tt
option_readable bank s xs (Some t) h k = record { has = h; over = k.over; within = k.within }

context_readable : (bank : Terms) (s : Places) (xs : List (List ℕ)) (hs : List Hypothesis) → HasContext bank hs → StandBehind (store_of bank s) xs (context_of bank hs) → AllByRecursion (CanRead bank s) hs
context_readable bank s xs [] h k = tt
context_readable bank s xs (x ∷ hs) h k = (
  record { name = h.0.name; body = option_readable bank s xs x.body h.0.body k.1; kind = record { has = h.0.kind; over = k.2.over; within = k.2.within } },
  context_readable bank s (text_of bank x.name ∷ xs) hs h.1 k.3,
)

module _ (bank : Terms) (s : Places) (h : HasStore bank s) (i : IsStore (store_of bank s)) (k : ℕ) (v : Variable) (e : slice_get s.variables k ≡ Some v) where
  pub has_variable : HasVariable bank v
  has_variable = all_at_variable s.variables h.variables k e
    where
      all_at_variable : (vs : List Variable) → AllByRecursion (HasVariable bank) vs → (j : ℕ) → slice_get vs j ≡ Some v → HasVariable bank v
      all_at_variable [] a j q = absurd (grind (arith, q))
      all_at_variable (w ∷ vs) a zero q = subst (HasVariable bank) (ap (λ o. elim o as (λ z. Variable) [ Some x ↦ x | None ↦ w ]) q) a.0
      all_at_variable (w ∷ vs) a (suc j) q = all_at_variable vs a.1 j q

  is_variable : IsVariable (store_of bank s) (variable_of bank v)
  is_variable = all_get_variable (store_of bank s).variables i.variables k (variable_told bank s k v e)
    where
      all_get_variable : (vs : List TreeVariable) → AllByRecursion (IsVariable (store_of bank s)) vs → (j : ℕ) → slice_get vs j ≡ Some (variable_of bank v) → IsVariable (store_of bank s) (variable_of bank v)
      all_get_variable [] a j q = absurd (grind (arith, q))
      all_get_variable (w ∷ vs) a zero q = subst (IsVariable (store_of bank s)) (ap (λ o. elim o as (λ z. TreeVariable) [ Some x ↦ x | None ↦ w ]) q) a.0
      all_get_variable (w ∷ vs) a (suc j) q = all_get_variable vs a.1 j q

  pub context_can : AllByRecursion (CanRead bank s) v.context
  context_can = context_readable bank s [] v.context has_variable.context is_variable.0

  pub kind_can : IsReadable bank s v.kind
  kind_can = record { has = has_variable.kind; over = is_variable.1.over; within = is_variable.1.within }

  pub name_can : HasNameOr bank v.name
  name_can = has_variable.name

  -- the goal over trees
  pub goal_is : (g : TreeView) → goal_view (store_of bank s) k ≡ Some g →
      g ≡ record { name = option_map (text_of bank) v.name; context = read_context (store_of bank s) (context_of bank v.context); kind = read (store_of bank s) (tree_of bank v.kind) }
  unfolding goal_view view_of
  goal_is g q =
      let is : view_of (store_of bank s) (slice_get (store_of bank s).variables k) ≡ view_of (store_of bank s) (Some (variable_of bank v)) = ap (view_of (store_of bank s)) (variable_told bank s k v e) in
      ap (λ o. elim o as (λ z. TreeView) [ Some x ↦ x | None ↦ g ]) (sym q ∙ is)

-- the bank has its context
pub context_there : (bank : Terms) (s : Places) → HasStore bank s → (k : ℕ) (v : Variable) → slice_get s.variables k ≡ Some v → HasContext bank v.context
context_there bank s h k v e = at s.variables h.variables k e
  where
    at : (vs : List Variable) → AllByRecursion (HasVariable bank) vs → (j : ℕ) → slice_get vs j ≡ Some v → HasContext bank v.context
    at [] a j q = absurd (grind (arith, q))
    at (w ∷ vs) a zero q = subst (λ z. HasContext bank z.context) (ap (λ o. elim o as (λ z. Variable) [ Some x ↦ x | None ↦ w ]) q) a.0.context
    at (w ∷ vs) a (suc j) q = at vs a.1 j q

-- its terms, the type last
pub goal_unfit : (g : TreeView) → first_unfit (goal_terms g) ≡ or_fault (first_unfit (context_terms g.context)) (size_fault g.kind)
unfolding goal_terms
goal_unfit g = unfit_append (context_terms g.context) (g.kind ∷ []) ∙ ap (or_fault (first_unfit (context_terms g.context))) (unfit_one g.kind)

-- an answer about limits is the definition's
pub reads_shows : {A B : Type 0} (Is : B → A → Type 0) (b : B) (r : Result A StoreFault) (f : Option TreeFault) → ReadsAs (Is b) r f → Shows Is r (unless_fault f b)
unfolding unless_fault
reads_shows Is b (Ok a) f h = subst (λ o. Shows Is (Ok a) (unless_fault o b)) (sym h.0) h.1
reads_shows Is b (Err e) None h = h
reads_shows Is b (Err e) (Some x) h = h

pub view_shows : {A : Type 0} (Is : TreeView → A → Type 0) (g : TreeView) (r : Result A StoreFault) → ReadsAs (Is g) r (first_unfit (goal_terms g)) → Shows Is r (fitting_view g)
unfolding fitting_view
view_shows Is g r h = reads_shows Is g r (first_unfit (goal_terms g)) h

-- so for one that is there
pub goal_shows : (bank now : Terms) (s : Places) (k : ℕ) → k < length s.variables → (r : Result GoalView StoreFault) →
    ((g : TreeView) → goal_view (store_of bank s) k ≡ Some g → ReadsAs (IsView now g) r (first_unfit (goal_terms g))) → ShowsGoal now r (goal_view (store_of bank s) k)
unfolding goal_view view_of
goal_shows bank now s k l r h =
    let v = variable_at s k l in
    let e = ap (view_of (store_of bank s)) (variable_told bank s k v.0 v.1) in
    subst (ShowsGoal now r) (sym e) (view_shows (IsView now) (shown v.0) r (h (shown v.0) e))
  where
    shown : Variable → TreeView
    shown v = record {
      name = (variable_of bank v).name;
      context = read_context (store_of bank s) (variable_of bank v).context;
      kind = read (store_of bank s) (variable_of bank v).kind;
    }

name_grown : (old now : Terms) → Grows old now → (o : Option NameId) → HasNameOr old o → (option_map (text_of now) o ≡ option_map (text_of old) o) × HasNameOr now o
name_grown old now g None h = (refl, tt)
name_grown old now g (Some x) h = (ap Some (g.text x h), omega (arith, h, g.names))

-- a goal from its parts
pub view_is : (b0 b1 b2 : Terms) → Grows b0 b1 → Grows b1 b2 → (g : TreeView) (w : GoalView) (name : Option NameId) → HasNameOr b0 name → w.name ≡ name → g.name ≡ option_map (text_of b0) name →
    (first_unfit (context_terms g.context) ≡ None) × AreHypotheses b1 g.context w.context → (size_fault g.kind ≡ None) × IsTree b2 g.kind w.kind → (first_unfit (goal_terms g) ≡ None) × IsView b2 g w
view_is b0 b1 b2 g1 g2 g w name has e f p q =
    let n1 = name_grown b0 b1 g1 name has in
    let n2 = name_grown b1 b2 g2 name n1.1 in
    let more = context_grown b1 b2 g2 w.context p.1.0 in (
      goal_unfit g ∙ ap₂ or_fault p.0 q.0,
      record {
        name = (subst (HasNameOr b2) (sym e) n2.1, ap (option_map (text_of b2)) e ∙ n2.0 ∙ n1.0 ∙ sym f);
        context = (more.1, more.0 ∙ p.1.1);
        kind = q.1;
      },
    )

-- ---- goals one after the other

pub view_there : (bank : Terms) (s : Places) (k : ℕ) → k < length s.variables → (g : TreeView) × (goal_view (store_of bank s) k ≡ Some g)
unfolding goal_view view_of
view_there bank s k l =
    let v = variable_at s k l in (
      record { name = option_map (text_of bank) v.0.name; context = read_context (store_of bank s) (context_of bank v.0.context); kind = read (store_of bank s) (tree_of bank v.0.kind) },
      ap (view_of (store_of bank s)) (variable_told bank s k v.0 v.1),
    )

views_append : (s : TreeStore) (ks js : List ℕ) → views s (ks ++ js) ≡ views s ks ++ views s js
unfolding views
views_append s [] js = refl
views_append s (k ∷ ks) js = by (goal_view s k) (views_append s ks js)
  where
    by : (o : Option TreeView) → views s (ks ++ js) ≡ views s ks ++ views s js →
        elim o as (λ z. List TreeView) [ Some v ↦ v ∷ views s (ks ++ js) | None ↦ views s (ks ++ js) ] ≡ elim o as (λ z. List TreeView) [ Some v ↦ v ∷ views s ks | None ↦ views s ks ] ++ views s js
    by (Some v) e = ap (λ z. v ∷ z) e
    by None e = e

views_first : (s : TreeStore) (k : ℕ) (ks : List ℕ) (g : TreeView) → goal_view s k ≡ Some g → views s (k ∷ ks) ≡ g ∷ views s ks
unfolding views
views_first s k ks g e = ap (λ o. elim o as (λ z. List TreeView) [ Some v ↦ v ∷ views s ks | None ↦ views s ks ]) e

terms_append : (vs ws : List TreeView) → all_terms (vs ++ ws) ≡ all_terms vs ++ all_terms ws
unfolding all_terms
terms_append [] ws = refl
terms_append (v ∷ vs) ws = ap (λ z. goal_terms v ++ z) (terms_append vs ws) ∙ sym (append_assoc (goal_terms v) (all_terms vs) (all_terms ws))

terms_first : (v : TreeView) (vs : List TreeView) → all_terms (v ∷ vs) ≡ goal_terms v ++ all_terms vs
unfolding all_terms
terms_first v vs = refl

terms_none : first_unfit (all_terms []) ≡ None
unfolding all_terms first_unfit
terms_none = refl

view_grown : (old now : Terms) → Grows old now → (g : TreeView) (v : GoalView) → IsView old g v → IsView now g v
view_grown old now g t v k =
    let n = name_grown old now g v.name k.name.0 in
    let c = context_grown old now g v.context k.context.0 in
    record { name = (n.1, n.0 ∙ k.name.1); context = (c.1, c.0 ∙ k.context.1); kind = (omega (arith, k.kind.0, g.nodes), g.tree v.kind k.kind.0 ∙ k.kind.1) }

views_grown : (old now : Terms) → Grows old now → (gs : List TreeView) (vs : List GoalView) → AreViews old gs vs → AreViews now gs vs
views_grown old now g [] [] k = tt
views_grown old now g (t ∷ gs) (v ∷ vs) k = (view_grown old now g t v k.0, views_grown old now g gs vs k.1)
views_grown old now g [] (v ∷ vs) k = absurd k
views_grown old now g (t ∷ gs) [] k = absurd k

are_append : (bank : Terms) (gs : List TreeView) (vs : List GoalView) (t : TreeView) (v : GoalView) → AreViews bank gs vs → IsView bank t v → AreViews bank (gs ++ t ∷ []) (vs ++ v ∷ [])
are_append bank [] [] t v k h = (h, tt)
are_append bank (u ∷ gs) (x ∷ vs) t v k h = (k.0, are_append bank gs vs t v k.1 h)
are_append bank [] (x ∷ vs) t v k h = absurd k
are_append bank (u ∷ gs) [] t v k h = absurd k

views_nothing : (s : TreeStore) → views s [] ≡ []
unfolding views
views_nothing s = refl

module _ (s : TreeStore) (ks : List ℕ) (i d : ℕ) (l : i < length ks) (g : TreeView) (e : goal_view s (get_or ks i d) ≡ Some g) where
  views_parts : views s ks ≡ views s (take i ks) ++ g ∷ views s (drop (i + 1) ks)
  views_parts =
      ap (views s) (sym (take-append-drop i ks) ∙ ap (λ z. take i ks ++ z) (drop_more ks i d l))
      ∙ views_append s (take i ks) (get_or ks i d ∷ drop (i + 1) ks) ∙ ap (λ z. views s (take i ks) ++ z) (views_first s (get_or ks i d) (drop (i + 1) ks) g e)

  views_taken : views s (take (i + 1) ks) ≡ views s (take i ks) ++ g ∷ []
  views_taken =
      ap (views s) (take_more ks i d l) ∙ views_append s (take i ks) (get_or ks i d ∷ []) ∙ ap (λ z. views s (take i ks) ++ z) (views_first s (get_or ks i d) [] g e ∙ ap (λ z. g ∷ z) (views_nothing s))

  pub views_err : (x : StoreFault) → first_unfit (all_terms (views s (take i ks))) ≡ None → Tells x (first_unfit (goal_terms g)) → Tells x (first_unfit (all_terms (views s ks)))
  views_err x fit t =
      subst (Tells x)
      (sym (ap (λ z. first_unfit (all_terms z)) views_parts ∙ ap first_unfit (terms_append (views s (take i ks)) (g ∷ views s (drop (i + 1) ks))) ∙ unfit_append (all_terms (views s (take i ks))) (all_terms (g ∷ views s (drop (i + 1) ks)))
      ∙ ap (or_fault (first_unfit (all_terms (views s (take i ks))))) (ap first_unfit (terms_first g (views s (drop (i + 1) ks))) ∙ unfit_append (goal_terms g) (all_terms (views s (drop (i + 1) ks))))))
      (told_behind x _ _ fit (told_first x _ _ t))

  pub views_fit : first_unfit (all_terms (views s (take i ks))) ≡ None → first_unfit (goal_terms g) ≡ None → first_unfit (all_terms (views s (take (i + 1) ks))) ≡ None
  views_fit fit f =
      ap (λ z. first_unfit (all_terms z)) views_taken ∙ ap first_unfit (terms_append (views s (take i ks)) (g ∷ [])) ∙ unfit_append (all_terms (views s (take i ks))) (all_terms (g ∷ []))
      ∙ ap₂ or_fault fit (ap first_unfit (terms_first g []) ∙ unfit_append (goal_terms g) (all_terms []) ∙ ap₂ or_fault f terms_none)

  pub views_more : (old now : Terms) → Grows old now → (vs new : List GoalView) (v : GoalView) → AreViews old (views s (take i ks)) vs → IsView now g v → new ≡ vs ++ v ∷ [] → AreViews now (views s (take (i + 1) ks)) new
  views_more old now grows vs new v a h q =
      subst (λ z. AreViews now z new) (sym views_taken) (subst (AreViews now (views s (take i ks) ++ g ∷ [])) (sym q) (are_append now (views s (take i ks)) vs g v (views_grown old now grows (views s (take i ks)) vs a) h))

pub views_begin : (bank : Terms) (s : TreeStore) (vs : List GoalView) → vs ≡ [] → AreViews bank (views s []) vs
unfolding views
views_begin bank s vs e = subst (AreViews bank []) (sym e) tt

pub views_begin_fit : (s : TreeStore) → first_unfit (all_terms (views s [])) ≡ None
unfolding views
views_begin_fit s = terms_none

-- ---- the lists of a proof

pub all_inside : (n : ℕ) (js : List ℕ) → ((k : ℕ) → 1 ≤ times js k → k < n) → AllByRecursion (λ k. k < n) js
unfolding times
all_inside n [] h = tt
all_inside n (j ∷ js) h = (here (eqb j j) (eq-eqb j j refl) (h j), all_inside n js (λ k l. h k (there (eqb j k) k l)))
  where
    here : (b : Bool) → b ≡ true → (1 ≤ elim b as (λ z. ℕ) [ true ↦ 1 + times js j | false ↦ times js j ] → j < n) → j < n
    here true e f = f (omega arith)
    here false e f = absurd cc

    there : (b : Bool) (k : ℕ) → 1 ≤ times js k → 1 ≤ elim b as (λ z. ℕ) [ true ↦ 1 + times js k | false ↦ times js k ]
    there true k l = omega (arith, l)
    there false k l = l

length_without : (n : ℕ) (js : List ℕ) → length js ≡ times js n + length (without (n ∷ []) js)
unfolding times without has
length_without n [] = refl
length_without n (j ∷ js) = by (eqb j n) (eqb n j) (same_way j n) (length_without n js)
  where
    same_way : (i k : ℕ) → eqb i k ≡ eqb k i
    same_way i k = eqb_swap i k

    by : (b c : Bool) → b ≡ c → length js ≡ times js n + length (without (n ∷ []) js) →
        suc (length js) ≡ elim b as (λ z. ℕ) [ true ↦ 1 + times js n | false ↦ times js n ] + length (elim (c || false) as (λ z. List ℕ) [ true ↦ without (n ∷ []) js | false ↦ j ∷ without (n ∷ []) js ])
    by true true e f = omega (arith, f)
    by false false e f = omega (arith, f)
    by true false e f = absurd cc
    by false true e f = absurd cc

one_has : (n k : ℕ) → has (n ∷ []) k ≡ false → (n ≡ k → ⊥)
unfolding has
one_has n k e q = by (eqb n k) (eq-eqb n k q) e
  where
    by : (b : Bool) → b ≡ true → (b || false) ≡ false → ⊥
    by true p r = absurd cc
    by false p r = absurd cc

less_than : (n k : ℕ) → (n ≡ k → ⊥) → k < suc n → k < n
less_than n k d l = by (cases_lt k n)
  where
    by : (k < n) ⊎ (n ≤ k) → k < n
    by (inl h) = h
    by (inr h) = let e : n ≡ k = omega (arith, h, l) in absurd (d e)

-- numbers below n, none of them twice, are at most n
pub few_apart : (n : ℕ) (js : List ℕ) → ((k : ℕ) → times js k ≤ 1) → ((k : ℕ) → 1 ≤ times js k → k < n) → length js ≤ n
few_apart zero js once inside = nothing js inside
  where
    nothing : (is : List ℕ) → ((k : ℕ) → 1 ≤ times is k → k < 0) → length is ≤ 0
    nothing [] h = omega arith
    nothing (i ∷ is) h = let a = all_inside 0 (i ∷ is) h in absurd (omega (arith, a.0))
few_apart (suc n) js once inside =
    let less = few_apart n (without (n ∷ []) js)
    (λ k. kept k (has (n ∷ []) k) (times_without (n ∷ []) js k))
    (λ k l. lower k (has (n ∷ []) k) refl (times_without (n ∷ []) js k) l) in
    omega (arith, less, length_without n js, once n)
  where
    kept : (k : ℕ) (b : Bool) → times (without (n ∷ []) js) k ≡ elim b as (λ z. ℕ) [ true ↦ 0 | false ↦ times js k ] → times (without (n ∷ []) js) k ≤ 1
    kept k true e = omega (arith, e)
    kept k false e = omega (arith, e, once k)

    lower : (k : ℕ) (b : Bool) → has (n ∷ []) k ≡ b → times (without (n ∷ []) js) k ≡ elim b as (λ z. ℕ) [ true ↦ 0 | false ↦ times js k ] → 1 ≤ times (without (n ∷ []) js) k → k < n
    lower k true f e l = absurd (omega (arith, e, l))
    lower k false f e l = less_than n k (one_has n k f) (inside k (omega (arith, e, l)))

-- the goals on the shelf are as few as the variables
pub shelf_few : (bank : Terms) (p : Held) → IsListed (proof_of bank p) → length p.shelf ≤ length p.store.variables
shelf_few bank p h =
    let l = few_apart (length (map (variable_of bank) p.store.variables)) p.shelf (λ k. omega (arith, times_listed (proof_of bank p) k, h.once k)) (λ k l. h.inside k (omega (arith, times_listed (proof_of bank p) k, l))) in
    omega (arith, l, length-map p.store.variables (variable_of bank))

-- the goals in focus are variables of the store
pub focus_inside : (bank : Terms) (p : Held) (s : Places) (js : List ℕ) → s ≡ p.store → js ≡ p.focus → IsListed (proof_of bank p) → AllByRecursion (λ k. k < length s.variables) js
focus_inside bank p s js e f h =
    subst (λ t. AllByRecursion (λ k. k < length t.variables) js) (sym e)
    (subst (AllByRecursion (λ k. k < length p.store.variables)) (sym f)
    (all_inside (length p.store.variables) p.focus
    (λ k l. let i = h.inside k (omega (arith, times_listed (proof_of bank p) k, l)) in omega (arith, i, length-map p.store.variables (variable_of bank)))))

pub proof_shows : {A : Type 0} (bank : Terms) (p : Held) (Is : TreeProofView → A → Type 0) (r : Result A StoreFault) →
    ReadsAs (Is (record { goals = views (store_of bank p.store) p.focus; shelved = length p.shelf })) r (first_unfit (all_terms (views (store_of bank p.store) p.focus))) → Shows Is r (proof_view (proof_of bank p))
unfolding proof_view
proof_shows bank p Is r h = reads_shows Is (record { goals = views (store_of bank p.store) p.focus; shelved = length p.shelf }) r (first_unfit (all_terms (views (store_of bank p.store) p.focus))) h
