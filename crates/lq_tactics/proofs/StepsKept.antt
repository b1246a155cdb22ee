-- Rows one after the other, and the lists of a proof after a row, keep what holds.
use Rattle.std.proofs.Common.{◌≡◌, ◌≤◌, ◌<◌, ◌+◌, ◌-◌, ◌∙◌, ℕ, zero, suc, refl, sym, ap, arith, eqb, eq-eqb, eqb-true, Bool, true, false, not, ◌||◌, List, [], ◌∷◌, ◌++◌, length, length-append, drop, Option, Some, None, Result, Ok, Err}
use Rattle.std.proofs.Common.{subst as along}
use Rattle.std.specs.Prelude.{slice_get}
use Rattle.lq_trees.specs.Ticks.{gives, fails, ◌>>=◌}
use Rattle.lq_calculus.specs.Declarations.{Env}
use Rattle.lq_calculus.proofs.ConvSound.{Gives, gives_bind}
use Rattle.lq_solving.specs.Stores.{Store, Variable, Assigned, find_value, has_value, is_open, count}
use Rattle.lq_solving.specs.Kept.{IsStore}
use Rattle.lq_solving.specs.Elaboration.{Givens}
use Rattle.lq_solving.specs.Claims.{ArePlainDeclarations}
use Rattle.lq_solving.proofs.ElabKept.{Grown, Newer, grown_now, grown_then}
use Rattle.lq_states.specs.Goals.{Proof, GoalFault, with_store, with_lists, has, without, swept, refocused, replaced}
use Rattle.lq_states.specs.Kept.{times, listed_goals, IsListed, MayReplace, IsProof, IsSwept, oldest}
use Rattle.lq_states.proofs.ListLaws.{times_without}
use Rattle.lq_states.proofs.KeptLaws.{open_inside, inside_open, within_is, replaced_kept}
use Rattle.lq_tactics.specs.Rows.{RowFault, goals_exceeded, Doing, Scene, Step, PrimDone, made_open, scene, then_on, then_next, stays, listed}
use Rattle.lq_tactics.proofs.NumberLists.{made_once, made_new, made_valueless}
use Rattle.lq_tactics.proofs.RowsKept.{AreGiven, IsScene, IsStep, given_later, IsSceneOf, scene_is, scene_kept}

-- the goal is one of the store without a value
pub scene_valueless : (s : Store) (k : ℕ) → is_open s k ≡ true → (k < count s) × (has_value s k ≡ false)
unfolding is_open
scene_valueless s k e = (open_inside s k e, at (slice_get s.variables k) (has_value s k) e)
  where
    at : (o : Option Variable) (b : Bool) → elim o as (λ z. Bool) [ None ↦ false | Some v ↦ not b ] ≡ true → b ≡ false
    at None b f = absurd (grind (arith, f))
    at (Some v) false f = refl
    at (Some v) true f = absurd (grind (arith, f))

-- how often the one number of a list stands there
pub one_once : (j k : ℕ) → times (j ∷ []) k ≤ 1
unfolding times
one_once j k = at (eqb j k)
  where
    at : (b : Bool) → elim b as (λ z. ℕ) [ true ↦ 1 + 0 | false ↦ 0 ] ≤ 1
    at true = omega arith
    at false = omega arith

pub one_is : (j k : ℕ) → 1 ≤ times (j ∷ []) k → j ≡ k
unfolding times
one_is j k l = at (eqb j k) refl l
  where
    at : (b : Bool) → eqb j k ≡ b → 1 ≤ elim b as (λ z. ℕ) [ true ↦ 1 + 0 | false ↦ 0 ] → j ≡ k
    at true e m = eqb-true j k e
    at false e m = absurd (omega (arith, m))

-- no step
pub stays_kept : (c : Scene) → IsScene c → has_value c.store c.goal ≡ false → IsStep c (stays c)
stays_kept c h e = record {
  grown = grown_now c.store h.store;
  once = one_once c.goal;
  inside = λ k l. omega (arith, one_is c.goal k l, h.inside);
  valueless = λ k l. along (λ j. has_value c.store j ≡ false) (one_is c.goal k l) e;
  new = λ k l m. sym (one_is c.goal k l);
}

-- ---- a row on the goal that another has left

pub first_stands : (k : ℕ) (ks : List ℕ) → 1 ≤ times (k ∷ ks) k
unfolding times
first_stands k ks = at (eqb k k) (eq-eqb k k refl)
  where
    at : (b : Bool) → b ≡ true → 1 ≤ elim b as (λ z. ℕ) [ true ↦ 1 + times ks k | false ↦ times ks k ]
    at true e = omega arith
    at false e = absurd (grind (arith, e))

-- goals of a later row are new ones, or the goal on which the first row worked
pub step_then : (c d : Scene) (st st2 : Step) → IsScene c → IsStep c st → d.store ≡ st.store → 1 ≤ times st.goals d.goal → IsStep d st2 → IsStep c st2
step_then c d st st2 h k e l m = record {
  grown = grown_then c.store st.store st2.store k.grown (along (λ s. Grown s st2.store) e m.grown);
  once = m.once;
  inside = m.inside;
  valueless = m.valueless;
  new = λ j i b. let there = m.new j i (along (λ s. j < count s) (sym e) (omega (arith, b, k.grown.more))) in
      there ∙ k.new d.goal l (omega (arith, sym there, b));
}

module _ (env : Env) (n : ℕ) (vs : Givens) (c : Scene) (plain : ArePlainDeclarations env) where
  pub then_on_kept : (st st2 : Step) (next : Scene → Doing Step) → IsScene c → IsStep c st → AreGiven st.store vs →
      ((k : ℕ) (d : Scene) → 1 ≤ times st.goals k → has_value st.store k ≡ false → IsSceneOf env n vs st.store k d → IsScene d → Gives (next d) st2 → IsStep d st2) →
      Gives (then_on env n vs st next) st2 → IsStep c st2
  unfolding then_on
  then_on_kept st st2 next h k g f y = at st.goals refl y
    where
      scene_d : (j : ℕ) (d : Scene) → IsSceneOf env n vs st.store j d → (d.store ≡ st.store) × (d.goal ≡ j)
      scene_d j d q = (sym (ap (λ z. z.store) q.is), sym (ap (λ z. z.goal) q.is))

      at : (ks : List ℕ) → st.goals ≡ ks → Gives (elim ks as (λ z. Doing Step) [ [] ↦ gives st | j ∷ js ↦ scene env n vs st.store j >>= next ]) st2 → IsStep c st2
      at [] e z = along (IsStep c) z k
      at (j ∷ js) e z =
          let a = gives_bind (scene env n vs st.store j) next st2 z in
          let q = scene_is env n vs st.store j a.0 a.1 in
          let there = along (λ ks. 1 ≤ times ks j) (sym e) (first_stands j js) in
          let d = scene_kept env n vs st.store j a.0 plain k.grown.store g (k.inside j there) q in
          let r = scene_d j a.0 q in
          step_then c a.0 st st2 h k r.0 (along (λ i. 1 ≤ times st.goals i) (sym r.1) there) (f j a.0 there (k.valueless j there) q d a.2)

pub then_kept : (c : Scene) (st st2 : Step) (next : Scene → Doing Step) → IsScene c → IsStep c st →
    ((k : ℕ) (d : Scene) → 1 ≤ times st.goals k → has_value st.store k ≡ false → IsSceneOf c.env c.bound c.values st.store k d → IsScene d → Gives (next d) st2 → IsStep d st2) →
    Gives (then_next c st next) st2 → IsStep c st2
unfolding then_next
then_kept c st st2 next h k f y = then_on_kept c.env c.bound c.values c h.plain st st2 next h k (given_later c.store st.store c.values k.grown h.values) f y

-- ---- the lists after a row

-- a number that stands in a list is one that the list has
stands_has : (js : List ℕ) (m : ℕ) → 1 ≤ times js m → has js m ≡ true
unfolding times has
stands_has [] m l = absurd (omega (arith, l))
stands_has (j ∷ js) m l = at (eqb j m) l (stands_has js m)
  where
    at : (b : Bool) → 1 ≤ elim b as (λ z. ℕ) [ true ↦ 1 + times js m | false ↦ times js m ] → (1 ≤ times js m → has js m ≡ true) → (b || has js m) ≡ true
    at true i f = refl
    at false i f = f i

-- the lists change, the store stays
replaced_store : (p : Proof) (taken left shelved : List ℕ) (q : Proof) → replaced p taken left shelved ≡ Ok q → q.store ≡ p.store
unfolding replaced swept
replaced_store p taken left shelved q e = sym (ap (λ z. z.store) (within_is (swept (with_lists p (refocused taken left p.focus) p.frames (without taken p.shelf ++ shelved))) q e))

-- the oldest values stay where others are given
oldest_behind : (n : ℕ) (newer as_ : List Assigned) → n ≤ length as_ → oldest n (newer ++ as_) ≡ oldest n as_
oldest_behind n [] as_ l = refl
oldest_behind n (a ∷ newer) as_ l =
    ap (λ j. drop j (a ∷ newer ++ as_)) (more (omega (arith, l, length-append newer as_))) ∙ oldest_behind n newer as_ l
  where
    more : suc (length (newer ++ as_)) - n ≡ suc (length (newer ++ as_) - n) → suc (length (newer ++ as_)) - n ≡ suc (length (newer ++ as_) - n)
    more e = e

pub newer_swept : (p : Proof) (s : Store) → Newer p.store s → (given seen : ℕ) → IsSwept p given seen → IsSwept (with_store p s) given seen
unfolding listed_goals
newer_swept p s n given seen w = record {
  values = omega (arith, w.values, ap length n.1, length-append n.0 p.store.values);
  inside = w.inside;
  valueless = λ k l. ap (λ as_. find_value (oldest given as_) k) n.1 ∙ ap (λ as_. find_value as_ k) (oldest_behind given n.0 p.store.values w.values) ∙ w.valueless k l;
}

-- a goal that is in focus or on the shelf
abbrev pub IsThere : Proof → ℕ → Type 0
IsThere p k = 1 ≤ times p.focus k + times p.shelf k

module _ (p : Proof) (c : Scene) (st : Step) (h : IsProof p) (s : IsScene c) (e : c.store ≡ p.store) (there : IsThere p c.goal) (k : IsStep c st) where
  grown : Grown p.store st.store
  grown = along (λ z. Grown z st.store) e k.grown

  pub row_listed : IsListed (with_store p st.store)
  unfolding listed_goals
  row_listed = record {
    rooted = omega (arith, h.rooted, grown.more);
    once = h.once;
    inside = λ j l. omega (arith, open_inside p.store j (h.valueless j l), grown.more);
  }

  -- the variables that go to the shelf
  abbrev pub shelved : List ℕ
  shelved = without st.goals (made_open p.store st.store)

  shelved_at : (m : ℕ) → (times st.goals m + times shelved m ≤ 1) × (1 ≤ times shelved m → (is_open st.store m ≡ true) × (count p.store ≤ m))
  shelved_at m = at (has st.goals m) refl (times_without st.goals (made_open p.store st.store) m)
    where
      none : has st.goals m ≡ false → times st.goals m ≡ 0
      none f = zero_is (times st.goals m) refl
        where
          zero_is : (n : ℕ) → times st.goals m ≡ n → times st.goals m ≡ 0
          zero_is zero q = q
          zero_is (suc n) q = absurd (grind (arith, sym f ∙ stands_has st.goals m (omega (arith, q))))

      at : (b : Bool) → has st.goals m ≡ b → times shelved m ≡ elim b as (λ z. ℕ) [ true ↦ 0 | false ↦ times (made_open p.store st.store) m ] →
          (times st.goals m + times shelved m ≤ 1) × (1 ≤ times shelved m → (is_open st.store m ≡ true) × (count p.store ≤ m))
      at true f q = (omega (arith, q, k.once m), λ l. absurd (omega (arith, q, l)))
      at false f q = (
        omega (arith, q, none f, made_once p.store st.store m),
        λ l. (made_valueless p.store st.store m (omega (arith, q, l)), made_new p.store st.store m (omega (arith, q, l))),
      )

  pub row_may_replace : MayReplace (with_store p st.store) (c.goal ∷ []) st.goals shelved
  unfolding listed_goals
  row_may_replace = record {
    there = λ m l. along (IsThere p) (one_is c.goal m l) there;
    once = λ m. (shelved_at m).0;
    valueless = λ m l. open_of_two m l (times st.goals m) refl;
    apart = λ m l i. along (λ j. 1 ≤ times (c.goal ∷ []) j) (sym (the_goal m l (open_inside p.store m (h.valueless m i)) (times st.goals m) refl)) (first_stands c.goal []);
    none = λ f. absurd (grind (arith, f));
  }
    where
      open_of_two : (m : ℕ) → 1 ≤ times st.goals m + times shelved m → (n : ℕ) → times st.goals m ≡ n → is_open st.store m ≡ true
      open_of_two m l zero q = ((shelved_at m).1 (omega (arith, l, q))).0
      open_of_two m l (suc n) q = inside_open st.store m (k.inside m (omega (arith, q))) (k.valueless m (omega (arith, q)))

      the_goal : (m : ℕ) → 1 ≤ times st.goals m + times shelved m → m < count p.store → (n : ℕ) → times st.goals m ≡ n → m ≡ c.goal
      the_goal m l i zero q = absurd (omega (arith, ((shelved_at m).1 (omega (arith, l, q))).1, i))
      the_goal m l i (suc n) q = k.new m (omega (arith, q)) (along (λ z. m < count z) (sym e) i)

  -- so the proof stays one
  pub row_listed_kept : (d : PrimDone) → Gives (listed p c.goal st) d → IsProof d.proof × IsStore d.proof.store
  unfolding listed
  row_listed_kept d y = at (replaced (with_store p st.store) (c.goal ∷ []) st.goals shelved) refl y
    where
      at : (o : Result Proof GoalFault) → replaced (with_store p st.store) (c.goal ∷ []) st.goals shelved ≡ o →
          Gives {F = RowFault} (elim o as (λ z. Doing PrimDone) [ Ok q ↦ gives (record { proof = q; goals = st.goals; shelved = shelved }) | Err f ↦ fails goals_exceeded ]) d → IsProof d.proof × IsStore d.proof.store
      at (Err f) q z = absurd z
      at (Ok q) f z =
          along (λ w. IsProof w.proof × IsStore w.proof.store) z
          (replaced_kept (with_store p st.store) (c.goal ∷ []) st.goals shelved row_listed row_may_replace q f, along IsStore (sym (replaced_store (with_store p st.store) (c.goal ∷ []) st.goals shelved q f)) k.grown.store)

  -- and goals that had a value when the lists were last looked through are in none
  pub row_swept : (given seen : ℕ) → IsSwept p given seen → IsSwept (with_store p st.store) given seen
  row_swept given seen w = newer_swept p st.store grown.newer given seen w
