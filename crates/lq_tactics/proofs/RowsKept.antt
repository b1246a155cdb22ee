-- What the rows of both tables have in common keeps what holds of a store and of a goal.
use Rattle.std.proofs.Common.{◌≡◌, ◌≤◌, ◌<◌, ◌∙◌, ℕ, suc, refl, sym, ap, arith, eqb, eqb-true, Bool, true, false, ◌||◌, List, [], ◌∷◌, length, Option, Some, None, Result, Ok, Err}
use Rattle.std.proofs.Common.{subst as along}
use Rattle.std.specs.Prelude.{leb, slice_get}
use Rattle.lq_trees.specs.Tree.{Name, Tree, Context, value_of}
use Rattle.lq_trees.specs.Index.{Within}
use Rattle.lq_trees.specs.Hypotheses.{HoldsOnly}
use Rattle.lq_trees.specs.Ticks.{gives, fails, ◌>>=◌}
use Rattle.lq_calculus.specs.Contraction.{whnf, beta_normal}
use Rattle.lq_calculus.specs.Declarations.{Env}
use Rattle.lq_calculus.proofs.ConvSound.{Gives, gives_bind}
use Rattle.lq_solving.specs.Occurs.{holds_variable}
use Rattle.lq_solving.specs.Stores.{Store, Variable, Assigned, StoreFault, names_in, names_at, find_value, value, has_value, count, most_variables, read, read_context, size_fault, new_variable, with_variable, with_value, with_kind, read_too_large}
use Rattle.lq_solving.specs.Kept.{IsOver, Sound, Stands, StandsIn, IsContext, IsVariable, IsStore}
use Rattle.lq_solving.specs.Claims.{ArePlainDeclarations}
use Rattle.lq_solving.specs.ElabFaults.{ElabFault, elab_fitting, by_store}
use Rattle.lq_solving.specs.Elaboration.{Givens, given_term, found, made}
use Rattle.lq_solving.proofs.StoreLaws.{MayBeGiven, given_store, given_keeps, get_end, length_one_more}
use Rattle.lq_solving.proofs.KindLaws.{length_kind, names_kind, kind_over, kind_keeps, kind_store, all_get}
use Rattle.lq_solving.proofs.DoneLaws.{done_reads, done_leads}
use Rattle.lq_solving.proofs.Good.{IsGood, good_done, good_over, good_within, form_good}
use Rattle.lq_solving.proofs.Later.{good_read, good_stands, bodies_good}
use Rattle.lq_solving.proofs.UnifyProved.{bodies_stand}
use Rattle.lq_solving.proofs.ElabKept.{Grown, grown_then, by_gives, elab_fits, made_grown}
use Rattle.lq_states.specs.Kept.{times}
use Rattle.lq_tactics.specs.Rows.{RowFault, Doing, by_elab, by_store_call, store_work, Scene, Done, Step, rules, needed, needed_form, head_of, scene_of, scene, new_goal, as_goal, as_goals, goal_term, given_to, ended}
use Rattle.lq_tactics.proofs.BetaKept.{beta_normal_good}

-- ---- a goal, what a row reaches, and what it did

-- Ltac values are terms over the store
abbrev pub AreGiven : Store → Givens → Type 0
AreGiven s vs = (x : Name) (t : Tree) → value_of vs x ≡ Some (given_term t) → IsOver s.variables t × Within 0 t

-- where a row may work: the goal is a variable of the store, and its context and type stand; the type is as read
pub record IsScene (c : Scene) : Type 0 where
  pub plain : ArePlainDeclarations c.env
  pub store : IsStore c.store
  pub context : IsContext c.store c.context
  pub kind : StandsIn c.store c.context c.kind
  pub good : IsGood c.store.variables c.store.values (names_in c.context) 0 c.kind
  pub inside : c.goal < count c.store
  pub names : names_at c.store.variables c.goal ≡ names_in c.context
  pub values : AreGiven c.store c.values

-- goals that were made since: variables without a value, none of them twice
pub record AreNew (s s1 : Store) (ks : List ℕ) : Type 0 where
  pub once : (k : ℕ) → times ks k ≤ 1
  pub inside : (k : ℕ) → 1 ≤ times ks k → k < count s1
  pub valueless : (k : ℕ) → 1 ≤ times ks k → has_value s1 k ≡ false
  pub new : (k : ℕ) → 1 ≤ times ks k → count s ≤ k

-- what a row reaches before the goal gets its body, which stands in the goal's context
pub record IsReached (c : Scene) (d : Done) : Type 0 where
  pub grown : Grown c.store d.store
  pub body : StandsIn d.store c.context d.body
  pub goals : AreNew c.store d.store d.goals

-- what a row did: the goals that are left are new ones, or the goal itself
pub record IsStep (c : Scene) (st : Step) : Type 0 where
  pub grown : Grown c.store st.store
  pub once : (k : ℕ) → times st.goals k ≤ 1
  pub inside : (k : ℕ) → 1 ≤ times st.goals k → k < count st.store
  pub valueless : (k : ℕ) → 1 ≤ times st.goals k → has_value st.store k ≡ false
  pub new : (k : ℕ) → 1 ≤ times st.goals k → k < count c.store → k ≡ c.goal

-- the goal's type is as read
pub kind_reads : (c : Scene) → IsScene c → read c.store c.kind ≡ c.kind
unfolding read
kind_reads c s = done_reads c.store.variables c.store.values c.kind (good_done c.store.variables c.store.values (names_in c.context) 0 c.kind s.good)

-- ---- terms that are needed

pub needed_is : (t T : Tree) → Gives (needed t) T → t ≡ T
unfolding needed
needed_is t T y = at (size_fault t) y
  where
    at : (o : Option StoreFault) → Gives {F = RowFault} (elim o as (λ z. Doing Tree) [ None ↦ gives t | Some f ↦ fails (by_store_call f) ]) T → t ≡ T
    at None z = z
    at (Some f) z = absurd z

pub form_is : (t T : Tree) → Gives (needed_form t) T → t ≡ T
form_is t T y = elab_fits t T (by_gives by_elab (elab_fitting t) T y)

module _ (s : Store) (i : IsStore s) (xs : List Name) where
  pub read_stands : (t : Tree) → Stands s xs t → Stands s xs (read s t)
  read_stands t h = good_stands s i s.values xs (read s t) (good_read s i xs t h)

  -- the beta normal form of a term as read
  pub beta_stands : (n : ℕ) (t T : Tree) → Stands s xs t → Gives (needed (read s t) >>= beta_normal n >>= needed_form) T → Stands s xs T
  beta_stands n t T h y =
      let a = gives_bind (needed (read s t) >>= beta_normal n) needed_form T y in
      let b = gives_bind (needed (read s t)) (beta_normal n) a.0 a.1 in
      along (Stands s xs) (form_is a.0 T a.2)
      (good_stands s i s.values xs a.0
      (beta_normal_good s.variables s.values xs RowFault n 0 b.0 a.0 (along (IsGood s.variables s.values xs 0) (needed_is (read s t) b.0 b.1) (good_read s i xs t h)) b.2))

-- a weak head form in the goal's context: it is as read, and stands
pub head_good : (c : Scene) → ArePlainDeclarations c.env → (s : Store) → IsStore s → IsContext s c.context → (t T : Tree) → StandsIn s c.context t → Gives (head_of c s t) T →
    IsGood s.variables s.values (names_in c.context) 0 T
unfolding head_of
head_good c plain s i g t T h y =
    let a = gives_bind (whnf (rules c) (read_context s c.context) c.bound (read s t)) needed_form T y in
    along (IsGood s.variables s.values (names_in c.context) 0) (form_is a.0 T a.2)
    (form_good s.variables s.values (names_in c.context) RowFault (rules c) plain.rules (read_context s c.context)
    (bodies_good (rules c) s i c.context (bodies_stand s c.context g)) c.bound (read s t) a.0 (good_read s i (names_in c.context) t h) a.1)

pub head_stands : (c : Scene) → ArePlainDeclarations c.env → (s : Store) → IsStore s → IsContext s c.context → (t T : Tree) → StandsIn s c.context t → Gives (head_of c s t) T → StandsIn s c.context T
head_stands c plain s i g t T h y = good_stands s i s.values (names_in c.context) T (head_good c plain s i g t T h y)

-- ---- variables and values

-- a variable that is not there yet has no value
unborn : (vs : List Variable) (as_ : List Assigned) → Sound vs as_ → (k : ℕ) → length vs ≤ k → find_value as_ k ≡ None
unfolding find_value
unborn vs [] h k l = refl
unborn vs (a ∷ older) h k l = at (eqb a.id k) refl (unborn vs older h.0 k l)
  where
    at : (b : Bool) → eqb a.id k ≡ b → find_value older k ≡ None → elim b as (λ z. Option Tree) [ true ↦ Some a.body | false ↦ find_value older k ] ≡ None
    at true e i = absurd (omega (arith, eqb-true a.id k e, h.1.inside, l))
    at false e i = i

pub unborn_valueless : (s : Store) → IsStore s → (k : ℕ) → count s ≤ k → has_value s k ≡ false
unfolding has_value value
unborn_valueless s i k l = ap (λ o. elim o as (λ z. Bool) [ Some b ↦ true | None ↦ false ]) (unborn s.variables s.values i.values k l)

-- the same values
pub same_values : (s s1 : Store) → s1.values ≡ s.values → (k : ℕ) → has_value s1 k ≡ has_value s k
unfolding has_value value
same_values s s1 e k = ap (λ as_. elim (find_value as_ k) as (λ z. Bool) [ Some b ↦ true | None ↦ false ]) e

-- a value for another variable
pub other_value : (s : Store) (j : ℕ) (b : Tree) (k : ℕ) → (j ≡ k → ⊥) → has_value (with_value s j b) k ≡ has_value s k
unfolding has_value value with_value find_value
other_value s j b k h = at (eqb j k) refl
  where
    at : (o : Bool) → eqb j k ≡ o →
        elim (elim o as (λ z. Option Tree) [ true ↦ Some b | false ↦ find_value s.values k ]) as (λ z. Bool) [ Some c ↦ true | None ↦ false ]
        ≡ elim (find_value s.values k) as (λ z. Bool) [ Some c ↦ true | None ↦ false ]
    at true e = absurd (h (eqb-true j k e))
    at false e = refl

no_value : (s : Store) (k : ℕ) → has_value s k ≡ false → find_value s.values k ≡ None
unfolding has_value value
no_value s k e = at (find_value s.values k) e
  where
    at : (o : Option Tree) → elim o as (λ z. Bool) [ Some b ↦ true | None ↦ false ] ≡ false → o ≡ None
    at None f = refl
    at (Some b) f = absurd (grind (arith, f))

-- ---- new goals

-- a variable that was made in a context
pub record IsMade (s : Store) (g : Context) (r : Store × ℕ) : Type 0 where
  pub grown : Grown s r.0
  pub term : Stands r.0 (names_in g) (goal_term r.1 g)
  pub number : r.1 ≡ count s
  pub many : count r.0 ≡ suc (count s)
  pub values : r.0.values ≡ s.values
  pub there : (v : Variable) × (slice_get r.0.variables r.1 ≡ Some v) × (v.context ≡ g)

pub variable_made : (s : Store) (g : Context) (A : Tree) (r : Store × ℕ) → IsStore s → IsContext s g → Stands s (names_in g) A → new_variable s (record { context = g; kind = A; name = None }) ≡ Ok r → IsMade s g r
unfolding new_variable made by_store ◌>>=◌ with_variable
variable_made s g A r i c h e = at (leb most_variables (count s)) refl e
  where
    v : Variable
    v = record { context = g; kind = A; name = None }

    at : (b : Bool) → leb most_variables (count s) ≡ b → elim b as (λ z. Result (Store × ℕ) StoreFault) [ true ↦ Err StoreFault.store_full | false ↦ Ok (with_variable s v, count s) ] ≡ Ok r → IsMade s g r
    at true p f = absurd (grind (arith, f))
    at false p f =
        along (IsMade s g) (ap (λ o. elim o as (λ z. Store × ℕ) [ Ok q ↦ q | Err z ↦ r ]) f)
        (let q = made_grown g s A None (found (with_variable s v) (goal_term (count s) g) A) i c h (λ y w. absurd (grind (arith, w))) (made_is p) in
        record {
          grown = q.0;
          term = q.1;
          number = refl;
          many = length_one_more s.variables v;
          values = refl;
          there = (v, get_end s.variables v, refl);
        })
      where
        made_is : leb most_variables (count s) ≡ false → Gives (made g s A None) (found (with_variable s v) (goal_term (count s) g) A)
        made_is q = along (λ b. Gives {F = ElabFault} (by_store (elim b as (λ z. Result (Store × ℕ) StoreFault) [ true ↦ Err StoreFault.store_full | false ↦ Ok (with_variable s v, count s) ]) >>= λ z. gives (found z.0 (goal_term z.1 g) A)) (found (with_variable s v) (goal_term (count s) g) A)) (sym q) refl

pub store_ok : {A : Type 0} (r : Result A StoreFault) (a : A) → Gives (store_work r) a → r ≡ Ok a
unfolding store_work
store_ok (Ok b) a y = ap Ok y
store_ok (Err f) a y = absurd y

-- a new goal, its type in beta normal form
pub goal_made : (c : Scene) (s : Store) (g : Context) (A : Tree) (r : Store × ℕ) → IsStore s → IsContext s g → Stands s (names_in g) A → Gives (new_goal c s g A) r → IsMade s g r
unfolding new_goal
goal_made c s g A r i k h y =
    let a = gives_bind (needed (read s A) >>= beta_normal c.bound >>= needed_form) _ r y in
    variable_made s g a.0 r i k (beta_stands s i (names_in g) c.bound A a.0 h a.1) (store_ok (new_variable s (record { context = g; kind = a.0; name = None })) r a.2)

-- a store with other types of variables
pub record IsRetyped (s s1 : Store) : Type 0 where
  pub grown : Grown s s1
  pub values : s1.values ≡ s.values
  pub count : count s1 ≡ count s

retyped_then : (s s1 s2 : Store) → IsRetyped s s1 → IsRetyped s1 s2 → IsRetyped s s2
retyped_then s s1 s2 h k = record { grown = grown_then s s1 s2 h.grown k.grown; values = k.values ∙ h.values; count = k.count ∙ h.count }

kind_grown : (s : Store) (k : ℕ) (v : Variable) (A : Tree) → IsStore s → slice_get s.variables k ≡ Some v → StandsIn s v.context A → IsRetyped s (with_kind s k A)
unfolding with_kind
kind_grown s k v A i e h = record {
  grown = record {
    store = kind_store s k A i (λ w f j. along (λ z. StandsIn s z.context A) (ap (λ o. elim o as (λ z. Variable) [ Some z ↦ z | None ↦ v ]) (sym e ∙ f)) h);
    keeps = kind_keeps s k A;
    over = λ t o. kind_over s.variables k A t o;
    more = omega (arith, length_kind s.variables k A);
    names = λ j l. names_kind s.variables k A j;
    newer = ([], refl);
  };
  values = refl;
  count = length_kind s.variables k A;
}

-- made variables become goals
pub retyped : (c : Scene) (s s1 : Store) (k : ℕ) → IsStore s → Gives (as_goal c s k (slice_get s.variables k)) s1 → IsRetyped s s1
unfolding as_goal
retyped c s s1 k i y = at (slice_get s.variables k) refl y
  where
    same : IsRetyped s s
    same = record { grown = record { store = i; keeps = λ xs t h. h; over = λ t h. h; more = omega arith; names = λ j l. refl; newer = ([], refl) }; values = refl; count = refl }

    at : (o : Option Variable) → slice_get s.variables k ≡ o → Gives (as_goal c s k o) s1 → IsRetyped s s1
    at None e z = along (IsRetyped s) z same
    at (Some v) e z =
        let a = gives_bind (needed (read s v.kind) >>= beta_normal c.bound >>= needed_form) _ s1 z in
        let j = all_get (IsVariable s) s.variables k v i.variables e in
        along (IsRetyped s) a.2 (kind_grown s k v a.0 i e (beta_stands s i (names_in v.context) c.bound v.kind a.0 j.1 a.1))

pub all_retyped : (c : Scene) (s s1 : Store) (ks : List ℕ) → IsStore s → Gives (as_goals c s ks) s1 → IsRetyped s s1
unfolding as_goals
all_retyped c s s1 [] i y =
    along (IsRetyped s) y
    (record { grown = record { store = i; keeps = λ xs t h. h; over = λ t h. h; more = omega arith; names = λ j l. refl; newer = ([], refl) }; values = refl; count = refl })
all_retyped c s s1 (k ∷ ks) i y =
    let a = gives_bind (as_goal c s k (slice_get s.variables k)) _ s1 y in
    let h = retyped c s a.0 k i a.1 in
    retyped_then s a.0 s1 h (all_retyped c a.0 s1 ks h.grown.store a.2)

-- ---- the goal gets its body

-- the body as read may be given to the goal
pub may_be_given : (c : Scene) (d : Done) → IsScene c → IsReached c d → has_value d.store c.goal ≡ false → holds_variable c.goal (read d.store d.body) ≡ false → MayBeGiven d.store c.goal (read d.store d.body)
unfolding read
may_be_given c d h r v e =
    let good = good_read d.store r.grown.store (names_in c.context) d.body r.body in
    let done = good_done d.store.variables d.store.values (names_in c.context) 0 (read d.store d.body) good in
    record {
      inside = omega (arith, h.inside, r.grown.more);
      new = no_value d.store c.goal v;
      free = done_leads d.store.values c.goal (read d.store d.body) done e;
      over = good_over d.store.variables d.store.values (names_in c.context) 0 (read d.store d.body) good;
      within = good_within d.store.variables d.store.values (names_in c.context) 0 (read d.store d.body) good;
      holds = along (λ xs. HoldsOnly xs (read d.store (read d.store d.body))) (sym (r.grown.names c.goal h.inside ∙ h.names))
          (along (HoldsOnly (names_in c.context)) (sym (done_reads d.store.variables d.store.values (read d.store d.body) done)) r.body.holds);
    }

given_grown : (s : Store) (k : ℕ) (b : Tree) → IsStore s → MayBeGiven s k b → Grown s (with_value s k b)
unfolding with_value
given_grown s k b i m = record {
  store = given_store s k b i m;
  keeps = given_keeps s k b i.values m;
  over = λ t o. o;
  more = omega arith;
  names = λ j l. refl;
  newer = (record { id = k; body = b } ∷ [], refl);
}

both_false : (a b : Bool) → (a || b) ≡ false → (a ≡ false) × (b ≡ false)
both_false false b e = (refl, e)
both_false true b e = absurd (grind (arith, e))

pub step_kept : (c : Scene) (d : Done) (st : Step) → IsScene c → IsReached c d → Gives (given_to c.goal d) st → IsStep c st
unfolding given_to with_value
step_kept c d st h r y =
    let a = gives_bind (needed (read d.store d.body)) _ st y in
    at a.0 (needed_is (read d.store d.body) a.0 a.1) (has_value d.store c.goal || holds_variable c.goal a.0) refl a.2
  where
    given : has_value d.store c.goal ≡ false → holds_variable c.goal (read d.store d.body) ≡ false → IsStep c (record { store = with_value d.store c.goal (read d.store d.body); goals = d.goals })
    given v e = record {
      grown = grown_then c.store d.store (with_value d.store c.goal (read d.store d.body)) r.grown (given_grown d.store c.goal (read d.store d.body) r.grown.store (may_be_given c d h r v e));
      once = r.goals.once;
      inside = r.goals.inside;
      valueless = λ k l. other_value d.store c.goal (read d.store d.body) k (λ z. omega (arith, z, r.goals.new k l, h.inside)) ∙ r.goals.valueless k l;
      new = λ k l m. absurd (omega (arith, r.goals.new k l, m));
    }

    at : (b : Tree) → read d.store d.body ≡ b → (o : Bool) → (has_value d.store c.goal || holds_variable c.goal b) ≡ o →
        Gives {F = RowFault} (elim o as (λ z. Doing Step) [ true ↦ fails (by_store_call read_too_large) | false ↦ gives (record { store = with_value d.store c.goal b; goals = d.goals }) ]) st → IsStep c st
    at b e true f z = absurd z
    at b e false f z =
        let q = both_false (has_value d.store c.goal) (holds_variable c.goal b) f in
        along (IsStep c) (ap (λ w. record { store = with_value d.store c.goal w; goals = d.goals }) e ∙ z) (given q.0 (ap (holds_variable c.goal) e ∙ q.1))

-- one row, with its end
pub ended_kept : (c : Scene) (p : Doing Done) (st : Step) → IsScene c → ((d : Done) → Gives p d → IsReached c d) → Gives (ended c p) st → IsStep c st
unfolding ended
ended_kept c p st h f y = let a = gives_bind p (given_to c.goal) st y in step_kept c a.0 st h (f a.0 a.1) a.2

-- ---- the scene of a goal

pub given_later : (s s1 : Store) (vs : Givens) → Grown s s1 → AreGiven s vs → AreGiven s1 vs
given_later s s1 vs g h x t e = let q = h x t e in (g.over t q.0, q.1)

-- the scene is that of the goal's variable
pub record IsSceneOf (env : Env) (n : ℕ) (vs : Givens) (s : Store) (k : ℕ) (c : Scene) : Type 0 where
  pub variable : Variable
  pub there : slice_get s.variables k ≡ Some variable
  pub is : record { env = env; bound = n; values = vs; store = s; goal = k; context = variable.context; kind = read s variable.kind } ≡ c

pub scene_is : (env : Env) (n : ℕ) (vs : Givens) (s : Store) (k : ℕ) (c : Scene) → Gives (scene env n vs s k) c → IsSceneOf env n vs s k c
unfolding scene scene_of
scene_is env n vs s k c y = at (slice_get s.variables k) refl y
  where
    at : (o : Option Variable) → slice_get s.variables k ≡ o → Gives (scene_of env n vs s k o) c → IsSceneOf env n vs s k c
    at None e z = absurd z
    at (Some v) e z =
        let a = gives_bind (needed (read s v.kind)) _ c z in
        record {
          variable = v;
          there = e;
          is = ap (λ T. record { env = env; bound = n; values = vs; store = s; goal = k; context = v.context; kind = T }) (needed_is (read s v.kind) a.0 a.1) ∙ a.2;
        }

pub scene_kept : (env : Env) (n : ℕ) (vs : Givens) (s : Store) (k : ℕ) (c : Scene) → ArePlainDeclarations env → IsStore s → AreGiven s vs → k < count s → IsSceneOf env n vs s k c → IsScene c
unfolding names_at
scene_kept env n vs s k c plain i g l q =
    let v = q.variable in
    let j = all_get (IsVariable s) s.variables k v i.variables q.there in
    along IsScene q.is (record {
      plain = plain;
      store = i;
      context = j.0;
      kind = read_stands s i (names_in v.context) v.kind j.1;
      good = good_read s i (names_in v.context) v.kind j.1;
      inside = l;
      names = ap (λ o. elim o as (λ z. List Name) [ Some w ↦ names_in w.context | None ↦ [] ]) q.there;
      values = g;
    })
