-- Rows that give no variable but the goal a value, and the branches of an elimination, which are such rows one after the other.
use Rattle.std.proofs.Common.{◌≡◌, ◌≤◌, ◌<◌, ◌+◌, ◌^◌, ◌∙◌, ℕ, suc, refl, sym, ap, arith, Bool, true, false, ◌||◌, List, [], ◌∷◌, ◌++◌, length, length-append}
use Rattle.std.proofs.Common.{drop, Option, Some, None, Result, Ok, Err}
use Rattle.std.proofs.Common.{subst as along}
use Rattle.std.proofs.lemmas.List.{length-map}
use Rattle.std.specs.Prelude.{leb, slice_get, codes}
use Rattle.lq_trees.specs.Tree.{Name, Tree, Context, same_name}
use Rattle.lq_trees.specs.Tree.Tree.{Rel, Var, Sort, Prod, Lam, Let, App, Const, Ind, Ctor, Elim, Evar}
use Rattle.lq_trees.specs.Fresh.{is_listed, fresh_of, opened, under, under_let}
use Rattle.lq_trees.specs.Ticks.{gives, fails, ◌>>=◌}
use Rattle.lq_calculus.proofs.ConvSound.{Gives, gives_bind}
use Rattle.lq_solving.specs.Occurs.{holds_variable, holds_hypothesis}
use Rattle.lq_solving.specs.Stores.{Store, Variable, StoreFault, names_in, has_value, count, most_variables, read, new_variable, with_variable, with_value}
use Rattle.lq_solving.specs.Stores.{read_too_large}
use Rattle.lq_solving.specs.Kept.{StandsIn}
use Rattle.lq_solving.proofs.FreshLaws.{fresh_of_new}
use Rattle.lq_solving.proofs.StoreLaws.{get_end}
use Rattle.lq_solving.proofs.StandsLaws.{listed_more, domain_stands, rest_stands}
use Rattle.lq_states.specs.Kept.{times}
use Rattle.lq_tactics.specs.Rows.{RowFault, Doing, by_store_call, Scene, Done, Step, done_by, needed, scene, new_goal, goal_term, given_to, ended, then_on}
use Rattle.lq_tactics.specs.Rows.{then_next, stays, still_used}
use Rattle.lq_tactics.specs.Exchanging.{first_or}
use Rattle.lq_tactics.specs.Primitives.{intro_name, under_product, under_value, intro_on, binder_form, do_intro}
use Rattle.lq_tactics.specs.Hypotheses.{hypothesis_named, some_holds, without_name, do_clear}
use Rattle.lq_tactics.specs.Elimination.{return_each, Naming, argument_name, branch_name, intro_unnamed, intro_hypothesis, intro_arguments, branch}
use Rattle.lq_tactics.proofs.RowsKept.{IsScene, IsReached, IsStep, IsSceneOf, same_values, other_value, store_ok, ended_kept, given_later, scene_is, scene_kept}
use Rattle.lq_tactics.proofs.StepsKept.{one_is, first_stands, stays_kept, step_then}
use Rattle.lq_tactics.proofs.IntroKept.{AreNear, product_reached, intro_reached, intro_near}
use Rattle.lq_tactics.proofs.HypothesesKept.{clear_reached}

-- ---- where a row's goals stand

-- goals with that context
abbrev pub AreAt : Context → Store → List ℕ → Type 0
AreAt g s ks = (k : ℕ) (v : Variable) → 1 ≤ times ks k → slice_get s.variables k ≡ Some v → v.context ≡ g

-- a new goal: the values stay, and it has its context
pub goal_there : (c : Scene) (s : Store) (g : Context) (A : Tree) (r : Store × ℕ) → Gives (new_goal c s g A) r →
    (r.0.values ≡ s.values) × AreAt g r.0 (r.1 ∷ [])
unfolding new_goal new_variable with_variable
goal_there c s g A r y =
    let a = gives_bind _ (λ B. _) r y in
    at a.0 (leb most_variables (count s)) (store_ok (new_variable s (record { context = g; kind = a.0; name = None })) r a.2)
  where
    made : (B : Tree) → AreAt g (with_variable s (record { context = g; kind = B; name = None })) (count s ∷ [])
    made B k v l e =
        let w : Variable = record { context = g; kind = B; name = None } in
        sym (ap (λ o. elim o as (λ z. Context) [ Some z ↦ z.context | None ↦ v.context ])
        (sym (get_end s.variables w) ∙ along (λ j. slice_get (s.variables ++ w ∷ []) j ≡ Some v) (sym (one_is (count s) k l)) e))

    at : (B : Tree) (o : Bool) → elim o as (λ z. Result (Store × ℕ) StoreFault) [ true ↦ Err StoreFault.store_full | false ↦ Ok (with_variable s (record { context = g; kind = B; name = None }), count s) ] ≡ Ok r →
        (r.0.values ≡ s.values) × AreAt g r.0 (r.1 ∷ [])
    at B true f = absurd (grind (arith, f))
    at B false f = along (λ z. (z.0.values ≡ s.values) × AreAt g z.0 (z.1 ∷ [])) (ap (λ o. elim o as (λ z. Store × ℕ) [ Ok q ↦ q | Err z ↦ r ]) f) (refl, made B)

-- the goal gets its body: its goals are as they were, and no other variable gets a value
pub record IsGiven (k : ℕ) (d : Done) (st : Step) : Type 0 where
  pub body : Tree
  pub is : record { store = with_value d.store k body; goals = d.goals } ≡ st
  pub valueless : has_value d.store k ≡ false

pub given_is : (k : ℕ) (d : Done) (st : Step) → Gives (given_to k d) st → IsGiven k d st
unfolding given_to
given_is k d st y = let a = gives_bind (needed (read d.store d.body)) _ st y in at a.0 (has_value d.store k) refl (holds_variable k a.0) a.2
  where
    at : (b : Tree) (v : Bool) → has_value d.store k ≡ v → (o : Bool) →
        Gives {F = RowFault} (elim (v || o) as (λ z. Doing Step) [ true ↦ fails (by_store_call read_too_large) | false ↦ gives (record { store = with_value d.store k b; goals = d.goals }) ]) st → IsGiven k d st
    at b true e o z = absurd z
    at b false e true z = absurd z
    at b false e false z = record { body = b; is = z; valueless = e }

pub ended_at : (c : Scene) (p : Doing Done) (g : Context) (st : Step) → ((d : Done) → Gives p d → AreAt g d.store d.goals) → Gives (ended c p) st →
    AreAt g st.store st.goals
unfolding ended with_value
ended_at c p g st f y = let a = gives_bind p (given_to c.goal) st y in along (λ z. AreAt g z.store z.goals) (given_is c.goal a.0 st a.2).is (f a.0 a.1)

-- ---- a step that gives no variable but the goal a value

pub record IsQuiet (c : Scene) (st : Step) : Type 0 where
  pub step : IsStep c st
  pub others : (j : ℕ) → j < count c.store → (j ≡ c.goal → ⊥) → has_value st.store j ≡ has_value c.store j

pub stays_quiet : (c : Scene) → IsScene c → has_value c.store c.goal ≡ false → IsQuiet c (stays c)
stays_quiet c s e = record { step = stays_kept c s e; others = λ j l n. refl }

pub ended_quiet : (c : Scene) (p : Doing Done) (st : Step) → IsScene c → ((d : Done) → Gives p d → IsReached c d × (d.store.values ≡ c.store.values)) →
    Gives (ended c p) st → IsQuiet c st
unfolding ended
ended_quiet c p st s f y = record {
  step = ended_kept c p st s (λ d z. (f d z).0) y;
  others = λ j l n. let a = gives_bind p (given_to c.goal) st y in let g = given_is c.goal a.0 st a.2 in
      along (λ z. has_value z.store j ≡ has_value c.store j) g.is (other_value a.0.store c.goal g.body j (λ e. n (sym e)) ∙ same_values c.store a.0.store (f a.0 a.1).1 j);
}

-- what follows a step: nothing where it left no goal, else the next on its first goal
pub then_leads : (c : Scene) (st st2 : Step) (next : Scene → Doing Step) (P : Type 0) → IsScene c → IsStep c st → (st.goals ≡ [] → st ≡ st2 → P) →
    ((k : ℕ) (d : Scene) → 1 ≤ times st.goals k → has_value st.store k ≡ false → IsSceneOf c.env c.bound c.values st.store k d → IsScene d → Gives (next d) st2 → P) → Gives (then_next c st next) st2 → P
unfolding then_next then_on
then_leads c st st2 next P s k now later y = at st.goals refl y
  where
    at : (ks : List ℕ) → st.goals ≡ ks →
        Gives (elim ks as (λ z. Doing Step) [ [] ↦ gives st | j ∷ js ↦ scene c.env c.bound c.values st.store j >>= next ]) st2 → P
    at [] e z = now e z
    at (j ∷ js) e z =
        let a = gives_bind (scene c.env c.bound c.values st.store j) next st2 z in
        let q = scene_is c.env c.bound c.values st.store j a.0 a.1 in
        let there = along (λ ks. 1 ≤ times ks j) (sym e) (first_stands j js) in
        let d = scene_kept c.env c.bound c.values st.store j a.0 s.plain k.grown.store (given_later c.store st.store c.values k.grown s.values) (k.inside j there) q in
        later j a.0 there (k.valueless j there) q d a.2

pub scene_store : (c d : Scene) (s : Store) (k : ℕ) → IsSceneOf c.env c.bound c.values s k d → (d.store ≡ s) × (d.goal ≡ k)
scene_store c d s k q = (sym (ap (λ z. z.store) q.is), sym (ap (λ z. z.goal) q.is))

pub scene_open : (c d : Scene) (s : Store) (k : ℕ) → IsSceneOf c.env c.bound c.values s k d → has_value s k ≡ false → has_value d.store d.goal ≡ false
scene_open c d s k q e = along (λ z. has_value z.store z.goal ≡ false) q.is e

pub then_quiet : (c : Scene) (st st2 : Step) (next : Scene → Doing Step) → IsScene c → IsQuiet c st →
    ((k : ℕ) (d : Scene) → 1 ≤ times st.goals k → has_value d.store d.goal ≡ false → IsSceneOf c.env c.bound c.values st.store k d → IsScene d → Gives (next d) st2 → IsQuiet d st2) →
    Gives (then_next c st next) st2 → IsQuiet c st2
then_quiet c st st2 next s q f y =
    then_leads c st st2 next (IsQuiet c st2) s q.step (λ e z. along (IsQuiet c) z q) (λ k d l v i sd z. both k d l i (f k d l (scene_open c d st.store k i v) i sd z)) y
  where
    both : (k : ℕ) (d : Scene) → 1 ≤ times st.goals k → IsSceneOf c.env c.bound c.values st.store k d → IsQuiet d st2 → IsQuiet c st2
    both k d l i p =
        let r = scene_store c d st.store k i in record {
          step = step_then c d st st2 s q.step r.0 (along (λ z. 1 ≤ times st.goals z) (sym r.1) l) p.step;
          others = λ j m n.
              p.others j (along (λ z. j < count z) (sym r.0) (omega (arith, m, q.step.grown.more))) (λ e. n (e ∙ r.1 ∙ q.step.new k l (omega (arith, m, e, r.1))))
              ∙ ap (λ z. has_value z j) r.0 ∙ q.others j m n;
        }

-- ---- rows that leave the values

module _ (c : Scene) where
  product_values : (x y : Name) (A B : Tree) (d : Done) → Gives (under_product c x y A B) d → d.store.values ≡ c.store.values
  unfolding under_product
  product_values x y A B d z =
      let r = gives_bind (new_goal c c.store (under c.context x A) (opened x B)) _ d z in
      along (λ w. w.store.values ≡ c.store.values) r.2 (goal_there c c.store (under c.context x A) (opened x B) r.0 r.1).0

  value_values : (x y : Name) (v A B : Tree) (d : Done) → Gives (under_value c x y v A B) d → d.store.values ≡ c.store.values
  unfolding under_value
  value_values x y v A B d z =
      let r = gives_bind (new_goal c c.store (under_let c.context x v A) (opened x B)) _ d z in
      along (λ w. w.store.values ≡ c.store.values) r.2 (goal_there c c.store (under_let c.context x v A) (opened x B) r.0 r.1).0

  intro_on_values : (w : Option Name) (t : Tree) (d : Done) → Gives (intro_on c w t) d → d.store.values ≡ c.store.values
  unfolding intro_on
  intro_on_values w (Prod b A B) d y = let x = gives_bind (intro_name c w b) _ d y in product_values x.0 x.0 A B d x.2
  intro_on_values w (Let b v A B) d y = let x = gives_bind (intro_name c w b) _ d y in value_values x.0 x.0 v A B d x.2
  intro_on_values w (Rel x) d y = absurd y
  intro_on_values w (Var x) d y = absurd y
  intro_on_values w (Sort x) d y = absurd y
  intro_on_values w (Lam x A t) d y = absurd y
  intro_on_values w (App t u) d y = absurd y
  intro_on_values w (Const x) d y = absurd y
  intro_on_values w (Ind x) d y = absurd y
  intro_on_values w (Ctor x k) d y = absurd y
  intro_on_values w (Elim x u) d y = absurd y
  intro_on_values w (Evar k ts) d y = absurd y

  intro_values : (w : Option Name) (d : Done) → Gives (do_intro c w) d → d.store.values ≡ c.store.values
  unfolding do_intro
  intro_values w d y = let t = gives_bind (binder_form c) (intro_on c w) d y in intro_on_values w t.0 d t.2

  -- `clear`: the goal's context is the one without the hypothesis
  clear_there : (x : Name) (d : Done) → Gives (do_clear c x) d → (d.store.values ≡ c.store.values) × AreAt (without_name x c.context) d.store d.goals
  unfolding do_clear
  clear_there x d y = let h = gives_bind (hypothesis_named c x) _ d y in at (some_holds c.store x (without_name x c.context) || holds_hypothesis x c.kind) h.2
    where
      at : (o : Bool) → Gives {F = RowFault} (elim o as (λ z. Doing Done) [
        | true ↦ fails (still_used x)
        | false ↦ new_goal c c.store (without_name x c.context) c.kind >>= λ r. gives (done_by r.0 (goal_term r.1 (without_name x c.context)) (r.1 ∷ []))
      ]) d → (d.store.values ≡ c.store.values) × AreAt (without_name x c.context) d.store d.goals
      at true z = absurd z
      at false z =
          let r = gives_bind (new_goal c c.store (without_name x c.context) c.kind) _ d z in
          along (λ w. (w.store.values ≡ c.store.values) × AreAt (without_name x c.context) w.store w.goals) r.2 (goal_there c c.store (without_name x c.context) c.kind r.0 r.1)

  module _ (s : IsScene c) where
    intro_quiet : (x : Name) (st : Step) → Gives (ended c (do_intro c (Some x))) st → IsQuiet c st
    intro_quiet x st y = ended_quiet c (do_intro c (Some x)) st s (λ d z. ((intro_reached c s (Some x) d (λ e. absurd (grind (arith, e))) z).0, intro_values (Some x) d z)) y

    clear_quiet : (x : Name) (st : Step) → Gives (ended c (do_clear c x)) st → IsQuiet c st
    clear_quiet x st y = ended_quiet c (do_clear c x) st s (λ d z. (clear_reached c s x d z, (clear_there x d z).0)) y

    clear_at : (x : Name) (st : Step) → Gives (ended c (do_clear c x)) st → AreAt (without_name x c.context) st.store st.goals
    clear_at x st y = ended_at c (do_clear c x) (without_name x c.context) st (λ d z. (clear_there x d z).1) y

-- the names of a list, introduced
pub return_quiet : (xs : List Name) (c : Scene) (st : Step) → IsScene c → has_value c.store c.goal ≡ false → Gives (return_each xs c) st → IsQuiet c st
unfolding return_each
return_quiet [] c st s e y = along (IsQuiet c) y (stays_quiet c s e)
return_quiet (x ∷ xs) c st s e y =
    let a = gives_bind (ended c (do_intro c (Some x))) _ st y in
    then_quiet c a.0 st (return_each xs) s (intro_quiet c s x a.0 a.1) (λ j d l v q sd z. return_quiet xs d st sd v z) a.2

-- ---- the arguments of a branch

-- the context of a scene on a goal that stands near, or at a context
scene_near : (c d : Scene) (s : Store) (ks : List ℕ) (k m : ℕ) → 1 ≤ times ks k → IsSceneOf c.env c.bound c.values s k d → AreNear m s ks → length d.context ≤ m
scene_near c d s ks k m l q f = along (λ z. length z.context ≤ m) q.is (f k q.variable l q.there)

pub scene_at : (c d : Scene) (s : Store) (ks : List ℕ) (k : ℕ) (g : Context) → 1 ≤ times ks k → IsSceneOf c.env c.bound c.values s k d → AreAt g s ks →
    d.context ≡ g
scene_at c d s ks k g l q f = along (λ z. z.context ≡ g) q.is (f k q.variable l q.there)

-- a hypothesis less
pub shorter : (x : Name) (g : Context) → length (without_name x g) ≤ length g
unfolding without_name
shorter x [] = omega arith
shorter x (h ∷ g) = at (same_name h.name x) (shorter x g)
  where
    at : (b : Bool) → length (without_name x g) ≤ length g →
        length (elim b as (λ z. Context) [ true ↦ without_name x g | false ↦ h ∷ without_name x g ]) ≤ suc (length g)
    at true l = omega (arith, l)
    at false l = omega (arith, l)

-- where induction hypotheses are not kept they get fresh names: the context leaves room for two names for each of n arguments
abbrev pub LeavesPlace : Naming → ℕ → ℕ → Type 0
LeavesPlace m l n = m.keeps ≡ false → l + n + n + length m.reverted < 10 ^ 64

fresh_named : (m : Naming) (c : Scene) (x : Name) → length c.context + length m.reverted < 10 ^ 64 → is_listed (names_in c.context) (branch_name m c x) ≡ false
unfolding branch_name
fresh_named m c x few =
    at (is_listed (names_in c.context) y) refl
    (fresh_of_new (names_in c.context ++ m.reverted) x (omega (arith, few, length-append (names_in c.context) m.reverted, length-map c.context (λ h. h.name))))
  where
    y : Name
    y = fresh_of (names_in c.context ++ m.reverted) x

    at : (b : Bool) → is_listed (names_in c.context) y ≡ b → is_listed (names_in c.context ++ m.reverted) y ≡ false → b ≡ false
    at false p q = refl
    at true p q = absurd (grind (arith, sym (listed_more (names_in c.context) m.reverted y p) ∙ q))

module _ (c : Scene) (s : IsScene c) where
  unnamed_reached : (y : Name) (t : Tree) (d : Done) → is_listed (names_in c.context) y ≡ false → StandsIn c.store c.context t → Gives (intro_unnamed c y t) d →
      IsReached c d × AreNear (suc (length c.context)) d.store d.goals × (d.store.values ≡ c.store.values)
  unfolding intro_unnamed
  unnamed_reached y t d new h z = at t h z
    where
      named : Gives (do_intro c (Some y)) d → IsReached c d × AreNear (suc (length c.context)) d.store d.goals × (d.store.values ≡ c.store.values)
      named w = let r = intro_reached c s (Some y) d (λ e. absurd (grind (arith, e))) w in (r.0, r.1, intro_values c (Some y) d w)

      at : (t : Tree) → StandsIn c.store c.context t → Gives (intro_unnamed c y t) d →
          IsReached c d × AreNear (suc (length c.context)) d.store d.goals × (d.store.values ≡ c.store.values)
      at (Prod b A B) h w =
          let r = product_reached c s y [] A B d new (domain_stands c.store s.store (names_in c.context) b A B h) (rest_stands c.store s.store (names_in c.context) b A B h) w in
          (r.0, r.1, product_values c y [] A B d w)
      at (Rel x) h w = named w
      at (Var x) h w = named w
      at (Sort x) h w = named w
      at (Lam x A u) h w = named w
      at (Let x v A u) h w = named w
      at (App u v) h w = named w
      at (Const x) h w = named w
      at (Ind x) h w = named w
      at (Ctor x j) h w = named w
      at (Elim x u) h w = named w
      at (Evar j ts) h w = named w

  unnamed_quiet : (y : Name) (st : Step) → is_listed (names_in c.context) y ≡ false → Gives (ended c (intro_unnamed c y c.kind)) st → IsQuiet c st
  unnamed_quiet y st new z = ended_quiet c (intro_unnamed c y c.kind) st s (λ d w. let r = unnamed_reached y c.kind d new s.kind w in (r.0, r.2)) z

  unnamed_near : (y : Name) (st : Step) → is_listed (names_in c.context) y ≡ false → Gives (ended c (intro_unnamed c y c.kind)) st →
      AreNear (suc (length c.context)) st.store st.goals
  unfolding ended with_value
  unnamed_near y st new z =
      let a = gives_bind (intro_unnamed c y c.kind) (given_to c.goal) st z in
      along (λ w. AreNear (suc (length c.context)) w.store w.goals) (given_is c.goal a.0 st a.2).is (unnamed_reached y c.kind a.0 new s.kind a.1).1

-- what is next keeps, where the context has room for n arguments
abbrev IsNext : Naming → ℕ → Step → (List Name → Scene → Doing Step) → Type 0
IsNext m n st next = (ns : List Name) (d : Scene) → IsScene d → has_value d.store d.goal ≡ false → LeavesPlace m (length d.context) n → Gives (next ns d) st → IsQuiet d st

hypothesis_quiet : (m : Naming) (ns : List Name) (a : Name) (c : Scene) (next : List Name → Scene → Doing Step) (n : ℕ) (st : Step) → IsScene c →
    LeavesPlace m (suc (length c.context)) n → IsNext m n st next →
    Gives (intro_hypothesis m ns a c next) st → IsQuiet c st
unfolding intro_hypothesis
hypothesis_quiet m ns a c next n st s few f y = at m.keeps refl y
  where
    x : Name
    x = branch_name m c (codes "IH")

    y1 : Name
    y1 = branch_name m c (first_or ns (codes "IH" ++ a))

    at : (b : Bool) → m.keeps ≡ b → Gives {F = RowFault} (elim b as (λ z. Doing Step) [
      | true ↦ ended c (do_intro c (Some y1)) >>= λ st1. then_next c st1 (next (drop 1 ns))
      | false ↦ ended c (intro_unnamed c x c.kind) >>= λ st1. then_next c st1 (λ d. ended d (do_clear d x) >>= λ st2. then_next d st2 (next ns))
    ]) st → IsQuiet c st
    at true e z =
        let b = gives_bind (ended c (do_intro c (Some y1))) _ st z in
        then_quiet c b.0 st (next (drop 1 ns)) s (intro_quiet c s y1 b.0 b.1) (λ k d l v q sd w. f (drop 1 ns) d sd v (λ o. absurd (grind (arith, sym e ∙ o))) w) b.2
    at false e z =
        let b = gives_bind (ended c (intro_unnamed c x c.kind)) _ st z in
        let new = fresh_named m c (codes "IH") (omega (arith, few e)) in
        let near = unnamed_near c s x b.0 new b.1 in
        then_quiet c b.0 st (λ d. ended d (do_clear d x) >>= λ st2. then_next d st2 (next ns)) s (unnamed_quiet c s x b.0 new b.1)
        (λ k d l v q sd w. cleared d sd (scene_near c d b.0.store b.0.goals k (suc (length c.context)) l q near) w) b.2
      where
        cleared : (d : Scene) → IsScene d → length d.context ≤ suc (length c.context) →
            Gives (ended d (do_clear d x) >>= λ st2. then_next d st2 (next ns)) st → IsQuiet d st
        cleared d sd l w =
            let b = gives_bind (ended d (do_clear d x)) _ st w in
            then_quiet d b.0 st (next ns) sd (clear_quiet d sd x b.0 b.1)
            (λ k d1 l1 v q sd1 w1. f ns d1 sd1 v (λ o. omega (arith, few o, l, shorter x d.context, ap length (scene_at d d1 b.0.store b.0.goals k (without_name x d.context) l1 q (clear_at d sd x b.0 b.1)))) w1) b.2

pub arguments_quiet : (m : Naming) (as_ : List (Name × Bool)) (ns : List Name) (c : Scene) (st : Step) → IsScene c → has_value c.store c.goal ≡ false →
    LeavesPlace m (length c.context) (length as_) →
    Gives (intro_arguments m as_ ns c) st → IsQuiet c st
unfolding intro_arguments
arguments_quiet m [] ns c st s e few y = return_quiet m.reverted c st s e y
arguments_quiet m (a ∷ as_) ns c st s e few y =
    let b = gives_bind (ended c (do_intro c (Some x))) _ st y in
    let near = intro_near c (Some x) b.0 s (λ o. absurd (grind (arith, o))) b.1 in
    then_quiet c b.0 st _ s (intro_quiet c s x b.0 b.1)
    (λ k d l v q sd w. at a.1 d sd v (scene_near c d b.0.store b.0.goals k (suc (length c.context)) l q near) (λ ns1 d1 sd1 v1 few1 w1. arguments_quiet m as_ ns1 d1 st sd1 v1 few1 w1) w) b.2
  where
    x : Name
    x = branch_name m c (first_or ns (argument_name m.own_name a))

    at : (o : Bool) (d : Scene) → IsScene d → has_value d.store d.goal ≡ false → length d.context ≤ suc (length c.context) →
        IsNext m (length as_) st (intro_arguments m as_) →
        Gives {F = RowFault} (elim o as (λ z. Doing Step) [ false ↦ intro_arguments m as_ (drop 1 ns) d | true ↦ intro_hypothesis m (drop 1 ns) x d (intro_arguments m as_) ]) st → IsQuiet d st
    at false d sd v l ih w = ih (drop 1 ns) d sd v (λ o. omega (arith, few o, l)) w
    at true d sd v l ih w = hypothesis_quiet m (drop 1 ns) x d (intro_arguments m as_) (length as_) st sd (λ o. omega (arith, few o, l)) ih w

-- the branch of a constructor
pub branch_quiet : (m : Naming) (o : Option Name) (as_ : List (Name × Bool)) (ns : List Name) (c : Scene) (st : Step) → IsScene c →
    has_value c.store c.goal ≡ false → LeavesPlace m (length c.context) (length as_) →
    Gives (branch m o as_ ns c) st → IsQuiet c st
unfolding branch
branch_quiet m None as_ ns c st s e few y = arguments_quiet m as_ ns c st s e few y
branch_quiet m (Some x) as_ ns c st s e few y =
    let b = gives_bind (ended c (do_clear c x)) _ st y in
    then_quiet c b.0 st (intro_arguments m as_ ns) s (clear_quiet c s x b.0 b.1)
    (λ k d l v q sd w. arguments_quiet m as_ ns d st sd v
    (λ o. omega (arith, few o, shorter x c.context, ap length (scene_at c d b.0.store b.0.goals k (without_name x c.context) l q (clear_at c s x b.0 b.1)))) w) b.2
