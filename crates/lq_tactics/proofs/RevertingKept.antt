-- `induction` and `destruct` keep what holds.
use Rattle.std.proofs.Common.{◌≡◌, ◌≤◌, ◌<◌, ◌+◌, ◌∙◌, ℕ, suc, refl, sym, ap, arith, Bool, true, false, not, ◌&&◌, ◌||◌, List, [], ◌∷◌, length}
use Rattle.std.proofs.Common.{subst as along, reverse, Option, Some}
use Rattle.std.proofs.lemmas.List.{reverse-append, length-reverse, length-map}
use Rattle.std.specs.Prelude.{find, is_some}
use Rattle.std.specs.List.{AllByRecursion}
use Rattle.lq_trees.specs.Tree.{Name, Tree, Context, Hypothesis, same_name}
use Rattle.lq_trees.specs.Tree.Tree.{Var}
use Rattle.lq_trees.specs.Fresh.{is_listed}
use Rattle.lq_trees.specs.Ticks.{gives, fails, ◌>>=◌}
use Rattle.lq_calculus.specs.Contraction.{hypothesis}
use Rattle.lq_calculus.proofs.ConvSound.{Gives, gives_bind, same_name_is}
use Rattle.lq_solving.specs.Stores.{Store, names_in, names_at, count, has_value}
use Rattle.lq_solving.specs.Kept.{Stands, StandsIn}
use Rattle.lq_solving.specs.Elaboration.{found}
use Rattle.lq_solving.proofs.InstanceLaws.{is_same}
use Rattle.lq_solving.proofs.StoreLaws.{all_more}
use Rattle.lq_solving.proofs.StandsLaws.{var_stands}
use Rattle.lq_solving.proofs.ElabKept.{Grown, grown_now, kinds_stand}
use Rattle.lq_states.specs.Kept.{times}
use Rattle.lq_tactics.specs.Rows.{RowFault, Doing, Scene, Done, Step, done_by, scene, new_goal, goal_term, ended, then_on, then_next, stays, still_used}
use Rattle.lq_tactics.specs.Hypotheses.{hypothesis_named, hypothesis_holds, some_holds, without_name, reverted_type, reverted_body, do_revert, dependents}
use Rattle.lq_tactics.specs.Hypotheses.{revert_each}
use Rattle.lq_tactics.specs.Elimination.{eliminate_hypothesis, reverting, do_induction}
use Rattle.lq_tactics.proofs.RowsKept.{IsScene, IsStep, IsSceneOf, ended_kept, scene_is, scene_kept}
use Rattle.lq_tactics.proofs.StepsKept.{one_is, then_kept}
use Rattle.lq_tactics.proofs.HypothesesKept.{named_is, found_name, revert_reached, revert_each_kept}
use Rattle.lq_tactics.proofs.QuietKept.{AreAt, goal_there, ended_at, then_leads, scene_store, scene_at}
use Rattle.lq_tactics.proofs.BranchesKept.{eliminate_and_intro_kept}

-- ---- a context without other hypotheses

without_other : (y x : Name) (g : Context) → same_name y x ≡ false → hypothesis (without_name y g) x ≡ hypothesis g x
unfolding without_name hypothesis
without_other y x [] n = refl
without_other y x (h ∷ g) n = at (same_name h.name y) refl (without_other y x g n)
  where
    at : (b : Bool) → same_name h.name y ≡ b → hypothesis (without_name y g) x ≡ hypothesis g x →
        hypothesis (elim b as (λ z. Context) [ true ↦ without_name y g | false ↦ h ∷ without_name y g ]) x ≡ elim (same_name h.name x) as (λ z. Option Hypothesis) [ true ↦ Some h | false ↦ hypothesis g x ]
    at true e ih =
        let other = ap (λ z. same_name z x) (same_name_is h.name y e) ∙ n in
        ih ∙ sym (ap (λ b. elim b as (λ z. Option Hypothesis) [ true ↦ Some h | false ↦ hypothesis g x ]) other)
    at false e ih = ap (λ o. elim (same_name h.name x) as (λ z. Option Hypothesis) [ true ↦ Some h | false ↦ o ]) ih

-- a hypothesis that is there makes the context shorter
less_without : (y : Name) (g : Context) (h : Hypothesis) → hypothesis g y ≡ Some h → suc (length (without_name y g)) ≤ length g
unfolding without_name hypothesis
less_without y [] h e = absurd (grind (arith, e))
less_without y (k ∷ g) h e = at (same_name k.name y) e (λ q. less_without y g h q)
  where
    shorter : (g : Context) → length (without_name y g) ≤ length g
    shorter [] = omega arith
    shorter (k1 ∷ g1) = by (same_name k1.name y) (shorter g1)
      where
        by : (b : Bool) → length (without_name y g1) ≤ length g1 →
            length (elim b as (λ z. Context) [ true ↦ without_name y g1 | false ↦ k1 ∷ without_name y g1 ]) ≤ suc (length g1)
        by true l = omega (arith, l)
        by false l = omega (arith, l)

    at : (b : Bool) → elim b as (λ z. Option Hypothesis) [ true ↦ Some k | false ↦ hypothesis g y ] ≡ Some h →
        (hypothesis g y ≡ Some h → suc (length (without_name y g)) ≤ length g) →
        suc (length (elim b as (λ z. Context) [ true ↦ without_name y g | false ↦ k ∷ without_name y g ])) ≤ suc (length g)
    at true q ih = omega (arith, shorter g)
    at false q ih = omega (arith, ih q)

-- names that are not x
abbrev AreApart : Name → List Name → Type 0
AreApart x ys = AllByRecursion (λ y. same_name y x ≡ false) ys

dependents_apart : (s : Store) (x : Name) (xs : List Name) (g : Context) → is_listed xs x ≡ true → AreApart x (dependents s xs g)
unfolding dependents is_listed
dependents_apart s x xs [] e = tt
dependents_apart s x xs (h ∷ g) e = at (is_listed xs h.name) refl (is_some (find (λ y. hypothesis_holds s y h) xs)) (dependents_apart s x xs g e) (dependents_apart s x (h.name ∷ xs) g (more (same_name h.name x)))
  where
    more : (b : Bool) → (b || is_listed xs x) ≡ true
    more true = refl
    more false = e

    other : is_listed xs h.name ≡ false → (b : Bool) → same_name h.name x ≡ b → b ≡ false
    other p false q = refl
    other p true q = absurd (grind (arith, sym (ap (is_listed xs) (same_name_is h.name x q) ∙ e) ∙ p))

    at : (b : Bool) → is_listed xs h.name ≡ b → (d : Bool) → AreApart x (dependents s xs g) → AreApart x (dependents s (h.name ∷ xs) g) →
        AreApart x (elim (not b && d) as (λ z. List Name) [ true ↦ h.name ∷ dependents s (h.name ∷ xs) g | false ↦ dependents s xs g ])
    at true p d i j = i
    at false p true i j = (other p (same_name h.name x) refl, j)
    at false p false i j = i

turned_apart : (x : Name) (ys : List Name) → AreApart x ys → AreApart x (reverse ys)
turned_apart x [] h = tt
turned_apart x (y ∷ ys) h = along (AreApart x) (sym (reverse-append (y ∷ []) ys)) (all_more (λ z. same_name z x ≡ false) (reverse ys) y (turned_apart x ys h.1) h.0)

-- ---- hypotheses reverted one after the other

-- `revert`: the goal's context is the one without the hypothesis, which was there
revert_there : (c : Scene) (y : Name) (d : Done) → Gives (do_revert c y) d →
    AreAt (without_name y c.context) d.store d.goals × (suc (length (without_name y c.context)) ≤ length c.context)
unfolding do_revert
revert_there c y d z = let h = gives_bind (hypothesis_named c y) _ d z in at h.0 (named_is c y h.0 h.1) (some_holds c.store y (without_name y c.context)) h.2
  where
    at : (h : Hypothesis) → hypothesis c.context y ≡ Some h → (o : Bool) → Gives {F = RowFault} (elim o as (λ z. Doing Done) [
      | true ↦ fails (still_used y)
      | false ↦
          new_goal c c.store (without_name y c.context) (reverted_type h h.body c.kind) >>= λ r.
          gives (done_by r.0 (reverted_body h h.body (goal_term r.1 (without_name y c.context))) (r.1 ∷ []))
    ]) d → AreAt (without_name y c.context) d.store d.goals × (suc (length (without_name y c.context)) ≤ length c.context)
    at h q true w = absurd w
    at h q false w =
        let r = gives_bind (new_goal c c.store (without_name y c.context) (reverted_type h h.body c.kind)) _ d w in
        (along (λ e. AreAt (without_name y c.context) e.store e.goals) r.2 (goal_there c c.store (without_name y c.context) (reverted_type h h.body c.kind) r.0 r.1).1, less_without y c.context h q)

-- a goal whose context still has x, and x's type stands there; so many hypotheses are gone
pub record HasStill (s : Store) (k : ℕ) (x : Name) (A : Tree) (gone most : ℕ) : Type 0 where
  pub kind : Stands s (names_at s.variables k) A
  pub listed : is_listed (names_at s.variables k) x ≡ true
  pub fewer : length (names_at s.variables k) + gone ≤ most

-- where nothing is reverted
still_now : (c : Scene) (x : Name) (h : Hypothesis) → IsScene c → hypothesis c.context x ≡ Some h → HasStill c.store c.goal x h.kind 0 (length c.context)
still_now c x h s q =
    let k = kinds_stand c.store c.context s.context x h q in record {
      kind = along (λ xs. Stands c.store xs h.kind) (sym s.names) k.1;
      listed = along (λ xs. is_listed xs x ≡ true) (sym s.names) (along (λ z. is_listed (names_in c.context) z ≡ true) (found_name c.context x h q) k.0);
      fewer = omega (arith, ap length s.names, length-map c.context (λ i. i.name));
    }

reverted_still : (x : Name) (h : Hypothesis) (ys : List Name) (c : Scene) (st : Step) → IsScene c → hypothesis c.context x ≡ Some h → AreApart x ys →
    Gives (revert_each ys c) st → (k : ℕ) → 1 ≤ times st.goals k →
    HasStill st.store k x h.kind (length ys) (length c.context)
unfolding revert_each times ended
reverted_still x h [] c st s q a y k l =
    along (λ z. 1 ≤ times z.goals k → HasStill z.store k x h.kind 0 (length c.context)) y
    (λ m. along (λ j. HasStill c.store j x h.kind 0 (length c.context)) (one_is c.goal k m) (still_now c x h s q)) l
reverted_still x h (z ∷ ys) c st s q a y k l =
    let b = gives_bind (ended c (do_revert c z)) _ st y in
    let g = ended_at c (do_revert c z) (without_name z c.context) b.0 (λ d w. (revert_there c z d w).0) b.1 in
    let less = ended_less b.0 b.1 in
    then_leads c b.0 st (revert_each ys) (HasStill st.store k x h.kind (suc (length ys)) (length c.context)) s (ended_kept c (do_revert c z) b.0 s (λ d w. revert_reached c s z d w) b.1)
    (λ e w. absurd (empty b.0 e w))
    (λ j d m v i sd w.
    let same = scene_at c d b.0.store b.0.goals j (without_name z c.context) m i g in
    let r = reverted_still x h ys d st sd (ap (λ o. hypothesis o x) same ∙ without_other z x c.context a.0 ∙ q) a.1 w k l in
    record { kind = r.kind; listed = r.listed; fewer = omega (arith, r.fewer, ap length same, less) }) b.2
  where
    ended_less : (st1 : Step) → Gives (ended c (do_revert c z)) st1 → suc (length (without_name z c.context)) ≤ length c.context
    ended_less st1 w = let p = gives_bind (do_revert c z) _ st1 w in (revert_there c z p.0 p.1).1

    empty : (st1 : Step) → st1.goals ≡ [] → st1 ≡ st → ⊥
    empty st1 e w = let none : st.goals ≡ [] = sym (ap (λ i. i.goals) w) ∙ e in omega (arith, along (λ ks. 1 ≤ times ks k) none l)

-- ---- and then the next on what is left

-- the same goal of the same store
step_same : (c d : Scene) (st : Step) → d.store ≡ c.store → d.goal ≡ c.goal → IsStep d st → IsStep c st
step_same c d st e g k = record {
  grown = along (λ z. Grown z st.store) e k.grown;
  once = k.once;
  inside = k.inside;
  valueless = k.valueless;
  new = λ j l m. k.new j l (along (λ z. j < count z) (sym e) m) ∙ g;
}

-- what comes next keeps what holds where x and its type still stand
abbrev pub KeepsNext : Name → ℕ → Step → (Tree → List Name → Scene → Doing Step) → Type 0
KeepsNext x most st next =
    (A : Tree) (ds : List Name) (d : Scene) → IsScene d → StandsIn d.store d.context A → is_listed (names_in d.context) x ≡ true → length d.context + length ds ≤ most → Gives (next A ds d) st → IsStep d st

scene_still : (c d : Scene) (s : Store) (k : ℕ) (x : Name) (A : Tree) (n most : ℕ) → IsSceneOf c.env c.bound c.values s k d → IsScene d →
    HasStill s k x A n most →
    StandsIn d.store d.context A × (is_listed (names_in d.context) x ≡ true) × (length d.context + n ≤ most)
scene_still c d s k x A n most q sd h =
    let r = scene_store c d s k q in
    let names : names_at s.variables k ≡ names_in d.context = along (λ z. names_at z.variables k ≡ names_in d.context) r.0 (along (λ j. names_at d.store.variables j ≡ names_in d.context) r.1 sd.names) in (
      along (λ xs. Stands d.store xs A) names (along (λ z. Stands z (names_at s.variables k) A) (sym r.0) h.kind),
      along (λ xs. is_listed xs x ≡ true) names h.listed,
      omega (arith, h.fewer, ap length names, length-map d.context (λ i. i.name)),
    )

only_stays : (c : Scene) (st : Step) → Gives (revert_each [] c) st → stays c ≡ st
unfolding revert_each
only_stays c st y = y

-- a first goal is the next one's
stays_next : (c : Scene) (st : Step) (next : Scene → Doing Step) → Gives (then_next c (stays c) next) st →
    Gives (scene c.env c.bound c.values c.store c.goal >>= next) st
unfolding then_next then_on
stays_next c st next y = y

more_next : (c : Scene) (z : Name) (ys : List Name) (st : Step) → Gives (revert_each (z ∷ ys) c) st →
    Gives (ended c (do_revert c z) >>= λ st1. then_next c st1 (revert_each ys)) st
unfolding revert_each
more_next c z ys st y = y

pub reverting_kept : (c : Scene) (x : Name) (next : Tree → List Name → Scene → Doing Step) (st : Step) → IsScene c → KeepsNext x (length c.context) st next →
    Gives (reverting c x next) st → IsStep c st
unfolding reverting is_listed
reverting_kept c x next st s f y =
    let h = gives_bind (hypothesis_named c x) _ st y in
    at h.0 (named_is c x h.0 h.1) (reverse (names)) (turned_apart x names (dependents_apart c.store x (x ∷ []) c.context (head_listed (same_name x x) (is_same x)))) (length-reverse names) h.2
  where
    names : List Name
    names = dependents c.store (x ∷ []) c.context

    head_listed : (b : Bool) → b ≡ true → (b || is_listed [] x) ≡ true
    head_listed true e = refl
    head_listed false e = absurd (grind (arith, e))

    at : (h : Hypothesis) → hypothesis c.context x ≡ Some h → (ys : List Name) → AreApart x ys → length ys ≡ length names →
        Gives (revert_each ys c >>= λ st1. then_next c st1 (next h.kind names)) st → IsStep c st
    at h q [] a l z =
        let b = gives_bind (revert_each [] c) _ st z in
        let w = along (λ i. Gives (then_next c i (next h.kind names)) st) (sym (only_stays c b.0 b.1)) b.2 in
        let e = gives_bind (scene c.env c.bound c.values c.store c.goal) (next h.kind names) st (stays_next c st (next h.kind names) w) in
        let i = scene_is c.env c.bound c.values c.store c.goal e.0 e.1 in
        let se = scene_kept c.env c.bound c.values c.store c.goal e.0 s.plain s.store s.values s.inside i in
        let t = scene_still c e.0 c.store c.goal x h.kind 0 (length c.context) i se (still_now c x h s q) in
        let r = scene_store c e.0 c.store c.goal i in
        step_same c e.0 st r.0 r.1 (f h.kind names e.0 se t.0 t.1 (omega (arith, t.2, l)) e.2)
    at h q (z ∷ ys) a l w =
        let b = gives_bind (revert_each (z ∷ ys) c) _ st w in
        let first = gives_bind (ended c (do_revert c z)) _ b.0 (more_next c z ys b.0 b.1) in
        let k = ended_kept c (do_revert c z) first.0 s (λ d i. revert_reached c s z d i) first.1 in
        let done = then_kept c first.0 b.0 (revert_each ys) s k (λ j d m v i sd u. revert_each_kept ys d b.0 sd (along (λ o. has_value o.store o.goal ≡ false) i.is v) u) first.2 in
        then_kept c b.0 st (next h.kind names) s done
        (λ j d m v i sd u.
        let t = scene_still c d b.0.store j x h.kind (suc (length ys)) (length c.context) i sd (reverted_still x h (z ∷ ys) c b.0 s q a b.1 j m) in
        f h.kind names d sd t.0 t.1 (omega (arith, t.2, l)) u) b.2

-- ---- the rows

pub induction_kept : (c : Scene) (x : Name) (names : Option (List (List Name))) (st : Step) → IsScene c → Gives (do_induction c x names) st → IsStep c st
unfolding do_induction eliminate_hypothesis
induction_kept c x names st s y =
    reverting_kept c x _ st s
    (λ A ds d sd a l n z.
    eliminate_and_intro_kept (record { keeps = true; own_name = Some x; reverted = ds }) names (found d.store (Var x) A) d st sd
    (grown_now d.store sd.store, var_stands d.store (names_in d.context) x l, a) (λ e w o. absurd (grind (arith, o))) z) y
