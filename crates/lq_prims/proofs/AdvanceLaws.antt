-- A row on a goal of a proof, and what it leaves.
use Rattle.std.proofs.Common.{◌≡◌, ℕ, refl, sym, ap, arith, false, List, [], Result, Ok, Err}
use Rattle.std.proofs.Common.{subst as along}
use Rattle.lq_trees.specs.Ticks.{gives, ◌>>=◌, done, ComesTo}
use Rattle.lq_calculus.specs.Declarations.{Env as Environment}
use Rattle.lq_ast.specs.Syntax.{Prim}
use Rattle.lq_states.specs.Goals.{Proof as TreeProof}
use Rattle.lq_tactics.specs.Rows.{Doing, Scene, Step, PrimDone, scene, listed}
use Rattle.lq_tactics.specs.Primitives.{prim_row, run_prim}
use Rattle.lq_prims.specs.declared.faults.PrimFault.{PrimFault}
use Rattle.lq_prims.specs.Working.{Refuses, Does, Tells}
use Rattle.lq_prims.proofs.WorkLaws.{refuses_first, refuses_same, does_same, does_then, does_at_once}
use Rattle.lq_solving.specs.Elaboration.{Givens}
use Rattle.lq_solving.specs.Stores.{Store, count, has_value}
use Rattle.lq_states.proofs.KeptLaws.{times_listed}
use Rattle.lq_tactics.proofs.StepsKept.{scene_valueless}
use Rattle.lq_terms.specs.declared.nodes.NameId.{NameId}
use Rattle.lq_terms.specs.declared.nodes.TermId.{TermId}
use Rattle.lq_terms.specs.Terms.{Terms, Grows, tree_of}
use Rattle.std.specs.List.{AllByRecursion}
use Rattle.lq_env.specs.Environments.{IsEnv, env_of}
use Rattle.lq_env.proofs.Grown.{env_of-grown}
use Rattle.lq_elab.specs.declared.sites.Given.{Given}
use Rattle.lq_elab.specs.Calls.{ValuesStand}
use Rattle.lq_elab.specs.States.{HasGiven, givens_of}
use Rattle.lq_elab.proofs.StateLaws.{givens_grown}
use Rattle.lq_evars.proofs.Growing.{HasStore-grown, store_of-grown}
use Rattle.lq_solving.specs.Kept.{IsStore}
use Rattle.lq_states.specs.Kept.{IsProof, IsSwept}
use Rattle.lq_tactics.proofs.StepsKept.{IsThere}
use Rattle.lq_prims.proofs.SceneLaws.{declared_grown}
use Rattle.lq_env.specs.declared.environment.Declared.{Declared}
use Rattle.lq_evars.specs.Places.{Places, store_of, variable_of}
use Rattle.lq_solving.proofs.InstanceLaws.{length_map}
use Rattle.lq_solving.proofs.ElabKept.{Grown}
use Rattle.std.specs.Prelude.{OnOk}
use Rattle.lq_goals.specs.Held.{Held, proof_of, with_places}
use Rattle.lq_tactics.proofs.RowsKept.{AreGiven}
use Rattle.lq_prims.specs.Advancing.{IsHeld, MayAdvance}
use Rattle.lq_prims.specs.Leaving.{Leaves}
use Rattle.lq_prims.specs.Finishing.{Finishes}
use Rattle.lq_prims.specs.Scenes.{IsGoal, IsPlaced, scene_by, scene_in, context_at, step_by}
use Rattle.lq_prims.proofs.SceneLaws.{placed_scene}

-- a goal in focus or on the shelf has no value
pub goal_valueless : (bank : Terms) (ds : List (NameId × Declared)) (q : Held) (goal : ℕ) → MayAdvance bank ds q goal → has_value (store_of bank q.store) goal ≡ false
goal_valueless bank ds q goal may = (scene_valueless (store_of bank q.store) goal (may.held.proof.valueless goal (omega (arith, may.there, times_listed (proof_of bank q) goal)))).1

-- the row of a goal of a proof may end
pub row_finishes : (old new : Terms) (ds : List (NameId × Declared)) (q : Held) (s : Places) (goal before : ℕ) (T : TermId) (vs : Givens) (ks : List ℕ) (n : ℕ) →
    MayAdvance old ds q goal → IsPlaced old ds q.store goal T → AreGiven (store_of old q.store) vs → Leaves (store_of old q.store) goal (store_of new s) ks → count (store_of old q.store) ≡ before →
    Finishes new (with_places q s) goal before ks (proof_of old q) (scene_in old ds q.store goal T vs n) (step_by (store_of new s) ks)
row_finishes old new ds q s goal before T vs ks n may placed given leaves many = record {
  proof = may.held.proof;
  scene = placed_scene old ds q.store goal T placed vs n given;
  same = refl;
  at_goal = refl;
  there = may.there;
  step = leaves _ _ _ vs n;
  stored = refl;
  left = refl;
  many = many;
  swept = may.held.swept;
}

module _ (E : Environment) (p : TreeProof) (k : ℕ) (prim : Prim) (vs : Givens) where
  abbrev whole : ℕ → Doing PrimDone
  whole n = run_prim E n p k prim vs

  abbrev scene_then : Scene → ℕ → Doing PrimDone
  scene_then c n = prim_row c prim >>= listed p k

  whole_is : (n : ℕ) → (scene E n vs p.store k >>= λ c. scene_then c n) ≡ whole n
  unfolding run_prim
  whole_is n = refl

  -- there is no scene
  pub no_scene : (bank : Terms) (e : PrimFault) (b l : ℕ) → Refuses bank e (λ n. scene E n vs p.store k) b l → Refuses bank e whole b l
  no_scene bank e b l h = refuses_same bank e (λ n. scene E n vs p.store k >>= λ c. scene_then c n) whole b l whole_is (refuses_first bank e (λ n. scene E n vs p.store k) scene_then b l h)

  module _ (c : ℕ → Scene) (placed : (n : ℕ) → scene E n vs p.store k ≡ gives (c n)) where
    row_is : (n : ℕ) → (prim_row (c n) prim >>= listed p k) ≡ whole n
    unfolding run_prim ◌>>=◌
    row_is n = sym (ap (λ w. w >>= λ d. prim_row d prim >>= listed p k) (placed n))

    pub row_refused : (bank : Terms) (e : PrimFault) (b l : ℕ) → Refuses bank e (λ n. prim_row (c n) prim) b l → Refuses bank e whole b l
    row_refused bank e b l h = refuses_same bank e (λ n. prim_row (c n) prim >>= listed p k) whole b l row_is (refuses_first bank e (λ n. prim_row (c n) prim) (λ st n. listed p k st) b l h)

    pub row_listed : (b l : ℕ) (st : Step) → ComesTo (λ n. prim_row (c n) prim) b (done st l) → {X : Type 0} (bank : Terms) (tell : X → PrimDone) (r : Result X PrimFault) → Tells bank tell r (listed p k st) → Does bank tell r whole b l
    row_listed b l st h bank tell r t =
        does_same bank tell r (λ n. prim_row (c n) prim >>= listed p k) whole b l row_is (does_then bank tell r (λ n. prim_row (c n) prim) (λ st n. listed p k st) b l l st h (does_at_once bank tell r (listed p k st) t l))

-- ---- in a bank that has grown

module _ (old mid : Terms) (grows : Grows old mid) (q : Held) (h : IsHeld old q) where
  proof_same : proof_of mid q ≡ proof_of old q
  proof_same = ap (λ s. record { store = s; focus = q.focus; frames = []; shelf = q.shelf }) (store_of-grown old mid grows q.store h.store)

  held_later : IsHeld mid q
  held_later = record {
    store = HasStore-grown old mid grows q.store h.store;
    kept = along IsStore (sym (store_of-grown old mid grows q.store h.store)) h.kept;
    proof = along IsProof (sym proof_same) h.proof;
    swept = along (λ p. IsSwept p q.given q.seen) (sym proof_same) h.swept;
  }

  pub may_later : (ds : List (NameId × Declared)) (k : ℕ) → MayAdvance old ds q k → MayAdvance mid ds q k
  may_later ds k m = record { declared = declared_grown old mid grows ds m.declared; held = held_later; there = along (λ p. IsThere p k) (sym proof_same) m.there }

  pub run_before : (ds : List (NameId × Declared)) → IsEnv old ds → (vs : List (NameId × Given)) → AllByRecursion (HasGiven old) vs → (k : ℕ) (prim : Prim) {X : Type 0} (bank : Terms) (tell : X → PrimDone) (r : Result X PrimFault) (b l : ℕ) →
      Does bank tell r (λ n. run_prim (env_of mid ds) n (proof_of mid q) k prim (givens_of mid vs)) b l → Does bank tell r (λ n. run_prim (env_of old ds) n (proof_of old q) k prim (givens_of old vs)) b l
  run_before ds d vs g k prim bank tell r b l w =
      along (λ z. Does bank tell r (λ n. run_prim z n (proof_of old q) k prim (givens_of old vs)) b l) (env_of-grown old mid grows ds d)
      (along (λ z. Does bank tell r (λ n. run_prim (env_of mid ds) n z k prim (givens_of old vs)) b l) proof_same
      (along (λ z. Does bank tell r (λ n. run_prim (env_of mid ds) n (proof_of mid q) k prim z) b l) (givens_grown old mid grows vs g).0 w))

  pub values_later : (vs : List (NameId × Given)) → AllByRecursion (HasGiven old) vs → ValuesStand (store_of old q.store) (givens_of old vs) → ValuesStand (store_of mid q.store) (givens_of mid vs)
  values_later vs g v = along (λ z. ValuesStand z (givens_of mid vs)) (sym (store_of-grown old mid grows q.store h.store)) (along (ValuesStand (store_of old q.store)) (sym (givens_grown old mid grows vs g).0) v)

  pub scene_later : (E : Environment) (vs : Givens) (k : ℕ) (T : TermId) (n : ℕ) → scene E n vs (store_of old q.store) k ≡ gives (scene_by E (store_of old q.store) k (context_at (store_of old q.store) k) (tree_of mid T) vs n) →
      scene E n vs (store_of mid q.store) k ≡ gives (scene_by E (store_of mid q.store) k (context_at (store_of mid q.store) k) (tree_of mid T) vs n)
  scene_later E vs k T n e = along (λ z. scene E n vs z k ≡ gives (scene_by E z k (context_at z k) (tree_of mid T) vs n)) (sym (store_of-grown old mid grows q.store h.store)) e

  pub grown_before : {A : Type 0} (r : Result A PrimFault) (s1 : Store) → OnOk r (Grown (store_of mid q.store) s1) → OnOk r (Grown (store_of old q.store) s1)
  grown_before (Ok a) s1 k = along (λ z. Grown z s1) (store_of-grown old mid grows q.store h.store) k
  grown_before (Err e) s1 k = tt

-- the goal is a variable of the store
pub goal_there : (bank : Terms) (ds : List (NameId × Declared)) (q : Held) (goal : ℕ) → MayAdvance bank ds q goal → IsGoal bank q.store goal
goal_there bank ds q goal may = record {
  store = may.held.store;
  kept = may.held.kept;
  goal = omega (arith, (scene_valueless (store_of bank q.store) goal (may.held.proof.valueless goal (omega (arith, may.there, times_listed (proof_of bank q) goal)))).0, length_map (variable_of bank) q.store.variables);
}
