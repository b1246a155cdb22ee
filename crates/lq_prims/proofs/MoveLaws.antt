-- One step of `intros`.
use Rattle.std.proofs.Common.{◌≡◌, ◌<◌, ◌^◌, ◌+◌, ◌∙◌, ℕ, true, false, refl, sym, ap, arith, [], ◌∷◌, length, Option, Result, Err}
use Rattle.std.proofs.Common.{subst as along}
use Rattle.std.specs.Result.{IsErrAnd}
use Rattle.std.proofs.lemmas.Result.{err_from_is_err_and}
use Rattle.lq_trees.specs.Tree.{Name, Tree, Context}
use Rattle.lq_trees.specs.Ticks.{gives, ◌>>=◌, done, ComesTo}
use Rattle.lq_calculus.specs.Declarations.{Env as Environment}
use Rattle.lq_calculus.proofs.ConvSound.{Gives}
use Rattle.lq_terms.specs.Terms.{Terms}
use Rattle.lq_env.proofs.FaultLaws.{eqb_same}
use Rattle.lq_solving.specs.Stores.{Store}
use Rattle.lq_solving.specs.Elaboration.{Givens}
use Rattle.lq_solving.proofs.InstanceLaws.{length_map}
use Rattle.lq_states.specs.Kept.{times}
use Rattle.lq_evars.specs.Places.{Places, store_of, variable_of}
use Rattle.lq_tactics.specs.Rows.{Doing, Scene, Step, ended, scene, then_on, then_next}
use Rattle.lq_tactics.specs.Primitives.{do_intro}
use Rattle.lq_tactics.proofs.RowsKept.{IsScene}
use Rattle.lq_tactics.proofs.IntroKept.{intro_kept}
use Rattle.lq_prims.specs.declared.faults.PrimFault.{PrimFault}
use Rattle.lq_prims.specs.declared.moving.Placed.{Placed}
use Rattle.lq_prims.specs.Moving.{step_then, Moves}
use Rattle.lq_prims.specs.Working.{Refuses, Does}
use Rattle.lq_prims.specs.Scenes.{scene_by, step_by}
use Rattle.lq_prims.proofs.WorkLaws.{refuses_first, refuses_then, refuses_same, does_then, does_same}

module _ (E : Environment) (s : Store) (k : ℕ) (g : Context) (T : Tree) (vs : Givens) (w : Option Name) (next : ℕ → Scene → Doing Step) where
  abbrev c : ℕ → Scene
  c n = scene_by E s k g T vs n

  abbrev first : ℕ → Doing Step
  first n = ended (c n) (do_intro (c n) w)

  abbrev rest : Step → ℕ → Doing Step
  rest st n = then_next (c n) st (next n)

  -- `intro` is refused
  pub step_refused : (bank : Terms) (e : PrimFault) (b left : ℕ) → Refuses bank e first b left → Refuses bank e (λ n. step_then (c n) w (next n)) b left
  step_refused bank e b left h = refuses_first bank e first rest b left h

  module _ (s1 : Store) (j : ℕ) (b l : ℕ) (h : ComesTo first b (done (step_by s1 (j ∷ [])) l)) where
    scene_first : (n : ℕ) → (scene E n vs s1 j >>= next n) ≡ rest (step_by s1 (j ∷ [])) n
    unfolding then_next then_on
    scene_first n = refl

    -- the type of the goal that is left passes a limit
    pub scene_stops : (bank : Terms) (e : PrimFault) → Refuses bank e (λ n. scene E n vs s1 j) l l → Refuses bank e (λ n. step_then (c n) w (next n)) b l
    scene_stops bank e r =
        refuses_then bank e first rest b l l (step_by s1 (j ∷ [])) h
        (refuses_same bank e (λ n. scene E n vs s1 j >>= next n) (rest (step_by s1 (j ∷ []))) l l scene_first (refuses_first bank e (λ n. scene E n vs s1 j) (λ d n. next n d) l l r))

    scene_is : (d : ℕ → Scene) → ((n : ℕ) → scene E n vs s1 j ≡ gives (d n)) → (n : ℕ) → next n (d n) ≡ rest (step_by s1 (j ∷ [])) n
    unfolding then_next then_on ◌>>=◌
    scene_is d placed n = sym (ap (λ z. z >>= next n) (placed n))

    -- it is placed
    pub step_goes_on : (d : ℕ → Scene) → ((n : ℕ) → scene E n vs s1 j ≡ gives (d n)) → (late : Terms) (tell : ℕ → Step) (q : Result ℕ PrimFault) (left : ℕ) → Does late tell q (λ n. next n (d n)) l left →
        Does late tell q (λ n. step_then (c n) w (next n)) b left
    step_goes_on d placed late tell q left r =
        does_then late tell q first rest b l left (step_by s1 (j ∷ [])) h (does_same late tell q (λ n. next n (d n)) (rest (step_by s1 (j ∷ []))) l left (scene_is d placed) r)

-- a refusal that is handed on
pub moves_refused : (bank : Terms) (E : Environment) (s : Places) (vs : Givens) (r : Result Placed PrimFault) (e : PrimFault) (c : ℕ → Scene) (w : Option Name) (b l : ℕ) → IsErrAnd r (λ z. z ≡ e) →
    ((next : ℕ → Scene → Doing Step) → Refuses bank e (λ n. step_then (c n) w (next n)) b l) → Moves bank E s vs r c w b l
moves_refused bank E s vs r e c w b l h k =
    let q = err_from_is_err_and r h in along (λ z. Moves bank E s vs z c w b l) (sym (q.1 ∙ ap Err q.2)) k

times_one : (j : ℕ) → times (j ∷ []) j ≡ 1
unfolding times
times_one j = ap (λ b. elim b as (λ z. ℕ) [ true ↦ 1 + times [] j | false ↦ times [] j ]) (eqb_same j j refl)

-- the goal that is left is in the store
pub goal_inside : (bank : Terms) (p : Places) (c : Scene) (w : Option Name) (j : ℕ) → IsScene c → length c.context < 2 ^ 64 → Gives (ended c (do_intro c w)) (step_by (store_of bank p) (j ∷ [])) → j < length p.variables
goal_inside bank p c w j s l y =
    let st = intro_kept c w (step_by (store_of bank p) (j ∷ [])) s (λ e. omega (arith, l)) y in
    omega (arith, st.inside j (omega (arith, times_one j)), length_map (variable_of bank) p.variables)
