-- A primitive on a goal of a proof: the scene, the row, the lists.
use Rattle.std.proofs.Common.{◌≡◌, ◌∙◌, ℕ, refl, sym, ap, Result}
use Rattle.lq_trees.specs.Ticks.{gives, ◌>>=◌, done, ComesTo}
use Rattle.lq_calculus.specs.Declarations.{Env as Environment}
use Rattle.lq_ast.specs.Syntax.{Prim}
use Rattle.lq_terms.specs.Terms.{Terms}
use Rattle.lq_solving.specs.Elaboration.{Givens}
use Rattle.lq_states.specs.Goals.{Proof}
use Rattle.lq_tactics.specs.Rows.{Doing, Scene, Step, PrimDone, scene, listed}
use Rattle.lq_tactics.specs.Primitives.{prim_row, run_prim}
use Rattle.lq_prims.specs.declared.faults.PrimFault.{PrimFault}
use Rattle.lq_prims.specs.Working.{Refuses, Does}
use Rattle.lq_prims.proofs.WorkLaws.{refuses_first, refuses_same, does_then, does_same}

module _ (E : Environment) (p : Proof) (k : ℕ) (prim : Prim) (vs : Givens) where
  -- the row with its lists in a scene
  abbrev in_scene : Scene → Doing PrimDone
  in_scene c = prim_row c prim >>= listed p k

  run_is : (n : ℕ) → (scene E n vs p.store k >>= in_scene) ≡ run_prim E n p k prim vs
  unfolding run_prim
  run_is n = refl

  -- the goal's type passes a limit
  pub run_unplaced : (bank : Terms) (e : PrimFault) (b left : ℕ) → Refuses bank e (λ n. scene E n vs p.store k) b left → Refuses bank e (λ n. run_prim E n p k prim vs) b left
  run_unplaced bank e b left h =
      refuses_same bank e (λ n. scene E n vs p.store k >>= in_scene) (λ n. run_prim E n p k prim vs) b left run_is
      (refuses_first bank e (λ n. scene E n vs p.store k) (λ c n. in_scene c) b left h)

  module _ (c : ℕ → Scene) (placed : (n : ℕ) → scene E n vs p.store k ≡ gives (c n)) where
    placed_is : (n : ℕ) → (prim_row (c n) prim >>= listed p k) ≡ run_prim E n p k prim vs
    unfolding ◌>>=◌
    placed_is n = sym (ap (λ w. w >>= in_scene) (placed n)) ∙ run_is n

    pub run_refused : (bank : Terms) (e : PrimFault) (b left : ℕ) → Refuses bank e (λ n. prim_row (c n) prim) b left → Refuses bank e (λ n. run_prim E n p k prim vs) b left
    run_refused bank e b left h =
        refuses_same bank e (λ n. prim_row (c n) prim >>= listed p k) (λ n. run_prim E n p k prim vs) b left placed_is
        (refuses_first bank e (λ n. prim_row (c n) prim) (λ st n. listed p k st) b left h)

    pub run_does : {X : Type 0} (bank : Terms) (tell : X → PrimDone) (q : Result X PrimFault) (b l left : ℕ) (st : Step) → ComesTo (λ n. prim_row (c n) prim) b (done st l) → Does bank tell q (λ n. listed p k st) l left →
        Does bank tell q (λ n. run_prim E n p k prim vs) b left
    run_does bank tell q b l left st h r =
        does_same bank tell q (λ n. prim_row (c n) prim >>= listed p k) (λ n. run_prim E n p k prim vs) b left placed_is
        (does_then bank tell q (λ n. prim_row (c n) prim) (λ st n. listed p k st) b l left st h r)
