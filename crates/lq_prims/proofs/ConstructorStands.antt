-- A constructor of the goal's type, with its type, stands in the goal's context.
use Rattle.std.proofs.Common.{◌≡◌, ℕ, suc, refl, sym, []}
use Rattle.std.proofs.Common.{subst as along}
use Rattle.std.specs.Prelude.{slice_get, List}
use Rattle.lq_trees.specs.Ticks.{gives, done, ComesTo}
use Rattle.lq_calculus.proofs.ConvSound.{Gives}
use Rattle.lq_terms.specs.declared.nodes.NameId.{NameId}
use Rattle.lq_terms.specs.declared.nodes.TermId.{TermId}
use Rattle.lq_terms.specs.Terms.{Terms, tree_of}
use Rattle.lq_env.specs.declared.environment.Declared.{Declared}
use Rattle.lq_solving.specs.Kept.{StandsIn}
use Rattle.lq_evars.specs.Places.{Places, store_of}
use Rattle.lq_tactics.specs.Rows.{Scene}
use Rattle.lq_tactics.specs.Applying.{Inductive as TreeInductive, goal_inductive, constructor_found}
use Rattle.lq_tactics.proofs.ConstructorsKept.{goal_is_inductive, constructor_finds}
use Rattle.lq_prims.specs.declared.inductives.Typed.{Typed}
use Rattle.lq_prims.specs.Inductives.{found_by}
use Rattle.lq_prims.specs.Scenes.{IsPlaced, context_at, scene_in}
use Rattle.lq_prims.proofs.SceneLaws.{plain_scene}
use Rattle.lq_prims.proofs.WorkLaws.{comes_is_given}

module _ (bank : Terms) (ds : List (NameId × Declared)) (s : Places) (k : ℕ) (T : TermId) (p : IsPlaced bank ds s k T) (b l : ℕ) (i : TreeInductive)
    (h : ComesTo (λ n. goal_inductive (scene_in bank ds s k T [] n)) b (done i l)) where
  abbrev c : ℕ → Scene
  c n = scene_in bank ds s k T [] n

  -- the term that was found, and its type
  pub constructor_stands : (new : Terms) (f : Typed) (place : ℕ) → constructor_found (c (suc b)) i place (slice_get i.family.constructors place) ≡ gives (found_by new (store_of bank s) f) →
      StandsIn (store_of bank s) (context_at (store_of bank s) k) (tree_of new f.term) × StandsIn (store_of bank s) (context_at (store_of bank s) k) (tree_of new f.kind)
  constructor_stands new f place e =
      let q = plain_scene bank ds s k T p (suc b) in
      let found = found_by new (store_of bank s) f in
      let y = constructor_finds (c (suc b)) q i (goal_is_inductive (c (suc b)) q i (comes_is_given (λ n. goal_inductive (c n)) b l i h)) place found (along (λ w. Gives w found) (sym e) refl) in
      (y.1, y.2)
