-- The scene of a goal.
use Rattle.std.proofs.Common.{◌≡◌, ◌∙◌, ℕ, refl, sym, ap, Some, List}
use Rattle.std.proofs.Common.{subst as along}
use Rattle.std.specs.Prelude.{slice_get}
use Rattle.lq_trees.specs.Tree.{Tree}
use Rattle.lq_trees.specs.Ticks.{gives, ◌>>=◌}
use Rattle.lq_calculus.specs.Declarations.{Env as Environment}
use Rattle.lq_calculus.proofs.ConvSound.{Gives}
use Rattle.lq_terms.specs.declared.nodes.NameId.{NameId}
use Rattle.lq_terms.specs.declared.nodes.TermId.{TermId}
use Rattle.lq_terms.specs.Terms.{Terms, HasTerm, Grows, tree_of}
use Rattle.lq_env.specs.declared.environment.Declared.{Declared}
use Rattle.lq_solving.specs.Stores.{Store, Variable, read}
use Rattle.lq_solving.specs.Elaboration.{Givens}
use Rattle.lq_evars.specs.Places.{Places, store_of}
use Rattle.lq_evars.proofs.Growing.{store_of-grown}
use Rattle.lq_tactics.specs.Rows.{Doing, Scene, needed, scene, scene_of}
use Rattle.lq_tactics.proofs.RowsKept.{needed_is}
use Rattle.lq_prims.specs.declared.faults.PrimFault.{PrimFault}
use Rattle.lq_prims.specs.Working.{Refuses}
use Rattle.lq_prims.specs.Scenes.{IsGoal, IsDeclared, IsPlaced, context_in, context_at, scene_by}
use Rattle.lq_prims.proofs.WorkLaws.{refuses_first, refuses_same}
use Rattle.lq_prims.proofs.SceneLaws.{goal_grown, declared_grown}

module _ (E : Environment) (vs : Givens) (s : Store) (k : ℕ) (v : Variable) (e : slice_get s.variables k ≡ Some v) where
  then_scene : ℕ → Tree → Doing Scene
  then_scene n T = gives (record { env = E; bound = n; values = vs; store = s; goal = k; context = v.context; kind = T })

  scene_at : (n : ℕ) → (needed (read s v.kind) >>= then_scene n) ≡ scene E n vs s k
  unfolding scene scene_of then_scene
  scene_at n = ap (scene_of E n vs s k) (sym e)

  pub scene_now : (T : Tree) → needed (read s v.kind) ≡ gives T → (n : ℕ) → scene E n vs s k ≡ gives (scene_by E s k (context_at s k) T vs n)
  unfolding then_scene ◌>>=◌
  scene_now T h n = sym (scene_at n) ∙ ap (λ w. w >>= then_scene n) h ∙ ap (λ g. gives (scene_by E s k g T vs n)) (sym (ap context_in e))

  pub scene_refused : (bank : Terms) (f : PrimFault) (b : ℕ) → Refuses bank f (λ n. needed (read s v.kind)) b b → Refuses bank f (λ n. scene E n vs s k) b b
  scene_refused bank f b h = refuses_same bank f (λ n. needed (read s v.kind) >>= then_scene n) (λ n. scene E n vs s k) b b scene_at (refuses_first bank f (λ n. needed (read s v.kind)) (λ T n. then_scene n T) b b h)

-- the goal's type is placed
pub is_placed : (old new : Terms) → Grows old new → (ds : List (NameId × Declared)) (p : Places) (k : ℕ) (T : TermId) (t : Tree) → IsDeclared old ds → IsGoal old p k → HasTerm new T →
    ((v : Variable) → slice_get (store_of old p).variables k ≡ Some v → t ≡ v.kind) → needed (read (store_of old p) t) ≡ gives (tree_of new T) → IsPlaced new ds p k T
is_placed old new g ds p k T t d q has kind h = record {
  declared = declared_grown old new g ds d;
  place = goal_grown old new g p k q;
  kind = has;
  is = λ v e. let same = store_of-grown old new g p q.store in
      ap (λ z. read z v.kind) same ∙ ap (read (store_of old p)) (sym (kind v (ap (λ z. slice_get z.variables k) (sym same) ∙ e)))
      ∙ needed_is (read (store_of old p) t) (tree_of new T) (along (λ z. Gives z (tree_of new T)) (sym h) refl);
}
