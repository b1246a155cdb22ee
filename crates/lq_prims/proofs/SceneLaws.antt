-- What holds of the scene of a goal.
use Rattle.std.proofs.Common.{◌≡◌, ◌<◌, ℕ, zero, suc, refl, sym, ◌∙◌, ap, arith, List, [], ◌∷◌, length, Some, None}
use Rattle.std.proofs.Common.{subst as along}
use Rattle.std.specs.Prelude.{slice_get, option_map}
use Rattle.std.specs.List.{AllByRecursion}
use Rattle.lq_trees.specs.Tree.{Name}
use Rattle.lq_terms.specs.declared.nodes.NameId.{NameId}
use Rattle.lq_terms.specs.declared.nodes.TermId.{TermId}
use Rattle.lq_terms.specs.declared.nodes.Hypothesis.{Hypothesis}
use Rattle.lq_terms.specs.Terms.{Terms, HasTerm, Grows, tree_of}
use Rattle.lq_terms.specs.Contexts.{HasContext, context_of}
use Rattle.lq_env.specs.declared.environment.Declared.{Declared}
use Rattle.lq_env.specs.Environments.{env_of}
use Rattle.lq_env.proofs.Grown.{env_of-grown, IsEnv-grown}
use Rattle.lq_solving.specs.Stores.{Variable as TreeVariable, read, count, names_at, names_in}
use Rattle.lq_solving.specs.Claims.{ArePlainDeclarations}
use Rattle.lq_solving.specs.Kept.{IsContext, IsOver, IsVariable, StandsIn, IsStore}
use Rattle.lq_trees.specs.Index.{Within}
use Rattle.lq_solving.specs.Elaboration.{Givens}
use Rattle.lq_solving.proofs.InstanceLaws.{length_map}
use Rattle.lq_solving.proofs.KindLaws.{all_get}
use Rattle.lq_solving.proofs.Moving.{get_map}
use Rattle.lq_evars.specs.declared.store.Variable.{Variable}
use Rattle.lq_evars.specs.Places.{Places, HasVariable, store_of, variable_of}
use Rattle.lq_evars.proofs.Growing.{store_of-grown, HasStore-grown}
use Rattle.lq_typing.specs.Sites.{IsSite}
use Rattle.lq_tactics.proofs.RowsKept.{IsScene, AreGiven, IsSceneOf, scene_kept, kind_reads}
use Rattle.lq_prims.specs.Scenes.{scene_in, context_in, context_at, IsGoal, IsDeclared, IsPlaced}

-- a place within a list has something
pub something : {X : Type 0} (xs : List X) (k : ℕ) → k < length xs → (x : X) × (slice_get xs k ≡ Some x)
something [] k l = absurd (omega (arith, l))
something (x ∷ xs) zero l = (x, refl)
something (x ∷ xs) (suc k) l = something xs k (omega (arith, l))

-- what is true of each is true of one
pub all_at : {X : Type 0} (P : X → Type 0) (xs : List X) (k : ℕ) (x : X) → AllByRecursion P xs → slice_get xs k ≡ Some x → P x
all_at P [] k x h e = absurd (grind arith)
all_at P (y ∷ xs) zero x h e = along P (ap (λ o. elim o [ Some z ↦ z | None ↦ y ]) e) h.0
all_at P (y ∷ xs) (suc k) x h e = all_at P xs k x h.1 e

module _ (bank : Terms) (s : Places) (k : ℕ) (q : IsGoal bank s k) where
  pub inside : k < count (store_of bank s)
  inside = omega (arith, q.goal, length_map (variable_of bank) s.variables)

  pub there : (v : TreeVariable) × (slice_get (store_of bank s).variables k ≡ Some v)
  there = something (store_of bank s).variables k inside

  stands : IsVariable (store_of bank s) there.0
  stands = all_get (IsVariable (store_of bank s)) (store_of bank s).variables k there.0 q.kept.variables there.1

  context_is : context_at (store_of bank s) k ≡ there.0.context
  context_is = ap context_in there.1

  pub context_stands : IsContext (store_of bank s) (context_at (store_of bank s) k)
  context_stands = along (IsContext (store_of bank s)) (sym context_is) stands.0

  pub names_are : names_at (store_of bank s).variables k ≡ names_in (context_at (store_of bank s) k)
  unfolding names_at
  names_are = ap (λ o. elim o as (λ z. List Name) [ Some w ↦ names_in w.context | None ↦ [] ]) there.1 ∙ ap names_in (sym context_is)

  -- the goal's context lies in the bank
  pub record HasGoalContext (hs : List Hypothesis) : Type 0 where
    pub has : HasContext bank hs
    pub is : context_of bank hs ≡ context_at (store_of bank s) k

  pub goal_context : (hs : List Hypothesis) → ((v : Variable) → slice_get s.variables k ≡ Some v → hs ≡ v.context) → HasGoalContext hs
  goal_context hs f =
      let v = something s.variables k q.goal in
      let h = all_at (HasVariable bank) s.variables k v.0 q.store.variables v.1 in
      let e = f v.0 v.1 in record {
        has = along (HasContext bank) (sym e) h.context;
        is = ap (context_of bank) e ∙ sym (ap context_in (get_map (variable_of bank) s.variables k ∙ ap (option_map (variable_of bank)) v.1));
      }

  -- the goal's type lies in the bank and can be read
  pub record HasGoalType (A : TermId) : Type 0 where
    pub has : HasTerm bank A
    pub over : IsOver (store_of bank s).variables (tree_of bank A)
    pub within : Within 0 (tree_of bank A)

  pub goal_type : (A : TermId) → ((v : Variable) → slice_get s.variables k ≡ Some v → A ≡ v.kind) → ((v : TreeVariable) → slice_get (store_of bank s).variables k ≡ Some v → tree_of bank A ≡ v.kind) → HasGoalType A
  goal_type A f g =
      let v = something s.variables k q.goal in
      let h = all_at (HasVariable bank) s.variables k v.0 q.store.variables v.1 in
      let e = g there.0 there.1 in record {
        has = along (HasTerm bank) (sym (f v.0 v.1)) h.kind;
        over = along (IsOver (store_of bank s).variables) (sym e) stands.1.over;
        within = along (Within 0) (sym e) stands.1.within;
      }

  -- and it stands in the goal's context
  pub type_stands : (A : TermId) → ((v : TreeVariable) → slice_get (store_of bank s).variables k ≡ Some v → tree_of bank A ≡ v.kind) → StandsIn (store_of bank s) (context_at (store_of bank s) k) (tree_of bank A)
  type_stands A g = along (λ z. StandsIn (store_of bank s) z (tree_of bank A)) (sym context_is) (along (StandsIn (store_of bank s) there.0.context) (sym (g there.0 there.1)) stands.1)

-- the same in a bank that has grown
module _ (old new : Terms) (g : Grows old new) where
  pub goal_grown : (s : Places) (k : ℕ) → IsGoal old s k → IsGoal new s k
  goal_grown s k q = record { store = HasStore-grown old new g s q.store; kept = along IsStore (sym (store_of-grown old new g s q.store)) q.kept; goal = q.goal }

  pub declared_grown : (ds : List (NameId × Declared)) → IsDeclared old ds → IsDeclared new ds
  declared_grown ds d = record { env = IsEnv-grown old new g ds d.env; plain = along ArePlainDeclarations (sym (env_of-grown old new g ds d.env)) d.plain }

-- what is lent to lower calls
pub site_of : (bank : Terms) (ds : List (NameId × Declared)) (s : Places) (k : ℕ) → IsDeclared bank ds → (q : IsGoal bank s k) → (hs : List Hypothesis) → HasGoalContext bank s k q hs → IsSite bank ds s hs
site_of bank ds s k d q hs h = record {
  lent = record { env = d.env; plain = d.plain; store = q.store; kept = q.kept };
  has = h.has;
  context = along (IsContext (store_of bank s)) (sym h.is) (context_stands bank s k q);
}

module _ (bank : Terms) (ds : List (NameId × Declared)) (s : Places) (k : ℕ) (T : TermId) (p : IsPlaced bank ds s k T) where
  pub scene_is_of : (vs : Givens) (n : ℕ) → IsSceneOf (env_of bank ds) n vs (store_of bank s) k (scene_in bank ds s k T vs n)
  scene_is_of vs n =
      let v = there bank s k p.place in
      record {
        variable = v.0;
        there = v.1;
        is = ap (λ U. record { env = env_of bank ds; bound = n; values = vs; store = store_of bank s; goal = k; context = v.0.context; kind = U }) (p.is v.0 v.1)
            ∙ ap (λ g. record { env = env_of bank ds; bound = n; values = vs; store = store_of bank s; goal = k; context = g; kind = tree_of bank T }) (ap context_in (sym v.1));
      }

  pub placed_scene : (vs : Givens) (n : ℕ) → AreGiven (store_of bank s) vs → IsScene (scene_in bank ds s k T vs n)
  placed_scene vs n g =
      scene_kept (env_of bank ds) n vs (store_of bank s) k (scene_in bank ds s k T vs n) p.declared.plain p.place.kept g (inside bank s k p.place) (scene_is_of vs n)

  -- no Ltac value
  none_given : AreGiven (store_of bank s) []
  none_given x t e = absurd (grind arith)

  -- the scene without Ltac values
  pub plain_scene : (n : ℕ) → IsScene (scene_in bank ds s k T [] n)
  plain_scene n = placed_scene [] n none_given

  pub kind_stands : StandsIn (store_of bank s) (context_at (store_of bank s) k) (tree_of bank T)
  kind_stands = (plain_scene 0).kind

  pub kind_is : read (store_of bank s) (tree_of bank T) ≡ tree_of bank T
  kind_is = kind_reads (scene_in bank ds s k T [] 0) (plain_scene 0)
