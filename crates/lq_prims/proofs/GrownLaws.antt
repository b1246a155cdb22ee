-- A goal's scene, and Ltac values, in a bank that has grown.
use Rattle.std.proofs.Common.{◌≡◌, ◌∙◌, ℕ, sym, ap, ap₂, arith, List, Some}
use Rattle.std.proofs.Common.{subst as along}
use Rattle.std.specs.Prelude.{slice_get}
use Rattle.std.specs.List.{AllByRecursion}
use Rattle.lq_terms.specs.declared.nodes.NameId.{NameId}
use Rattle.lq_terms.specs.declared.nodes.TermId.{TermId}
use Rattle.lq_terms.specs.Terms.{Terms, Grows, tree_of}
use Rattle.lq_env.specs.declared.environment.Declared.{Declared}
use Rattle.lq_env.specs.Environments.{env_of}
use Rattle.lq_env.proofs.Grown.{env_of-grown}
use Rattle.lq_solving.specs.Stores.{read}
use Rattle.lq_evars.specs.Places.{Places, store_of}
use Rattle.lq_evars.proofs.Growing.{store_of-grown}
use Rattle.lq_elab.specs.declared.sites.Given.{Given}
use Rattle.lq_elab.specs.Calls.{ValuesStand}
use Rattle.lq_elab.specs.States.{HasGiven, givens_of}
use Rattle.lq_elab.proofs.StateLaws.{givens_grown}
use Rattle.lq_prims.specs.Scenes.{IsPlaced, context_at, scene_by, scene_in}
use Rattle.lq_prims.proofs.SceneLaws.{declared_grown, goal_grown}

module _ (old new : Terms) (grows : Grows old new) (ds : List (NameId × Declared)) (s : Places) (k : ℕ) (T : TermId) (p : IsPlaced old ds s k T) where
  kept_store : store_of new s ≡ store_of old s
  kept_store = store_of-grown old new grows s p.place.store

  pub placed_later : IsPlaced new ds s k T
  placed_later = record {
    declared = declared_grown old new grows ds p.declared;
    place = goal_grown old new grows s k p.place;
    kind = omega (arith, p.kind, grows.nodes);
    is = λ v e. ap (λ z. read z v.kind) kept_store ∙ p.is v (along (λ z. slice_get z.variables k ≡ Some v) kept_store e) ∙ sym (grows.tree T p.kind);
  }

  module _ (vs : List (NameId × Given)) (h : AllByRecursion (HasGiven old) vs) where
    pub same_scene : (n : ℕ) → scene_in new ds s k T (givens_of new vs) n ≡ scene_in old ds s k T (givens_of old vs) n
    same_scene n =
        ap (λ E. scene_by E (store_of new s) k (context_at (store_of new s) k) (tree_of new T) (givens_of new vs) n) (env_of-grown old new grows ds p.declared.env)
        ∙ ap (λ z. scene_by (env_of old ds) z k (context_at z k) (tree_of new T) (givens_of new vs) n) kept_store
        ∙ ap₂ (λ U ws. scene_by (env_of old ds) (store_of old s) k (context_at (store_of old s) k) U ws n) (grows.tree T p.kind) (givens_grown old new grows vs h).0

    pub values_later : ValuesStand (store_of old s) (givens_of old vs) → ValuesStand (store_of new s) (givens_of new vs)
    values_later q = along (ValuesStand (store_of new s)) (sym (givens_grown old new grows vs h).0) (along (λ z. ValuesStand z (givens_of old vs)) (sym kept_store) q)
