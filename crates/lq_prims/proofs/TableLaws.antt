-- Rows of the table in a bank that has grown.
use Rattle.std.proofs.Common.{◌≡◌, ℕ, sym, ap, false, List, Result, Vec, Global}
use Rattle.std.proofs.Common.{subst as along}
use Rattle.std.specs.Prelude.{IfOk}
use Rattle.std.specs.List.{AllByRecursion}
use Rattle.lq_terms.specs.declared.nodes.NameId.{NameId}
use Rattle.lq_terms.specs.declared.nodes.TermId.{TermId}
use Rattle.lq_terms.specs.Terms.{Terms, Grows}
use Rattle.lq_ast.specs.Syntax.{Prim}
use Rattle.lq_env.specs.declared.environment.Declared.{Declared}
use Rattle.lq_solving.specs.Stores.{Store, has_value}
use Rattle.lq_evars.specs.Places.{Places, store_of}
use Rattle.lq_evars.proofs.Growing.{store_of-grown}
use Rattle.lq_elab.specs.declared.sites.Given.{Given}
use Rattle.lq_elab.specs.States.{HasGiven, givens_of}
use Rattle.lq_tactics.specs.Rows.{Step}
use Rattle.lq_tactics.specs.Primitives.{prim_row}
use Rattle.lq_prims.specs.declared.faults.PrimFault.{PrimFault}
use Rattle.lq_prims.specs.Leaving.{Leaves}
use Rattle.lq_prims.specs.Scenes.{IsPlaced, scene_in}
use Rattle.lq_prims.specs.Working.{Does}
use Rattle.lq_prims.proofs.GrownLaws.{same_scene}
use Rattle.lq_prims.proofs.WorkLaws.{does_same}

module _ (old new : Terms) (g : Grows old new) (ds : List (NameId × Declared)) (s : Places) (k : ℕ) (T : TermId) (p : IsPlaced old ds s k T) where
  same : store_of new s ≡ store_of old s
  same = store_of-grown old new g s p.place.store

  pub valueless_later : has_value (store_of old s) k ≡ false → has_value (store_of new s) k ≡ false
  valueless_later h = along (λ z. has_value z k ≡ false) (sym same) h

  pub row_before : (vs : List (NameId × Given)) → AllByRecursion (HasGiven old) vs → (prim : Prim) {X : Type 0} (bank : Terms) (tell : X → Step) (r : Result X PrimFault) (b l : ℕ) →
      Does bank tell r (λ n. prim_row (scene_in new ds s k T (givens_of new vs) n) prim) b l → Does bank tell r (λ n. prim_row (scene_in old ds s k T (givens_of old vs) n) prim) b l
  row_before vs h prim bank tell r b l w =
      does_same bank tell r (λ n. prim_row (scene_in new ds s k T (givens_of new vs) n) prim) (λ n. prim_row (scene_in old ds s k T (givens_of old vs) n) prim) b l (λ n. ap (λ c. prim_row c prim) (same_scene old new g ds s k T p vs h n)) w

  pub leaves_before : (s1 : Store) (r : Result (Vec ℕ Global) PrimFault) → IfOk r (λ v. Leaves (store_of new s) k s1 v.items) → IfOk r (λ v. Leaves (store_of old s) k s1 v.items)
  leaves_before s1 r h = along (λ z. IfOk r (λ v. Leaves z k s1 v.items)) same h
