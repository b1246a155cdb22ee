-- The goals that are left by rows without a term.
use Rattle.std.proofs.Common.{◌≡◌, ◌<◌, ◌≤◌, ◌^◌, ℕ, suc, refl, arith, false, List, [], ◌∷◌, map, length, Result, Ok, Err, Vec, Global}
use Rattle.std.specs.Prelude.{IfOk}
use Rattle.lq_ast.specs.Syntax.{Prim, intros}
use Rattle.lq_terms.specs.declared.nodes.NameId.{NameId}
use Rattle.lq_terms.specs.declared.nodes.TermId.{TermId}
use Rattle.lq_terms.specs.Terms.{Terms, text_of}
use Rattle.lq_env.specs.declared.environment.Declared.{Declared}
use Rattle.lq_solving.specs.Stores.{has_value}
use Rattle.lq_evars.specs.Places.{Places, store_of}
use Rattle.lq_tactics.specs.Rows.{Scene}
use Rattle.lq_tactics.specs.Primitives.{prim_row, intro_each}
use Rattle.lq_tactics.proofs.PrimsKept.{names_made, prim_kept}
use Rattle.lq_prims.specs.declared.faults.PrimFault.{PrimFault}
use Rattle.lq_prims.specs.Leaving.{Leaves}
use Rattle.lq_prims.specs.Scenes.{IsPlaced, context_at, scene_in, step_by}
use Rattle.lq_prims.specs.Working.{Does}
use Rattle.lq_prims.proofs.LeaveLaws.{step_leaves}
use Rattle.lq_prims.proofs.SceneLaws.{plain_scene}
use Rattle.lq_prims.proofs.WorkLaws.{comes_is_given}

-- what a row leaves, by what it comes to
pub row_leaves : (bank : Terms) (ds : List (NameId × Declared)) (s : Places) (k : ℕ) (T : TermId) → IsPlaced bank ds s k T → has_value (store_of bank s) k ≡ false → length (context_at (store_of bank s) k) < 2 ^ 64 →
    (prim : Prim) → names_made prim ≤ 2001 → (b left : ℕ) → b < 2 ^ 64 → (late : Terms) (p : Places) (r : Result (Vec ℕ Global) PrimFault) →
    Does late (λ v. step_by (store_of late p) v.items) r (λ n. prim_row (scene_in bank ds s k T [] n) prim) b left → IfOk r (λ v. Leaves (store_of bank s) k (store_of late p) v.items)
row_leaves bank ds s k T placed none room prim few b left bounded late p (Ok v) h =
    let c : Scene = scene_in bank ds s k T [] (suc b) in
    step_leaves c (store_of late p) v.items
    (prim_kept c prim (step_by (store_of late p) v.items) (plain_scene bank ds s k T placed (suc b)) none (omega (arith, few, room, bounded))
    (comes_is_given (λ n. prim_row (scene_in bank ds s k T [] n) prim) b left (step_by (store_of late p) v.items) h))
row_leaves bank ds s k T placed none room prim few b left bounded late p (Err e) h = tt

-- `intros` with names introduces each
pub each_is : (c : Scene) (xs : List (List ℕ)) → 0 < length xs → intro_each xs c ≡ prim_row c (intros xs)
unfolding prim_row
each_is c [] l = absurd (omega (arith, l))
each_is c (x ∷ xs) l = refl

pub some_named : (bank : Terms) (xs : List NameId) → 0 < length xs → 0 < length (map (text_of bank) xs)
some_named bank [] l = absurd (omega (arith, l))
some_named bank (x ∷ xs) l = omega arith
