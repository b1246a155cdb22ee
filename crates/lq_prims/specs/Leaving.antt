-- What a primitive leaves of a goal, and the names that it has.
use Rattle.std.specs.Prelude.{◌≡◌, ℕ, List, [], ◌∷◌, map, Some}
use Rattle.std.specs.List.{AllByRecursion}
use Rattle.lq_trees.specs.Tree.{Name, Tree, Context}
use Rattle.lq_calculus.specs.Declarations.{Env as Environment}
use Rattle.lq_ast.specs.Syntax.{Prim, intro, intros, assert_that, pose}
use Rattle.lq_terms.specs.declared.nodes.NameId.{NameId}
use Rattle.lq_terms.specs.Terms.{Terms, HasName, text_of}
use Rattle.lq_solving.specs.Stores.{Store}
use Rattle.lq_solving.specs.Elaboration.{Givens}
use Rattle.lq_tactics.proofs.RowsKept.{IsStep}
use Rattle.lq_prims.specs.Scenes.{scene_by, step_by}

-- goals that a row leaves of a goal of a store, with the store then
abbrev pub Leaves : Store → (goal : ℕ) → Store → List ℕ → Type 0
Leaves s k s1 ks = (E : Environment) (g : Context) (T : Tree) (vs : Givens) (n : ℕ) → IsStep (scene_by E s k g T vs n) (step_by s1 ks)

-- the names of new hypotheses that a primitive has
abbrev pub names_of : Prim → List Name
names_of (intro (Some x)) = x ∷ []
names_of (intros xs) = xs
names_of (assert_that x A) = x ∷ []
names_of (pose x t) = x ∷ []
names_of _ = []

-- places of names
pub record AreNames (bank : Terms) (xs : List NameId) (names : List Name) : Type 0 where
  pub have : AllByRecursion (HasName bank) xs
  pub are : map (text_of bank) xs ≡ names
