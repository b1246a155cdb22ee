-- Under a binder: the hypothesis for its variable, and what waits for the rest.
use Rattle.std.specs.Prelude.{List, Option, Some, None, option_map}
use Rattle.lq_trees.specs.Tree.{Name, Tree}
use Rattle.lq_terms.specs.declared.nodes.TermId.{TermId}
use Rattle.lq_terms.specs.Terms.{Terms, tree_of}
use Rattle.lq_solving.specs.Stores.{Store}
use Rattle.lq_solving.proofs.StandsLaws.{StandsUnder}
use Rattle.lq_elab.specs.declared.frames.Bound.{Bound}
use Rattle.lq_elab.specs.declared.frames.Part.{Part}
use Rattle.lq_elab.specs.declared.entering.Under.{Under}
use Rattle.lq_elab.specs.Waiting as tree
use Rattle.lq_elab.specs.Waiting.{Spot}
use Rattle.lq_elab.specs.Naming.{under_binder}

-- the body of the hypothesis
abbrev pub body_under : Under → Option TermId
body_under (Under.Product u) = None
body_under Under.Function = None
body_under (Under.Definition v) = Some v

-- what waits for the rest
abbrev pub part_under : Under → Bound → Part
part_under (Under.Product u) b = Part.ProductRest b u
part_under Under.Function b = Part.FunctionRest b
part_under (Under.Definition v) b = Part.DefinitionRest b v

-- the same over trees
abbrev pub rest_part : Terms → Under → (binder hypothesis : Name) → Tree → tree.Part
rest_part bank (Under.Product u) x y A = tree.product_rest x y A u
rest_part bank Under.Function x y A = tree.function_rest x y A
rest_part bank (Under.Definition v) x y A = tree.definition_rest x y (tree_of bank v) A

-- where the rest stands
abbrev pub spot_under : Terms → Spot → Under → (binder hypothesis : Name) → Tree → Spot
spot_under bank l u x y A = under_binder l x (record { name = y; body = option_map (tree_of bank) (body_under u); kind = A })

-- what stands below one binder, if there is such a term
abbrev pub RestStands : Store → List Name → Option Tree → Type 0
RestStands s xs None = Unit {0}
RestStands s xs (Some B) = StandsUnder s xs 1 B
