-- Inference with terms and contexts as they are kept in a store: each reads as its fellow of the definition.
use Rattle.std.specs.Prelude.{ℕ, List, map}
use Rattle.lq_trees.specs.Tree.{Tree, Context}
use Rattle.lq_calculus.specs.Declarations.{Env}
use Rattle.lq_calculus.specs.Checking.{Kernel}
use Rattle.lq_solving.specs.Stores.{Store, read, read_context}
use Rattle.lq_solving.specs.Inference.{by_store_types}
use Rattle.lq_typing.specs.Typing.{Part, product_domain, product_rest, function_domain, function_rest, definition_kind, definition_value, definition_rest, applied_function, applied_argument, typed_work, asked_work}

-- what waits, as read; the parts of a weak head form are read already
unfoldable pub read_part : Store → Part → Part
read_part s (product_domain x A B) = product_domain x (read s A) (read s B)
read_part s (product_rest u) = product_rest u
read_part s (function_domain x A t) = function_domain x (read s A) (read s t)
read_part s (function_rest x y A) = function_rest x y (read s A)
read_part s (definition_kind x v A t) = definition_kind x (read s v) (read s A) (read s t)
read_part s (definition_value x v A t) = definition_value x (read s v) (read s A) (read s t)
read_part s (definition_rest y v) = definition_rest y (read s v)
read_part s (applied_function a) = applied_function (read s a)
read_part s (applied_argument a D R) = applied_argument (read s a) D R

-- the work that is left where the type of a kept term is to be found first, and where a type, as read, was found
abbrev pub kept_asked : Store → Env → List Part → Context → Tree → ℕ → Kernel Tree
kept_asked s env ws g t = asked_work (by_store_types s) env (map (read_part s) ws) (read_context s g) (read s t)

abbrev pub kept_typed : Store → Env → List Part → Context → Tree → ℕ → Kernel Tree
kept_typed s env ws g T = typed_work (by_store_types s) env (map (read_part s) ws) (read_context s g) T
