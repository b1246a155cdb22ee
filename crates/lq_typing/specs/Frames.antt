-- What waits for the types of parts, by places of a bank, and what it stands for.
use Rattle.std.specs.Prelude.{ℕ, List, map, Option, Some, None}
use Rattle.std.specs.List.{AllByRecursion}
use Rattle.lq_trees.specs.Tree.{Tree}
use Rattle.lq_terms.specs.declared.nodes.Hypothesis.{Hypothesis}
use Rattle.lq_terms.specs.declared.nodes.TermId.{TermId}
use Rattle.lq_terms.specs.Terms.{Terms, HasName, HasTerm, text_of, tree_of}
use Rattle.lq_terms.specs.Contexts.{HasContext, context_of}
use Rattle.lq_calculus.specs.Declarations.{Env as Environment}
use Rattle.lq_calculus.specs.Checking.{Kernel}
use Rattle.lq_evars.specs.Places.{Places, store_of}
use Rattle.lq_typing.specs.declared.waiting.Frame.{Frame}
use Rattle.lq_typing.specs.declared.waiting.Turn.{Turn}
use Rattle.lq_typing.specs.Typing.{Part, product_domain, product_rest, function_domain, function_rest, definition_kind, definition_value, definition_rest, applied_function, applied_argument}
use Rattle.lq_typing.specs.Kept.{kept_asked, kept_typed}
use Rattle.lq_typing.specs.Standing.{Asked, Typed}

-- what a frame stands for
abbrev pub part_of : Terms → Frame → Part
part_of bank (Frame.ProductDomain x A B) = product_domain (text_of bank x) (tree_of bank A) (tree_of bank B)
part_of bank (Frame.ProductRest u) = product_rest u
part_of bank (Frame.FunctionDomain x A t) = function_domain (text_of bank x) (tree_of bank A) (tree_of bank t)
part_of bank (Frame.FunctionRest x y A) = function_rest (text_of bank x) (text_of bank y) (tree_of bank A)
part_of bank (Frame.DefinitionKind x v A t) = definition_kind (text_of bank x) (tree_of bank v) (tree_of bank A) (tree_of bank t)
part_of bank (Frame.DefinitionValue x v A t) = definition_value (text_of bank x) (tree_of bank v) (tree_of bank A) (tree_of bank t)
part_of bank (Frame.DefinitionRest y v) = definition_rest (text_of bank y) (tree_of bank v)
part_of bank (Frame.Function a) = applied_function (tree_of bank a)
part_of bank (Frame.Argument a D R) = applied_argument (tree_of bank a) (tree_of bank D) (tree_of bank R)

-- the bank has what a frame names
abbrev pub HasFrame : Terms → Frame → Type 0
HasFrame bank (Frame.ProductDomain x A B) = HasName bank x × HasTerm bank A × HasTerm bank B
HasFrame bank (Frame.ProductRest u) = Unit {0}
HasFrame bank (Frame.FunctionDomain x A t) = HasName bank x × HasTerm bank A × HasTerm bank t
HasFrame bank (Frame.FunctionRest x y A) = HasName bank x × HasName bank y × HasTerm bank A
HasFrame bank (Frame.DefinitionKind x v A t) = HasName bank x × HasTerm bank v × HasTerm bank A × HasTerm bank t
HasFrame bank (Frame.DefinitionValue x v A t) = HasName bank x × HasTerm bank v × HasTerm bank A × HasTerm bank t
HasFrame bank (Frame.DefinitionRest y v) = HasName bank y × HasTerm bank v
HasFrame bank (Frame.Function a) = HasTerm bank a
HasFrame bank (Frame.Argument a D R) = HasTerm bank a × HasTerm bank D × HasTerm bank R

-- what all that waits stands for, the nearest first
abbrev pub parts_of : Terms → List Frame → List Part
parts_of bank fs = map (part_of bank) fs

-- the work that is left at a turn
abbrev pub turn_work : Terms → Places → Environment → List Hypothesis → List Frame → Turn → ℕ → Kernel Tree
turn_work bank s env hs fs (Turn.Ask t) = kept_asked (store_of bank s) env (parts_of bank fs) (context_of bank hs) (tree_of bank t)
turn_work bank s env hs fs (Turn.Found t) = kept_typed (store_of bank s) env (parts_of bank fs) (context_of bank hs) (tree_of bank t)

-- what is asked of a turn's trees
abbrev pub TurnStands : Terms → Places → List Hypothesis → List Frame → Turn → Type 0
TurnStands bank s hs fs (Turn.Ask t) = HasTerm bank t × Asked (store_of bank s) (parts_of bank fs) (context_of bank hs) (tree_of bank t)
TurnStands bank s hs fs (Turn.Found t) = HasTerm bank t × Typed (store_of bank s) (parts_of bank fs) (context_of bank hs) (tree_of bank t)

-- a turn as it may be: the bank has all of it, and it stands
pub record IsTurn (bank : Terms) (s : Places) (hs : List Hypothesis) (fs : List Frame) (turn : Turn) : Type 0 where
  pub context : HasContext bank hs
  pub frames : AllByRecursion (HasFrame bank) fs
  pub stands : TurnStands bank s hs fs turn

-- how much of the turns it takes
abbrev pub due : Turn → ℕ
due (Turn.Ask t) = 0
due (Turn.Found t) = 1

-- what comes next, or what came last where nothing does
abbrev pub next_of : Option Turn → Turn → Turn
next_of None t = t
next_of (Some u) t = u

-- a type was found
abbrev pub IsFound : Turn → Type 0
IsFound (Turn.Ask t) = ⊥
IsFound (Turn.Found t) = Unit {0}

-- the term that a turn is about
abbrev pub term_of : Turn → TermId
term_of (Turn.Ask t) = t
term_of (Turn.Found t) = t
