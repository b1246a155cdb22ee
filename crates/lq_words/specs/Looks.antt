-- What a look at a family's terms finds.
use Rattle.std.specs.Prelude.{◌≡◌, ◌≤◌, ℕ, List}
use Rattle.std.specs.List.{AllByRecursion}
use Rattle.lq_trees.specs.Tree.{Name, Tree, Context, none, more}
use Rattle.lq_trees.specs.Index.{Within}
use Rattle.lq_trees.specs.Hypotheses.{HoldsOnly}
use Rattle.lq_terms.specs.declared.nodes.NameId.{NameId}
use Rattle.lq_terms.specs.declared.nodes.TermId.{TermId}
use Rattle.lq_terms.specs.Terms.{Terms}
use Rattle.lq_env.specs.Families.{constructors_of, StandsUnder, IsBehind, names_behind}

-- each variable that waits for a value has that number or a greater one, and one entry
abbrev pub Waits : (least : ℕ) → Tree → Type 0
Waits least (Tree.Rel i) = Unit {0}
Waits least (Tree.Var x) = Unit {0}
Waits least (Tree.Sort s) = Unit {0}
Waits least (Tree.Prod x kind rest) = Waits least kind × Waits least rest
Waits least (Tree.Lam x kind rest) = Waits least kind × Waits least rest
Waits least (Tree.Let x value kind rest) = Waits least value × Waits least kind × Waits least rest
Waits least (Tree.App function argument) = Waits least function × Waits least argument
Waits least (Tree.Const x) = Unit {0}
Waits least (Tree.Ind x) = Unit {0}
Waits least (Tree.Ctor x k) = Unit {0}
Waits least (Tree.Elim x s) = Unit {0}
Waits least (Tree.Evar n (more t none)) = (least ≤ n) × Waits least t
Waits least (Tree.Evar n _) = ⊥

-- loose bound variables are below a depth, hypotheses are of those names, and variables wait
abbrev pub Stands : List Name → (least depth : ℕ) → Tree → Type 0
Stands names least depth t = Within depth t × HoldsOnly names t × Waits least t

-- a context stands behind those names, and gives these
abbrev pub Reads : List Name → Context → List Name → Type 0
Reads names g after = IsBehind names g × (after ≡ names_behind names g)

-- each constructor's type stands under the names
abbrev pub EachStands : Terms → List Name → List (NameId × TermId) → Type 0
EachStands bank names cs = AllByRecursion (λ c. StandsUnder names c.1) (constructors_of bank cs)
