-- Where a term stands while it is compared as it reads: below binders that others part, and in the values of variables.
use Rattle.std.specs.Prelude.{ℕ, suc, ◌+◌, ◌-◌, nat_lt, if◌then◌else◌, map, zip, Option, Some, None}
use Rattle.lq_trees.specs.Tree.{Name, Tree, Trees, value_of}
use Rattle.lq_trees.specs.Change.{Leaves, replace}
use Rattle.lq_trees.specs.Reading.{entries}
use Rattle.lq_solving.specs.Stores.{Store as TreeStore, names_at}
use Rattle.lq_evars.specs.Reading.{as_read}

-- nothing is around; or so many binders are, the last of which is number `end`, counted from 1 at the outermost; or the value of a variable at an instance is
pub data Scope : Type 0 where
  top : Scope
  below : (count end : ℕ) → Scope → Scope
  inside : (index : ℕ) (parts : Trees) → Scope → Scope

-- the number, below so many binders in all, of a bound variable that is loose in a scope
abbrev pub outer : Scope → (depth index : ℕ) → ℕ
outer top d i = d + i
outer (below c e s) d i = if nat_lt i c then d - suc (e - suc i) else outer s d (i - c)
outer (inside n ts s) d i = 0

-- the same of one that is loose below so many binders of a term
abbrev pub placed_index : (ℕ → ℕ → ℕ) → (base under index : ℕ) → ℕ
placed_index out d k i = if nat_lt i k then i else out (d + k) (i - k)

-- what is put for leaves below so many binders
abbrev pub leaves_in : (ℕ → ℕ → ℕ) → (ℕ → Name → Tree) → ℕ → Leaves
leaves_in out names d = record { bound = λ k i. Tree.Rel (placed_index out d k i); named = λ k x. names (d + k) x }

-- a tree that stands for a hypothesis, or else the hypothesis
abbrev pub entry_or : Option Tree → Name → Tree
entry_or None x = Tree.Var x
entry_or (Some t) x = t

-- what a hypothesis is in a scope, below so many binders: an entry of the instance, as read, or it stands for itself
abbrev pub named_in : TreeStore → Scope → ℕ → Name → Tree
named_in s top d x = Tree.Var x
named_in s (below c e o) d x = named_in s o d x
named_in s (inside n ts o) d x =
    entry_or (value_of (zip (names_at s.variables n) (map (λ t. replace (leaves_in (outer o) (named_in s o) d) 0 (as_read s t)) (entries ts))) x) x

-- a tree in a scope that begins below so many binders, below so many more of its own
abbrev pub placed : TreeStore → Scope → (base under : ℕ) → Tree → Tree
placed s o d k t = replace (leaves_in (outer o) (named_in s o) d) k t
