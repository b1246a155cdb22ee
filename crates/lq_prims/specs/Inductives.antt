-- Inductive types, by places of a bank.
use Rattle.std.specs.Prelude.{◌≡◌, ◌≤◌, ◌+◌, ℕ, zero, suc, List, map, length, slice_get, Option, Some, None}
use Rattle.std.specs.List.{AllByRecursion}
use Rattle.lq_trees.specs.Tree.{Tree}
use Rattle.lq_trees.specs.Index.{Within}
use Rattle.lq_trees.specs.Size.{depth}
use Rattle.lq_calculus.specs.Declarations.{Family as TreeFamily}
use Rattle.lq_terms.specs.declared.nodes.NameId.{NameId}
use Rattle.lq_terms.specs.declared.nodes.TermId.{TermId}
use Rattle.lq_terms.specs.Terms.{Terms, HasName, HasTerm, text_of, tree_of}
use Rattle.lq_env.specs.declared.family.Family.{Family}
use Rattle.lq_env.specs.Families.{family_of, IsFamily}
use Rattle.lq_trees.specs.Ticks.{fails}
use Rattle.lq_tactics.specs.Rows.{Doing, Scene, no_constructor}
use Rattle.lq_tactics.specs.Applying.{Inductive as TreeInductive, constructor_found}
use Rattle.lq_prims.specs.declared.inductives.Inductive.{Inductive}
use Rattle.lq_prims.specs.declared.inductives.Typed.{Typed}
use Rattle.lq_solving.specs.Stores.{Store}
use Rattle.lq_solving.specs.Elaboration.{Found, found}

-- an inductive type over texts and trees
abbrev pub inductive_by : Terms → Inductive → TreeInductive
inductive_by bank i = record { name = text_of bank i.name; family = family_of bank i.family.now; args = map (tree_of bank) i.args.items }

-- a term without loose bound variables, and no deeper than the limit
pub record IsShallow (t : Tree) : Type 0 where
  pub within : Within 0 t
  pub deep : depth t ≤ 2000

-- the bank has what an inductive type names: its family with as many arguments as parameters and indices
pub record HasInductive (bank : Terms) (i : Inductive) : Type 0 where
  pub name : HasName bank i.name
  pub family : IsFamily bank i.family.now
  pub args : AllByRecursion (HasTerm bank) i.args.items
  pub many : length i.args.items ≡ length i.family.now.parameters + length i.family.now.indices
  pub shallow : AllByRecursion (λ t. IsShallow (tree_of bank t)) i.args.items

-- the family, or that there is none
abbrev pub IsFamilyOr : Terms → Option Family → Option TreeFamily → Type 0
IsFamilyOr bank None o = o ≡ None
IsFamilyOr bank (Some f) o = IsFamily bank f × (o ≡ Some (family_of bank f))

-- the inductive type, or that there is none
abbrev pub IsInductiveOr : Terms → Option TreeInductive → Option Inductive → Type 0
IsInductiveOr bank o None = o ≡ None
IsInductiveOr bank o (Some i) = HasInductive bank i × (o ≡ Some (inductive_by bank i))

-- the constructor at a place with its type under the parameters, or that there is none
abbrev pub IsConstructorOr : List (NameId × TermId) → ℕ → Option (ℕ × TermId) → Type 0
IsConstructorOr cs k None = slice_get cs k ≡ None
IsConstructorOr cs k (Some c) = (c.0 ≡ k) × (x : NameId) × (slice_get cs k ≡ Some (x, c.1))

-- a term with its type
abbrev pub found_by : Terms → Store → Typed → Found
found_by bank s f = found s (tree_of bank f.term) (tree_of bank f.kind)

-- the bank has both
abbrev pub HasTyped : Terms → Typed → Type 0
HasTyped bank f = HasTerm bank f.term × HasTerm bank f.kind

-- constructor n, counted from 1
unfoldable pub numbered_work : Scene → TreeInductive → ℕ → Doing Found
numbered_work c i zero = fails (no_constructor 0)
numbered_work c i (suc k) = constructor_found c i k (slice_get i.family.constructors k)
