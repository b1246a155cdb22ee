-- The families that a bank's terms stand for, what the callers promise of one, and what the faults tell.
use Rattle.std.specs.Prelude.{◌≡◌, ◌<◌, ◌≤◌, false, List, [], ◌∷◌, map, length, Option, Some, None, Result, Ok, Err}
use Rattle.std.specs.List.{AllByRecursion}
use Rattle.lq_trees.specs.declared.Sort.{Sort as Universe}
use Rattle.lq_trees.specs.declared.Fit.{Fit}
use Rattle.lq_trees.specs.Tree.{Name, Tree, Hypothesis as TreeHypothesis, Context}
use Rattle.lq_trees.specs.Index.{Within}
use Rattle.lq_trees.specs.Fresh.{is_listed}
use Rattle.lq_trees.specs.Hypotheses.{HoldsOnly}
use Rattle.lq_trees.specs.Size.{fit}
use Rattle.lq_terms.specs.declared.nodes.NameId.{NameId}
use Rattle.lq_terms.specs.declared.nodes.TermId.{TermId}
use Rattle.lq_terms.specs.Terms.{Terms, HasName, HasTerm, IsTerm, text_of, tree_of}
use Rattle.lq_terms.specs.Contexts.{context_of, HasContext}
use Rattle.lq_calculus.specs.Declarations.{Family as TreeFamily, EnvFault as Fault, name_taken, not_positive, nested_use, bad_result, elim_forbidden, env_too_large, env_too_deep}
use Rattle.lq_env.specs.declared.family.Family.{Family}
use Rattle.lq_env.specs.declared.family.EnvFault.{EnvFault}

-- a constructor's name and its type under the parameters, as text and tree
abbrev pub constructor_of : Terms → NameId × TermId → Name × Tree
constructor_of bank c = (text_of bank c.0, tree_of bank c.1)

-- constructors in order, as texts and trees
abbrev pub constructors_of : Terms → List (NameId × TermId) → List (Name × Tree)
constructors_of bank cs = map (constructor_of bank) cs

-- a family, over texts and trees
abbrev pub family_of : Terms → Family → TreeFamily
family_of bank f =
    record {
      name = text_of bank f.name;
      parameters = context_of bank f.parameters;
      indices = context_of bank f.indices;
      sort = f.sort;
      constructors = constructors_of bank f.constructors;
    }

-- the bank has a constructor's name and type
abbrev pub HasConstructor : Terms → NameId × TermId → Type 0
HasConstructor bank c = HasName bank c.0 × HasTerm bank c.1

-- the bank has all that a family names
pub record HasFamily (bank : Terms) (f : Family) : Type 0 where
  pub name : HasName bank f.name
  pub parameters : HasContext bank f.parameters
  pub indices : HasContext bank f.indices
  pub constructors : AllByRecursion (HasConstructor bank) f.constructors

-- a tree without loose bound variables, whose hypotheses are among the names
pub record StandsUnder (names : List Name) (t : Tree) : Type 0 where
  pub within : Within 0 t
  pub holds : HoldsOnly names t

-- a hypothesis behind those names: its own is new, it has no body, its type holds only earlier names
pub record IsNext (names : List Name) (h : TreeHypothesis) : Type 0 where
  pub new : is_listed names h.name ≡ false
  pub bodiless : h.body ≡ None
  pub kind : StandsUnder names h.kind

-- names with those of a context before them, the newest first
abbrev pub names_behind : List Name → Context → List Name
names_behind names [] = names
names_behind names (h ∷ g) = names_behind (h.name ∷ names) g

-- a context behind those names
abbrev pub IsBehind : List Name → Context → Type 0
IsBehind names [] = Unit {0}
IsBehind names (h ∷ g) = IsNext names h × IsBehind (h.name ∷ names) g

-- a level of a sort is at most 3
abbrev pub IsSort : Universe → Type 0
IsSort Universe.Base = Unit {0}
IsSort (Universe.Level i) = i ≤ 3

-- What the callers promise of a family's trees: parameters and indices have distinct names and no bodies, their types hold
-- only earlier names, and constructors' types hold only parameters; no type has loose bound variables; no list has more
-- than 4,294,967,295 entries.
pub record IsWritten (f : TreeFamily) : Type 0 where
  pub parameters : IsBehind [] f.parameters
  pub indices : IsBehind (names_behind [] f.parameters) f.indices
  pub constructors : AllByRecursion (λ c. StandsUnder (names_behind [] f.parameters) c.1) f.constructors
  pub few_parameters : length f.parameters < 4294967296
  pub few_indices : length f.indices < 4294967296
  pub few_constructors : length f.constructors < 4294967296

-- the bank has the family, and it is as the callers promise
pub record IsFamily (bank : Terms) (f : Family) : Type 0 where
  pub has : HasFamily bank f
  pub written : IsWritten (family_of bank f)

-- the fault is that of the definition, and the bank has its name
abbrev pub IsFault : Terms → EnvFault → Option Fault → Type 0
IsFault bank (EnvFault.NameTaken x) e = HasName bank x × (e ≡ Some (name_taken (text_of bank x)))
IsFault bank (EnvFault.NotPositive c k) e = HasName bank c × (e ≡ Some (not_positive (text_of bank c) k))
IsFault bank (EnvFault.NestedUse c k) e = HasName bank c × (e ≡ Some (nested_use (text_of bank c) k))
IsFault bank (EnvFault.BadResult c) e = HasName bank c × (e ≡ Some (bad_result (text_of bank c)))
IsFault bank (EnvFault.ElimForbidden c s) e = HasName bank c × (e ≡ Some (elim_forbidden (text_of bank c) s))
IsFault bank EnvFault.TooLarge e = e ≡ Some env_too_large
IsFault bank EnvFault.TooDeep e = e ≡ Some env_too_deep
IsFault bank EnvFault.NoMemory e = ⊥

-- a look finds the fault of the definition, or none where there is none
abbrev pub Finds : Terms → Option EnvFault → Option Fault → Type 0
Finds bank None e = e ≡ None
Finds bank (Some fault) e = IsFault bank fault e

-- a call refuses by the fault of the definition; memory may end at any time
abbrev pub Refuses : Terms → EnvFault → Option Fault → Type 0
Refuses bank (EnvFault.NameTaken x) e = IsFault bank (EnvFault.NameTaken x) e
Refuses bank (EnvFault.NotPositive c k) e = IsFault bank (EnvFault.NotPositive c k) e
Refuses bank (EnvFault.NestedUse c k) e = IsFault bank (EnvFault.NestedUse c k) e
Refuses bank (EnvFault.BadResult c) e = IsFault bank (EnvFault.BadResult c) e
Refuses bank (EnvFault.ElimForbidden c s) e = IsFault bank (EnvFault.ElimForbidden c s) e
Refuses bank EnvFault.TooLarge e = IsFault bank EnvFault.TooLarge e
Refuses bank EnvFault.TooDeep e = IsFault bank EnvFault.TooDeep e
Refuses bank EnvFault.NoMemory e = Unit {0}

-- A type that is to be stored: a term for it that is within the limits, or that fault which is true of it. Memory may end at any time.
abbrev pub Stores : Terms → Result TermId EnvFault → Tree → Type 0
Stores bank (Ok t) tree = IsTerm bank t tree × (fit tree ≡ Fit.Fits)
Stores bank (Err (EnvFault.NameTaken x)) tree = ⊥
Stores bank (Err (EnvFault.NotPositive c k)) tree = ⊥
Stores bank (Err (EnvFault.NestedUse c k)) tree = ⊥
Stores bank (Err (EnvFault.BadResult c)) tree = ⊥
Stores bank (Err (EnvFault.ElimForbidden c s)) tree = ⊥
Stores bank (Err EnvFault.TooLarge) tree = fit tree ≡ Fit.TooLarge
Stores bank (Err EnvFault.TooDeep) tree = fit tree ≡ Fit.TooDeep
Stores bank (Err EnvFault.NoMemory) tree = Unit {0}
