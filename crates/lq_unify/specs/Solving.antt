-- What the solving of variables answers.
use Rattle.std.specs.Prelude.{◌≡◌, ℕ, Bool, true, false, List, [], ◌∷◌, Result, Ok, Err, Option, Some, None}
use Rattle.std.specs.List.{AllByRecursion}
use Rattle.lq_trees.specs.declared.Fit.{Fit}
use Rattle.lq_trees.specs.Tree.{Name, Tree, Trees}
use Rattle.lq_trees.specs.Tree.Tree.{Evar}
use Rattle.lq_trees.specs.Ticks.{gives, fails}
use Rattle.lq_terms.specs.declared.nodes.TermId.{TermId}
use Rattle.lq_terms.specs.Terms.{Terms, HasTerm, tree_of, trees_by}
use Rattle.lq_solving.specs.Stores.{Store, StoreFault, names_at, find_value, read, read_too_large, read_too_deep}
use Rattle.lq_solving.specs.Unification.{Unify, Answer, place_of, solve, unify_too_large, unify_too_deep}
use Rattle.lq_solving.specs.Kept.{IsOver, IsStore}
use Rattle.lq_solving.proofs.DoneLaws.{IsDone}
use Rattle.lq_solving.proofs.Later.{Later}
use Rattle.lq_evars.specs.Places.{Places, store_of, HasStore, GivesMore}
use Rattle.lq_unify.specs.declared.faults.UnifyFault.{UnifyFault}
use Rattle.lq_unify.specs.Heads.{HasOpenHead}
use Rattle.lq_unify.specs.Exposing.{IsOfStore}
use Rattle.lq_unify.specs.Solutions.{solution}

-- The answer, and the store then, are those of the definition, or the limit is passed that it says. Memory may end at any time.
abbrev pub Solves : Terms → Result Bool UnifyFault → (new : Places) → Unify Answer → Type 0
Solves bank (Ok true) new w = w ≡ gives (Some (store_of bank new))
Solves bank (Ok false) new w = w ≡ gives None
Solves bank (Err UnifyFault.StepsOut) new w = ⊥
Solves bank (Err UnifyFault.TooLarge) new w = w ≡ fails unify_too_large
Solves bank (Err UnifyFault.TooDeep) new w = w ≡ fails unify_too_deep
Solves bank (Err UnifyFault.NoMemory) new w = Unit {0}

-- the same of an answer that is there only where the definition has one
abbrev pub SolvesOr : Terms → Result (Option Bool) UnifyFault → (new : Places) → Option (Unify Answer) → Type 0
SolvesOr bank (Ok None) new o = o ≡ None
SolvesOr bank (Ok (Some true)) new o = o ≡ Some (gives (Some (store_of bank new)))
SolvesOr bank (Ok (Some false)) new o = o ≡ Some (gives None)
SolvesOr bank (Err UnifyFault.StepsOut) new o = ⊥
SolvesOr bank (Err UnifyFault.TooLarge) new o = o ≡ Some (fails unify_too_large)
SolvesOr bank (Err UnifyFault.TooDeep) new o = o ≡ Some (fails unify_too_deep)
SolvesOr bank (Err UnifyFault.NoMemory) new o = Unit {0}

-- a variable, as it reads, is solved by a term, as it reads
unfoldable pub solved : Store → Tree → Tree → Unify Answer
solved s (Evar k es) u = solve s k es u
solved s t u = gives None

-- values were given to a store alone, and it is kept as a store
pub record GivesOn (first bank : Terms) (old new : Places) : Type 0 where
  pub has : HasStore bank new
  pub kept : IsStore (store_of bank new)
  pub later : Later (store_of first old) (store_of bank new)
  pub more : GivesMore old new

-- the second terms are the first ones with their heads read
abbrev pub AreExposed : Store → (old new : Terms) → (ts us : List TermId) → Type 0
AreExposed s old new [] [] = Unit {0}
AreExposed s old new (t ∷ ts) (u ∷ us) =
    (HasTerm new u × HasOpenHead s.values (tree_of new u) × (read s (tree_of new u) ≡ read s (tree_of old t))) × AreExposed s old new ts us
AreExposed s old new _ _ = ⊥

-- the body for a variable at entries that are kept with their heads read, by a term as it reads
abbrev pub body_of : Terms → Places → ℕ → List TermId → Tree → Option Tree
body_of bank s k ts U = solution (Some k) (place_of (names_at (store_of bank s).variables k) (trees_by (tree_of bank) ts)) U

-- something is there
abbrev pub IsThere : Option Tree → Type 0
IsThere o = (b : Tree) × (o ≡ Some b)

-- the fault is of the limit that is passed
abbrev pub IsLimit : UnifyFault → Fit → Type 0
IsLimit UnifyFault.TooLarge f = f ≡ Fit.TooLarge
IsLimit UnifyFault.TooDeep f = f ≡ Fit.TooDeep
IsLimit y f = ⊥

-- a term for the body, if there is one, or its fault, the fit of the term that it is made of being f. Memory may end at any time.
abbrev pub HasBody : Terms → Result (Option TermId) UnifyFault → Option Tree → Fit → Type 0
HasBody bank (Ok None) o f = o ≡ None
HasBody bank (Ok (Some b)) o f = HasTerm bank b × (o ≡ Some (tree_of bank b))
HasBody bank (Err UnifyFault.StepsOut) o f = ⊥
HasBody bank (Err UnifyFault.TooLarge) o f = IsThere o × (f ≡ Fit.TooLarge)
HasBody bank (Err UnifyFault.TooDeep) o f = IsThere o × (f ≡ Fit.TooDeep)
HasBody bank (Err UnifyFault.NoMemory) o f = Unit {0}

-- a value was given, or the limit is passed that the definition says. Memory may end at any time.
abbrev pub GivesBody : Terms → Result Bool UnifyFault → Places → Result Store StoreFault → Type 0
GivesBody bank (Ok true) new r = r ≡ Ok (store_of bank new)
GivesBody bank (Ok false) new r = ⊥
GivesBody bank (Err UnifyFault.StepsOut) new r = ⊥
GivesBody bank (Err UnifyFault.TooLarge) new r = r ≡ Err read_too_large
GivesBody bank (Err UnifyFault.TooDeep) new r = r ≡ Err read_too_deep
GivesBody bank (Err UnifyFault.NoMemory) new r = Unit {0}

-- these entries, with their heads read, give the places that the entries E give, which are as read
pub record IsMeant (bank : Terms) (s : Store) (k : ℕ) (ts : List TermId) (E : Trees) : Type 0 where
  pub place : (x : Name) → place_of (names_at s.variables k) (trees_by (tree_of bank) ts) x ≡ place_of (names_at s.variables k) E x
  pub over : IsOver s.variables (Evar k E)
  pub done : IsDone s.values (Evar k E)

-- a variable without a value, at an instance of these entries
pub record IsOpenAt (bank : Terms) (s : Store) (k : ℕ) (ts : List TermId) : Type 0 where
  pub bare : find_value s.values k ≡ None
  pub over : IsOver s.variables (Evar k (trees_by (tree_of bank) ts))
  pub entries : AllByRecursion (IsOfStore bank s) ts
