-- A store by places of a bank, and the store over trees that it stands for.
use Rattle.std.specs.Prelude.{◌≡◌, ◌==◌, ℕ, zero, suc, List, [], ◌∷◌, ◌++◌, map, slice_get, Result, Ok, Err, Option, Some, None, option_map, if◌then◌else◌}
use Rattle.lq_terms.specs.declared.nodes.Hypothesis.{Hypothesis}
use Rattle.lq_terms.specs.declared.nodes.NameId.{NameId}
use Rattle.lq_terms.specs.declared.nodes.TermId.{TermId}
use Rattle.std.specs.List.{AllByRecursion}
use Rattle.lq_terms.specs.Terms.{Terms, HasName, HasTerm, text_of, tree_of}
use Rattle.lq_terms.specs.Contexts.{HasContext, context_of}
use Rattle.lq_solving.specs.Stores.{Variable as TreeVariable, Assigned, Store as TreeStore, StoreFault as TreeFault, store_full}
use Rattle.lq_evars.specs.declared.store.StoreFault.{StoreFault}
use Rattle.lq_evars.specs.declared.store.Variable.{Variable}

-- the variables in order of making, and the numbers and values in the order in which they were given
pub record Places : Type 0 where
  pub variables : List Variable
  pub values : List (ℕ × TermId)

-- a variable over trees
abbrev pub variable_of : Terms → Variable → TreeVariable
variable_of bank v = record { context = context_of bank v.context; kind = tree_of bank v.kind; name = option_map (text_of bank) v.name }

-- a value over trees
abbrev pub assigned_of : Terms → ℕ × TermId → Assigned
assigned_of bank a = record { id = a.0; body = tree_of bank a.1 }

-- values over trees, the newest first, ahead of those that are there already
abbrev pub values_from : Terms → List Assigned → List (ℕ × TermId) → List Assigned
values_from bank older [] = older
values_from bank older (a ∷ as_) = values_from bank (assigned_of bank a ∷ older) as_

-- the store over trees
abbrev pub store_of : Terms → Places → TreeStore
store_of bank s = record { variables = map (variable_of bank) s.variables; values = values_from bank [] s.values }

-- the value that stands with a number
abbrev pub value_in : List (ℕ × TermId) → ℕ → Option TermId
value_in [] k = None
value_in (a ∷ as_) k = if k == a.0 then Some a.1 else value_in as_ k

abbrev pub value_at : Places → ℕ → Option TermId
value_at s k = value_in s.values k

-- the number of a variable goes ahead of others, if the variable has a name
abbrev pub numbered : Option NameId → ℕ → List (NameId × ℕ) → List (NameId × ℕ)
numbered None k es = es
numbered (Some x) k es = (x, k) ∷ es

-- the names of variables with their numbers, counted on from k
abbrev pub numbers_from : ℕ → List Variable → List (NameId × ℕ)
numbers_from k [] = []
numbers_from k (v ∷ vs) = numbered v.name k (numbers_from (suc k) vs)

-- the number that stands with a name
abbrev pub number_in : List (NameId × ℕ) → NameId → Option ℕ
number_in [] x = None
number_in (e ∷ es) x = if x.place == e.0.place then Some e.1 else number_in es x

-- the number of the variable of a name
abbrev pub number_of : Places → NameId → Option ℕ
number_of s x = number_in (numbers_from 0 s.variables) x

-- the bank has the name, if there is one
abbrev pub HasNameOr : Terms → Option NameId → Type 0
HasNameOr bank None = Unit {0}
HasNameOr bank (Some x) = HasName bank x

-- the bank has all that a variable names
pub record HasVariable (bank : Terms) (v : Variable) : Type 0 where
  pub context : HasContext bank v.context
  pub kind : HasTerm bank v.kind
  pub name : HasNameOr bank v.name

-- the bank has all that a store names
pub record HasStore (bank : Terms) (s : Places) : Type 0 where
  pub variables : AllByRecursion (HasVariable bank) s.variables
  pub values : AllByRecursion (λ a. HasTerm bank a.1) s.values

-- the name is one of the bank, and no other name of the bank has its text
pub record IsOwn (bank : Terms) (x : NameId) : Type 0 where
  pub has : HasName bank x
  pub apart : (other : NameId) → HasName bank other → text_of bank other ≡ text_of bank x → other ≡ x

-- one variable more
abbrev pub one_more : Places → Variable → Places
one_more s v = record { variables = s.variables ++ v ∷ []; values = s.values }

-- one value more
abbrev pub one_given : Places → ℕ → TermId → Places
one_given s k t = record { variables = s.variables; values = s.values ++ (k, t) ∷ [] }

-- no variable has that name, if there is one
abbrev pub IsNewName : Places → Option NameId → Type 0
IsNewName s None = Unit {0}
IsNewName s (Some x) = number_of s x ≡ None

-- The answer of a new variable is the definition's, and the store then is. Memory may end at any time.
abbrev pub Makes : Terms → Result ℕ StoreFault → Places → Result (TreeStore × ℕ) TreeFault → Type 0
Makes bank (Ok k) new r = r ≡ Ok (store_of bank new, k)
Makes bank (Err StoreFault.TooLarge) new r = ⊥
Makes bank (Err StoreFault.TooDeep) new r = ⊥
Makes bank (Err StoreFault.Full) new r = r ≡ Err store_full
Makes bank (Err StoreFault.NoMemory) new r = Unit {0}

-- the variables with another type for number k
abbrev pub kind_put : List Variable → ℕ → TermId → List Variable
kind_put [] k t = []
kind_put (v ∷ vs) zero t = record { context = v.context; kind = t; name = v.name } ∷ vs
kind_put (v ∷ vs) (suc k) t = v ∷ kind_put vs k t

-- the store with another type for variable k
abbrev pub kind_changed : Places → ℕ → TermId → Places
kind_changed s k t = record { variables = kind_put s.variables k t; values = s.values }

-- the name is one of the bank's own, if there is one
abbrev pub IsOwnOr : Terms → Option NameId → Type 0
IsOwnOr bank None = Unit {0}
IsOwnOr bank (Some x) = IsOwn bank x

-- the new store has the variables of the old one, and values behind those of the old one
pub record GivesMore (old new : Places) : Type 0 where
  pub variables : new.variables ≡ old.variables
  pub more : List (ℕ × TermId)
  pub values : new.values ≡ old.values ++ more

-- a value with the hypotheses of its variable
abbrev pub body_in : Option TermId → Option Variable → Option (List Hypothesis × TermId)
body_in None v = None
body_in (Some t) None = None
body_in (Some t) (Some v) = Some (v.context, t)

-- what the store tells of a variable's value
abbrev pub body_at : Places → ℕ → Option (List Hypothesis × TermId)
body_at s k = body_in (value_at s k) (slice_get s.variables k)
