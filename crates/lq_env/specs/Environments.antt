-- The environment that a list of entries over a bank stands for, and what holds of it.
use Rattle.std.specs.Prelude.{◌≡◌, ◌⊎◌, ℕ, true, false, Bool, List, [], ◌∷◌, ◌++◌, map, length, slice_get, Option, Some, None, Result, Ok, Err, if◌then◌else◌, ◌==◌}
use Rattle.std.specs.List.{AllByRecursion}
use Rattle.lq_trees.specs.declared.Sort.{Sort as Universe}
use Rattle.lq_trees.specs.declared.Fit.{Fit}
use Rattle.lq_trees.specs.Tree.{Name, Tree}
use Rattle.lq_trees.specs.Fresh.{is_listed}
use Rattle.lq_trees.specs.Size.{fit}
use Rattle.lq_terms.specs.declared.nodes.NameId.{NameId}
use Rattle.lq_terms.specs.declared.nodes.TermId.{TermId}
use Rattle.lq_terms.specs.declared.rules.Counts.{Counts}
use Rattle.lq_terms.specs.declared.rules.IotaRule.{IotaRule}
use Rattle.lq_terms.specs.Terms.{Terms, HasName, HasTerm, IsTerm, text_of, tree_of}
use Rattle.lq_terms.specs.Telling.{Telling, IsClosed, HasTargets, arguments_by}
use Rattle.lq_calculus.specs.Declarations.{Family as TreeFamily, Env as Environment, Entry as TreeEntry, EnvFault as Fault, constant, family, arity, constructor, eliminator, lookup, family_in, family_type, constructor_kind, elim_type, rule_arguments, permits, permitted_of, sorts, names_of, name_taken}
use Rattle.lq_env.specs.declared.family.EnvFault.{EnvFault}
use Rattle.lq_env.specs.declared.environment.Entry.{Entry}
use Rattle.lq_env.specs.declared.environment.Declared.{Declared}
use Rattle.lq_env.specs.declared.environment.EnvMark.{EnvMark}
use Rattle.lq_env.specs.declared.made.Made.{Made}
use Rattle.lq_env.specs.Families.{family_of, IsFamily, IsSort, Refuses}
use Rattle.lq_env.specs.Making.{Computing, counts_told, rule_told}

-- what is declared under a name: the first of that name
abbrev pub declared_of : List (NameId × Declared) → NameId → Option Declared
declared_of [] x = None
declared_of (d ∷ ds) x = if x.place == d.0.place then Some d.1 else declared_of ds x

-- the entry of a name
abbrev pub entry_in : Option Declared → Option Entry
entry_in None = None
entry_in (Some d) = Some d.entry

abbrev pub entry_at : List (NameId × Declared) → NameId → Option Entry
entry_at ds x = entry_in (declared_of ds x)

-- the type that is kept for a name
abbrev pub kind_kept : Option Declared → Option TermId
kind_kept None = None
kind_kept (Some d) = d.kind

abbrev pub kind_at : List (NameId × Declared) → NameId → Option TermId
kind_at ds x = kind_kept (declared_of ds x)

-- what is made of a family
abbrev pub made_kept : Option Declared → Option Made
made_kept None = None
made_kept (Some d) = d.made

abbrev pub made_at : List (NameId × Declared) → NameId → Option Made
made_at ds x = made_kept (declared_of ds x)

-- the body of a transparent constant
abbrev pub body_in : Option Entry → Option TermId
body_in (Some (Entry.Constant kind body false)) = Some body
body_in (Some (Entry.Constant kind body true)) = None
body_in (Some (Entry.Family f ss)) = None
body_in (Some (Entry.Arity kind)) = None
body_in (Some (Entry.Constructor f k)) = None
body_in (Some (Entry.Eliminator f s)) = None
body_in None = None

abbrev pub body_at : List (NameId × Declared) → NameId → Option TermId
body_at ds x = body_in (entry_at ds x)

-- a family's numbers, and the rule of one of its constructors
abbrev pub counts_in : Option Made → Option Counts
counts_in None = None
counts_in (Some m) = Some (counts_told m.rules)

abbrev pub counts_at : List (NameId × Declared) → NameId → Option Counts
counts_at ds x = counts_in (made_at ds x)

abbrev pub rule_in : Option Made → ℕ → Option IotaRule
rule_in None k = None
rule_in (Some m) k = rule_told m.rules k

abbrev pub rule_at : List (NameId × Declared) → NameId → ℕ → Option IotaRule
rule_at ds x k = rule_in (made_at ds x) k

-- what an environment tells of computation
abbrev pub telling : List (NameId × Declared) → Telling
telling ds = record { delta = body_at ds; counts = counts_at ds; rule = rule_at ds }

-- an entry over texts and trees
abbrev pub entry_of : Terms → Entry → TreeEntry
entry_of bank (Entry.Constant kind body opaque) = constant (tree_of bank kind) (tree_of bank body) opaque
entry_of bank (Entry.Family f ss) = family (family_of bank f) ss
entry_of bank (Entry.Arity kind) = arity (tree_of bank kind)
entry_of bank (Entry.Constructor f k) = constructor (text_of bank f) k
entry_of bank (Entry.Eliminator f s) = eliminator (text_of bank f) s

-- a declaration over texts and trees
abbrev pub named_of : Terms → NameId × Declared → Name × TreeEntry
named_of bank d = (text_of bank d.0, entry_of bank d.1.entry)

-- the environment over texts and trees
abbrev pub env_of : Terms → List (NameId × Declared) → Environment
env_of bank ds = map (named_of bank) ds

-- the whole type of a constructor, if its family is declared and has it
abbrev pub constructor_in : Option TreeFamily → ℕ → Option Tree
constructor_in None k = None
constructor_in (Some f) k = constructor_kind f k

-- the closed type of an entry: of a constant, a family, a family that is being declared, or a constructor
abbrev pub kind_in : Environment → Option TreeEntry → Option Tree
kind_in env (Some (constant A t opaque)) = Some A
kind_in env (Some (family f ss)) = Some (family_type f)
kind_in env (Some (arity A)) = Some A
kind_in env (Some (constructor c k)) = constructor_in (family_in (lookup env c)) k
kind_in env (Some (eliminator c s)) = None
kind_in env None = None

-- the closed type of a name
abbrev pub kind_of : Environment → Name → Option Tree
kind_of env x = kind_in env (lookup env x)

-- the name is one of the bank, and no other name of the bank has its text
pub record IsOwn (bank : Terms) (x : NameId) : Type 0 where
  pub has : HasName bank x
  pub apart : (other : NameId) → HasName bank other → text_of bank other ≡ text_of bank x → other ≡ x

-- what an entry names lies in the bank, and is as the callers promise
abbrev pub IsEntry : Terms → Entry → Type 0
IsEntry bank (Entry.Constant kind body opaque) = IsClosed bank 0 kind × IsClosed bank 0 body
IsEntry bank (Entry.Family f ss) = IsFamily bank f × AllByRecursion IsSort ss
IsEntry bank (Entry.Arity kind) = IsClosed bank 0 kind
IsEntry bank (Entry.Constructor f k) = HasName bank f
IsEntry bank (Entry.Eliminator f s) = HasName bank f × IsSort s

-- a term that stands for a tree, which is within the limits
pub record IsStored (bank : Terms) (t : TermId) (tree : Tree) : Type 0 where
  pub term : IsTerm bank t tree
  pub fits : fit tree ≡ Fit.Fits

-- the type that is kept of a family
pub record IsTyped (bank : Terms) (f : TreeFamily) (kind : Option TermId) : Type 0 where
  pub term : TermId
  pub kept : kind ≡ Some term
  pub stored : IsStored bank term (family_type f)

-- the type that is kept of a constructor, whose family is declared
pub record IsMember (bank : Terms) (env : Environment) (c : Name) (k : ℕ) (kind : Option TermId) : Type 0 where
  pub owner : TreeFamily
  pub permitted : List Universe
  pub declared : lookup env c ≡ Some (family owner permitted)
  pub term : TermId
  pub tree : Tree
  pub is : constructor_kind owner k ≡ Some tree
  pub kept : kind ≡ Some term
  pub stored : IsStored bank term tree

-- the type that is kept of an entry is that of the definition
abbrev pub KeepsKind : Terms → Environment → Entry → Option TermId → Type 0
KeepsKind bank env (Entry.Constant kind body opaque) kept = kept ≡ Some kind
KeepsKind bank env (Entry.Family f ss) kept = IsTyped bank (family_of bank f) kept
KeepsKind bank env (Entry.Arity kind) kept = kept ≡ Some kind
KeepsKind bank env (Entry.Constructor f k) kept = IsMember bank env (text_of bank f) k kept
KeepsKind bank env (Entry.Eliminator f s) kept = kept ≡ None

-- the types of a family's eliminators: those of the permitted sorts, each that of the definition
pub record AreEliminators (bank : Terms) (f : TreeFamily) (ss : List Universe) (es : List (Universe × TermId)) : Type 0 where
  pub into : map (λ e. e.0) es ≡ permitted_of ss sorts
  pub types : AllByRecursion (λ e. IsStored bank e.1 (elim_type f e.0)) es

-- the rule of a family's constructor tells the arguments of the definition, and its targets are closed but for what they may name
pub record IsRule (bank : Terms) (f : TreeFamily) (k parameters indices : ℕ) (a : List Bool × List (List TermId)) : Type 0 where
  pub tells : rule_arguments f k ≡ Some (arguments_by (tree_of bank) a.0 a.1)
  pub has : HasTargets bank indices parameters a.0 a.1

-- the rules of a family are those of the definition
pub record AreRules (bank : Terms) (f : TreeFamily) (c : Computing) : Type 0 where
  pub parameters : c.parameters ≡ length f.parameters
  pub indices : c.indices ≡ length f.indices
  pub constructors : length c.arguments ≡ length f.constructors
  pub rules : (k : ℕ) (a : List Bool × List (List TermId)) → slice_get c.arguments k ≡ Some a → IsRule bank f k c.parameters c.indices a

-- what is made of a family is what the definition gives
pub record IsMade (bank : Terms) (f : TreeFamily) (ss : List Universe) (made : Option Made) : Type 0 where
  pub kept : Made
  pub is : made ≡ Some kept
  pub eliminators : AreEliminators bank f ss kept.eliminators.items
  pub rules : AreRules bank f kept.rules

-- something is made of a family, and of no other entry
abbrev pub KeepsMade : Terms → Entry → Option Made → Type 0
KeepsMade bank (Entry.Constant kind body opaque) made = made ≡ None
KeepsMade bank (Entry.Family f ss) made = IsMade bank (family_of bank f) ss made
KeepsMade bank (Entry.Arity kind) made = made ≡ None
KeepsMade bank (Entry.Constructor f k) made = made ≡ None
KeepsMade bank (Entry.Eliminator f s) made = made ≡ None

-- what is declared in an environment
pub record IsDeclared (bank : Terms) (env : Environment) (d : NameId × Declared) : Type 0 where
  pub name : HasName bank d.0
  pub entry : IsEntry bank d.1.entry
  pub kind : KeepsKind bank env d.1.entry d.1.kind
  pub made : KeepsMade bank d.1.entry d.1.made

abbrev pub AreDeclared : Terms → Environment → List (NameId × Declared) → Type 0
AreDeclared bank env ds = AllByRecursion (IsDeclared bank env) ds

-- no name is declared twice, and none of those
abbrev pub AreNew : List Name → Environment → Type 0
AreNew names [] = Unit {0}
AreNew names (e ∷ es) = (is_listed names e.0 ≡ false) × AreNew (e.0 ∷ names) es

-- the list is an environment of the bank
pub record IsEnv (bank : Terms) (ds : List (NameId × Declared)) : Type 0 where
  pub declared : AreDeclared bank (env_of bank ds) ds
  pub distinct : AreNew [] (env_of bank ds)

-- an entry is that of the definition, and as the callers promise; or there is none in either
abbrev pub Looks : Terms → Option Entry → Option TreeEntry → Type 0
Looks bank None e = e ≡ None
Looks bank (Some entry) e = IsEntry bank entry × (e ≡ Some (entry_of bank entry))

-- a term stands for the tree of the definition; or there is none in either
abbrev pub Told : Terms → Option TermId → Option Tree → Type 0
Told bank None tree = tree ≡ None
Told bank (Some t) tree = HasTerm bank t × (tree ≡ Some (tree_of bank t))

-- the name is that of a declared family
abbrev pub IsFamilyEntry : Option Entry → Type 0
IsFamilyEntry (Some (Entry.Family f ss)) = Unit {0}
IsFamilyEntry (Some (Entry.Constant kind body opaque)) = ⊥
IsFamilyEntry (Some (Entry.Arity kind)) = ⊥
IsFamilyEntry (Some (Entry.Constructor f k)) = ⊥
IsFamilyEntry (Some (Entry.Eliminator f s)) = ⊥
IsFamilyEntry None = ⊥

-- the type of the eliminator into a sort, where the family permits it; else the refusal
abbrev pub Eliminates : Terms → Result TermId EnvFault → NameId → TreeFamily → List Universe → Universe → Type 0
Eliminates bank (Ok t) x f ss s = (permits ss s ≡ true) × IsStored bank t (elim_type f s)
Eliminates bank (Err e) x f ss s = (permits ss s ≡ false) × (e ≡ EnvFault.ElimForbidden x s)

-- the fault of a declaration, if it is refused
abbrev pub fault_in : Result Environment Fault → Option Fault
fault_in (Ok env) = None
fault_in (Err e) = Some e

-- what a declaration answers is what the definition gives: the new environment, or the fault
abbrev pub Adds : Terms → Result (Unit {0}) EnvFault → List (NameId × Declared) → Result Environment Fault → Type 0
Adds bank (Ok ok) new r = IsEnv bank new × (r ≡ Ok (env_of bank new))
Adds bank (Err e) new r = Refuses bank e (fault_in r)

-- the environment with a family that is being declared, by its type
abbrev pub with_arity : Environment → Name → Tree → Result Environment Fault
with_arity env x A = elim (is_listed (names_of env) x) [ true ↦ Err (name_taken x) | false ↦ Ok (env ++ (x, arity A) ∷ []) ]

-- an environment with some more declarations
pub record Extends (old new : List (NameId × Declared)) : Type 0 where
  pub more : List (NameId × Declared)
  pub is : new ≡ old ++ more

-- the last declaration is a family that is being declared
pub record IsOpen (ds : List (NameId × Declared)) : Type 0 where
  pub before : List (NameId × Declared)
  pub name : NameId
  pub kind : TermId
  pub is : ds ≡ before ++ (name, record { entry = Entry.Arity kind; kind = Some kind; made = None }) ∷ []

-- how far an environment had come
abbrev pub mark_of : List (NameId × Declared) → EnvMark
mark_of ds = record { entries = length ds }

-- a refusal of a new name: it is declared, or memory ended
abbrev pub TakenOr : List (NameId × Declared) → NameId → EnvFault → Type 0
TakenOr ds x e = ((e ≡ EnvFault.NameTaken x) × (d : Declared) × (declared_of ds x ≡ Some d)) ⊎ (e ≡ EnvFault.NoMemory)

-- whether two sorts are one
abbrev pub is_sort : Universe → Universe → Bool
is_sort Universe.Base Universe.Base = true
is_sort Universe.Base (Universe.Level j) = false
is_sort (Universe.Level i) Universe.Base = false
is_sort (Universe.Level i) (Universe.Level j) = i == j

-- the type that stands beside a sort
abbrev pub type_into : List (Universe × TermId) → Universe → Option TermId
type_into [] s = None
type_into (e ∷ es) s = if is_sort e.0 s then Some e.1 else type_into es s

-- the type of a family's eliminator into a sort, as it is kept
abbrev pub eliminator_in : Option Made → Universe → Option TermId
eliminator_in None s = None
eliminator_in (Some m) s = type_into m.eliminators.items s

abbrev pub eliminator_at : List (NameId × Declared) → NameId → Universe → Option TermId
eliminator_at ds x s = eliminator_in (made_at ds x) s
