-- What is asked of a declaration, and what the steps of declaring a family tell.
use Rattle.std.specs.Prelude.{◌≡◌, ◌<◌, ℕ, zero, suc, Bool, true, false, List, [], ◌∷◌, ◌++◌, length, None, Result, Ok, Err}
use Rattle.std.specs.List.{AllByRecursion}
use Rattle.lq_trees.specs.declared.Sort.{Sort as Universe}
use Rattle.lq_trees.specs.Tree.{Name, Tree, Hypothesis as TreeHypothesis, Context}
use Rattle.lq_trees.specs.Index.{Within}
use Rattle.lq_trees.specs.Fresh.{is_listed}
use Rattle.lq_trees.specs.Ticks.{gives, ◌>>=◌, done, ComesTo}
use Rattle.lq_terms.specs.Terms.{Terms, HasName, text_of, tree_of}
use Rattle.lq_calculus.specs.Declarations.{Env as Environment, Family as TreeFamily, EnvFault as Fault, arity, family_type, family_entries, first_fault, constructors_fault, first_stored, stored_types, is_small, permitted, sorts}
use Rattle.lq_calculus.specs.Typing.{first_big}
use Rattle.lq_calculus.specs.Checking.{Kernel, sort_of, domain_sorts, not_big, sorts_of, check_constructors, no_env_fault, declare_constant, declare_family}
use Rattle.lq_env.specs.declared.family.Family.{Family}
use Rattle.lq_env.specs.declared.family.EnvFault.{EnvFault}
use Rattle.lq_env.specs.declared.environment.Declared.{Declared}
use Rattle.lq_env.specs.Families.{HasFamily, family_of, names_behind}
use Rattle.lq_env.specs.Environments.{Adds}
use Rattle.lq_terms.specs.declared.nodes.NameId.{NameId}
use Rattle.lq_kernel.specs.declared.faults.KernelFault.{KernelFault}
use Rattle.lq_kernel.specs.declared.declaration.Declaration.{Declaration}
use Rattle.lq_kernel.specs.Closed.{IsScoped}
use Rattle.lq_kernel.specs.Answers.{Refuses}
use Rattle.lq_kernel.specs.Steps.{refusal}

-- a hypothesis behind those names, as it is offered: its own is new, it has no body, its type has no loose bound variables
pub record IsOfferedNext (names : List Name) (h : TreeHypothesis) : Type 0 where
  pub new : is_listed names h.name ≡ false
  pub bodiless : h.body ≡ None
  pub within : Within 0 h.kind

-- a context behind those names, as it is offered
abbrev pub IsOfferedBehind : List Name → Context → Type 0
IsOfferedBehind names [] = Unit {0}
IsOfferedBehind names (h ∷ g) = IsOfferedNext names h × IsOfferedBehind (h.name ∷ names) g

-- What the callers promise of a family's trees: parameters and indices have distinct names and no bodies; no type has loose
-- bound variables; no list has more than 4,294,967,295 entries.
pub record IsOfferedTree (f : TreeFamily) : Type 0 where
  pub parameters : IsOfferedBehind [] f.parameters
  pub indices : IsOfferedBehind (names_behind [] f.parameters) f.indices
  pub constructors : AllByRecursion (λ c. Within 0 c.1) f.constructors
  pub few_parameters : length f.parameters < 4294967296
  pub few_indices : length f.indices < 4294967296
  pub few_constructors : length f.constructors < 4294967296

-- the bank has the family, and it is as the callers promise
pub record IsOffered (bank : Terms) (f : Family) : Type 0 where
  pub has : HasFamily bank f
  pub tree : IsOfferedTree (family_of bank f)

-- what the callers promise of a declaration: it lies in the bank, and its types and its body have no loose bound variables
abbrev pub IsDeclaration : Terms → Declaration → Type 0
IsDeclaration bank (Declaration.Constant x A t opaque) = HasName bank x × IsScoped bank 0 A × IsScoped bank 0 t
IsDeclaration bank (Declaration.Inductive f) = IsOffered bank f

-- what is kept of a declaration's checks: by a constant the bank has the nodes that it had
abbrev pub Drops : (old new : Terms) → Declaration → Type 0
Drops old new (Declaration.Constant x A t opaque) = new.nodes ≡ old.nodes
Drops old new (Declaration.Inductive f) = Unit {0}

-- the work of a declaration
abbrev pub declare : Terms → Environment → ℕ → Declaration → Kernel Environment
declare bank env n (Declaration.Constant x A t opaque) = declare_constant env n (text_of bank x) (tree_of bank A) (tree_of bank t) opaque
declare bank env n (Declaration.Inductive f) = declare_family env n (family_of bank f)

-- a product of a sort with itself, a product of that with itself, and so on
unfoldable pub doubled : Name → ℕ → Tree
doubled x zero = Tree.Sort Universe.Base
doubled x (suc n) = Tree.Prod x (doubled x n) (doubled x n)

-- so many products one behind the other
unfoldable pub chained : Name → ℕ → Tree
chained x zero = Tree.Sort Universe.Base
chained x (suc n) = Tree.Prod x (Tree.Sort Universe.Base) (chained x n)

-- the check of a constructor: a sort for its type, then the sizes of its arguments; the answer is their sorts
unfoldable pub constructor_work : Environment → ℕ → Context → Universe → Name → Tree → Kernel (List Universe)
constructor_work env n g s x t = sort_of env n g t >>= λ k. not_big x (first_big s 1 (domain_sorts env n g t)) >>= λ ok. gives (domain_sorts env n g t)

-- the check of a family's constructors, with its arity in the environment
unfoldable pub constructors_work : Environment → TreeFamily → ℕ → Kernel (List (List Universe))
constructors_work env f n = check_constructors (env ++ ((f.name, arity (family_type f)) ∷ [])) n f f.constructors

-- the checks of a family from the sorts of its parameters and indices on
unfoldable pub from_sorts : Environment → TreeFamily → ℕ → Kernel (List (List Universe))
from_sorts env f n = sorts_of env n [] (f.parameters ++ f.indices) >>= λ ok. constructors_work env f n

-- the last tests of a family, by the sorts of its constructors' arguments, and the environment with it
unfoldable pub from_tests : Environment → TreeFamily → List (List Universe) → Kernel Environment
from_tests env f found =
    no_env_fault (first_fault (constructors_fault f f.constructors) (first_stored (stored_types f (permitted f.sort found)))) >>= λ ok.
    gives (env ++ family_entries f (permitted f.sort found))

-- the look at a family's names is passed, or its refusal is that of the whole declaration
abbrev pub LooksOver : Terms → Result (Unit {0}) KernelFault → Environment → TreeFamily → Type 0
LooksOver bank (Ok ok) env f = (n : ℕ) → declare_family env n f ≡ (from_sorts env f n >>= λ found. from_tests env f found)
LooksOver bank (Err e) env f = (b : ℕ) → Refuses bank e (λ n. declare_family env n f) b b

-- the sorts that the work comes to, and whether a family in Prop with them is eliminated into every sort
pub record IsFound (small : Bool) (f : ℕ → Kernel (List (List Universe))) (budget left : ℕ) : Type 0 where
  pub found : List (List Universe)
  pub comes : ComesTo f budget (done found left)
  pub is : small ≡ is_small found

abbrev pub FindsSmall : Terms → Result Bool KernelFault → (ℕ → Kernel (List (List Universe))) → (budget left : ℕ) → Type 0
FindsSmall bank (Ok small) f b left = IsFound small f b left
FindsSmall bank (Err e) f b left = Refuses bank e f b left

-- the checks of a family are passed, and the declaration goes on with the last tests; or their refusal is that of the whole declaration
abbrev pub ChecksFamily : Terms → Result Bool KernelFault → Environment → TreeFamily → (budget left : ℕ) → Type 0
ChecksFamily bank (Ok small) env f b left = IsFound small (from_sorts env f) b left × ((n : ℕ) → declare_family env n f ≡ (from_sorts env f n >>= λ found. from_tests env f found))
ChecksFamily bank (Err e) env f b left = Refuses bank e (λ n. declare_family env n f) b left

-- all sorts, or Prop alone
abbrev pub IsEverywhere : Bool → List Universe → Type 0
IsEverywhere true ss = ss ≡ sorts
IsEverywhere false ss = ss ≡ Universe.Base ∷ []

-- the fault of the kernel that tells one of the environment
pub record TellsFault (bank : Terms) (e : KernelFault) (new : List (NameId × Declared)) (r : Result Environment Fault) : Type 0 where
  pub fault : EnvFault
  pub is : e ≡ refusal fault
  pub adds : Adds bank (Err fault) new r

-- the environment takes a family, or the kernel's fault is the environment's
abbrev pub AddsFamily : Terms → Result (Unit {0}) KernelFault → List (NameId × Declared) → Result Environment Fault → Type 0
AddsFamily bank (Ok ok) new r = Adds bank (Ok tt) new r
AddsFamily bank (Err e) new r = TellsFault bank e new r
