-- The parts of a family's declaration.
use Rattle.std.specs.Prelude.{◌≡◌, ◌==◌, ◌||◌, ℕ, suc, Bool, false, List, [], ◌∷◌, ◌++◌, map, length, Option, Some, None, Result, Ok, Err}
use Rattle.std.specs.List.{AllByRecursion}
use Rattle.lq_trees.specs.declared.Sort.{Sort as Universe}
use Rattle.lq_trees.specs.Tree.{Name, Tree}
use Rattle.lq_terms.specs.declared.nodes.NameId.{NameId}
use Rattle.lq_terms.specs.declared.nodes.TermId.{TermId}
use Rattle.lq_terms.specs.declared.rules.IotaRule.{IotaRule}
use Rattle.lq_terms.specs.Terms.{Terms, HasName, text_of}
use Rattle.lq_calculus.specs.Declarations.{Family as TreeFamily, Env as Environment, EnvFault as Fault, family_type, constructor_type, eliminator_name, sorts, first_taken, declared_names, names_of, constructors_fault}
use Rattle.lq_env.specs.declared.family.Family.{Family}
use Rattle.lq_env.specs.declared.family.EnvFault.{EnvFault}
use Rattle.lq_env.specs.declared.environment.Entry.{Entry}
use Rattle.lq_env.specs.declared.environment.Declared.{Declared}
use Rattle.lq_env.specs.declared.made.FamilyTypes.{FamilyTypes}
use Rattle.lq_env.specs.Families.{Refuses}
use Rattle.lq_env.specs.Making.{arguments_kept}
use Rattle.lq_env.specs.Environments.{declared_of, IsStored, AreEliminators, IsRule, AreRules}

-- a rule tells what the definition gives of a family's constructor, and has the family's numbers
pub record TellsRule (bank : Terms) (f : TreeFamily) (k : ℕ) (r : IotaRule) : Type 0 where
  pub parameters : r.parameters ≡ length f.parameters
  pub indices : r.indices ≡ length f.indices
  pub constructors : r.constructors ≡ length f.constructors
  pub rule : IsRule bank f k r.parameters r.indices (arguments_kept r)

-- a look that finds no fault, or refuses by it
abbrev pub Passes : Terms → Result (Unit {0}) EnvFault → Option Fault → Type 0
Passes bank (Ok ok) e = e ≡ None
Passes bank (Err fault) e = Refuses bank fault e

-- the bank has the names
abbrev pub HasNames : Terms → List NameId → Type 0
HasNames bank xs = AllByRecursion (HasName bank) xs

abbrev pub texts_of : Terms → List NameId → List Name
texts_of bank xs = map (text_of bank) xs

-- the names of a list of pairs
abbrev pub firsts : {A : Type 0} → List (NameId × A) → List NameId
firsts ps = map (λ p. p.0) ps

-- an eliminator's name as text, with its sort
abbrev pub eliminator_named : Terms → NameId × Universe → Name × Universe
eliminator_named bank e = (text_of bank e.0, e.1)

-- the name of a family's eliminator into a sort, with the sort
abbrev pub eliminator_for : Name → Universe → Name × Universe
eliminator_for c s = (eliminator_name c s, s)

-- the eliminators' names of a family, with their sorts
pub record AreEliminatorNames (bank : Terms) (c : Name) (es : List (NameId × Universe)) : Type 0 where
  pub has : HasNames bank (firsts es)
  pub texts : map (eliminator_named bank) es ≡ map (eliminator_for c) sorts

-- each name is declared nowhere, nor twice among them
abbrev pub AreFree : List (NameId × Declared) → List NameId → Type 0
AreFree ds [] = Unit {0}
AreFree ds (x ∷ xs) = (declared_of ds x ≡ None) × ((v : Declared) → AreFree (ds ++ (x, v) ∷ []) xs)

-- whether a name is among those
abbrev pub among : List NameId → NameId → Bool
among [] x = false
among (y ∷ ys) x = (x.place == y.place) || among ys x

-- constructors with their whole types, from number k on, as they are declared
abbrev pub constructors_declared : NameId → ℕ → List (NameId × TermId) → List (NameId × Declared)
constructors_declared f k [] = []
constructors_declared f k (c ∷ cs) = (c.0, record { entry = Entry.Constructor f k; kind = Some c.1; made = None }) ∷ constructors_declared f (suc k) cs

-- eliminators as they are declared
abbrev pub eliminators_declared : NameId → List (NameId × Universe) → List (NameId × Declared)
eliminators_declared f es = map (λ e. (e.0, record { entry = Entry.Eliminator f e.1; kind = None; made = None })) es

-- the whole types of constructors, under their names
abbrev pub AreConstructors : Terms → TreeFamily → List (Name × Tree) → List (NameId × TermId) → Type 0
AreConstructors bank f [] [] = Unit {0}
AreConstructors bank f (c ∷ cs) (m ∷ ms) = HasName bank m.0 × (text_of bank m.0 ≡ c.0) × IsStored bank m.1 (constructor_type f c.1) × AreConstructors bank f cs ms
AreConstructors bank f _ _ = ⊥

-- what a family stores is what the definition gives
pub record AreTypes (bank : Terms) (f : TreeFamily) (ss : List Universe) (t : FamilyTypes) : Type 0 where
  pub kind : IsStored bank t.kind (family_type f)
  pub constructors : AreConstructors bank f f.constructors t.constructors.items
  pub eliminators : AreEliminators bank f ss t.made.eliminators.items
  pub rules : AreRules bank f t.made.rules

-- a family as it is declared, with its constructors and eliminators
abbrev pub family_declared : Family → List Universe → FamilyTypes → List (NameId × Universe) → List (NameId × Declared)
family_declared f ss t es =
    (f.name, record { entry = Entry.Family f ss; kind = Some t.kind; made = Some t.made }) ∷ constructors_declared f.name 0 t.constructors.items ++ eliminators_declared f.name es

-- a family may be declared: its names are new, it passes the tests, its types are made
pub record IsReady (bank : Terms) (env : Environment) (f : TreeFamily) (ss : List Universe) (es : List (NameId × Universe)) (t : FamilyTypes) : Type 0 where
  pub new : first_taken (names_of env) (declared_names f) ≡ None
  pub sound : constructors_fault f f.constructors ≡ None
  pub names : AreEliminatorNames bank f.name es
  pub types : AreTypes bank f ss t
