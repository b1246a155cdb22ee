-- The work of a family's arity, once it is elaborated.
use Rattle.std.specs.Prelude.{◌≡◌, ℕ, List, [], ◌∷◌, ◌++◌, Result, Ok, Err}
use Rattle.std.specs.List.{AllByRecursion}
use Rattle.lq_trees.specs.Tree.{Name, Tree, Context}
use Rattle.lq_calculus.specs.Declarations.{Env as Environment, arity}
use Rattle.lq_ast.specs.Syntax.{Surface}
use Rattle.lq_trees.specs.Ticks.{gives, ◌>>=◌, done, ComesTo}
use Rattle.lq_terms.specs.declared.nodes.NameId.{NameId}
use Rattle.lq_terms.specs.declared.nodes.TermId.{TermId}
use Rattle.lq_terms.specs.Terms.{Terms, HasName, IsTerm, text_of, tree_of}
use Rattle.lq_env.specs.Families.{constructors_of}
use Rattle.lq_evars.specs.Places.{Places, store_of, HasStore}
use Rattle.lq_goals.specs.Seen.{IsReadable}
use Rattle.lq_solving.specs.Elaboration.{Found as Elaborated, found}
use Rattle.lq_solving.proofs.ElabKept.{Grown}
use Rattle.lq_declaring.specs.Families.{CanReadIt, family_rest}
use Rattle.lq_solving.specs.Stores.{Store, read}
use Rattle.lq_sessions.specs.Sessions.{Work}
use Rattle.lq_sessions.specs.Declaring.{Row, row_of, solved_work, constructors_work}
use Rattle.lq_declaring.specs.declared.rows.Row.{Row as Found}
use Rattle.lq_declaring.specs.Rows.{IsRow, row_in}
use Rattle.lq_causes.specs.declared.stops.Stop.{Stop}
use Rattle.lq_causes.specs.Stopping.{Stops}

-- the row of an arity as it reads, and then no variable may be without a value
abbrev pub row_work : Store → Tree → (parameters : ℕ) → ℕ → Work Row
row_work s t k n = row_of k (read s t) >>= λ r. solved_work s >>= λ ok. gives r

-- an arity as it reads and its row, where each variable has a value
pub record IsArity (bank : Terms) (s : Store) (t : Tree) (k : ℕ) (p : TermId × Found) : Type 0 where
  pub read_is : IsTerm bank p.0 (read s t)
  pub row : IsRow bank p.1
  pub row_is : row_of k (read s t) ≡ gives (row_in bank p.1)
  pub solved : solved_work s ≡ gives tt

-- that, or what stops it is told
abbrev pub ReadsRow : Terms → Result (TermId × Found) Stop → Store → Tree → (parameters : ℕ) → Type 0
ReadsRow bank (Ok p) s t k = IsArity bank s t k p
ReadsRow bank (Err stop) s t k = (left : ℕ) → Stops bank stop (row_work s t k) left left

-- a constructor that was elaborated: its name, and its type over a store that has grown
pub record IsConstructor (bank : Terms) (old : Store) (s : Places) (x : Name) (f : ℕ → Work Elaborated) (budget left : ℕ) (p : NameId × TermId) : Type 0 where
  pub store : HasStore bank s
  pub grown : Grown old (store_of bank s)
  pub name : HasName bank p.0
  pub name_is : text_of bank p.0 ≡ x
  pub readable : IsReadable bank s p.1
  pub kind : Tree
  pub work : ComesTo f budget (done (found (store_of bank s) (tree_of bank p.1) kind) left)

-- that, or what stops it is told
abbrev pub FindsConstructor : Terms → Store → Places → Result (NameId × TermId) Stop → Name → (ℕ → Work Elaborated) → (budget left : ℕ) → Type 0
FindsConstructor bank old s (Ok p) x f b left = IsConstructor bank old s x f b left p
FindsConstructor bank old s (Err stop) x f b left = Stops bank stop f b left

-- constructors that were elaborated one after the other, over a store that has grown
pub record AreConstructors (bank : Terms) (old : Store) (s : Places) (f : ℕ → Work (Store × List (Name × Tree))) (budget left : ℕ) (cs : List (NameId × TermId)) : Type 0 where
  pub store : HasStore bank s
  pub grown : Grown old (store_of bank s)
  pub readable : AllByRecursion (CanReadIt bank s) cs
  pub work : ComesTo f budget (done (store_of bank s, constructors_of bank cs) left)

-- those, or what stops them is told
abbrev pub FindsConstructors : Terms → Store → Places → Result (List (NameId × TermId)) Stop → (ℕ → Work (Store × List (Name × Tree))) → (budget left : ℕ) → Type 0
FindsConstructors bank old s (Ok cs) f b left = AreConstructors bank old s f b left cs
FindsConstructors bank old s (Err stop) f b left = Stops bank stop f b left

-- what stands behind an arity that is read: the constructors with the family in the environment, and then the family
abbrev pub constructed_work : Environment → Name → (parameters : ℕ) → Store → Tree → (kind : Tree) → Context → List (Name × Surface) → ℕ → Work Environment
constructed_work env x k s t r ps cs n = constructors_work (env ++ (x, arity r) ∷ []) n ps s cs >>= λ c. family_rest env x k c.0 t c.1 n

-- what stands behind an elaborated arity: its row, a look at the store's variables, and the rest
abbrev pub arity_work : Environment → Name → (parameters : ℕ) → Store → Tree → List (Name × Surface) → ℕ → Work Environment
arity_work env x k s t cs n = row_of k (read s t) >>= λ r. solved_work s >>= λ ok. constructed_work env x k s t (read s t) r.parameters cs n
