-- What a family asks of the kernel once its terms are elaborated.
use Rattle.std.specs.Prelude.{◌≡◌, ℕ, List, ◌∷◌, Result, Ok, Err}
use Rattle.std.specs.List.{AllByRecursion}
use Rattle.lq_trees.specs.Tree.{Name, Tree}
use Rattle.lq_trees.specs.Index.{Within}
use Rattle.lq_trees.specs.Ticks.{gives, ◌>>=◌}
use Rattle.lq_calculus.specs.Declarations.{Env as Environment}
use Rattle.lq_calculus.specs.Checking.{declare_family}
use Rattle.lq_terms.specs.declared.nodes.NameId.{NameId}
use Rattle.lq_terms.specs.declared.nodes.TermId.{TermId}
use Rattle.lq_terms.specs.Terms.{Terms, HasName, IsTerm, tree_of}
use Rattle.lq_env.specs.Families.{HasConstructor, constructors_of}
use Rattle.lq_solving.specs.Stores.{Store, read}
use Rattle.lq_evars.specs.declared.store.StoreFault.{StoreFault}
use Rattle.lq_evars.specs.Places.{Places}
use Rattle.lq_goals.specs.Seen.{IsReadable}
use Rattle.lq_sessions.specs.Sessions.{Work}
use Rattle.lq_sessions.specs.Declaring.{row_of, fitting_work, kernel_work, read_each, terms_of, family_by}
use Rattle.lq_print.specs.declared.causes.TermCause.{TermCause}
use Rattle.lq_print.specs.declared.causes.Cause.{Cause}
use Rattle.lq_causes.specs.declared.stops.Stop.{Stop}
use Rattle.lq_declaring.specs.declared.rows.RowFault.{RowFault}
use Rattle.lq_declaring.specs.Constants.{Passes, checked_first}

-- a constructor over a store: its name lies in the bank, and its type can be read
abbrev pub CanReadIt : Terms → Places → NameId × TermId → Type 0
CanReadIt bank s c = HasName bank c.0 × IsReadable bank s c.1

-- constructors with their types as they read
pub record AreRead (bank : Terms) (s : Store) (cs : List (Name × Tree)) (read : List (NameId × TermId)) : Type 0 where
  pub are : constructors_of bank read ≡ read_each s cs
  pub have : AllByRecursion (HasConstructor bank) read
  pub within : AllByRecursion (λ c. Within 0 (tree_of bank c.1)) read

-- those, or the limit that the first of them passes that passes one
abbrev pub ReadsEach : Terms → Result (List (NameId × TermId)) StoreFault → Store → List (Name × Tree) → Type 0
ReadsEach bank (Ok read) s cs = AreRead bank s cs read × (fitting_work s (terms_of cs) ≡ gives tt)
ReadsEach bank (Err e) s cs = Passes e s (terms_of cs)

-- the same with the arity in front
abbrev pub ReadsAll : Terms → Result (TermId × List (NameId × TermId)) StoreFault → Store → Tree → List (Name × Tree) → Type 0
ReadsAll bank (Ok r) s A cs = IsTerm bank r.0 (read s A) × AreRead bank s cs r.1 × (fitting_work s (A ∷ terms_of cs) ≡ gives tt)
ReadsAll bank (Err e) s A cs = Passes e s (A ∷ terms_of cs)

-- a family whose arity and constructors are elaborated
abbrev pub family_rest : Environment → Name → (parameters : ℕ) → Store → Tree → List (Name × Tree) → ℕ → Work Environment
family_rest env x k s A cs =
    checked_first s (A ∷ terms_of cs) (λ n. row_of k (read s A) >>= λ q. kernel_work (declare_family env n (family_by x q (read_each s cs))))

-- a term that is no row, as what stops a sentence
abbrev pub row_stop : RowFault → Stop
row_stop (RowFault.NotASort t) = Stop.Refused (Cause.Term (TermCause.NotASort t))
row_stop RowFault.NoMemory = Stop.NoMemory
