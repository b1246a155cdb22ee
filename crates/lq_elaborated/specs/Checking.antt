-- The work of a term that is checked, with its type.
use Rattle.std.specs.Prelude.{ℕ, zero, suc, [], ◌∷◌, None, Result, Ok, Err}
use Rattle.lq_trees.specs.Tree.{Tree, Context}
use Rattle.lq_trees.specs.Ticks.{gives, fails, ◌>>=◌, done, ComesTo}
use Rattle.lq_calculus.specs.Declarations.{Env as Environment}
use Rattle.lq_ast.specs.Syntax.{Surface}
use Rattle.lq_terms.specs.Terms.{Terms, HasTerm, tree_of}
use Rattle.lq_solving.specs.Elaboration.{Found, made_between}
use Rattle.lq_solving.specs.Stores.{Store, read}
use Rattle.lq_texts.specs.Causes.{unresolved}
use Rattle.lq_sessions.specs.Sessions.{Work, open_among}
use Rattle.lq_sessions.specs.Declaring.{term_work, fitting_work}
use Rattle.lq_causes.specs.declared.stops.Stop.{Stop}
use Rattle.lq_causes.specs.Stopping.{Stops}
use Rattle.lq_elaborated.specs.declared.terms.Typed.{Typed}

-- no variable that was made since may be without a value
abbrev pub made_work : Store → Store → Work (Unit {0})
made_work s s1 = elim (open_among s1 (made_between s s1)) as (λ z. Work (Unit {0})) [ zero ↦ gives tt | suc n ↦ fails (unresolved (suc n)) ]

-- what was found, as it reads: the term and its type
abbrev pub typed_work : Store → Found → ℕ → Work (Tree × Tree)
typed_work s f n = made_work s f.store >>= λ ok. fitting_work f.store (f.term ∷ f.kind ∷ []) >>= λ ok2. gives (read f.store f.term, read f.store f.kind)

-- a term in a context over a store, and its type
abbrev pub checked_work : Environment → Context → Store → Surface → ℕ → Work (Tree × Tree)
checked_work env g s t n = term_work env n g s t None >>= λ f. typed_work s f n

abbrev pub trees_of : Terms → Typed → Tree × Tree
trees_of bank e = (tree_of bank e.term, tree_of bank e.kind)

-- what was found is read, or what stops it is told
abbrev pub ReadsFound : Terms → Result Typed Stop → Store → Found → Type 0
ReadsFound bank (Ok e) s f = HasTerm bank e.term × HasTerm bank e.kind × ((left : ℕ) → ComesTo (typed_work s f) left (done (trees_of bank e) left))
ReadsFound bank (Err stop) s f = (left : ℕ) → Stops bank stop (typed_work s f) left left

-- the work comes to the term and its type, or what stops it is told
abbrev pub Checks : Terms → Result Typed Stop → (ℕ → Work (Tree × Tree)) → (budget left : ℕ) → Type 0
Checks bank (Ok e) f b left = HasTerm bank e.term × HasTerm bank e.kind × ComesTo f b (done (trees_of bank e) left)
Checks bank (Err stop) f b left = Stops bank stop f b left
