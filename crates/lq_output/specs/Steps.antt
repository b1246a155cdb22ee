-- Statements, and tactics on a proof.
use Rattle.std.specs.Prelude.{ℕ, suc, true, false, List, [], ◌∷◌, map, Option, Some, None, Result, Ok, Err}
use Rattle.lq_trees.specs.Tree.{Name, Tree, Context, same_name}
use Rattle.lq_trees.specs.Tree.Tree.{Rel, Var, Sort, Prod, Lam, Const}
use Rattle.lq_trees.specs.declared.Sort.{Sort as Universe}
use Rattle.lq_trees.specs.Change.{close}
use Rattle.lq_trees.specs.Fresh.{is_listed, opened, under}
use Rattle.lq_calculus.specs.Contraction.{hypothesis}
use Rattle.lq_calculus.specs.Declarations.{Env, Entry, lookup, constant}
use Rattle.lq_output.specs.Grammar.{Surface, named, prop, forall_, to, Tactic, intro, exact}
use Rattle.lq_output.specs.Alike.{alike}
use Rattle.lq_output.specs.Faults.{Fault, not_built, differs}

-- the number of the nearest binder of that name
unfoldable pub binder_of : List Name → Name → Option ℕ
binder_of [] x = None
binder_of (b ∷ bs) x = elim (same_name b x) [ true ↦ Some 0 | false ↦ elim (binder_of bs x) [ None ↦ None | Some i ↦ Some (suc i) ] ]

-- the constant of that name, with its type
unfoldable pub constant_in : Option Entry → Name → Option (Tree × Tree)
constant_in (Some (constant A t opaque)) x = Some (Const x, A)
constant_in _ x = None

unfoldable pub global : Env → Name → Option (Tree × Tree)
global env x = constant_in (lookup env x) x

-- what a name in a term stands for: the nearest binder of that name, else the constant
unfoldable pub meant : Env → List Name → Name → Option Tree
meant env bs x = elim (binder_of bs x) [ Some i ↦ Some (Rel i) | None ↦ elim (global env x) [ Some c ↦ Some c.0 | None ↦ None ] ]

-- a product of two terms that have a meaning
unfoldable pub product_of : Name → Option Tree → Option Tree → Option Tree
product_of x (Some A) (Some B) = Some (Prod x A B)
product_of x _ _ = None

-- the tree of a term as it is written, under binders of those names, the nearest first; None where a name is unknown
unfoldable pub resolved : Env → List Name → Surface → Option Tree
resolved env bs (named x) = meant env bs x
resolved env bs prop = Some (Sort Universe.Base)
resolved env bs (forall_ x A B) = product_of x (resolved env bs A) (resolved env (x ∷ bs) B)
resolved env bs (to A B) = product_of [] (resolved env bs A) (resolved env ([] ∷ bs) B)

-- a proof: one goal, with its context and its conclusion, or no goal and the finished term
pub data Proof : Type 0 where
  goal : Context → Tree → Proof
  finished : Tree → Proof

-- the function over the hypotheses of a context, the oldest outermost
unfoldable pub abstracted : Context → Tree → Tree
abstracted [] t = t
abstracted (h ∷ g) t = Lam h.name h.kind (close h.name (abstracted g t))

-- `intro x`: the goal is a product, and x is no hypothesis yet
unfoldable pub introduced : Name → Context → Tree → Result Proof Fault
introduced x g (Prod y A B) = elim (is_listed (map (λ h. h.name) g) x) [ true ↦ Err not_built | false ↦ Ok (goal (under g x A) (opened x B)) ]
introduced x g _ = Err not_built

-- what a name stands for in a proof, and its type: the hypothesis, else the constant
unfoldable pub known_as : Env → Context → Name → Option (Tree × Tree)
known_as env g x = elim (hypothesis g x) [ Some h ↦ Some (Var x, h.kind) | None ↦ global env x ]

-- `exact x`: the type of x is the conclusion, but for binders' names
unfoldable pub exactly : Context → Tree → Option (Tree × Tree) → Result Proof Fault
exactly g T None = Err not_built
exactly g T (Some f) = elim (alike f.1 T) [ true ↦ Ok (finished (abstracted g f.0)) | false ↦ Err (differs f.1 T) ]

-- one tactic; where no goal is left it does nothing
unfoldable pub after_tactic : Env → Proof → Tactic → Result Proof Fault
after_tactic env (finished t) s = Ok (finished t)
after_tactic env (goal g T) (intro x) = introduced x g T
after_tactic env (goal g T) (exact x) = exactly g T (known_as env g x)

-- tactics, one after the other; the first fault ends them
unfoldable pub after_tactics : Env → Proof → List Tactic → Result Proof Fault
after_tactics env p [] = Ok p
after_tactics env p (s ∷ ss) = elim (after_tactic env p s) [ Ok q ↦ after_tactics env q ss | Err f ↦ Err f ]
