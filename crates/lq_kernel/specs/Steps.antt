-- What the steps of the kernel's work tell.
use Rattle.std.specs.Prelude.{◌≡◌, ◌+◌, ℕ, suc, List, [], ◌∷◌, map, reverse, Bool, false, Option, Some, None, Result, Ok, Err}
use Rattle.lq_trees.specs.declared.Sort.{Sort as Universe}
use Rattle.lq_trees.specs.declared.Fit.{Fit}
use Rattle.lq_trees.specs.Tree.{Name, Tree, Hypothesis as TreeHypothesis, Context}
use Rattle.lq_trees.specs.Index.{Within}
use Rattle.lq_trees.specs.Size.{size, fit}
use Rattle.lq_trees.specs.Ticks.{Paid, gives, fails, cut, tick, ◌>>=◌, done, ComesTo}
use Rattle.lq_terms.specs.declared.nodes.NameId.{NameId}
use Rattle.lq_terms.specs.declared.nodes.TermId.{TermId}
use Rattle.lq_terms.specs.declared.nodes.Hypothesis.{Hypothesis}
use Rattle.lq_terms.specs.declared.change.SizeFault.{SizeFault}
use Rattle.lq_terms.specs.Terms.{Terms, HasName, HasTerm, IsTerm, text_of, tree_of}
use Rattle.lq_terms.specs.Contexts.{hypothesis_of}
use Rattle.lq_reduce.specs.declared.faults.ReduceFault.{ReduceFault}
use Rattle.lq_env.specs.declared.family.EnvFault.{EnvFault}
use Rattle.lq_calculus.specs.Declarations.{Env as Environment}
use Rattle.lq_calculus.specs.Typing.{is_product}
use Rattle.lq_calculus.specs.Checking.{Kernel, unbound, as_sort, as_product, needed_form, matching, strange}
use Rattle.lq_inference.specs.Inference.{Open, matching_by, infer_by}
use Rattle.lq_kernel.specs.declared.faults.KernelFault.{KernelFault}
use Rattle.lq_kernel.specs.Answers.{Refuses}
use Rattle.lq_kernel.specs.Closed.{IsScoped, IsHypothesis}

-- a term without loose bound variables that stands for the tree, which is within the limits
pub record IsType (bank : Terms) (t : TermId) (tree : Tree) : Type 0 where
  pub term : IsTerm bank t tree
  pub within : Within 0 tree
  pub fits : fit tree ≡ Fit.Fits

-- the type that the work comes to
abbrev pub Types : Terms → Result TermId KernelFault → (ℕ → Kernel Tree) → (budget left : ℕ) → Type 0
Types bank (Ok t) f b left = IsType bank t (tree_of bank t) × ComesTo f b (done (tree_of bank t) left)
Types bank (Err e) f b left = Refuses bank e f b left

-- the sort that the work comes to
abbrev pub Sorts : Terms → Result Universe KernelFault → (ℕ → Kernel Universe) → (budget left : ℕ) → Type 0
Sorts bank (Ok s) f b left = ComesTo f b (done s left)
Sorts bank (Err e) f b left = Refuses bank e f b left

-- the yes or no that the work comes to
abbrev pub Answers : Terms → Result Bool KernelFault → (ℕ → Kernel Bool) → (budget left : ℕ) → Type 0
Answers bank (Ok same) f b left = ComesTo f b (done same left)
Answers bank (Err e) f b left = Refuses bank e f b left

-- the domain and the rest of the product that the work comes to
pub record IsProduct (bank : Terms) (p : TermId × TermId) : Type 0 where
  pub domain : IsScoped bank 0 p.0
  pub rest : IsScoped bank 1 p.1

abbrev pub Products : Terms → Result (TermId × TermId) KernelFault → (ℕ → Kernel (Tree × Tree)) → (budget left : ℕ) → Type 0
Products bank (Ok p) f b left = IsProduct bank p × ComesTo f b (done (tree_of bank p.0, tree_of bank p.1) left)
Products bank (Err e) f b left = Refuses bank e f b left

-- inference where a caller gives the types of variables: the sort of a term, the term against a type, and against one that was written
unfoldable pub sort_by : Open → Environment → ℕ → Context → Tree → Kernel Universe
sort_by o env n g A = infer_by o env n g A >>= λ K. needed_form env n g K >>= as_sort

unfoldable pub check_by : Open → Environment → ℕ → Context → Tree → Tree → Kernel (Unit {0})
check_by o env n g t A = infer_by o env n g t >>= λ B. matching env n g B A

unfoldable pub written_by : Open → Environment → ℕ → Context → Tree → Tree → Kernel (Unit {0})
written_by o env n g t A = infer_by o env n g t >>= λ B. matching_by o env n g B A

-- the product that the type of a function must be
unfoldable pub product_of : Open → Environment → ℕ → Context → Tree → Kernel (Tree × Tree)
product_of o env n g f = infer_by o env n g f >>= λ F. needed_form env n g F >>= as_product

-- what inference does behind the tick of a node
unfoldable pub behind : {F A : Type 0} → Paid F A → Paid F A
behind (gives a) = gives a
behind (fails f) = fails f
behind cut = cut
behind (tick r) = r

unfoldable pub inside_of : Open → Environment → Context → Tree → ℕ → Kernel Tree
inside_of o env g t n = behind (infer_by o env (suc n) g t)

-- the tree is a variable with an instance
abbrev pub IsUnknown : Tree → Type 0
IsUnknown (Tree.Evar k ts) = Unit {0}
IsUnknown (Tree.Rel i) = ⊥
IsUnknown (Tree.Var x) = ⊥
IsUnknown (Tree.Sort s) = ⊥
IsUnknown (Tree.Prod x A B) = ⊥
IsUnknown (Tree.Lam x A t) = ⊥
IsUnknown (Tree.Let x v A t) = ⊥
IsUnknown (Tree.App f a) = ⊥
IsUnknown (Tree.Const c) = ⊥
IsUnknown (Tree.Ind c) = ⊥
IsUnknown (Tree.Ctor c k) = ⊥
IsUnknown (Tree.Elim c s) = ⊥

-- a term for the tree that is within the limits, or the fault of the limit that the tree passes
abbrev pub Fitted : Terms → Result TermId KernelFault → Tree → Type 0
Fitted bank (Ok t) tree = IsTerm bank t tree × (fit tree ≡ Fit.Fits)
Fitted bank (Err KernelFault.TooLarge) tree = fit tree ≡ Fit.TooLarge
Fitted bank (Err KernelFault.TooDeep) tree = fit tree ≡ Fit.TooDeep
Fitted bank (Err KernelFault.NoMemory) tree = Unit {0}
Fitted bank (Err (KernelFault.Unbound x)) tree = ⊥
Fitted bank (Err (KernelFault.NotAProduct t)) tree = ⊥
Fitted bank (Err (KernelFault.NotASort t)) tree = ⊥
Fitted bank (Err (KernelFault.Mismatch t u)) tree = ⊥
Fitted bank (Err KernelFault.NoSortAbove) tree = ⊥
Fitted bank (Err (KernelFault.HasVariable n)) tree = ⊥
Fitted bank (Err KernelFault.StepsOut) tree = ⊥
Fitted bank (Err (KernelFault.TooBig x k)) tree = ⊥
Fitted bank (Err (KernelFault.Env e)) tree = ⊥

-- the sort that the tree is, or the fault that it is none
abbrev pub IsSortOr : Terms → Result Universe KernelFault → TermId → Type 0
IsSortOr bank (Ok s) t = tree_of bank t ≡ Tree.Sort s
IsSortOr bank (Err e) t = (e ≡ KernelFault.NotASort t) × ((s : Universe) → ¬ (tree_of bank t ≡ Tree.Sort s))

-- the parts of the product that the tree is, or the fault that it is none
pub record HasParts (bank : Terms) (p : TermId × TermId) (t : TermId) : Type 0 where
  pub binder : Name
  pub domain : HasTerm bank p.0
  pub rest : HasTerm bank p.1
  pub is : tree_of bank t ≡ Tree.Prod binder (tree_of bank p.0) (tree_of bank p.1)

abbrev pub IsProductOr : Terms → Result (TermId × TermId) KernelFault → TermId → Type 0
IsProductOr bank (Ok p) t = HasParts bank p t
IsProductOr bank (Err e) t = (e ≡ KernelFault.NotAProduct t) × ((x : Name) (A B : Tree) → ¬ (tree_of bank t ≡ Tree.Prod x A B))

-- the parts of the product that the tree is, or it is none
pub record IsSplit (bank : Terms) (p : NameId × TermId × TermId) (t : TermId) : Type 0 where
  pub binder : HasName bank p.0
  pub domain : HasTerm bank p.1
  pub rest : HasTerm bank p.2
  pub is : tree_of bank t ≡ Tree.Prod (text_of bank p.0) (tree_of bank p.1) (tree_of bank p.2)

abbrev pub IsSplitOr : Terms → Option (NameId × TermId × TermId) → TermId → Type 0
IsSplitOr bank (Some p) t = IsSplit bank p t
IsSplitOr bank None t = is_product (tree_of bank t) ≡ false

-- a hypothesis of the bank without loose bound variables, and what it stands for
pub record IsVariable (bank : Terms) (h : Hypothesis) (tree : TreeHypothesis) : Type 0 where
  pub scoped : IsHypothesis bank h
  pub is : hypothesis_of bank h ≡ tree

-- the first of two names that is there
unfoldable pub or_else : Option Name → Option Name → Option Name
or_else (Some x) o = Some x
or_else None o = o

-- the first strange hypothesis of trees, in order
unfoldable pub first_strange : List Name → List Tree → Option Name
first_strange names [] = None
first_strange names (t ∷ ts) = or_else (strange names t) (first_strange names ts)

-- the same of the terms of a stack, the last on top
unfoldable pub waiting : List Name → Terms → List TermId → Option Name
waiting names bank stack = first_strange names (map (tree_of bank) (reverse stack))

-- how large the terms of a stack are together
abbrev pub weight : (TermId → Tree) → List TermId → ℕ
weight tree [] = 0
weight tree (t ∷ ts) = size (tree t) + weight tree ts

-- the tree is a strange hypothesis, or what waits is what waited with its parts in front
abbrev pub Looked : Terms → List Name → Option NameId → Tree → (old new : List TermId) → Type 0
Looked bank names (Some x) tree old new = HasName bank x × (strange names tree ≡ Some (text_of bank x))
Looked bank names None tree old new = waiting names bank new ≡ or_else (strange names tree) (waiting names bank old)

-- no hypothesis of the tree is strange to the names, or the first that is
abbrev pub Knows : Terms → Result (Unit {0}) KernelFault → List Name → Tree → Type 0
Knows bank (Ok ok) names tree = strange names tree ≡ None
Knows bank (Err (KernelFault.Unbound x)) names tree = HasName bank x × (strange names tree ≡ Some (text_of bank x))
Knows bank (Err KernelFault.NoMemory) names tree = Unit {0}
Knows bank (Err (KernelFault.NotAProduct t)) names tree = ⊥
Knows bank (Err (KernelFault.NotASort t)) names tree = ⊥
Knows bank (Err (KernelFault.Mismatch t u)) names tree = ⊥
Knows bank (Err KernelFault.NoSortAbove) names tree = ⊥
Knows bank (Err (KernelFault.HasVariable n)) names tree = ⊥
Knows bank (Err KernelFault.StepsOut) names tree = ⊥
Knows bank (Err (KernelFault.TooBig x k)) names tree = ⊥
Knows bank (Err KernelFault.TooLarge) names tree = ⊥
Knows bank (Err KernelFault.TooDeep) names tree = ⊥
Knows bank (Err (KernelFault.Env e)) names tree = ⊥

-- a look that finds no strange hypothesis, or refuses by the first
abbrev pub KnowsAll : Terms → Result (Unit {0}) KernelFault → Kernel (Unit {0}) → Type 0
KnowsAll bank (Ok ok) look = look ≡ gives (tt {0})
KnowsAll bank (Err (KernelFault.Unbound x)) look = HasName bank x × (look ≡ fails (unbound (text_of bank x)))
KnowsAll bank (Err KernelFault.NoMemory) look = Unit {0}
KnowsAll bank (Err (KernelFault.NotAProduct t)) look = ⊥
KnowsAll bank (Err (KernelFault.NotASort t)) look = ⊥
KnowsAll bank (Err (KernelFault.Mismatch t u)) look = ⊥
KnowsAll bank (Err KernelFault.NoSortAbove) look = ⊥
KnowsAll bank (Err (KernelFault.HasVariable n)) look = ⊥
KnowsAll bank (Err KernelFault.StepsOut) look = ⊥
KnowsAll bank (Err (KernelFault.TooBig x k)) look = ⊥
KnowsAll bank (Err KernelFault.TooLarge) look = ⊥
KnowsAll bank (Err KernelFault.TooDeep) look = ⊥
KnowsAll bank (Err (KernelFault.Env e)) look = ⊥

-- the kernel's fault for a limit that is passed
abbrev pub limit_fault : SizeFault → KernelFault
limit_fault SizeFault.TooLarge = KernelFault.TooLarge
limit_fault SizeFault.TooDeep = KernelFault.TooDeep
limit_fault SizeFault.NoMemory = KernelFault.NoMemory

-- the kernel's fault for one of reduction
abbrev pub reduce_fault : ReduceFault → KernelFault
reduce_fault ReduceFault.StepsOut = KernelFault.StepsOut
reduce_fault ReduceFault.TooLarge = KernelFault.TooLarge
reduce_fault ReduceFault.TooDeep = KernelFault.TooDeep
reduce_fault ReduceFault.NoMemory = KernelFault.NoMemory

-- the kernel's fault for one of the environment
abbrev pub refusal : EnvFault → KernelFault
refusal (EnvFault.NameTaken x) = KernelFault.Env (EnvFault.NameTaken x)
refusal (EnvFault.NotPositive x k) = KernelFault.Env (EnvFault.NotPositive x k)
refusal (EnvFault.NestedUse x k) = KernelFault.Env (EnvFault.NestedUse x k)
refusal (EnvFault.BadResult x) = KernelFault.Env (EnvFault.BadResult x)
refusal (EnvFault.ElimForbidden x s) = KernelFault.Env (EnvFault.ElimForbidden x s)
refusal EnvFault.TooLarge = KernelFault.Env EnvFault.TooLarge
refusal EnvFault.TooDeep = KernelFault.Env EnvFault.TooDeep
refusal EnvFault.NoMemory = KernelFault.NoMemory
