-- What a step of inference over a store tells.
use Rattle.std.specs.Prelude.{◌≡◌, ℕ, suc, List, ◌∷◌, Option, None, Some, Result, Ok, Err}
use Rattle.lq_trees.specs.Tree.{Tree}
use Rattle.lq_trees.specs.Tree.Tree.{Rel, Var, Sort, Prod, Lam, Let, App, Const, Ind, Ctor, Elim, Evar}
use Rattle.lq_terms.specs.declared.nodes.Hypothesis.{Hypothesis}
use Rattle.lq_terms.specs.declared.nodes.TermId.{TermId}
use Rattle.lq_terms.specs.Terms.{Terms, HasTerm, tree_of}
use Rattle.lq_calculus.specs.Declarations.{Env as Environment}
use Rattle.lq_calculus.specs.Checking.{Kernel}
use Rattle.lq_kernel.specs.declared.faults.KernelFault.{KernelFault}
use Rattle.lq_kernel.specs.Answers.{Refuses}
use Rattle.lq_solving.specs.Stores.{Assigned, find_value}
use Rattle.lq_evars.specs.Places.{Places}
use Rattle.lq_typing.specs.declared.waiting.Frame.{Frame}
use Rattle.lq_typing.specs.declared.waiting.Turn.{Turn}
use Rattle.lq_typing.specs.Typing.{Part, product_domain, product_rest, function_domain, function_rest, definition_kind, definition_value, definition_rest, applied_function, applied_argument, Leads}
use Rattle.lq_typing.specs.Frames.{part_of, HasFrame, turn_work, IsTurn, next_of}

-- the work goes on at a turn with the ticks that are left, or the refusal is true
abbrev pub Goes : Terms → Places → Environment → List Hypothesis → List Frame → Result Turn KernelFault → (ℕ → Kernel Tree) → (budget left : ℕ) → Type 0
Goes bank p E hs fs (Ok turn) f b left = IsTurn bank p hs fs turn × Leads f (turn_work bank p E hs fs turn) b left
Goes bank p E hs fs (Err e) f b left = Refuses bank e f b left

-- the same where there may be nothing to go on with: then the last turn stands
abbrev pub GoesOn : Terms → Places → Environment → List Hypothesis → List Frame → Turn → Result (Option Turn) KernelFault → (ℕ → Kernel Tree) → (budget left : ℕ) → Type 0
GoesOn bank p E hs fs last (Ok o) f b left = IsTurn bank p hs fs (next_of o last) × Leads f (turn_work bank p E hs fs (next_of o last)) b left
GoesOn bank p E hs fs last (Err e) f b left = Refuses bank e f b left

-- a type that was found is what comes next
abbrev pub turn_found : Result TermId KernelFault → Result Turn KernelFault
turn_found (Ok t) = Ok (Turn.Found t)
turn_found (Err e) = Err e

-- a term is no variable that has a value
abbrev pub IsOpen : List Assigned → Tree → Type 0
IsOpen as_ (Rel i) = Unit {0}
IsOpen as_ (Var x) = Unit {0}
IsOpen as_ (Sort s) = Unit {0}
IsOpen as_ (Prod x A B) = Unit {0}
IsOpen as_ (Lam x A t) = Unit {0}
IsOpen as_ (Let x v A t) = Unit {0}
IsOpen as_ (App f a) = Unit {0}
IsOpen as_ (Const c) = Unit {0}
IsOpen as_ (Ind c) = Unit {0}
IsOpen as_ (Ctor c k) = Unit {0}
IsOpen as_ (Elim c s) = Unit {0}
IsOpen as_ (Evar n ts) = find_value as_ n ≡ None

-- a term has no part whose type is asked for
abbrev pub IsSingle : Tree → Type 0
IsSingle (Rel i) = Unit {0}
IsSingle (Var x) = Unit {0}
IsSingle (Sort s) = Unit {0}
IsSingle (Prod x A B) = ⊥
IsSingle (Lam x A t) = ⊥
IsSingle (Let x v A t) = ⊥
IsSingle (App f a) = ⊥
IsSingle (Const c) = Unit {0}
IsSingle (Ind c) = Unit {0}
IsSingle (Ctor c k) = Unit {0}
IsSingle (Elim c s) = Unit {0}
IsSingle (Evar n ts) = Unit {0}

-- a term is typed alike everywhere
abbrev pub IsDeclared : Tree → Type 0
IsDeclared (Rel i) = ⊥
IsDeclared (Var x) = ⊥
IsDeclared (Sort s) = Unit {0}
IsDeclared (Prod x A B) = ⊥
IsDeclared (Lam x A t) = ⊥
IsDeclared (Let x v A t) = ⊥
IsDeclared (App f a) = ⊥
IsDeclared (Const c) = Unit {0}
IsDeclared (Ind c) = Unit {0}
IsDeclared (Ctor c k) = Unit {0}
IsDeclared (Elim c s) = Unit {0}
IsDeclared (Evar n ts) = ⊥

-- the type of a term is found by that of its part first, for which this waits then
abbrev pub AsksFor : Part → (part whole : Tree) → Type 0
AsksFor (product_domain x A B) a t = (t ≡ Prod x A B) × (a ≡ A)
AsksFor (product_rest u) a t = ⊥
AsksFor (function_domain x A u) a t = (t ≡ Lam x A u) × (a ≡ A)
AsksFor (function_rest x y A) a t = ⊥
AsksFor (definition_kind x v A u) a t = (t ≡ Let x v A u) × (a ≡ A)
AsksFor (definition_value x v A u) a t = ⊥
AsksFor (definition_rest y v) a t = ⊥
AsksFor (applied_function b) a t = t ≡ App a b
AsksFor (applied_argument b D R) a t = ⊥

-- a frame and the part that it waits for, if the term has one
pub record HasFirst (bank : Terms) (p : Frame × TermId) (t : TermId) : Type 0 where
  pub frame : HasFrame bank p.0
  pub part : HasTerm bank p.1
  pub asks : AsksFor (part_of bank p.0) (tree_of bank p.1) (tree_of bank t)

abbrev pub FirstOf : Terms → Option (Frame × TermId) → TermId → Type 0
FirstOf bank None t = IsSingle (tree_of bank t)
FirstOf bank (Some p) t = HasFirst bank p t

-- a part is asked for once a tick is paid: a frame waits then
abbrev pub Pays : Result Turn KernelFault → Frame → TermId → (old new : List Frame) → (budget left : ℕ) → Type 0
Pays (Ok turn) frame part old new b left = (turn ≡ Turn.Ask part) × (new ≡ frame ∷ old) × (b ≡ suc left)
Pays (Err KernelFault.StepsOut) frame part old new b left = (b ≡ 0) × (left ≡ 0)
Pays (Err KernelFault.NoMemory) frame part old new b left = Unit {0}
Pays (Err (KernelFault.Unbound x)) frame part old new b left = ⊥
Pays (Err (KernelFault.NotAProduct t)) frame part old new b left = ⊥
Pays (Err (KernelFault.NotASort t)) frame part old new b left = ⊥
Pays (Err (KernelFault.Mismatch t u)) frame part old new b left = ⊥
Pays (Err KernelFault.NoSortAbove) frame part old new b left = ⊥
Pays (Err (KernelFault.HasVariable n)) frame part old new b left = ⊥
Pays (Err (KernelFault.TooBig x k)) frame part old new b left = ⊥
Pays (Err KernelFault.TooLarge) frame part old new b left = ⊥
Pays (Err KernelFault.TooDeep) frame part old new b left = ⊥
Pays (Err (KernelFault.Env e)) frame part old new b left = ⊥
