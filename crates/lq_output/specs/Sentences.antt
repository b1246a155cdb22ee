-- What a sentence does.
use Rattle.std.specs.Prelude.{ℕ, true, List, [], ◌∷◌, ◌++◌, Option, Some, None, Result, Ok, Err, codes, decimal}
use Rattle.lq_trees.specs.Tree.{Name, Tree}
use Rattle.lq_trees.specs.Ticks.{Outcome, done, failed, steps_out, under_budget}
use Rattle.lq_calculus.specs.Declarations.{Env, lookup}
use Rattle.lq_calculus.specs.Checking.{KernelFault, mismatch, Kernel, sort_of, declare_constant}
use Rattle.lq_output.specs.Grammar.{Surface, Sentence, theorem, proof, tactics, qed, read}
use Rattle.lq_output.specs.Steps.{resolved, Proof, goal, finished, after_tactics}
use Rattle.lq_output.specs.Printing.{term_text}
use Rattle.lq_output.specs.Faults.{Fault, not_built, differs, open_goals}

-- where a script stands: between theorems, or inside one, behind its statement, its `Proof` or its tactics
pub data Place : Type 0 where
  outside : Place
  stated : Name → Tree → Place
  begun : Name → Tree → Place
  worked : Name → Tree → Proof → Place

-- the declarations so far, and where the script stands
pub record State : Type 0 where
  pub env : Env
  pub place : Place

-- a fault of the kernel as a fault of a sentence
unfoldable pub told : KernelFault → Fault
told (mismatch found wanted) = differs found wanted
told _ = not_built

-- an outcome as that of a sentence: a budget that is spent is one of the other faults
unfoldable pub ended : {A : Type 0} → Outcome KernelFault A → Result A Fault
ended (done a left) = Ok a
ended (failed f left) = Err (told f)
ended steps_out = Err not_built

-- what work of the kernel comes to under a budget
unfoldable pub comes_to : {A : Type 0} → ℕ → (ℕ → Kernel A) → Result A Fault
comes_to budget f = ended (under_budget f budget)

-- `Theorem x : A`: x is new, the names of A are known, and A has a sort
unfoldable pub with_sort : {S : Type 0} → Env → Name → Tree → Result S Fault → Result (List ℕ × State) Fault
with_sort env x A (Ok s) = Ok ([], record { env = env; place = stated x A })
with_sort env x A (Err f) = Err f

unfoldable pub with_tree : ℕ → Env → Name → Option Tree → Result (List ℕ × State) Fault
with_tree budget env x (Some A) = with_sort env x A (comes_to budget (λ n. sort_of env n [] A))
with_tree budget env x None = Err not_built

unfoldable pub stating : ℕ → Env → Name → Surface → Result (List ℕ × State) Fault
stating budget env x A = elim (lookup env x) [ Some e ↦ Err not_built | None ↦ with_tree budget env x (resolved env [] A) ]

-- tactics, from the goal that is the statement
unfoldable pub proving : Env → Name → Tree → Result Proof Fault → Result (List ℕ × State) Fault
proving env x A (Ok p) = Ok ([], record { env = env; place = worked x A p })
proving env x A (Err f) = Err f

-- what is written for a theorem that is accepted
unfoldable pub defined : Name → List ℕ
defined x = x ++ codes " is defined" ++ 10 ∷ []

unfoldable pub declared : Name → Result Env Fault → Result (List ℕ × State) Fault
declared x (Ok env) = Ok (defined x, record { env = env; place = outside })
declared x (Err f) = Err f

-- `Qed`: no goal is open, and the kernel accepts the finished term as an opaque constant
unfoldable pub closing_proof : ℕ → Env → Name → Tree → Proof → Result (List ℕ × State) Fault
closing_proof budget env x A (goal g T) = Err (open_goals 1)
closing_proof budget env x A (finished t) = declared x (comes_to budget (λ n. declare_constant env n x A t true))

-- a sentence in its place, with that budget of the kernel: what it writes and the state after it, or its fault
unfoldable pub doing : ℕ → Env → Place → Sentence → Result (List ℕ × State) Fault
doing budget env outside (theorem x A) = stating budget env x A
doing budget env (stated x A) proof = Ok ([], record { env = env; place = begun x A })
doing budget env (begun x A) (tactics ts) = proving env x A (after_tactics env (goal [] A) ts)
doing budget env (worked x A p) qed = closing_proof budget env x A p
doing budget env _ _ = Err not_built

-- the text of a sentence, without its dot, with that budget of the kernel
unfoldable pub sentence : ℕ → State → List ℕ → Result (List ℕ × State) Fault
sentence budget s p = elim (read p) [ Some x ↦ doing budget s.env s.place x | None ↦ Err not_built ]

unfoldable pub fault_text : Fault → List ℕ
fault_text not_built = codes "not built"
fault_text (differs found wanted) = codes "found " ++ term_text found ++ codes ", wanted " ++ term_text wanted
fault_text (open_goals k) = codes "open goals: " ++ decimal k
