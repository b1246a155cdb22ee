-- A script keeps its declarations derived: each accepted theorem's term has its statement as its type, by the rules.
use Rattle.std.proofs.Common.{◌≡◌, ◌∙◌, ℕ, suc, refl, ap, subst, List, [], ◌∷◌, Option, Some, None, Result, Ok, Err, true}
use Rattle.lq_trees.specs.Tree.{Name, Tree}
use Rattle.lq_trees.specs.Ticks.{Outcome, done, failed, steps_out, within, under_budget}
use Rattle.lq_calculus.specs.Declarations.{Env, Entry, lookup}
use Rattle.lq_calculus.specs.Checking.{Kernel, KernelFault, sort_of, declare_constant}
use Rattle.lq_calculus.specs.Typing.{DerivedEnv, no_entry}
use Rattle.lq_calculus.proofs.ConvSound.{Gives, done_gives}
use Rattle.lq_calculus.proofs.DeclareSound.{constant_derived}
use Rattle.lq_output.specs.Grammar.{Surface, Sentence, theorem, proof, tactics, qed, read}
use Rattle.lq_output.specs.Steps.{resolved, Proof, goal, finished, after_tactics}
use Rattle.lq_output.specs.Faults.{Fault, not_built}
use Rattle.lq_output.specs.Sentences.{Place, outside, stated, begun, worked, State, ended, comes_to, with_sort, with_tree, stating, proving, declared, closing_proof, doing, sentence}
use Rattle.lq_output.specs.Output.{start}

-- work that comes to an answer ends with it
pub comes_gives : {A : Type 0} (b : ℕ) (f : ℕ → Kernel A) (a : A) → comes_to b f ≡ Ok a → Gives (f (suc b)) a
unfolding comes_to ended under_budget
comes_gives {A} b f a e = go (within b (f (suc b))) refl e
  where
    go : (o : Outcome KernelFault A) → within b (f (suc b)) ≡ o → ended o ≡ Ok a → Gives (f (suc b)) a
    go (done c left) i e = let same : c ≡ a = cc in done_gives b (f (suc b)) a left (i ∙ ap (λ z. done z left) same)
    go (failed x left) i e = absurd cc
    go steps_out i e = absurd cc

-- the state after, if there is one, has derived declarations
abbrev pub LeavesDerived : Result (List ℕ × State) Fault → Type 0
LeavesDerived (Ok r) = DerivedEnv r.1.env
LeavesDerived (Err f) = Unit {0}

sort_derived : {S : Type 0} (env : Env) (x : Name) (A : Tree) (r : Result S Fault) → DerivedEnv env → LeavesDerived (with_sort env x A r)
unfolding with_sort
sort_derived env x A (Ok s) d = d
sort_derived env x A (Err f) d = tt

tree_derived : (n : ℕ) (env : Env) (x : Name) (o : Option Tree) → DerivedEnv env → LeavesDerived (with_tree n env x o)
unfolding with_tree
tree_derived n env x (Some A) d = sort_derived env x A (comes_to n (λ m. sort_of env m [] A)) d
tree_derived n env x None d = tt

stating_derived : (n : ℕ) (env : Env) (x : Name) (A : Surface) → DerivedEnv env → LeavesDerived (stating n env x A)
unfolding stating
stating_derived n env x A d = go (lookup env x)
  where
    go : (o : Option Entry) → LeavesDerived (elim o [ Some e ↦ Err not_built | None ↦ with_tree n env x (resolved env [] A) ])
    go (Some e) = tt
    go None = tree_derived n env x (resolved env [] A) d

proving_derived : (env : Env) (x : Name) (A : Tree) (r : Result Proof Fault) → DerivedEnv env → LeavesDerived (proving env x A r)
unfolding proving
proving_derived env x A (Ok p) d = d
proving_derived env x A (Err f) d = tt

declared_derived : (x : Name) (r : Result Env Fault) → ((new : Env) → r ≡ Ok new → DerivedEnv new) → LeavesDerived (declared x r)
unfolding declared
declared_derived x (Ok new) d = d new refl
declared_derived x (Err f) d = tt

closing_derived : (n : ℕ) (env : Env) (x : Name) (A : Tree) (p : Proof) → DerivedEnv env → LeavesDerived (closing_proof n env x A p)
unfolding closing_proof
closing_derived n env x A (goal g T) d = tt
closing_derived n env x A (finished t) d =
    declared_derived x (comes_to n (λ m. declare_constant env m x A t true))
    (λ new e. constant_derived env (suc n) x A t true new d (comes_gives n (λ m. declare_constant env m x A t true) new e))

-- a sentence keeps the declarations derived
pub doing_derived : (n : ℕ) (env : Env) (p : Place) (x : Sentence) → DerivedEnv env → LeavesDerived (doing n env p x)
unfolding doing
doing_derived n env outside (theorem x A) d = stating_derived n env x A d
doing_derived n env (stated x A) proof d = d
doing_derived n env (begun x A) (tactics ts) d = proving_derived env x A (after_tactics env (goal [] A) ts) d
doing_derived n env (worked x A p) qed d = closing_derived n env x A p d
doing_derived n env _ _ d = tt

pub sentence_derived : (n : ℕ) (s : State) (p : List ℕ) → DerivedEnv s.env → LeavesDerived (sentence n s p)
unfolding sentence
sentence_derived n s p d = go (read p)
  where
    go : (o : Option Sentence) → LeavesDerived (elim o [ Some x ↦ doing n s.env s.place x | None ↦ Err not_built ])
    go (Some x) = doing_derived n s.env s.place x d
    go None = tt

-- accepted sentences, one after the other, lead from a state to another
pub data Leads (n : ℕ) : State → List (List ℕ) → State → Type 0 where
  no_more : {s : State} → Leads n s [] s
  one_more : {s t u : State} {text p : List ℕ} {ps : List (List ℕ)} → sentence n s p ≡ Ok (text, t) → Leads n t ps u → Leads n s (p ∷ ps) u

pub leads_derived : {n : ℕ} {s u : State} {ps : List (List ℕ)} → Leads n s ps u → DerivedEnv s.env → DerivedEnv u.env
leads_derived no_more d = d
leads_derived {n} (one_more {s} {t} {u} {text} {p} e l) d = leads_derived l (subst LeavesDerived e (sentence_derived n s p d))

-- so every state of a script's run has derived declarations
pub run_derived : (n : ℕ) (ps : List (List ℕ)) (u : State) → Leads n start ps u → DerivedEnv u.env
run_derived n ps u l = leads_derived l no_entry
