-- Weak head forms, normal forms and comparisons with their prices, computed: within exactly that many ticks the work is
-- done, and none is left. The prices are reckoned by hand.
use Rattle.std.proofs.Common.{refl, ◌≡◌, true, false, List, [], ◌∷◌, ◌++◌, Option, Some, None}
use Rattle.std.specs.Prelude.{codes}
use Rattle.lq_trees.specs.declared.Sort.{Sort as Universe}
use Rattle.lq_trees.specs.Tree.{Tree, Context}
use Rattle.lq_trees.specs.Tree.Tree.{Rel, Var, Sort, Prod, Lam, Let, App, Const, Ind, Ctor, Elim}
use Rattle.lq_trees.specs.Ticks.{Outcome, done, within}
use Rattle.lq_calculus.specs.Contraction.{whnf, normal}
use Rattle.lq_calculus.specs.Declarations.{Env, Entry, rules_of, family_entries}
use Rattle.lq_calculus.specs.Checking.{conv, KernelFault}
use Rattle.lq_calculus.proofs.Samples.{nat, zero_, succ, arrow, nat_family}
use Rattle.lq_calculus.proofs.Tests.{opens, nat_env}

-- natural numbers, and a constant that doubles them
unfoldable pub row_env : Env
unfolding nat_env
row_env = (codes "double", Entry.constant (arrow nat nat) (Lam (codes "x") nat (App (App (App (App (Elim (codes "nat") (Universe.Level 0)) (Lam (codes "x") nat nat)) zero_) (Lam (codes "x") nat (Lam (codes "x") nat (App succ (App succ (Rel 0)))))) (Rel 0))) false) ∷ nat_env

-- a hypothesis, and one with a body
unfoldable pub row_context : Context
row_context = record { name = codes "a"; body = None; kind = nat } ∷ record { name = codes "b"; body = Some (App succ zero_); kind = nat } ∷ []

-- Contractions at the head and their prices.
row_1 : within 0 (whnf {F = KernelFault} (rules_of row_env) row_context 1 zero_) ≡ done zero_ 0
unfolding opens nat_env row_env row_context
row_1 = refl

row_2 : within 1 (whnf {F = KernelFault} (rules_of row_env) row_context 2 (App (Lam (codes "x") nat (Rel 0)) zero_)) ≡ done zero_ 0
unfolding opens nat_env row_env row_context
row_2 = refl

-- Nothing is contracted below a binder or in an argument.
row_3 : within 0 (whnf {F = KernelFault} (rules_of row_env) row_context 1 (Lam (codes "x") nat (App (Lam (codes "x") nat (Rel 0)) (Rel 0)))) ≡ done (Lam (codes "x") nat (App (Lam (codes "x") nat (Rel 0)) (Rel 0))) 0
unfolding opens nat_env row_env row_context
row_3 = refl

row_4 : within 0 (whnf {F = KernelFault} (rules_of row_env) row_context 1 (App succ (App (Lam (codes "x") nat (Rel 0)) zero_))) ≡ done (App succ (App (Lam (codes "x") nat (Rel 0)) zero_)) 0
unfolding opens nat_env row_env row_context
row_4 = refl

-- Two arguments.
row_5 : within 2 (whnf {F = KernelFault} (rules_of row_env) row_context 3 (App (App (Lam (codes "x") nat (Lam (codes "x") nat (Rel 1))) zero_) (App succ zero_))) ≡ done zero_ 0
unfolding opens nat_env row_env row_context
row_5 = refl

row_6 : within 2 (whnf {F = KernelFault} (rules_of row_env) row_context 3 (App (App (Lam (codes "x") nat (Lam (codes "x") nat (Rel 0))) zero_) (App succ zero_))) ≡ done (App succ zero_) 0
unfolding opens nat_env row_env row_context
row_6 = refl

row_7 : within 1 (whnf {F = KernelFault} (rules_of row_env) row_context 2 (App (App (Lam (codes "x") nat (Rel 0)) succ) zero_)) ≡ done (App succ zero_) 0
unfolding opens nat_env row_env row_context
row_7 = refl

-- Local definitions, alone and as a function.
row_8 : within 1 (whnf {F = KernelFault} (rules_of row_env) row_context 2 (Let (codes "x") (App succ zero_) nat (App succ (Rel 0)))) ≡ done (App succ (App succ zero_)) 0
unfolding opens nat_env row_env row_context
row_8 = refl

row_9 : within 2 (whnf {F = KernelFault} (rules_of row_env) row_context 3 (App (Let (codes "x") zero_ nat (Lam (codes "x") nat (Rel 1))) (App succ zero_))) ≡ done zero_ 0
unfolding opens nat_env row_env row_context
row_9 = refl

-- Hypotheses, without a body and with one.
row_10 : within 0 (whnf {F = KernelFault} (rules_of row_env) row_context 1 (Var (codes "a"))) ≡ done (Var (codes "a")) 0
unfolding opens nat_env row_env row_context
row_10 = refl

row_11 : within 1 (whnf {F = KernelFault} (rules_of row_env) row_context 2 (Var (codes "b"))) ≡ done (App succ zero_) 0
unfolding opens nat_env row_env row_context
row_11 = refl

row_12 : within 1 (whnf {F = KernelFault} (rules_of row_env) row_context 2 (App (Var (codes "b")) (Var (codes "a")))) ≡ done (App (App succ zero_) (Var (codes "a"))) 0
unfolding opens nat_env row_env row_context
row_12 = refl

-- Constants, without a body and with one.
row_13 : within 0 (whnf {F = KernelFault} (rules_of row_env) row_context 1 (Const (codes "other"))) ≡ done (Const (codes "other")) 0
unfolding opens nat_env row_env row_context
row_13 = refl

row_14 : within 3 (whnf {F = KernelFault} (rules_of row_env) row_context 4 (App (Const (codes "double")) zero_)) ≡ done zero_ 0
unfolding opens nat_env row_env row_context
row_14 = refl

-- Eliminators and their prices.
-- Iota, two times beta, iota.
row_15 : within 4 (whnf {F = KernelFault} (rules_of row_env) row_context 5 (App (App (App (App (Elim (codes "nat") (Universe.Level 0)) (Lam (codes "x") nat nat)) zero_) (Lam (codes "x") nat (Lam (codes "x") nat (Rel 0)))) (App succ zero_))) ≡ done zero_ 0
unfolding opens nat_env row_env row_context
row_15 = refl

-- The argument before the last one: iota, two times beta.
row_16 : within 3 (whnf {F = KernelFault} (rules_of row_env) row_context 4 (App (App (App (App (Elim (codes "nat") (Universe.Level 0)) (Lam (codes "x") nat nat)) zero_) (Lam (codes "x") nat (Lam (codes "x") nat (Rel 1)))) (App succ (App succ zero_)))) ≡ done (App succ zero_) 0
unfolding opens nat_env row_env row_context
row_16 = refl

-- A body, beta, iota, two times beta.
row_17 : within 5 (whnf {F = KernelFault} (rules_of row_env) row_context 6 (App (Const (codes "double")) (App succ zero_))) ≡ done (App succ (App succ (App (App (App (App (Elim (codes "nat") (Universe.Level 0)) (Lam (codes "x") nat nat)) zero_) (Lam (codes "x") nat (Lam (codes "x") nat (App succ (App succ (Rel 0)))))) zero_))) 0
unfolding opens nat_env row_env row_context
row_17 = refl

-- The scrutinee is contracted first: by beta, and by a hypothesis' body.
row_18 : within 2 (whnf {F = KernelFault} (rules_of row_env) row_context 3 (App (App (App (App (Elim (codes "nat") (Universe.Level 0)) (Lam (codes "x") nat nat)) zero_) (Lam (codes "x") nat (Lam (codes "x") nat (Rel 0)))) (App (Lam (codes "x") nat (Rel 0)) zero_))) ≡ done zero_ 0
unfolding opens nat_env row_env row_context
row_18 = refl

row_19 : within 5 (whnf {F = KernelFault} (rules_of row_env) row_context 6 (App (App (App (App (Elim (codes "nat") (Universe.Level 0)) (Lam (codes "x") nat nat)) zero_) (Lam (codes "x") nat (Lam (codes "x") nat (Rel 0)))) (Var (codes "b")))) ≡ done zero_ 0
unfolding opens nat_env row_env row_context
row_19 = refl

-- A scrutinee that stays no constructor is contracted as far as it goes.
row_20 : within 1 (whnf {F = KernelFault} (rules_of row_env) row_context 2 (App (App (App (App (Elim (codes "nat") (Universe.Level 0)) (Lam (codes "x") nat nat)) zero_) (Lam (codes "x") nat (Lam (codes "x") nat (Rel 0)))) (App (Lam (codes "x") nat (Rel 0)) (Var (codes "a"))))) ≡ done (App (App (App (App (Elim (codes "nat") (Universe.Level 0)) (Lam (codes "x") nat nat)) zero_) (Lam (codes "x") nat (Lam (codes "x") nat (Rel 0)))) (Var (codes "a"))) 0
unfolding opens nat_env row_env row_context
row_20 = refl

-- No scrutinee; a constructor that lacks its argument; one with an argument too many.
row_21 : within 0 (whnf {F = KernelFault} (rules_of row_env) row_context 1 (App (App (App (Elim (codes "nat") (Universe.Level 0)) (Lam (codes "x") nat nat)) zero_) (Lam (codes "x") nat (Lam (codes "x") nat (Rel 0))))) ≡ done (App (App (App (Elim (codes "nat") (Universe.Level 0)) (Lam (codes "x") nat nat)) zero_) (Lam (codes "x") nat (Lam (codes "x") nat (Rel 0)))) 0
unfolding opens nat_env row_env row_context
row_21 = refl

row_22 : within 0 (whnf {F = KernelFault} (rules_of row_env) row_context 1 (App (App (App (App (Elim (codes "nat") (Universe.Level 0)) (Lam (codes "x") nat nat)) zero_) (Lam (codes "x") nat (Lam (codes "x") nat (Rel 0)))) succ)) ≡ done (App (App (App (App (Elim (codes "nat") (Universe.Level 0)) (Lam (codes "x") nat nat)) zero_) (Lam (codes "x") nat (Lam (codes "x") nat (Rel 0)))) succ) 0
unfolding opens nat_env row_env row_context
row_22 = refl

row_23 : within 0 (whnf {F = KernelFault} (rules_of row_env) row_context 1 (App (App (App (App (Elim (codes "nat") (Universe.Level 0)) (Lam (codes "x") nat nat)) zero_) (Lam (codes "x") nat (Lam (codes "x") nat (Rel 0)))) (App zero_ zero_))) ≡ done (App (App (App (App (Elim (codes "nat") (Universe.Level 0)) (Lam (codes "x") nat nat)) zero_) (Lam (codes "x") nat (Lam (codes "x") nat (Rel 0)))) (App zero_ zero_)) 0
unfolding opens nat_env row_env row_context
row_23 = refl

-- An argument behind the scrutinee: iota, beta.
row_24 : within 2 (whnf {F = KernelFault} (rules_of row_env) row_context 3 (App (App (App (App (App (Elim (codes "nat") (Universe.Level 0)) (Lam (codes "x") nat (Prod (codes "x") nat nat))) (Lam (codes "x") nat (Rel 0))) (Lam (codes "x") nat (Lam (codes "x") (Prod (codes "x") nat nat) (Rel 0)))) zero_) (App succ zero_))) ≡ done (App succ zero_) 0
unfolding opens nat_env row_env row_context
row_24 = refl

-- Normal forms and their prices.
row_25 : within 1 (normal {F = KernelFault} (rules_of row_env) row_context 2 (App succ (App (Lam (codes "x") nat (Rel 0)) zero_))) ≡ done (App succ zero_) 0
unfolding opens nat_env row_env row_context
row_25 = refl

row_26 : within 1 (normal {F = KernelFault} (rules_of row_env) row_context 2 (Lam (codes "x") nat (App (Lam (codes "x") nat (Rel 0)) (Rel 0)))) ≡ done (Lam (codes "x") nat (Rel 0)) 0
unfolding opens nat_env row_env row_context
row_26 = refl

row_27 : within 1 (normal {F = KernelFault} (rules_of row_env) row_context 2 (Lam (codes "x") (App (Lam (codes "x") (Sort Universe.Base) (Rel 0)) nat) (Rel 0))) ≡ done (Lam (codes "x") nat (Rel 0)) 0
unfolding opens nat_env row_env row_context
row_27 = refl

row_28 : within 2 (normal {F = KernelFault} (rules_of row_env) row_context 3 (Prod (codes "x") (App (Lam (codes "x") (Sort Universe.Base) (Rel 0)) nat) (App (Lam (codes "x") (Sort Universe.Base) (Rel 0)) nat))) ≡ done (Prod (codes "x") nat nat) 0
unfolding opens nat_env row_env row_context
row_28 = refl

row_29 : within 1 (normal {F = KernelFault} (rules_of row_env) row_context 2 (Let (codes "x") zero_ nat (Lam (codes "x") nat (Rel 1)))) ≡ done (Lam (codes "x") nat zero_) 0
unfolding opens nat_env row_env row_context
row_29 = refl

row_30 : within 1 (normal {F = KernelFault} (rules_of row_env) row_context 2 (Lam (codes "x") nat (Var (codes "b")))) ≡ done (Lam (codes "x") nat (App succ zero_)) 0
unfolding opens nat_env row_env row_context
row_30 = refl

-- A body, beta, two times iota and two times beta, iota.
row_31 : within 9 (normal {F = KernelFault} (rules_of row_env) row_context 10 (App (Const (codes "double")) (App succ (App succ zero_)))) ≡ done (App succ (App succ (App succ (App succ zero_)))) 0
unfolding opens nat_env row_env row_context
row_31 = refl

-- An argument that stands twice is contracted twice.
row_32 : within 3 (normal {F = KernelFault} (rules_of row_env) row_context 4 (App (Lam (codes "x") (Sort Universe.Base) (Prod (codes "x") (Rel 0) (Rel 1))) (App (Lam (codes "x") (Sort Universe.Base) (Rel 0)) nat))) ≡ done (Prod (codes "x") nat nat) 0
unfolding opens nat_env row_env row_context
row_32 = refl

-- One that stands nowhere is not.
row_33 : within 1 (normal {F = KernelFault} (rules_of row_env) row_context 2 (App (Lam (codes "x") nat zero_) (App (Const (codes "double")) (App succ (App succ zero_))))) ≡ done zero_ 0
unfolding opens nat_env row_env row_context
row_33 = refl

-- Comparisons and their prices: a tick for each pair, and one for each contraction.
row_34 : within 1 (conv {F = KernelFault} (rules_of row_env) row_context 2 zero_ zero_) ≡ done true 0
unfolding opens nat_env row_env row_context
row_34 = refl

row_35 : within 1 (conv {F = KernelFault} (rules_of row_env) row_context 2 zero_ (App succ zero_)) ≡ done false 0
unfolding opens nat_env row_env row_context
row_35 = refl

row_36 : within 2 (conv {F = KernelFault} (rules_of row_env) row_context 3 (App succ zero_) (App succ zero_)) ≡ done true 0
unfolding opens nat_env row_env row_context
row_36 = refl

row_37 : within 2 (conv {F = KernelFault} (rules_of row_env) row_context 3 (App (Lam (codes "x") nat (Rel 0)) zero_) zero_) ≡ done true 0
unfolding opens nat_env row_env row_context
row_37 = refl

row_38 : within 2 (conv {F = KernelFault} (rules_of row_env) row_context 3 zero_ (App (Lam (codes "x") nat (Rel 0)) zero_)) ≡ done true 0
unfolding opens nat_env row_env row_context
row_38 = refl

row_39 : within 3 (conv {F = KernelFault} (rules_of row_env) row_context 4 (App succ (App (Lam (codes "x") nat (Rel 0)) zero_)) (App succ zero_)) ≡ done true 0
unfolding opens nat_env row_env row_context
row_39 = refl

row_40 : within 1 (conv {F = KernelFault} (rules_of row_env) row_context 2 (Sort Universe.Base) (Sort Universe.Base)) ≡ done true 0
unfolding opens nat_env row_env row_context
row_40 = refl

row_41 : within 1 (conv {F = KernelFault} (rules_of row_env) row_context 2 nat (Sort Universe.Base)) ≡ done false 0
unfolding opens nat_env row_env row_context
row_41 = refl

-- Binders: the domain, and then the rest.
row_42 : within 3 (conv {F = KernelFault} (rules_of row_env) row_context 4 (Lam (codes "x") nat (Rel 0)) (Lam (codes "x") nat (Rel 0))) ≡ done true 0
unfolding opens nat_env row_env row_context
row_42 = refl

row_43 : within 2 (conv {F = KernelFault} (rules_of row_env) row_context 3 (Lam (codes "x") nat (Rel 0)) (Lam (codes "x") (Sort Universe.Base) (Rel 0))) ≡ done false 0
unfolding opens nat_env row_env row_context
row_43 = refl

row_44 : within 3 (conv {F = KernelFault} (rules_of row_env) row_context 4 (Lam (codes "x") nat zero_) (Lam (codes "x") nat (App succ zero_))) ≡ done false 0
unfolding opens nat_env row_env row_context
row_44 = refl

row_45 : within 4 (conv {F = KernelFault} (rules_of row_env) row_context 5 (Prod (codes "x") nat (App (Lam (codes "x") (Sort Universe.Base) (Rel 0)) nat)) (Prod (codes "x") nat nat)) ≡ done true 0
unfolding opens nat_env row_env row_context
row_45 = refl

-- There is no eta.
row_46 : within 1 (conv {F = KernelFault} (rules_of row_env) row_context 2 (Lam (codes "x") nat (App succ (Rel 0))) succ) ≡ done false 0
unfolding opens nat_env row_env row_context
row_46 = refl

-- Hypotheses and their bodies.
row_47 : within 1 (conv {F = KernelFault} (rules_of row_env) row_context 2 (Var (codes "a")) (Var (codes "a"))) ≡ done true 0
unfolding opens nat_env row_env row_context
row_47 = refl

row_48 : within 3 (conv {F = KernelFault} (rules_of row_env) row_context 4 (Var (codes "b")) (App succ zero_)) ≡ done true 0
unfolding opens nat_env row_env row_context
row_48 = refl

row_49 : within 2 (conv {F = KernelFault} (rules_of row_env) row_context 3 (Var (codes "a")) (Var (codes "b"))) ≡ done false 0
unfolding opens nat_env row_env row_context
row_49 = refl

-- Arguments from the left; the first that do not compare end it.
row_50 : within 2 (conv {F = KernelFault} (rules_of row_env) row_context 3 (App (App (Var (codes "a")) zero_) zero_) (App (App (Var (codes "a")) (App succ zero_)) (App (Lam (codes "x") nat (Rel 0)) zero_))) ≡ done false 0
unfolding opens nat_env row_env row_context
row_50 = refl

row_51 : within 3 (conv {F = KernelFault} (rules_of row_env) row_context 4 (App (App (Var (codes "a")) zero_) (App succ zero_)) (App (App (Var (codes "a")) zero_) zero_)) ≡ done false 0
unfolding opens nat_env row_env row_context
row_51 = refl

-- Five pairs and nine contractions.
row_52 : within 14 (conv {F = KernelFault} (rules_of row_env) row_context 15 (App (Const (codes "double")) (App succ (App succ zero_))) (App succ (App succ (App succ (App succ zero_))))) ≡ done true 0
unfolding opens nat_env row_env row_context
row_52 = refl

-- Two bodies; the abstraction and its domain, the eliminator and its arguments: 2 + 2 + 1 + 3 + 1 + 7 + 1.
row_53 : within 17 (conv {F = KernelFault} (rules_of row_env) row_context 18 (Const (codes "double")) (Const (codes "double"))) ≡ done true 0
unfolding opens nat_env row_env row_context
row_53 = refl
