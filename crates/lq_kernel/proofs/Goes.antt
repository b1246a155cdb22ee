-- How the kernel's work goes on, part by part, and what its refusals tell of the whole.
use Rattle.std.proofs.Common.{◌≡◌, ◌∙◌, ℕ, suc, ◌+◌, sym, ap, subst, arith, Result, Ok, Err}
use Rattle.std.specs.Result.{IsErrAnd}
use Rattle.lq_trees.specs.declared.Sort.{Sort as Universe}
use Rattle.lq_trees.specs.Tree.{Tree}
use Rattle.lq_trees.specs.Ticks.{tick, ◌>>=◌, Outcome, done, failed, steps_out, within, ComesTo}
use Rattle.lq_trees.proofs.Outcomes.{comes_tick, comes_then, comes_failed, comes_spent}
use Rattle.lq_terms.specs.declared.nodes.TermId.{TermId}
use Rattle.lq_terms.specs.Terms.{Terms}
use Rattle.lq_calculus.specs.Checking.{KernelFault as Fault, Kernel}
use Rattle.lq_kernel.specs.declared.faults.KernelFault.{KernelFault}
use Rattle.lq_kernel.specs.Answers.{Refuses, Checks}
use Rattle.lq_kernel.specs.Steps.{Types, Sorts, Products}

-- work with a budget goes on as other work with what is left of it
abbrev pub Goes : (A : Type 0) → (ℕ → Kernel A) → ℕ → (ℕ → Kernel A) → ℕ → Type 0
Goes A f b g c = (o : Outcome Fault A) → ComesTo g c o → ComesTo f b o

pub goes_then : {A B : Type 0} (f : ℕ → Kernel A) (k : A → ℕ → Kernel B) (b : ℕ) (a : A) (c : ℕ) → ComesTo f b (done a c) → Goes B (λ n. f n >>= (λ x. k x n)) b (k a) c
goes_then f k b a c h = λ o l. comes_then f k b a c o h l

pub goes_on : {A : Type 0} (f g h : ℕ → Kernel A) (b c d : ℕ) → Goes A f b g c → Goes A g c h d → Goes A f b h d
goes_on f g h b c d p q = λ o l. p o (q o l)

pub goes_same : {A : Type 0} (f g : ℕ → Kernel A) (b : ℕ) → ((n : ℕ) → f n ≡ g n) → Goes A f b g b
goes_same f g b e = λ o h n i. ap (within b) (e n) ∙ h n i

pub goes_tick : {A : Type 0} (f g : ℕ → Kernel A) (b c : ℕ) → ((n : ℕ) → f (suc n) ≡ tick (g n)) → b ≡ c + 1 → Goes A f b g c
goes_tick {A} f g b c e l = let same : suc c ≡ b = omega (arith, l) in subst (λ z. Goes A f z g c) same (λ o h. comes_tick f g c o e h)

-- a refusal of a part is one of the whole
pub refuses_by : {A B : Type 0} (bank : Terms) (e : KernelFault) (f : ℕ → Kernel A) (b : ℕ) (g : ℕ → Kernel B) (c left : ℕ)
    → ((k : Fault) → ComesTo f b (failed k left) → ComesTo g c (failed k left)) → (ComesTo f b steps_out → ComesTo g c steps_out)
    → Refuses bank e f b left → Refuses bank e g c left
refuses_by bank (KernelFault.Unbound x) f b g c left m s r = (r.0, m _ r.1)
refuses_by bank (KernelFault.NotAProduct t) f b g c left m s r = (r.0, m _ r.1)
refuses_by bank (KernelFault.NotASort t) f b g c left m s r = (r.0, m _ r.1)
refuses_by bank (KernelFault.Mismatch t u) f b g c left m s r = (r.0, r.1, m _ r.2)
refuses_by bank KernelFault.NoSortAbove f b g c left m s r = m _ r
refuses_by bank (KernelFault.HasVariable n) f b g c left m s r = m _ r
refuses_by bank KernelFault.StepsOut f b g c left m s r = (s r.0, r.1)
refuses_by bank (KernelFault.TooBig x k) f b g c left m s r = (r.0, m _ r.1)
refuses_by bank KernelFault.TooLarge f b g c left m s r = m _ r
refuses_by bank KernelFault.TooDeep f b g c left m s r = m _ r
refuses_by bank (KernelFault.Env e) f b g c left m s r = record { refusal = r.refusal; tells = r.tells; comes = m _ r.comes }
refuses_by bank KernelFault.NoMemory f b g c left m s r = tt

pub refuses_goes : {A : Type 0} (bank : Terms) (e : KernelFault) (f : ℕ → Kernel A) (b : ℕ) (g : ℕ → Kernel A) (c left : ℕ) → Goes A f b g c → Refuses bank e g c left → Refuses bank e f b left
refuses_goes bank e f b g c left p r = refuses_by bank e g c f b left (λ k. p (failed k left)) (p steps_out) r

pub refuses_first : {A B : Type 0} (bank : Terms) (e : KernelFault) (f : ℕ → Kernel A) (k : A → ℕ → Kernel B) (b left : ℕ) → Refuses bank e f b left → Refuses bank e (λ n. f n >>= (λ x. k x n)) b left
refuses_first bank e f k b left r = refuses_by bank e f b (λ n. f n >>= (λ x. k x n)) b left (λ x. comes_failed f k b x left) (comes_spent f k b) r

-- the same by what is answered
pub types_goes : (bank : Terms) (r : Result TermId KernelFault) (f : ℕ → Kernel Tree) (b : ℕ) (g : ℕ → Kernel Tree) (c left : ℕ) → Goes Tree f b g c → Types bank r g c left → Types bank r f b left
types_goes bank (Ok t) f b g c left p h = (h.0, p _ h.1)
types_goes bank (Err e) f b g c left p h = refuses_goes bank e f b g c left p h

pub sorts_goes : (bank : Terms) (r : Result Universe KernelFault) (f : ℕ → Kernel Universe) (b : ℕ) (g : ℕ → Kernel Universe) (c left : ℕ) → Goes Universe f b g c → Sorts bank r g c left → Sorts bank r f b left
sorts_goes bank (Ok s) f b g c left p h = p _ h
sorts_goes bank (Err e) f b g c left p h = refuses_goes bank e f b g c left p h

pub checks_goes : (bank : Terms) (r : Result (Unit {0}) KernelFault) (f : ℕ → Kernel (Unit {0})) (b : ℕ) (g : ℕ → Kernel (Unit {0})) (c left : ℕ) → Goes (Unit {0}) f b g c → Checks bank r g c left → Checks bank r f b left
checks_goes bank (Ok ok) f b g c left p h = p _ h
checks_goes bank (Err e) f b g c left p h = refuses_goes bank e f b g c left p h

pub products_goes : (bank : Terms) (r : Result (TermId × TermId) KernelFault) (f : ℕ → Kernel (Tree × Tree)) (b : ℕ) (g : ℕ → Kernel (Tree × Tree)) (c left : ℕ) → Goes (Tree × Tree) f b g c → Products bank r g c left → Products bank r f b left
products_goes bank (Ok s) f b g c left p h = (h.0, p _ h.1)
products_goes bank (Err e) f b g c left p h = refuses_goes bank e f b g c left p h

-- what is returned where a call was refused
pub err_out : {A : Type 0} (P : Result A KernelFault → Type 0) (r : Result A KernelFault) (e : KernelFault) → IsErrAnd r (λ y. y ≡ e) → P (Err e) → P r
err_out P (Ok a) e h p = absurd h
err_out P (Err y) e h p = subst (λ z. P (Err z)) (sym h) p
