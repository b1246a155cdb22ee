-- What the layers' refusals tell of the work of a sentence.
use Rattle.std.proofs.Common.{◌≡◌, ◌∙◌, refl, sym, ap, subst, ℕ, zero, suc, ◌<◌, Some, None}
use Rattle.lq_trees.specs.Ticks.{Paid, gives, fails, cut, tick, Outcome, done, failed, steps_out, within, ComesTo, faults_as}
use Rattle.lq_terms.specs.Terms.{Terms, HasName, HasTerm, text_of, tree_of}
use Rattle.lq_calculus.specs.Declarations.{EnvFault as Refusal}
use Rattle.lq_calculus.specs.Declarations as calculus
use Rattle.lq_calculus.specs.Checking.{KernelFault as TreeFault, Kernel, env_fault}
use Rattle.lq_grammar.specs.declared.fault.LexFault.{LexFault}
use Rattle.lq_grammar.specs.declared.fault.LexFault.TheVariants as lex
use Rattle.lq_sentences.specs.declared.fault.SyntaxFault.{SyntaxFault}
use Rattle.lq_sentences.specs.declared.fault.SyntaxFault.TheVariants as syntax_fault
use Rattle.lq_env.specs.declared.family.EnvFault.{EnvFault}
use Rattle.lq_env.specs.Families.{IsFault}
use Rattle.lq_kernel.specs.declared.faults.KernelFault.{KernelFault}
use Rattle.lq_kernel.specs.Answers.{RefusesDeclaration, Refuses as KernelRefuses}
use Rattle.lq_texts.specs.Causes.{Cause as ScriptCause}
use Rattle.lq_print.specs.declared.causes.Cause.{Cause}
use Rattle.lq_print.specs.Causes.{cause_of}
use Rattle.lq_sessions.specs.Told.{lexical, syntactic, of_env, of_kernel}
use Rattle.lq_sessions.specs.Sessions.{Work, told_as}
use Rattle.lq_causes.specs.Stops.{lex_stop, syntax_stop, env_stop, kernel_stop}
use Rattle.lq_causes.specs.Stopping.{Stops, Refuses}

-- an outcome with its fault told in another way
abbrev outcome_as : {F G A : Type 0} → (F → G) → Outcome F A → Outcome G A
outcome_as h (done a left) = done a left
outcome_as h (failed f left) = failed (h f) left
outcome_as h steps_out = steps_out

within_told : {F G A : Type 0} (h : F → G) (b : ℕ) (p : Paid F A) → within b (faults_as h p) ≡ outcome_as h (within b p)
unfolding within faults_as
within_told h b (gives a) = refl
within_told h b (fails f) = refl
within_told h b cut = refl
within_told h zero (tick p) = refl
within_told h (suc b) (tick p) = within_told h b p

pub comes_told : {F G A : Type 0} (h : F → G) (f : ℕ → Paid F A) (b : ℕ) (o : Outcome F A) → ComesTo f b o → ComesTo (λ n. faults_as h (f n)) b (outcome_as h o)
comes_told h f b o c n l = within_told h b (f n) ∙ ap (outcome_as h) (c n l)

-- tokens and syntax
pub lex_refuses : (bank : Terms) (f : LexFault) → Refuses bank (lex_stop f) (lexical f)
unfolding lexical
lex_refuses bank (lex.BadChar p) = (tt, refl)
lex_refuses bank (lex.OpenComment p) = (tt, refl)
lex_refuses bank (lex.OpenString p) = (tt, refl)
lex_refuses bank (lex.BadNumber p) = (tt, refl)
lex_refuses bank lex.NoMemory = tt

pub syntax_refuses : (bank : Terms) (f : SyntaxFault) → Refuses bank (syntax_stop f) (syntactic f)
unfolding syntactic
syntax_refuses bank (syntax_fault.Unexpected p) = (tt, refl)
syntax_refuses bank (syntax_fault.TooNested p) = (tt, refl)
syntax_refuses bank (syntax_fault.EndInside p) = (tt, refl)
syntax_refuses bank (syntax_fault.SentenceTooLong p) = (tt, refl)
syntax_refuses bank syntax_fault.NoMemory = tt

-- the environment, in work of the kernel
comes_at : {A : Type 0} (bank : Terms) (named : Refusal) (f : ℕ → Kernel A) (b left : ℕ) (refusal : Refusal) → Some refusal ≡ Some named →
    ComesTo f b (failed (env_fault refusal) left) → ComesTo (λ n. told_as of_kernel (f n)) b (failed (of_env named) left)
unfolding of_kernel
comes_at bank named f b left refusal e c =
    subst (λ z. ComesTo (λ n. told_as of_kernel (f n)) b (failed (of_env z) left)) (some_same e) (comes_told of_kernel f b (failed (env_fault refusal) left) c)
  where
    some_same : {x y : Refusal} → Some x ≡ Some y → x ≡ y
    some_same e = ap (λ o. elim o [ Some z ↦ z | None ↦ named ]) e

env_stops : {A : Type 0} (bank : Terms) (fault : EnvFault) (f : ℕ → Kernel A) (b left : ℕ) → RefusesDeclaration bank fault f b left → Stops bank (env_stop fault) (λ n. told_as of_kernel (f n)) b left
unfolding of_kernel of_env
env_stops bank (EnvFault.NameTaken x) f b left r = (r.tells.0, comes_at bank (calculus.name_taken (text_of bank x)) f b left r.refusal r.tells.1 r.comes)
env_stops bank (EnvFault.NotPositive c k) f b left r = (r.tells.0, comes_at bank (calculus.not_positive (text_of bank c) k) f b left r.refusal r.tells.1 r.comes)
env_stops bank (EnvFault.NestedUse c k) f b left r = (r.tells.0, comes_at bank (calculus.nested_use (text_of bank c) k) f b left r.refusal r.tells.1 r.comes)
env_stops bank (EnvFault.BadResult c) f b left r = (r.tells.0, comes_at bank (calculus.bad_result (text_of bank c)) f b left r.refusal r.tells.1 r.comes)
env_stops bank (EnvFault.ElimForbidden c s) f b left r = (r.tells.0, comes_at bank (calculus.elim_forbidden (text_of bank c) s) f b left r.refusal r.tells.1 r.comes)
env_stops bank EnvFault.TooLarge f b left r = (tt, comes_at bank (calculus.env_too_large) f b left r.refusal r.tells r.comes)
env_stops bank EnvFault.TooDeep f b left r = (tt, comes_at bank (calculus.env_too_deep) f b left r.refusal r.tells r.comes)
env_stops bank EnvFault.NoMemory f b left r = tt

-- the kernel's work, told as that of a sentence
pub kernel_stops : {A : Type 0} (bank : Terms) (fault : KernelFault) (f : ℕ → Kernel A) (b left : ℕ) → KernelRefuses bank fault f b left →
    Stops bank (kernel_stop fault) (λ n. told_as of_kernel (f n)) b left
unfolding of_kernel
kernel_stops bank (KernelFault.Unbound x) f b left r = (r.0, comes_told of_kernel f b _ r.1)
kernel_stops bank (KernelFault.NotAProduct t) f b left r = (r.0, comes_told of_kernel f b _ r.1)
kernel_stops bank (KernelFault.NotASort t) f b left r = (r.0, comes_told of_kernel f b _ r.1)
kernel_stops bank (KernelFault.Mismatch t u) f b left r = ((r.0, r.1), comes_told of_kernel f b _ r.2)
kernel_stops bank KernelFault.NoSortAbove f b left r = (tt, comes_told of_kernel f b _ r)
kernel_stops bank (KernelFault.HasVariable k) f b left r = (tt, comes_told of_kernel f b _ r)
kernel_stops bank KernelFault.StepsOut f b left r = (tt, comes_told of_kernel f b _ r.0)
kernel_stops bank (KernelFault.TooBig x k) f b left r = (r.0, comes_told of_kernel f b _ r.1)
kernel_stops bank KernelFault.TooLarge f b left r = (tt, comes_told of_kernel f b _ r)
kernel_stops bank KernelFault.TooDeep f b left r = (tt, comes_told of_kernel f b _ r)
kernel_stops bank (KernelFault.Env fault) f b left r = env_stops bank fault f b left r
kernel_stops bank KernelFault.NoMemory f b left r = tt
