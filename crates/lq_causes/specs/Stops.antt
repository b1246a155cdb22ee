-- The refusals of the layers as what stops a sentence.
use Rattle.lq_grammar.specs.declared.fault.LexFault.{LexFault}
use Rattle.lq_grammar.specs.declared.fault.LexFault.TheVariants as lex
use Rattle.lq_sentences.specs.declared.fault.SyntaxFault.{SyntaxFault}
use Rattle.lq_sentences.specs.declared.fault.SyntaxFault.TheVariants as syntax_fault
use Rattle.lq_env.specs.declared.family.EnvFault.{EnvFault}
use Rattle.lq_evars.specs.declared.store.StoreFault.{StoreFault}
use Rattle.lq_goals.specs.declared.proof.GoalFault.{GoalFault}
use Rattle.lq_kernel.specs.declared.faults.KernelFault.{KernelFault}
use Rattle.lq_print.specs.declared.causes.TextCause.{TextCause}
use Rattle.lq_print.specs.declared.causes.SentenceCause.{SentenceCause}
use Rattle.lq_print.specs.declared.causes.DeclarationCause.{DeclarationCause}
use Rattle.lq_print.specs.declared.causes.TermCause.{TermCause}
use Rattle.lq_print.specs.declared.causes.GoalCause.{GoalCause}
use Rattle.lq_print.specs.declared.causes.Cause.{Cause}
use Rattle.lq_causes.specs.declared.stops.Stop.{Stop}

-- of tokens, and of syntax
abbrev pub lex_stop : LexFault → Stop
lex_stop (lex.BadChar p) = Stop.Refused (Cause.Text (TextCause.BadChar p))
lex_stop (lex.OpenComment p) = Stop.Refused (Cause.Text (TextCause.OpenComment p))
lex_stop (lex.OpenString p) = Stop.Refused (Cause.Text (TextCause.OpenString p))
lex_stop (lex.BadNumber p) = Stop.Refused (Cause.Text (TextCause.BadNumber p))
lex_stop lex.NoMemory = Stop.NoMemory

abbrev pub syntax_stop : SyntaxFault → Stop
syntax_stop (syntax_fault.Unexpected p) = Stop.Refused (Cause.Text (TextCause.Unexpected p))
syntax_stop (syntax_fault.TooNested p) = Stop.Refused (Cause.Text (TextCause.TooNested p))
syntax_stop (syntax_fault.EndInside p) = Stop.Refused (Cause.Text (TextCause.EndInside p))
syntax_stop (syntax_fault.SentenceTooLong p) = Stop.Refused (Cause.Text (TextCause.SentenceTooLong p))
syntax_stop syntax_fault.NoMemory = Stop.NoMemory

-- of the store, and of a proof's lists
abbrev pub store_stop : StoreFault → Stop
store_stop StoreFault.TooLarge = Stop.Refused (Cause.Term TermCause.TooLarge)
store_stop StoreFault.TooDeep = Stop.Refused (Cause.Term TermCause.TooDeep)
store_stop StoreFault.Full = Stop.Refused (Cause.Term TermCause.Full)
store_stop StoreFault.NoMemory = Stop.NoMemory

abbrev pub goal_stop : GoalFault → Stop
goal_stop GoalFault.NothingFocused = Stop.Refused (Cause.Goal GoalCause.NothingFocused)
goal_stop GoalFault.TooManyGoals = Stop.Refused (Cause.Goal GoalCause.TooManyGoals)
goal_stop GoalFault.NoMemory = Stop.NoMemory

-- of the environment, and of the kernel
abbrev pub env_stop : EnvFault → Stop
env_stop (EnvFault.NameTaken x) = Stop.Refused (Cause.Sentence (SentenceCause.NameTaken x))
env_stop (EnvFault.NotPositive c k) = Stop.Refused (Cause.Declaration (DeclarationCause.NotPositive c k))
env_stop (EnvFault.NestedUse c k) = Stop.Refused (Cause.Declaration (DeclarationCause.NestedUse c k))
env_stop (EnvFault.BadResult c) = Stop.Refused (Cause.Declaration (DeclarationCause.BadResult c))
env_stop (EnvFault.ElimForbidden x s) = Stop.Refused (Cause.Declaration (DeclarationCause.ElimForbidden x s))
env_stop EnvFault.TooLarge = Stop.Refused (Cause.Term TermCause.TooLarge)
env_stop EnvFault.TooDeep = Stop.Refused (Cause.Term TermCause.TooDeep)
env_stop EnvFault.NoMemory = Stop.NoMemory

abbrev pub kernel_stop : KernelFault → Stop
kernel_stop (KernelFault.Unbound x) = Stop.Refused (Cause.Term (TermCause.Unknown x))
kernel_stop (KernelFault.NotAProduct t) = Stop.Refused (Cause.Term (TermCause.NotAProduct t))
kernel_stop (KernelFault.NotASort t) = Stop.Refused (Cause.Term (TermCause.NotASort t))
kernel_stop (KernelFault.Mismatch t u) = Stop.Refused (Cause.Term (TermCause.Mismatch t u))
kernel_stop KernelFault.NoSortAbove = Stop.Refused (Cause.Term TermCause.NoSortAbove)
kernel_stop (KernelFault.HasVariable k) = Stop.Refused (Cause.Term (TermCause.HasVariable k))
kernel_stop KernelFault.StepsOut = Stop.Refused (Cause.Term TermCause.StepsOut)
kernel_stop (KernelFault.TooBig x k) = Stop.Refused (Cause.Declaration (DeclarationCause.TooBig x k))
kernel_stop KernelFault.TooLarge = Stop.Refused (Cause.Term TermCause.TooLarge)
kernel_stop KernelFault.TooDeep = Stop.Refused (Cause.Term TermCause.TooDeep)
kernel_stop (KernelFault.Env f) = env_stop f
kernel_stop KernelFault.NoMemory = Stop.NoMemory
