-- Which causes are a spent budget.
use Rattle.std.proofs.Common.{◌≡◌, refl, Bool, true, false}
use Rattle.lq_terms.specs.Terms.{Terms}
use Rattle.lq_print.specs.Causes.{cause_of}
use Rattle.lq_print.specs.declared.causes.TextCause.{TextCause}
use Rattle.lq_print.specs.declared.causes.SentenceCause.{SentenceCause}
use Rattle.lq_print.specs.declared.causes.DeclarationCause.{DeclarationCause}
use Rattle.lq_print.specs.declared.causes.TermCause.{TermCause}
use Rattle.lq_print.specs.declared.causes.GoalCause.{GoalCause}
use Rattle.lq_print.specs.declared.causes.PrimitiveCause.{PrimitiveCause}
use Rattle.lq_print.specs.declared.causes.RuleCause.{RuleCause}
use Rattle.lq_print.specs.declared.causes.LtacCause.{LtacCause}
use Rattle.lq_print.specs.declared.causes.Cause.{Cause}
use Rattle.lq_sessions.specs.Sentences.{is_spent}

abbrev pub term_spent : TermCause → Bool
term_spent TermCause.StepsOut = true
term_spent c = false

-- only one of a term is
abbrev pub spent : Cause → Bool
spent (Cause.Term c) = term_spent c
spent c = false

pub spent_is : (bank : Terms) (c : Cause) → is_spent (cause_of bank c) ≡ spent c
unfolding is_spent
spent_is bank (Cause.Text (TextCause.BadChar a)) = refl
spent_is bank (Cause.Text (TextCause.BadNumber a)) = refl
spent_is bank (Cause.Text (TextCause.OpenComment a)) = refl
spent_is bank (Cause.Text (TextCause.OpenString a)) = refl
spent_is bank (Cause.Text (TextCause.Unexpected a)) = refl
spent_is bank (Cause.Text (TextCause.EndInside a)) = refl
spent_is bank (Cause.Text (TextCause.TooNested a)) = refl
spent_is bank (Cause.Text (TextCause.SentenceTooLong a)) = refl
spent_is bank (Cause.Sentence SentenceCause.NotBuilt) = refl
spent_is bank (Cause.Sentence SentenceCause.NoProof) = refl
spent_is bank (Cause.Sentence (SentenceCause.NestedProof a)) = refl
spent_is bank (Cause.Sentence (SentenceCause.OpenProof a)) = refl
spent_is bank (Cause.Sentence (SentenceCause.OpenGoals a)) = refl
spent_is bank (Cause.Sentence (SentenceCause.Unresolved a)) = refl
spent_is bank (Cause.Sentence SentenceCause.HasNotFailed) = refl
spent_is bank (Cause.Sentence (SentenceCause.BadCount a)) = refl
spent_is bank (Cause.Sentence (SentenceCause.NameTaken a)) = refl
spent_is bank (Cause.Sentence (SentenceCause.LtacTaken a)) = refl
spent_is bank (Cause.Declaration (DeclarationCause.NotPositive a b)) = refl
spent_is bank (Cause.Declaration (DeclarationCause.NestedUse a b)) = refl
spent_is bank (Cause.Declaration (DeclarationCause.BadResult a)) = refl
spent_is bank (Cause.Declaration (DeclarationCause.TooBig a b)) = refl
spent_is bank (Cause.Declaration (DeclarationCause.ElimForbidden a b)) = refl
spent_is bank (Cause.Term (TermCause.Unknown a)) = refl
spent_is bank (Cause.Term (TermCause.NotAProduct a)) = refl
spent_is bank (Cause.Term (TermCause.NotASort a)) = refl
spent_is bank (Cause.Term (TermCause.Mismatch a b)) = refl
spent_is bank (Cause.Term TermCause.NoSortAbove) = refl
spent_is bank (Cause.Term (TermCause.CannotInfer a)) = refl
spent_is bank (Cause.Term (TermCause.HasVariable a)) = refl
spent_is bank (Cause.Term TermCause.StepsOut) = refl
spent_is bank (Cause.Term TermCause.TooLarge) = refl
spent_is bank (Cause.Term TermCause.TooDeep) = refl
spent_is bank (Cause.Term TermCause.Full) = refl
spent_is bank (Cause.Goal (GoalCause.NoSuchGoal a)) = refl
spent_is bank (Cause.Goal (GoalCause.NoSuchName a)) = refl
spent_is bank (Cause.Goal (GoalCause.NotOne a)) = refl
spent_is bank (Cause.Goal (GoalCause.NotSolved a)) = refl
spent_is bank (Cause.Goal (GoalCause.WrongBullet a b)) = refl
spent_is bank (Cause.Goal GoalCause.NothingFocused) = refl
spent_is bank (Cause.Goal GoalCause.NoBrace) = refl
spent_is bank (Cause.Goal GoalCause.TooManyGoals) = refl
spent_is bank (Cause.Primitive PrimitiveCause.NothingToIntroduce) = refl
spent_is bank (Cause.Primitive (PrimitiveCause.NameInUse a)) = refl
spent_is bank (Cause.Primitive (PrimitiveCause.CannotApply a b)) = refl
spent_is bank (Cause.Primitive (PrimitiveCause.NotDetermined a)) = refl
spent_is bank (Cause.Primitive PrimitiveCause.NoAssumption) = refl
spent_is bank (Cause.Primitive (PrimitiveCause.NotInductive a)) = refl
spent_is bank (Cause.Primitive (PrimitiveCause.NoConstructor a)) = refl
spent_is bank (Cause.Primitive (PrimitiveCause.Constructors a b)) = refl
spent_is bank (Cause.Primitive PrimitiveCause.NoArgument) = refl
spent_is bank (Cause.Primitive (PrimitiveCause.NotEquality a)) = refl
spent_is bank (Cause.Primitive (PrimitiveCause.DoNotUnify a b)) = refl
spent_is bank (Cause.Primitive PrimitiveCause.IllTyped) = refl
spent_is bank (Cause.Rule (RuleCause.NotAHypothesis a)) = refl
spent_is bank (Cause.Rule RuleCause.WrongNames) = refl
spent_is bank (Cause.Rule (RuleCause.NotAnEquation a)) = refl
spent_is bank (Cause.Rule RuleCause.NothingToRewrite) = refl
spent_is bank (Cause.Rule (RuleCause.NotTransparent a)) = refl
spent_is bank (Cause.Rule (RuleCause.DoesNotOccur a)) = refl
spent_is bank (Cause.Rule (RuleCause.NotConvertible a b)) = refl
spent_is bank (Cause.Rule (RuleCause.StillUsed a)) = refl
spent_is bank (Cause.Ltac (LtacCause.Failure a)) = refl
spent_is bank (Cause.Ltac LtacCause.NothingApplies) = refl
spent_is bank (Cause.Ltac LtacCause.NoMatch) = refl
spent_is bank (Cause.Ltac LtacCause.NoProgress) = refl
spent_is bank (Cause.Ltac LtacCause.ManySuccesses) = refl
spent_is bank (Cause.Ltac LtacCause.NoMore) = refl
spent_is bank (Cause.Ltac (LtacCause.WrongCount a b)) = refl
spent_is bank (Cause.Ltac LtacCause.NotRunnable) = refl
spent_is bank (Cause.Ltac LtacCause.NotAFunction) = refl
spent_is bank (Cause.Ltac (LtacCause.NotATerm a)) = refl
spent_is bank (Cause.Ltac (LtacCause.NotAName a)) = refl
spent_is bank (Cause.Ltac (LtacCause.NotANumber a)) = refl
