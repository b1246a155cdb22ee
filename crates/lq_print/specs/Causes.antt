-- The causes of a bank over texts and trees, and what callers promise of them.
use Rattle.std.specs.Prelude.{◌<◌, ℕ, zero, suc, List, [], Option, Some, None, codes}
use Rattle.lq_trees.specs.Tree.{Name}
use Rattle.lq_terms.specs.Terms.{Terms, HasName, HasTerm, text_of, tree_of}
use Rattle.lq_terms.specs.declared.nodes.NameId.{NameId}
use Rattle.lq_texts.specs.Causes as texts
use Rattle.lq_print.specs.declared.causes.TextCause.{TextCause}
use Rattle.lq_print.specs.declared.causes.SentenceCause.{SentenceCause}
use Rattle.lq_print.specs.declared.causes.DeclarationCause.{DeclarationCause}
use Rattle.lq_print.specs.declared.causes.TermCause.{TermCause}
use Rattle.lq_print.specs.declared.causes.GoalCause.{GoalCause}
use Rattle.lq_print.specs.declared.causes.PrimitiveCause.{PrimitiveCause}
use Rattle.lq_print.specs.declared.causes.RuleCause.{RuleCause}
use Rattle.lq_print.specs.declared.causes.LtacCause.{LtacCause}
use Rattle.lq_print.specs.declared.causes.Cause.{Cause}
use Rattle.lq_print.specs.Goals.{HasNameOr}

abbrev pub text_cause : TextCause → texts.Cause
text_cause (TextCause.BadChar p) = texts.bad_char p
text_cause (TextCause.BadNumber p) = texts.bad_number p
text_cause (TextCause.OpenComment p) = texts.open_comment p
text_cause (TextCause.OpenString p) = texts.open_string p
text_cause (TextCause.Unexpected p) = texts.unexpected p
text_cause (TextCause.EndInside p) = texts.end_inside p
text_cause (TextCause.TooNested p) = texts.too_nested p
text_cause (TextCause.SentenceTooLong p) = texts.sentence_too_long p

abbrev pub sentence_cause : Terms → SentenceCause → texts.Cause
sentence_cause bank SentenceCause.NotBuilt = texts.not_built
sentence_cause bank SentenceCause.NoProof = texts.no_proof
sentence_cause bank (SentenceCause.NestedProof x) = texts.nested_proof (text_of bank x)
sentence_cause bank (SentenceCause.OpenProof x) = texts.open_proof (text_of bank x)
sentence_cause bank (SentenceCause.OpenGoals k) = texts.open_goals k
sentence_cause bank (SentenceCause.Unresolved k) = texts.unresolved k
sentence_cause bank SentenceCause.HasNotFailed = texts.has_not_failed
sentence_cause bank (SentenceCause.BadCount k) = texts.bad_count k
sentence_cause bank (SentenceCause.NameTaken x) = texts.name_taken (text_of bank x)
sentence_cause bank (SentenceCause.LtacTaken x) = texts.ltac_taken (text_of bank x)

abbrev pub HasSentenceCause : Terms → SentenceCause → Type 0
HasSentenceCause bank SentenceCause.NotBuilt = Unit {0}
HasSentenceCause bank SentenceCause.NoProof = Unit {0}
HasSentenceCause bank (SentenceCause.NestedProof x) = HasName bank x
HasSentenceCause bank (SentenceCause.OpenProof x) = HasName bank x
HasSentenceCause bank (SentenceCause.OpenGoals k) = Unit {0}
HasSentenceCause bank (SentenceCause.Unresolved k) = Unit {0}
HasSentenceCause bank SentenceCause.HasNotFailed = Unit {0}
HasSentenceCause bank (SentenceCause.BadCount k) = Unit {0}
HasSentenceCause bank (SentenceCause.NameTaken x) = HasName bank x
HasSentenceCause bank (SentenceCause.LtacTaken x) = HasName bank x

abbrev pub declaration_cause : Terms → DeclarationCause → texts.Cause
declaration_cause bank (DeclarationCause.NotPositive c k) = texts.not_positive (text_of bank c) k
declaration_cause bank (DeclarationCause.NestedUse c k) = texts.nested_use (text_of bank c) k
declaration_cause bank (DeclarationCause.BadResult c) = texts.bad_result (text_of bank c)
declaration_cause bank (DeclarationCause.TooBig c k) = texts.too_big (text_of bank c) k
declaration_cause bank (DeclarationCause.ElimForbidden x s) = texts.elim_forbidden (text_of bank x) s

abbrev pub HasDeclarationCause : Terms → DeclarationCause → Type 0
HasDeclarationCause bank (DeclarationCause.NotPositive c k) = HasName bank c
HasDeclarationCause bank (DeclarationCause.NestedUse c k) = HasName bank c
HasDeclarationCause bank (DeclarationCause.BadResult c) = HasName bank c
HasDeclarationCause bank (DeclarationCause.TooBig c k) = HasName bank c
HasDeclarationCause bank (DeclarationCause.ElimForbidden x s) = HasName bank x

abbrev pub term_cause : Terms → TermCause → texts.Cause
term_cause bank (TermCause.Unknown x) = texts.unknown (text_of bank x)
term_cause bank (TermCause.NotAProduct t) = texts.not_a_product (tree_of bank t)
term_cause bank (TermCause.NotASort t) = texts.not_a_sort (tree_of bank t)
term_cause bank (TermCause.Mismatch t u) = texts.mismatch (tree_of bank t) (tree_of bank u)
term_cause bank TermCause.NoSortAbove = texts.no_sort_above
term_cause bank (TermCause.CannotInfer p) = texts.cannot_infer p
term_cause bank (TermCause.HasVariable k) = texts.has_variable k
term_cause bank TermCause.StepsOut = texts.steps_out
term_cause bank TermCause.TooLarge = texts.too_large
term_cause bank TermCause.TooDeep = texts.too_deep
term_cause bank TermCause.Full = texts.full

abbrev pub HasTermCause : Terms → TermCause → Type 0
HasTermCause bank (TermCause.Unknown x) = HasName bank x
HasTermCause bank (TermCause.NotAProduct t) = HasTerm bank t
HasTermCause bank (TermCause.NotASort t) = HasTerm bank t
HasTermCause bank (TermCause.Mismatch t u) = HasTerm bank t × HasTerm bank u
HasTermCause bank TermCause.NoSortAbove = Unit {0}
HasTermCause bank (TermCause.CannotInfer p) = Unit {0}
HasTermCause bank (TermCause.HasVariable k) = Unit {0}
HasTermCause bank TermCause.StepsOut = Unit {0}
HasTermCause bank TermCause.TooLarge = Unit {0}
HasTermCause bank TermCause.TooDeep = Unit {0}
HasTermCause bank TermCause.Full = Unit {0}

abbrev pub goal_cause : Terms → GoalCause → texts.Cause
goal_cause bank (GoalCause.NoSuchGoal k) = texts.no_such_goal k
goal_cause bank (GoalCause.NoSuchName x) = texts.no_such_name (text_of bank x)
goal_cause bank (GoalCause.NotOne k) = texts.not_one k
goal_cause bank (GoalCause.NotSolved k) = texts.not_solved k
goal_cause bank (GoalCause.WrongBullet c n) = texts.wrong_bullet c n
goal_cause bank GoalCause.NothingFocused = texts.nothing_focused
goal_cause bank GoalCause.NoBrace = texts.no_brace
goal_cause bank GoalCause.TooManyGoals = texts.too_many_goals

abbrev pub HasGoalCause : Terms → GoalCause → Type 0
HasGoalCause bank (GoalCause.NoSuchGoal k) = Unit {0}
HasGoalCause bank (GoalCause.NoSuchName x) = HasName bank x
HasGoalCause bank (GoalCause.NotOne k) = Unit {0}
HasGoalCause bank (GoalCause.NotSolved k) = Unit {0}
HasGoalCause bank (GoalCause.WrongBullet c n) = c < 128
HasGoalCause bank GoalCause.NothingFocused = Unit {0}
HasGoalCause bank GoalCause.NoBrace = Unit {0}
HasGoalCause bank GoalCause.TooManyGoals = Unit {0}

-- a name, empty where there is none
abbrev pub name_or_none : Terms → Option NameId → Name
name_or_none bank None = []
name_or_none bank (Some x) = text_of bank x

abbrev pub primitive_cause : Terms → PrimitiveCause → texts.Cause
primitive_cause bank PrimitiveCause.NothingToIntroduce = texts.nothing_to_introduce
primitive_cause bank (PrimitiveCause.NameInUse x) = texts.name_in_use (text_of bank x)
primitive_cause bank (PrimitiveCause.CannotApply t u) = texts.cannot_apply (tree_of bank t) (tree_of bank u)
primitive_cause bank (PrimitiveCause.NotDetermined x) = texts.not_determined (name_or_none bank x)
primitive_cause bank PrimitiveCause.NoAssumption = texts.no_assumption
primitive_cause bank (PrimitiveCause.NotInductive t) = texts.not_inductive (tree_of bank t)
primitive_cause bank (PrimitiveCause.NoConstructor k) = texts.no_constructor k
primitive_cause bank (PrimitiveCause.Constructors k j) = texts.constructors k j
primitive_cause bank PrimitiveCause.NoArgument = texts.no_argument
primitive_cause bank (PrimitiveCause.NotEquality t) = texts.not_equality (tree_of bank t)
primitive_cause bank (PrimitiveCause.DoNotUnify t u) = texts.do_not_unify (tree_of bank t) (tree_of bank u)
primitive_cause bank PrimitiveCause.IllTyped = texts.ill_typed

abbrev pub HasPrimitiveCause : Terms → PrimitiveCause → Type 0
HasPrimitiveCause bank PrimitiveCause.NothingToIntroduce = Unit {0}
HasPrimitiveCause bank (PrimitiveCause.NameInUse x) = HasName bank x
HasPrimitiveCause bank (PrimitiveCause.CannotApply t u) = HasTerm bank t × HasTerm bank u
HasPrimitiveCause bank (PrimitiveCause.NotDetermined x) = HasNameOr bank x
HasPrimitiveCause bank PrimitiveCause.NoAssumption = Unit {0}
HasPrimitiveCause bank (PrimitiveCause.NotInductive t) = HasTerm bank t
HasPrimitiveCause bank (PrimitiveCause.NoConstructor k) = Unit {0}
HasPrimitiveCause bank (PrimitiveCause.Constructors k j) = Unit {0}
HasPrimitiveCause bank PrimitiveCause.NoArgument = Unit {0}
HasPrimitiveCause bank (PrimitiveCause.NotEquality t) = HasTerm bank t
HasPrimitiveCause bank (PrimitiveCause.DoNotUnify t u) = HasTerm bank t × HasTerm bank u
HasPrimitiveCause bank PrimitiveCause.IllTyped = Unit {0}

abbrev pub rule_cause : Terms → RuleCause → texts.Cause
rule_cause bank (RuleCause.NotAHypothesis x) = texts.not_a_hypothesis (text_of bank x)
rule_cause bank RuleCause.WrongNames = texts.wrong_names
rule_cause bank (RuleCause.NotAnEquation t) = texts.not_an_equation (tree_of bank t)
rule_cause bank RuleCause.NothingToRewrite = texts.nothing_to_rewrite
rule_cause bank (RuleCause.NotTransparent x) = texts.not_transparent (text_of bank x)
rule_cause bank (RuleCause.DoesNotOccur x) = texts.does_not_occur (text_of bank x)
rule_cause bank (RuleCause.NotConvertible t u) = texts.not_convertible (tree_of bank t) (tree_of bank u)
rule_cause bank (RuleCause.StillUsed x) = texts.still_used (text_of bank x)

abbrev pub HasRuleCause : Terms → RuleCause → Type 0
HasRuleCause bank (RuleCause.NotAHypothesis x) = HasName bank x
HasRuleCause bank RuleCause.WrongNames = Unit {0}
HasRuleCause bank (RuleCause.NotAnEquation t) = HasTerm bank t
HasRuleCause bank RuleCause.NothingToRewrite = Unit {0}
HasRuleCause bank (RuleCause.NotTransparent x) = HasName bank x
HasRuleCause bank (RuleCause.DoesNotOccur x) = HasName bank x
HasRuleCause bank (RuleCause.NotConvertible t u) = HasTerm bank t × HasTerm bank u
HasRuleCause bank (RuleCause.StillUsed x) = HasName bank x

abbrev pub ltac_cause : Terms → LtacCause → texts.Cause
ltac_cause bank (LtacCause.Failure ms) = texts.failure ms.items
ltac_cause bank LtacCause.NothingApplies = texts.nothing_applies
ltac_cause bank LtacCause.NoMatch = texts.no_match
ltac_cause bank LtacCause.NoProgress = texts.no_progress
ltac_cause bank LtacCause.ManySuccesses = texts.many_successes
ltac_cause bank LtacCause.NoMore = texts.no_more
ltac_cause bank (LtacCause.WrongCount k j) = texts.wrong_count k j
ltac_cause bank LtacCause.NotRunnable = texts.not_runnable
ltac_cause bank LtacCause.NotAFunction = texts.not_a_function
ltac_cause bank (LtacCause.NotATerm x) = texts.not_a_term (text_of bank x)
ltac_cause bank (LtacCause.NotAName x) = texts.not_a_name (text_of bank x)
ltac_cause bank (LtacCause.NotANumber x) = texts.not_a_number (text_of bank x)

abbrev pub HasLtacCause : Terms → LtacCause → Type 0
HasLtacCause bank (LtacCause.Failure ms) = Unit {0}
HasLtacCause bank LtacCause.NothingApplies = Unit {0}
HasLtacCause bank LtacCause.NoMatch = Unit {0}
HasLtacCause bank LtacCause.NoProgress = Unit {0}
HasLtacCause bank LtacCause.ManySuccesses = Unit {0}
HasLtacCause bank LtacCause.NoMore = Unit {0}
HasLtacCause bank (LtacCause.WrongCount k j) = Unit {0}
HasLtacCause bank LtacCause.NotRunnable = Unit {0}
HasLtacCause bank LtacCause.NotAFunction = Unit {0}
HasLtacCause bank (LtacCause.NotATerm x) = HasName bank x
HasLtacCause bank (LtacCause.NotAName x) = HasName bank x
HasLtacCause bank (LtacCause.NotANumber x) = HasName bank x

-- the sign before a message: the first one has a colon
abbrev pub sign_before : ℕ → List ℕ
sign_before zero = codes ": "
sign_before (suc k) = codes " "

-- the cause that is meant
abbrev pub cause_of : Terms → Cause → texts.Cause
cause_of bank (Cause.Text c) = text_cause c
cause_of bank (Cause.Sentence c) = sentence_cause bank c
cause_of bank (Cause.Declaration c) = declaration_cause bank c
cause_of bank (Cause.Term c) = term_cause bank c
cause_of bank (Cause.Goal c) = goal_cause bank c
cause_of bank (Cause.Primitive c) = primitive_cause bank c
cause_of bank (Cause.Rule c) = rule_cause bank c
cause_of bank (Cause.Ltac c) = ltac_cause bank c

-- the bank has the cause's names and terms
abbrev pub HasCause : Terms → Cause → Type 0
HasCause bank (Cause.Text c) = Unit {0}
HasCause bank (Cause.Sentence c) = HasSentenceCause bank c
HasCause bank (Cause.Declaration c) = HasDeclarationCause bank c
HasCause bank (Cause.Term c) = HasTermCause bank c
HasCause bank (Cause.Goal c) = HasGoalCause bank c
HasCause bank (Cause.Primitive c) = HasPrimitiveCause bank c
HasCause bank (Cause.Rule c) = HasRuleCause bank c
HasCause bank (Cause.Ltac c) = HasLtacCause bank c
