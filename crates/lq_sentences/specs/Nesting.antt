-- Sentences that nest as deep as so many levels: with 201 they are those of the grammar, and each depth has its levels.
use Rattle.std.specs.Prelude.{◌≡◌, ℕ, suc, ◌-◌, true, List, [], ◌∷◌, Option, Some, None, codes}
use Rattle.lq_grammar.specs.declared.token.Symbol.TheVariants.{ColonEqual, OpenRound, Colon, Bar, Stop as StopSign}
use Rattle.lq_trees.specs.Tree.{Name}
use Rattle.lq_ast.specs.declared.sentence.Selector.{Selector}
use Rattle.lq_ast.specs.Syntax.{Surface, Bound}
use Rattle.lq_ast.specs.Tactics.{Tac}
use Rattle.lq_ast.specs.Commands.{Vernac, Statement, command, run, Sentence, stated}
use Rattle.lq_ast.specs.Commands as form
use Rattle.lq_ast.specs.Plain.{joined}
use Rattle.lq_sentences.specs.declared.forms.Command.{Command}
use Rattle.lq_sentences.specs.declared.forms.Command.TheVariants as which
use Rattle.lq_sentences.specs.Words.{Word, Words, is_sign, reads, text_of}
use Rattle.lq_sentences.specs.Rules.{Rule, pure, word, choose, ◌>>=◌, ◌>>◌, ◌<$>◌}
use Rattle.lq_sentences.specs.Parts.{entry, behind, eat, maybe, many, separated, a_number, names}
use Rattle.lq_sentences.specs.Terms.{term, group}
use Rattle.lq_sentences.specs.Patterns.{free_spot}
use Rattle.lq_sentences.specs.Tactics.{level}
use Rattle.lq_sentences.specs.Sentences.{all_levels, take_name, becomes, command_words, is_entry, selector, stop, whole_open, whole_mark, IsWhole}

-- a term, an expression and a group with n levels for what stands outside everything
abbrev pub term_within : ℕ → Rule Surface
term_within n = term n free_spot

abbrev pub tac_within : ℕ → Rule Tac
tac_within n = (level n).tac []

abbrev pub group_within : ℕ → Word × ℕ → Rule (List Bound)
group_within n w = group all_levels (n - 1) (term (n - 1) free_spot)

-- {group}
abbrev pub groups_within : ℕ → Rule (List Bound)
groups_within n = joined <$> many all_levels (is_sign OpenRound) (group_within n) []

-- ":" term
abbrev pub colon_within : ℕ → Rule Surface
colon_within n = behind all_levels Colon (term_within n)

-- ctor = name ":" term
abbrev pub constructor_within : ℕ → Rule (Name × Surface)
constructor_within n = do
  c ← take_name
  A ← colon_within n
  pure (c, A)

-- [["|"] ctor {"|" ctor}]
abbrev pub constructors_within : ℕ → Rule (List (Name × Surface))
constructors_within n = choose (is_sign StopSign) (pure []) (eat all_levels (is_sign Bar) >> separated all_levels Bar (constructor_within n))

-- name {group}
abbrev pub head_within : ℕ → Rule (Name × List Bound)
head_within n = do
  x ← take_name
  xs ← groups_within n
  pure (x, xs)

-- name {group} ":" term
abbrev pub declared_within : ℕ → Rule (Name × List Bound × Surface)
declared_within n = do
  x ← head_within n
  A ← colon_within n
  pure (x.0, x.1, A)

-- name {group} ":" term ":=" [["|"] ctor {"|" ctor}]
abbrev pub inductive_within : ℕ → Rule Vernac
inductive_within n = do
  d ← declared_within n
  cs ← behind all_levels ColonEqual (constructors_within n)
  pure (form.inductive_family d.0 d.1 d.2 cs)

-- name {group} [":" term] ":=" term
abbrev pub definition_within : ℕ → Rule Vernac
definition_within n = do
  x ← head_within n
  A ← maybe (is_sign Colon) (colon_within n)
  t ← behind all_levels ColonEqual (term_within n)
  pure (form.definition x.0 x.1 A t)

-- name {group} ":" term
abbrev pub statement_within : ℕ → (Name → List Bound → Surface → Vernac) → Rule Vernac
statement_within n node = (λ d. node d.0 d.1 d.2) <$> declared_within n

-- name {name} ":=" tac
abbrev pub ltac_within : ℕ → Rule Vernac
ltac_within n = do
  x ← take_name
  xs ← names all_levels
  _ ← becomes
  a ← tac_within n
  pure (form.ltac x xs a)

-- number tac
abbrev pub outcomes_within : ℕ → Rule Vernac
outcomes_within n = do
  k ← a_number all_levels
  a ← tac_within n
  pure (form.outcomes k a)

-- what stands behind the word of a command
abbrev pub command_within : ℕ → Command → Rule Vernac
command_within n which.Inductive = inductive_within n
command_within n which.Definition = definition_within n
command_within n which.Theorem = statement_within n form.theorem
command_within n which.Lemma = statement_within n form.lemma
command_within n which.Proof = pure form.proof
command_within n which.Qed = pure form.qed
command_within n which.Defined = pure form.defined
command_within n which.Abort = pure form.abort
command_within n which.Unshelve = pure form.unshelve
command_within n which.Show = pure form.show
command_within n which.Print = form.print <$> take_name
command_within n which.Check = form.check <$> term_within n
command_within n which.Ltac = ltac_within n
command_within n which.Outcomes = outcomes_within n

-- what stands behind the first word of a command
abbrev pub command_at_within : ℕ → Word → Rule Vernac
command_at_within n w = elim (entry command_words (text_of w)) [ Some c ↦ command_within n c | None ↦ pure form.show ]

-- vernac "."
unfoldable pub whole_command_within : ℕ → Rule Statement
whole_command_within n = (word all_levels (is_entry command_words) >>= (λ w. command_at_within n w.0)) >>= (λ c. stop (command c))

-- tac "."
unfoldable pub whole_tac_within : ℕ → Option Selector → Rule Statement
whole_tac_within n s = tac_within n >>= (λ a. stop (run s a))

-- selector ":" tac "."
unfoldable pub whole_selected_within : ℕ → Rule Statement
whole_selected_within n = selector >>= (λ s. whole_tac_within n (Some s))

-- a statement: a command, or an expression with a selector or without; and `Fail` before one
pub data IsStatedWithin (n : ℕ) : Words → Sentence → Type 0 where
  is_command : {ws : Words} {s : Statement} → IsWhole (whole_command_within n) ws s → IsStatedWithin n ws (stated 0 s)
  is_failing : {w : Word × ℕ} {ws : Words} {k : ℕ} {s : Statement} → reads (codes "Fail") w.0 ≡ true → IsStatedWithin n ws (stated k s) → IsStatedWithin n (w ∷ ws) (stated (suc k) s)
  is_selected : {ws : Words} {s : Statement} → IsWhole (whole_selected_within n) ws s → IsStatedWithin n ws (stated 0 s)
  is_tac : {ws : Words} {s : Statement} → IsWhole (whole_tac_within n None) ws s → IsStatedWithin n ws (stated 0 s)

-- sentence = vernac "." | [selector ":"] tac "." | [selector ":"] "{" | "}" | bullet
pub data IsSentenceWithin (n : ℕ) : Words → Sentence → Type 0 where
  is_stated : {ws : Words} {s : Sentence} → IsStatedWithin n ws s → IsSentenceWithin n ws s
  is_opened : {ws : Words} {s : Sentence} → IsWhole whole_open ws s → IsSentenceWithin n ws s
  is_marked : {ws : Words} {s : Sentence} → IsWhole whole_mark ws s → IsSentenceWithin n ws s
