-- What names stand for outermost.
use Rattle.std.specs.Prelude.{Option}
use Rattle.lq_trees.specs.Tree.{Name, Context, value_of}
use Rattle.lq_calculus.specs.Contraction.{hypothesis}
use Rattle.lq_solving.specs.Elaboration.{Givens}
use Rattle.lq_elab.specs.declared.scope.Meaning as code
use Rattle.lq_elab.specs.Naming.{Meaning, meaning_if, value_or}

-- a hypothesis, if there is one
abbrev pub named_hypothesis : Context → Name → Option Meaning
named_hypothesis g x = meaning_if (hypothesis g x)

-- the Ltac value, else the hypothesis
abbrev pub named_value : Context → Givens → Name → Option Meaning
named_value g vs x = value_or g (value_of vs x) (hypothesis g x)

-- nothing in place of a global
abbrev pub not_global : code.Meaning → code.Meaning
not_global (code.Meaning.Variable y K) = code.Meaning.Variable y K
not_global (code.Meaning.Value t) = code.Meaning.Value t
not_global code.Meaning.Nothing = code.Meaning.Nothing
not_global code.Meaning.NoTerm = code.Meaning.NoTerm
not_global code.Meaning.Global = code.Meaning.Nothing
