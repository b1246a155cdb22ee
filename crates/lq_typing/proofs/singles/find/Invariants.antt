use Rattle.std.proofs.Common.{◌≡◌, drop}
use Rattle.lq_terms.specs.Terms.{text_of}
use Rattle.lq_terms.specs.Contexts.{context_of}
use Rattle.lq_calculus.specs.Contraction.{hypothesis}
use Rattle.lq_typing.proofs.singles.find.Given as goal

-- the hypothesis is the first of those that are left
abbrev pub invariant-loop-hypothesis : goal.invariant-loop-hypothesis
invariant-loop-hypothesis l = hypothesis (context_of l.bank l.hypotheses) (text_of l.bank l.name) ≡ hypothesis (context_of l.bank (drop l.hypothesis-index l.hypotheses)) (text_of l.bank l.name)
