use Rattle.std.proofs.Common.{◌≡◌, drop}
use Rattle.lq_trees.specs.Fresh.{is_listed}
use Rattle.lq_terms.specs.Terms.{text_of}
use Rattle.lq_terms.specs.Contexts.{context_of}
use Rattle.lq_solving.specs.Stores.{names_in}
use Rattle.lq_unify_rows.proofs.looks.listed.Given as goal

-- the name is one of theirs exactly where it is one of those that are left
abbrev pub invariant-loop-hypothesis : goal.invariant-loop-hypothesis
invariant-loop-hypothesis l =
    is_listed (names_in (context_of l.bank l.hypotheses)) (text_of l.bank l.name) ≡ is_listed (names_in (context_of l.bank (drop l.hypothesis-index l.hypotheses))) (text_of l.bank l.name)
