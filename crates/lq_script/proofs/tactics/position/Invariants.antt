use Rattle.std.proofs.Common.{◌≡◌}
use Rattle.lq_terms.specs.Contexts.{context_of}
use Rattle.lq_terms.specs.Terms.{text_of}
use Rattle.lq_output.specs.Steps.{binder_of}
use Rattle.lq_script.specs.Introduced.{names_of}
use Rattle.lq_script.proofs.Proving.{shifted, place_from}
use Rattle.lq_script.proofs.tactics.position.Given as goal

abbrev pub invariant-loop-index : goal.invariant-loop-index
invariant-loop-index l =
    binder_of (names_of (context_of l.bank l.hypotheses)) (text_of l.bank l.name) ≡ shifted l.index (place_from l.bank l.hypotheses (text_of l.bank l.name) l.index)
