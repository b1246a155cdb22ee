use Rattle.lq_terms.specs.Terms.{Grows}
use Rattle.lq_terms.specs.Contexts.{HasContext}
use Rattle.lq_words.proofs.families.context.Given as goal

-- the bank has grown, and has the context so far
abbrev pub invariant-loop-pair : goal.invariant-loop-pair
invariant-loop-pair l = record { grown : Grows l.initial.bank l.bank; has : HasContext l.bank l.context }
