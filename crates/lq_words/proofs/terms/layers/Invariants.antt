use Rattle.lq_terms.specs.Terms.{Grows, HasName}
use Rattle.lq_words.specs.Low.{IsLow}
use Rattle.lq_words.proofs.terms.layers.Given as goal

-- the bank has grown, and has the binder's name, the parts and the term
abbrev pub invariant-loop : goal.invariant-loop
invariant-loop l = record { grown : Grows l.initial.bank l.bank; binder : HasName l.bank l.binder; first : IsLow l.bank l.first; second : IsLow l.bank l.second; term : IsLow l.bank l.term }
