use Rattle.std.proofs.Common.{◌≡◌, take, None}
use Rattle.lq_terms.specs.Terms.{Grows}
use Rattle.lq_terms.specs.Contexts.{context_of}
use Rattle.lq_solving.specs.Stores.{read_context}
use Rattle.lq_evars.specs.Places.{store_of}
use Rattle.lq_states.specs.Views.{context_terms, first_unfit}
use Rattle.lq_goals.specs.Seen.{AreHypotheses}
use Rattle.lq_goals.proofs.views.read_context.Given as goal

-- those before are read, and none of their terms passes a limit
abbrev pub invariant-loop-hypothesis : goal.invariant-loop-hypothesis
invariant-loop-hypothesis l = record {
  read : AreHypotheses l.bank (read_context (store_of l.initial.bank l.store) (context_of l.initial.bank (take l.hypothesis-index l.context))) l.read;
  fit : first_unfit (context_terms (read_context (store_of l.initial.bank l.store) (context_of l.initial.bank (take l.hypothesis-index l.context)))) ≡ None;
  grows : Grows l.initial.bank l.bank;
}
