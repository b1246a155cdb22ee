use Rattle.std.proofs.Common.{sym, subst}
use Rattle.lq_terms.specs.Terms.{tree_of}
use Rattle.lq_terms.specs.Contexts.{context_of}
use Rattle.lq_states.specs.Kept.{IsSwept}
use Rattle.lq_goals.proofs.Exchanging.{alone_is, alone_swept}
use Rattle.lq_goals.proofs.proof.Proof.alone.Goals as goal

pub returns-clause-told : goal.returns-clause-told
returns-clause-told c bank =
    alone_is bank c.in_ok-store.store c.in_ok-focus.focus.items c.new.result.items (context_of bank c.args.context) (tree_of bank c.args.kind)
    (c.in_ok-store.ensures.told bank) c.in_ok-focus.ensures c.new.ensures.items

pub returns-clause-swept : goal.returns-clause-swept
returns-clause-swept c bank =
    subst (λ p. IsSwept p 0 1) (sym (returns-clause-told c bank)) (alone_swept (context_of bank c.args.context) (tree_of bank c.args.kind))
