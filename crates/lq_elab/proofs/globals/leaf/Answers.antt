use Rattle.std.proofs.Common.{sym}
use Rattle.std.proofs.Common.{subst as along}
use Rattle.lq_terms.specs.Terms.{node_tree}
use Rattle.lq_kernel.specs.Steps.{Types}
use Rattle.lq_solving.specs.Elaboration.{Found}
use Rattle.lq_typing.specs.Refusals.{Refuses}
use Rattle.lq_elab.specs.Answers.{leaf_work}
use Rattle.lq_elab.proofs.GlobalLaws.{leaf_found, leaf_refused}
use Rattle.lq_elab.proofs.globals.leaf.Goals as goal

pub returns-in_ok-term-in-Ok-clause-answer : goal.returns-in_ok-term-in-Ok-clause-answer
returns-in_ok-term-in-Ok-clause-answer c = λ k s left h.
    leaf_found s (node_tree c.args.bank.now c.args.node) k left c.args.bank.now c.make.new.self c.in_ok-term-in-Ok.ensures.grows c.in-Ok.kind c.in_ok-term-in-Ok.term
    (along (λ q. Types c.args.bank.now q (λ n. k) left left) c.in-Ok.is h) c.in_ok-term-in-Ok.ensures.made

pub returns-in-Err-clause-answer : goal.returns-in-Err-clause-answer
returns-in-Err-clause-answer c = λ k s left h.
    along (λ y. Refuses {A = Found} c.args.bank.now y (λ n. leaf_work k s (node_tree c.args.bank.now c.args.node)) left left) (sym c.from.ensures)
    (leaf_refused s (node_tree c.args.bank.now c.args.node) k left c.args.bank.now c.in-Err.fault (along (λ q. Types c.args.bank.now q (λ n. k) left left) c.in-Err.is h))
