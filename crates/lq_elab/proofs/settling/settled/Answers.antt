use Rattle.std.proofs.Common.{arith, refl}
use Rattle.std.specs.Prelude.{option_map}
use Rattle.lq_terms.specs.Terms.{tree_of}
use Rattle.lq_terms.specs.Contexts.{context_of}
use Rattle.lq_solving.specs.Elaboration.{against}
use Rattle.lq_solving.proofs.ElabSettled.{at}
use Rattle.lq_elab.specs.Answers.{found_of}
use Rattle.lq_elab.specs.Waiting.{found_work}
use Rattle.lq_elab.specs.Frames.{waits}
use Rattle.lq_elab.specs.States.{site_of}
use Rattle.lq_elab.proofs.AnswerLaws.{refuses_first, refuses_whole}
use Rattle.lq_elab.proofs.SettleLaws.{comes_fewer, state_settled, stands_settled, goes_settled}
use Rattle.lq_elab.proofs.settling.settled.Goals as goal

pub returns-in-Ok-clause-state : goal.returns-in-Ok-clause-state
returns-in-Ok-clause-state g c =
    state_settled c.args.work.now.bank.now c.agreed.new.work.bank.now c.in-Ok.ensures.grows c.args.site.now c.args.store.now c.agreed.new.store c.args.context.now c.args.scope.now c.args.frames.now c.requires.state c.in-Ok.ensures.has c.in-Ok.ensures.grown

pub returns-in-Ok-clause-stands : goal.returns-in-Ok-clause-stands
returns-in-Ok-clause-stands g c = (
  omega (arith, c.requires.term, c.in-Ok.ensures.grows.nodes),
  omega (arith, c.requires.kind, c.in-Ok.ensures.grows.nodes),
  stands_settled c.args.work.now.bank.now c.agreed.new.work.bank.now c.in-Ok.ensures.grows c.args.site.now c.args.store.now c.agreed.new.store c.args.context.now c.args.scope.now c.args.frames.now c.requires.state c.in-Ok.ensures.has c.in-Ok.ensures.grown c.args.found.term c.requires.term c.requires.term_stands,
  stands_settled c.args.work.now.bank.now c.agreed.new.work.bank.now c.in-Ok.ensures.grows c.args.site.now c.args.store.now c.agreed.new.store c.args.context.now c.args.scope.now c.args.frames.now c.requires.state c.in-Ok.ensures.has c.in-Ok.ensures.grown c.args.found.kind c.requires.kind c.requires.kind_stands,
)

pub returns-in-Ok-clause-goes : goal.returns-in-Ok-clause-goes
returns-in-Ok-clause-goes g c f b h =
    goes_settled c.args.work.now.bank.now c.agreed.new.work.bank.now c.in-Ok.ensures.grows c.args.site.now c.args.store.now c.agreed.new.store c.args.context.now c.args.scope.now c.args.frames.now c.requires.state c.in-Ok.ensures.has c.in-Ok.ensures.grown
    f b c.args.work.now.ticks.now.left c.agreed.new.work.ticks.now.left c.args.found c.requires.term c.requires.kind
    (λ n. against (at n (site_of c.args.work.now.bank.now c.args.site.now)) (context_of c.args.work.now.bank.now c.args.context.now) (option_map (tree_of c.args.work.now.bank.now) c.args.wanted) (found_of c.args.work.now.bank.now c.args.store.now c.args.found))
    h (c.in-Ok.ensures.answer (site_of c.args.work.now.bank.now c.args.site.now) (tree_of c.args.work.now.bank.now c.args.found.term) refl)

pub returns-in-Ok-clause-fewer : goal.returns-in-Ok-clause-fewer
returns-in-Ok-clause-fewer g c =
    comes_fewer (λ n. against (at n (site_of c.args.work.now.bank.now c.args.site.now)) (context_of c.args.work.now.bank.now c.args.context.now) (option_map (tree_of c.args.work.now.bank.now) c.args.wanted) (found_of c.args.work.now.bank.now c.args.store.now c.args.found))
    c.args.work.now.ticks.now.left c.agreed.new.work.ticks.now.left _ (c.in-Ok.ensures.answer (site_of c.args.work.now.bank.now c.args.site.now) (tree_of c.args.work.now.bank.now c.args.found.term) refl)

pub returns-in-Err-clause-goes : goal.returns-in-Err-clause-goes
returns-in-Err-clause-goes g c f b h =
    refuses_whole c.agreed.new.work.bank.now f _ b c.args.work.now.ticks.now.left c.agreed.new.work.ticks.now.left h c.in-Err.fault
    (refuses_first c.agreed.new.work.bank.now (λ n. against (at n (site_of c.args.work.now.bank.now c.args.site.now)) (context_of c.args.work.now.bank.now c.args.context.now) (option_map (tree_of c.args.work.now.bank.now) c.args.wanted) (found_of c.args.work.now.bank.now c.args.store.now c.args.found))
    (λ z n. found_work (site_of c.args.work.now.bank.now c.args.site.now) (waits c.args.work.now.bank.now c.args.context.now c.args.frames.now) z n) c.args.work.now.ticks.now.left c.agreed.new.work.ticks.now.left c.in-Err.fault
    (c.in-Err.ensures.answer (site_of c.args.work.now.bank.now c.args.site.now) (tree_of c.args.work.now.bank.now c.args.found.term) refl))
