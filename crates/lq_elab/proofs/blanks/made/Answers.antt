use Rattle.std.proofs.Common.{sym, arith, ap}
use Rattle.std.proofs.Common.{subst as along}
use Rattle.std.specs.Prelude.{option_map}
use Rattle.lq_terms.specs.Terms.{text_of, tree_of}
use Rattle.lq_terms.specs.Contexts.{context_of}
use Rattle.lq_terms.proofs.Tellings.{context_of-grown}
use Rattle.lq_solving.specs.Kept.{StandsIn}
use Rattle.lq_solving.specs.Elaboration.{made}
use Rattle.lq_evars.specs.Places.{store_of}
use Rattle.lq_elab.specs.Waiting.{found_work}
use Rattle.lq_elab.specs.Frames.{waits}
use Rattle.lq_elab.specs.States.{site_of}
use Rattle.lq_elab.proofs.AnswerLaws.{refuses_first, refuses_whole}
use Rattle.lq_elab.proofs.BlankLaws.{next_found}
use Rattle.lq_elab.proofs.SettleLaws.{state_settled, stands_settled}
use Rattle.lq_elab.proofs.blanks.made.Goals as goal

pub returns-in-Ok-clause-state : goal.returns-in-Ok-clause-state
returns-in-Ok-clause-state c = state_settled c.args.bank.now c.new_variable.new.bank c.in-Ok.ensures.grows c.args.site.now c.args.store.now c.new_variable.new.store c.args.context.now c.args.scope.now c.args.frames.now c.requires.state c.in-Ok.ensures.has c.in-Ok.ensures.grown

pub returns-in-Ok-clause-stands : goal.returns-in-Ok-clause-stands
returns-in-Ok-clause-stands c = (
  c.in-Ok.ensures.term,
  omega (arith, ap (λ t. t.place) c.in-Ok.ensures.kind, c.requires.kind, c.in-Ok.ensures.grows.nodes),
  along (λ z. StandsIn (store_of c.new_variable.new.bank c.new_variable.new.store) z (tree_of c.new_variable.new.bank c.in-Ok.found.term)) (sym (context_of-grown c.args.bank.now c.new_variable.new.bank c.in-Ok.ensures.grows c.args.context.now c.requires.state.context)) c.in-Ok.ensures.term_stands,
  along (λ t. StandsIn (store_of c.new_variable.new.bank c.new_variable.new.store) (context_of c.new_variable.new.bank c.args.context.now) (tree_of c.new_variable.new.bank t)) (sym c.in-Ok.ensures.kind) (stands_settled c.args.bank.now c.new_variable.new.bank c.in-Ok.ensures.grows c.args.site.now c.args.store.now c.new_variable.new.store c.args.context.now c.args.scope.now c.args.frames.now c.requires.state c.in-Ok.ensures.has c.in-Ok.ensures.grown c.args.kind c.requires.kind c.requires.stands),
)

pub returns-in-Ok-clause-goes : goal.returns-in-Ok-clause-goes
returns-in-Ok-clause-goes c f b l h = next_found c.args.bank.now c.new_variable.new.bank c.in-Ok.ensures.grows c.args.site.now c.args.store.now c.args.context.now c.args.scope.now c.args.frames.now c.requires.state c.new_variable.new.store c.in-Ok.found (made (context_of c.args.bank.now c.args.context.now) (store_of c.args.bank.now c.args.store.now) (tree_of c.args.bank.now c.args.kind) (option_map (text_of c.args.bank.now) c.args.name)) f b l h (c.in-Ok.ensures.answer l)

pub returns-in-Err-clause-goes : goal.returns-in-Err-clause-goes
returns-in-Err-clause-goes c f b l h =
    refuses_whole c.new_variable.new.bank f _ b l l h c.in-Err.fault (refuses_first c.new_variable.new.bank (λ n. (made (context_of c.args.bank.now c.args.context.now) (store_of c.args.bank.now c.args.store.now) (tree_of c.args.bank.now c.args.kind) (option_map (text_of c.args.bank.now) c.args.name))) (λ z n. found_work (site_of c.args.bank.now c.args.site.now) (waits c.args.bank.now c.args.context.now c.args.frames.now) z n) l l c.in-Err.fault (c.in-Err.ensures.answer l))
