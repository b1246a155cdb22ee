use Rattle.std.proofs.Common.{◌∷◌, ◌+◌, ◌*◌, sym, ap, arith, length}
use Rattle.std.proofs.Common.{subst as along}
use Rattle.lq_terms.specs.Terms.{tree_of}
use Rattle.lq_terms.specs.Contexts.{context_of}
use Rattle.lq_evars.specs.Places.{store_of}
use Rattle.lq_elab.specs.declared.frames.Part.{Part}
use Rattle.lq_elab.specs.declared.turns.Turn.{Turn}
use Rattle.lq_elab.specs.Frames.{weights}
use Rattle.lq_elab.specs.States.{turn_work}
use Rattle.lq_terms.specs.Contexts.{HasContext}
use Rattle.lq_trees.specs.Hypotheses.{HoldsOnly}
use Rattle.lq_solving.specs.Stores.{names_in}
use Rattle.lq_evars.proofs.Growing.{store_of-grown}
use Rattle.lq_elab.proofs.AskLaws.{state_taken}
use Rattle.lq_elab.proofs.StateLaws.{state_grown}
use Rattle.lq_elab.proofs.PartLaws.{continues_as}
use Rattle.lq_elab.proofs.LeaveLaws.{continues_settled}
use Rattle.lq_elab.proofs.DomainLaws.{application_stands, last_goes, more_goes, empty_is}
use Rattle.lq_elab.proofs.resuming.argument_found.Goals as goal

pub application_made-requires : goal.application_made-requires
application_made-requires g c = record {
  context = along (HasContext c.args.work.now.bank.now) (sym c.hypotheses.ensures) c.requires.state.context;
  function = c.requires.state.frames.0.0;
  rest = c.requires.state.frames.0.1;
  within = c.requires.state.stand.1.1.within;
  holds = along (λ z. HoldsOnly (names_in (context_of c.args.work.now.bank.now z)) (tree_of c.args.work.now.bank.now c.args.rest)) (sym c.hypotheses.ensures) c.requires.state.stand.1.2;
  argument = c.requires.found.0;
  closed = c.requires.found.2.within;
}

pub settled-requires : goal.settled-requires
settled-requires g c =
    let h = state_grown c.args.work.now.bank.now c.application_made.new.bank c.in-Ok.ensures.grows c.args.site.now c.args.store.now c.args.context.now c.args.scope.now ((record { part = Part.Argument c.args.function c.args.rest c.args.others; wanted = c.args.wanted }) ∷ c.args.frames.now) c.requires.state in
    let k = application_stands c.args.work.now.bank.now c.application_made.new.bank c.in-Ok.ensures.grows c.args.site.now c.args.store.now c.args.context.now c.args.scope.now c.args.frames.now c.args.function c.args.rest c.args.others c.args.wanted c.requires.state c.args.found c.requires.found c.in-Ok.made c.in-Ok.ensures.made in record {
      state = state_taken c.application_made.new.bank c.args.site.now c.args.store.now c.args.context.now c.args.scope.now (record { part = Part.Argument c.args.function c.args.rest c.args.others; wanted = c.args.wanted }) c.args.frames.now h tt;
      term = k.0;
      term_stands = k.2;
      kind = k.1;
      kind_stands = k.3;
      wanted = h.frames.1;
      wanted_stands = h.stand.0;
    }

pub followed-requires : goal.followed-requires
followed-requires g c =
    let h = state_grown c.args.work.now.bank.now c.application_made.new.bank c.in-Ok.ensures.grows c.args.site.now c.args.store.now c.args.context.now c.args.scope.now ((record { part = Part.Argument c.args.function c.args.rest c.args.others; wanted = c.args.wanted }) ∷ c.args.frames.now) c.requires.state in record {
      state = state_taken c.application_made.new.bank c.args.site.now c.args.store.now c.args.context.now c.args.scope.now (record { part = Part.Argument c.args.function c.args.rest c.args.others; wanted = c.args.wanted }) c.args.frames.now h tt;
      made = application_stands c.args.work.now.bank.now c.application_made.new.bank c.in-Ok.ensures.grows c.args.site.now c.args.store.now c.args.context.now c.args.scope.now c.args.frames.now c.args.function c.args.rest c.args.others c.args.wanted c.requires.state c.args.found c.requires.found c.in-Ok.made c.in-Ok.ensures.made;
      wanted = h.frames.1;
      wanted_stands = h.stand.0;
    }

pub returns-in-None-clause-goes : goal.returns-in-None-clause-goes
returns-in-None-clause-goes g c =
    continues_as c.settled.new.work.bank.now c.args.site.now (store_of c.application_made.new.bank c.args.store.now) (store_of c.args.work.now.bank.now c.args.store.now) c.settled.new.store c.args.context.now c.args.scope.now c.args.frames.now c.settled.result (turn_work c.args.work.now.bank.now c.args.site.now c.args.store.now c.args.context.now ((record { part = Part.Argument c.args.function c.args.rest c.args.others; wanted = c.args.wanted }) ∷ c.args.frames.now) (Turn.Found c.args.found)) c.args.work.now.ticks.now.left c.settled.new.work.ticks.now.left _ _ (store_of-grown c.args.work.now.bank.now c.application_made.new.bank c.in-Ok.ensures.grows c.args.store.now c.requires.state.store) (omega arith)
    (continues_settled c.settled.new.work.bank.now c.args.site.now (store_of c.application_made.new.bank c.args.store.now) c.settled.new.store c.args.context.now c.args.scope.now c.args.frames.now c.in-Ok.made c.settled.result (turn_work c.args.work.now.bank.now c.args.site.now c.args.store.now c.args.context.now ((record { part = Part.Argument c.args.function c.args.rest c.args.others; wanted = c.args.wanted }) ∷ c.args.frames.now) (Turn.Found c.args.found)) c.args.work.now.ticks.now.left c.args.work.now.ticks.now.left c.settled.new.work.ticks.now.left (weights c.args.frames.now + 1 + 4 * c.args.work.now.ticks.now.left)
    c.settled.ensures.state c.settled.ensures.stands c.settled.ensures.is c.settled.ensures.grown c.settled.ensures.fewer (omega arith)
    (c.settled.ensures.goes (turn_work c.args.work.now.bank.now c.args.site.now c.args.store.now c.args.context.now ((record { part = Part.Argument c.args.function c.args.rest c.args.others; wanted = c.args.wanted }) ∷ c.args.frames.now) (Turn.Found c.args.found)) c.args.work.now.ticks.now.left (last_goes c.args.work.now.bank.now c.application_made.new.bank c.in-Ok.ensures.grows c.args.site.now c.args.store.now c.args.context.now c.args.scope.now c.args.frames.now c.args.function c.args.rest c.args.others c.args.wanted c.requires.state c.args.found c.requires.found c.in-Ok.made c.in-Ok.ensures.made (empty_is c.args.others.now c.in-None.ensures.cases) c.args.work.now.ticks.now.left)))

pub returns-in-Some-clause-goes : goal.returns-in-Some-clause-goes
returns-in-Some-clause-goes g c =
    continues_as c.followed.new.work.bank.now c.args.site.now (store_of c.application_made.new.bank c.args.store.now) (store_of c.args.work.now.bank.now c.args.store.now) c.followed.new.store c.args.context.now c.args.scope.now c.followed.new.frames c.followed.result (turn_work c.args.work.now.bank.now c.args.site.now c.args.store.now c.args.context.now ((record { part = Part.Argument c.args.function c.args.rest c.args.others; wanted = c.args.wanted }) ∷ c.args.frames.now) (Turn.Found c.args.found)) c.args.work.now.ticks.now.left c.followed.new.work.ticks.now.left _ _ (store_of-grown c.args.work.now.bank.now c.application_made.new.bank c.in-Ok.ensures.grows c.args.store.now c.requires.state.store)
    (omega (arith, ap length c.in-Some.ensures.cases.0))
    (c.followed.ensures.goes (turn_work c.args.work.now.bank.now c.args.site.now c.args.store.now c.args.context.now ((record { part = Part.Argument c.args.function c.args.rest c.args.others; wanted = c.args.wanted }) ∷ c.args.frames.now) (Turn.Found c.args.found)) c.args.work.now.ticks.now.left (more_goes c.args.work.now.bank.now c.application_made.new.bank c.in-Ok.ensures.grows c.args.site.now c.args.store.now c.args.context.now c.args.scope.now c.args.frames.now c.args.function c.args.rest c.args.others c.args.wanted c.requires.state c.args.found c.requires.found c.in-Ok.made c.in-Ok.ensures.made c.in-Some.argument.now c.in-Some.later.now c.in-Some.ensures.cases.0 c.args.work.now.ticks.now.left))
