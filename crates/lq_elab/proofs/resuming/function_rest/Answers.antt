use Rattle.std.proofs.Common.{◌∷◌, arith}
use Rattle.lq_evars.specs.Places.{store_of}
use Rattle.lq_elab.specs.declared.frames.Part.{Part}
use Rattle.lq_elab.specs.declared.turns.Turn.{Turn}
use Rattle.lq_elab.specs.States.{turn_work}
use Rattle.lq_elab.proofs.StateLaws.{state_grown}
use Rattle.lq_elab.proofs.PartLaws.{continues_as}
use Rattle.lq_evars.proofs.Growing.{store_of-grown}
use Rattle.lq_terms.proofs.Growth.{Grows-refl}
use Rattle.lq_elab.proofs.EndLaws.{function_stands, function_made_goes}
use Rattle.lq_elab.proofs.resuming.function_rest.Goals as goal

pub function_made-requires : goal.function_made-requires
function_made-requires g c = record { bound = c.requires.state.frames.0; rest = c.requires.found.0; within = c.requires.found.2.within; kind = c.requires.found.1; kind_within = c.requires.found.3.within }

pub returned-requires : goal.returned-requires
returned-requires g c = record {
  state = state_grown c.args.work.now.bank.now c.function_made.new.bank c.in-Ok.ensures.grows c.args.site.now c.args.store.now c.args.context.now c.args.scope.now ((record { part = Part.FunctionRest c.args.bound; wanted = c.args.wanted }) ∷ c.args.frames.now) c.requires.state;
  made = function_stands c.args.work.now.bank.now c.args.work.now.bank.now c.function_made.new.bank (Grows-refl c.args.work.now.bank.now) c.in-Ok.ensures.grows c.args.site.now c.args.store.now c.args.context.now c.args.scope.now c.args.frames.now c.args.bound c.args.wanted c.args.found c.in-Ok.made c.requires.state c.requires.found c.in-Ok.ensures.made;
}

pub returns-in-Ok-clause-goes : goal.returns-in-Ok-clause-goes
returns-in-Ok-clause-goes g c =
    continues_as c.returned.new.work.bank.now c.args.site.now (store_of c.function_made.new.bank c.args.store.now) (store_of c.args.work.now.bank.now c.args.store.now) c.returned.new.store c.returned.new.context c.returned.new.scope c.args.frames.now c.returned.result (turn_work c.args.work.now.bank.now c.args.site.now c.args.store.now c.args.context.now ((record { part = Part.FunctionRest c.args.bound; wanted = c.args.wanted }) ∷ c.args.frames.now) (Turn.Found c.args.found)) c.args.work.now.ticks.now.left c.returned.new.work.ticks.now.left _ _
    (store_of-grown c.args.work.now.bank.now c.function_made.new.bank c.in-Ok.ensures.grows c.args.store.now c.requires.state.store) (omega arith)
    (c.returned.ensures.goes (turn_work c.args.work.now.bank.now c.args.site.now c.args.store.now c.args.context.now ((record { part = Part.FunctionRest c.args.bound; wanted = c.args.wanted }) ∷ c.args.frames.now) (Turn.Found c.args.found)) c.args.work.now.ticks.now.left
    (function_made_goes c.args.work.now.bank.now c.args.work.now.bank.now c.function_made.new.bank (Grows-refl c.args.work.now.bank.now) c.in-Ok.ensures.grows c.args.site.now c.args.store.now c.args.context.now c.args.scope.now c.args.frames.now c.args.bound c.args.wanted c.args.found c.in-Ok.made c.requires.state c.requires.found c.in-Ok.ensures.made c.args.work.now.ticks.now.left))
