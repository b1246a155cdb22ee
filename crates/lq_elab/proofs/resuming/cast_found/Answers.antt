use Rattle.std.proofs.Common.{◌∷◌, arith}
use Rattle.std.specs.Prelude.{option_map}
use Rattle.lq_terms.specs.Terms.{tree_of}
use Rattle.lq_evars.specs.Places.{store_of}
use Rattle.lq_elab.specs.declared.frames.Part.{Part}
use Rattle.lq_elab.specs.declared.turns.Turn.{Turn}
use Rattle.lq_elab.specs.Answers.{found_of}
use Rattle.lq_elab.specs.Frames.{spot_of, waits}
use Rattle.lq_elab.specs.States.{site_of, turn_work}
use Rattle.lq_elab.proofs.AskLaws.{state_taken}
use Rattle.lq_elab.proofs.PartLaws.{cast_ends}
use Rattle.lq_elab.proofs.LeaveLaws.{continues_settled}
use Rattle.lq_elab.proofs.resuming.cast_found.Goals as goal

pub settled-requires : goal.settled-requires
settled-requires g c = record {
  state = state_taken c.args.work.now.bank.now c.args.site.now c.args.store.now c.args.context.now c.args.scope.now (record { part = Part.CastTerm c.args.kind; wanted = c.args.wanted }) c.args.frames.now c.requires.state tt;
  term = c.requires.found.0;
  term_stands = c.requires.found.2;
  kind = c.requires.state.frames.0;
  kind_stands = c.requires.state.stand.1;
  wanted = c.requires.state.frames.1;
  wanted_stands = c.requires.state.stand.0;
}

pub returns-clause-goes : goal.returns-clause-goes
returns-clause-goes g c =
    continues_settled c.settled.new.work.bank.now c.args.site.now (store_of c.args.work.now.bank.now c.args.store.now) c.settled.new.store c.args.context.now c.args.scope.now c.args.frames.now (record { term = c.args.found.term; kind = c.args.kind }) c.settled.result (turn_work c.args.work.now.bank.now c.args.site.now c.args.store.now c.args.context.now ((record { part = Part.CastTerm c.args.kind; wanted = c.args.wanted }) ∷ c.args.frames.now) (Turn.Found c.args.found)) c.args.work.now.ticks.now.left c.args.work.now.ticks.now.left c.settled.new.work.ticks.now.left _
    c.settled.ensures.state c.settled.ensures.stands c.settled.ensures.is c.settled.ensures.grown c.settled.ensures.fewer (omega arith)
    (c.settled.ensures.goes (turn_work c.args.work.now.bank.now c.args.site.now c.args.store.now c.args.context.now ((record { part = Part.CastTerm c.args.kind; wanted = c.args.wanted }) ∷ c.args.frames.now) (Turn.Found c.args.found)) c.args.work.now.ticks.now.left (cast_ends (site_of c.args.work.now.bank.now c.args.site.now) (waits c.args.work.now.bank.now c.args.context.now c.args.frames.now) (spot_of c.args.work.now.bank.now c.args.context.now c.args.frames.now) (option_map (tree_of c.args.work.now.bank.now) c.args.wanted) (found_of c.args.work.now.bank.now c.args.store.now c.args.found) c.args.work.now.ticks.now.left c.args.work.now.ticks.now.left (tree_of c.args.work.now.bank.now c.args.kind)))
