use Rattle.std.proofs.Common.{◌∷◌, refl, arith}
use Rattle.std.specs.Prelude.{option_map}
use Rattle.lq_ast.specs.Plain.{plain}
use Rattle.lq_terms.specs.Terms.{tree_of}
use Rattle.lq_elab.specs.declared.frames.Part.{Part}
use Rattle.lq_elab.specs.declared.turns.Turn.{Turn}
use Rattle.lq_elab.specs.Answers.{found_of}
use Rattle.lq_elab.specs.Frames.{spot_of, waits}
use Rattle.lq_elab.specs.States.{site_of, turn_work}
use Rattle.lq_elab.proofs.AskLaws.{state_taken}
use Rattle.lq_elab.proofs.GoingLaws.{leads_itself}
use Rattle.lq_elab.proofs.SettleLaws.{comes_fewer}
use Rattle.lq_elab.proofs.StateLaws.{state_grown, turn_grown}
use Rattle.lq_elab.proofs.ResumeLaws.{cast_goes, cast_refuses}
use Rattle.lq_elab.proofs.PartLaws.{work_there, sort_there, store_stays}
use Rattle.lq_elab.proofs.resuming.cast_typed.Goals as goal

pub sort_of-requires : goal.sort_of-requires
sort_of-requires g c = record {
  env = c.requires.state.site.env;
  plain = c.requires.state.site.plain;
  store = c.requires.state.store;
  kept = c.requires.state.kept;
  context = c.requires.state.context;
  hypotheses = c.requires.state.hypotheses;
  kind = c.requires.found.1;
  stands = c.requires.found.3;
}

pub waited-requires : goal.waited-requires
waited-requires g c =
    let h = state_grown c.args.work.now.bank.now c.sort_of.new.work.bank.now c.in-Ok.ensures.grows c.args.site.now c.args.store.now c.args.context.now c.args.scope.now ((record { part = Part.CastKind c.args.term; wanted = c.args.wanted }) ∷ c.args.frames.now) c.requires.state in
    let k = turn_grown c.args.work.now.bank.now c.sort_of.new.work.bank.now c.in-Ok.ensures.grows c.args.site.now c.args.store.now c.args.context.now c.args.scope.now ((record { part = Part.CastKind c.args.term; wanted = c.args.wanted }) ∷ c.args.frames.now) c.requires.state (Turn.Found c.args.found) c.requires.found in record {
      state = state_taken c.sort_of.new.work.bank.now c.args.site.now c.args.store.now c.args.context.now c.args.scope.now (record { part = Part.CastKind c.args.term; wanted = c.args.wanted }) c.args.frames.now h tt;
      wanted = h.frames.1;
      wanted_stands = h.stand.0;
      part = k.0;
      part_stands = k.2;
      outside = tt;
      first = k.0;
      first_stands = k.2;
    }

pub returns-in-Err-clause-goes : goal.returns-in-Err-clause-goes
returns-in-Err-clause-goes g c =
    cast_refuses (site_of c.args.work.now.bank.now c.args.site.now) (waits c.args.work.now.bank.now c.args.context.now c.args.frames.now) (spot_of c.args.work.now.bank.now c.args.context.now c.args.frames.now) (option_map (tree_of c.args.work.now.bank.now) c.args.wanted) (turn_work c.args.work.now.bank.now c.args.site.now c.args.store.now c.args.context.now ((record { part = Part.CastKind c.args.term; wanted = c.args.wanted }) ∷ c.args.frames.now) (Turn.Found c.args.found)) c.args.work.now.ticks.now.left c.args.work.now.ticks.now.left c.sort_of.new.work.ticks.now.left (found_of c.args.work.now.bank.now c.args.store.now c.args.found) c.sort_of.new.work.bank.now (plain c.args.term.now) c.in-Err.fault (leads_itself (turn_work c.args.work.now.bank.now c.args.site.now c.args.store.now c.args.context.now ((record { part = Part.CastKind c.args.term; wanted = c.args.wanted }) ∷ c.args.frames.now) (Turn.Found c.args.found)) c.args.work.now.ticks.now.left)
    (c.in-Err.ensures.answer (site_of c.args.work.now.bank.now c.args.site.now) (tree_of c.args.work.now.bank.now c.args.found.term) refl)

pub returns-in-Ok-waited-clause-goes : goal.returns-in-Ok-waited-clause-goes
returns-in-Ok-waited-clause-goes g c = record {
  state = c.in-Ok-waited.ensures.state;
  stands = c.in-Ok-waited.ensures.stands;
  grown = store_stays c.args.work.now.bank.now c.sort_of.new.work.bank.now c.in-Ok.ensures.grows c.args.site.now c.args.store.now c.args.context.now c.args.scope.now ((record { part = Part.CastKind c.args.term; wanted = c.args.wanted }) ∷ c.args.frames.now) c.requires.state c.args.found c.requires.found;
  falls = omega (arith, c.in-Ok-waited.ensures.falls, comes_fewer _ c.args.work.now.ticks.now.left c.sort_of.new.work.ticks.now.left _ (c.in-Ok.ensures.answer (site_of c.args.work.now.bank.now c.args.site.now) (tree_of c.args.work.now.bank.now c.args.found.term) refl));
  leads = c.in-Ok-waited.ensures.goes (turn_work c.args.work.now.bank.now c.args.site.now c.args.store.now c.args.context.now ((record { part = Part.CastKind c.args.term; wanted = c.args.wanted }) ∷ c.args.frames.now) (Turn.Found c.args.found)) c.args.work.now.ticks.now.left c.sort_of.new.work.ticks.now.left
      (cast_goes (site_of c.sort_of.new.work.bank.now c.args.site.now) (waits c.sort_of.new.work.bank.now c.args.context.now c.args.frames.now) (spot_of c.sort_of.new.work.bank.now c.args.context.now c.args.frames.now) (option_map (tree_of c.sort_of.new.work.bank.now) c.args.wanted) (turn_work c.args.work.now.bank.now c.args.site.now c.args.store.now c.args.context.now ((record { part = Part.CastKind c.args.term; wanted = c.args.wanted }) ∷ c.args.frames.now) (Turn.Found c.args.found)) c.args.work.now.ticks.now.left c.args.work.now.ticks.now.left c.sort_of.new.work.ticks.now.left (found_of c.sort_of.new.work.bank.now c.args.store.now c.args.found) (plain c.args.term.now) c.in-Ok.field-0 (work_there c.args.work.now.bank.now c.sort_of.new.work.bank.now c.in-Ok.ensures.grows c.args.site.now c.args.store.now c.args.context.now c.args.scope.now ((record { part = Part.CastKind c.args.term; wanted = c.args.wanted }) ∷ c.args.frames.now) c.requires.state c.args.found c.requires.found c.args.work.now.ticks.now.left)
      (sort_there c.args.work.now.bank.now c.sort_of.new.work.bank.now c.in-Ok.ensures.grows c.args.site.now c.args.store.now c.args.context.now c.args.scope.now ((record { part = Part.CastKind c.args.term; wanted = c.args.wanted }) ∷ c.args.frames.now) c.requires.state c.args.found c.requires.found c.in-Ok.field-0 c.args.work.now.ticks.now.left c.sort_of.new.work.ticks.now.left (c.in-Ok.ensures.answer (site_of c.args.work.now.bank.now c.args.site.now) (tree_of c.args.work.now.bank.now c.args.found.term) refl)));
}
