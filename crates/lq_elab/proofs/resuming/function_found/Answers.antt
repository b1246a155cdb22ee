use Rattle.std.proofs.Common.{◌∷◌, refl, arith, map}
use Rattle.std.specs.Prelude.{option_map}
use Rattle.lq_ast.specs.Plain.{plain}
use Rattle.lq_terms.specs.Terms.{tree_of}
use Rattle.lq_elab.specs.declared.frames.Part.{Part}
use Rattle.lq_elab.specs.declared.turns.Turn.{Turn}
use Rattle.lq_elab.specs.Answers.{found_of}
use Rattle.lq_elab.specs.Frames.{spot_of, waits}
use Rattle.lq_elab.specs.States.{site_of, turn_work}
use Rattle.lq_elab.proofs.AskLaws.{state_taken}
use Rattle.lq_elab.proofs.GoingLaws.{leads_itself}
use Rattle.lq_elab.proofs.SettleLaws.{comes_fewer}
use Rattle.lq_elab.proofs.StateLaws.{state_grown, turn_grown}
use Rattle.lq_elab.proofs.ResumeLaws.{function_goes, function_refuses}
use Rattle.lq_elab.proofs.PartLaws.{work_there, store_stays}
use Rattle.lq_trees.specs.Hypotheses.{HoldsOnly}
use Rattle.lq_solving.specs.Kept.{Stands}
use Rattle.lq_solving.proofs.StandsLaws.{StandsUnder}
use Rattle.lq_elab.proofs.DomainLaws.{product_there, moved}
use Rattle.lq_elab.specs.Frames.{pair_of}
use Rattle.lq_elab.proofs.resuming.function_found.Goals as goal

pub product_of-requires : goal.product_of-requires
product_of-requires g c = record {
  env = c.requires.state.site.env;
  plain = c.requires.state.site.plain;
  store = c.requires.state.store;
  kept = c.requires.state.kept;
  context = c.requires.state.context;
  hypotheses = c.requires.state.hypotheses;
  kind = c.requires.found.1;
  stands = c.requires.found.3;
}

pub waited-requires : goal.waited-requires
waited-requires g c =
    let h = state_grown c.args.work.now.bank.now c.product_of.new.work.bank.now c.in-Ok.ensures.grows c.args.site.now c.args.store.now c.args.context.now c.args.scope.now ((record { part = Part.Function c.args.argument c.args.others; wanted = c.args.wanted }) ∷ c.args.frames.now) c.requires.state in
    let k = turn_grown c.args.work.now.bank.now c.product_of.new.work.bank.now c.in-Ok.ensures.grows c.args.site.now c.args.store.now c.args.context.now c.args.scope.now ((record { part = Part.Function c.args.argument c.args.others; wanted = c.args.wanted }) ∷ c.args.frames.now) c.requires.state (Turn.Found c.args.found) c.requires.found in record {
      state = state_taken c.product_of.new.work.bank.now c.args.site.now c.args.store.now c.args.context.now c.args.scope.now (record { part = Part.Function c.args.argument c.args.others; wanted = c.args.wanted }) c.args.frames.now h tt;
      wanted = h.frames.1;
      wanted_stands = h.stand.0;
      part = (k.0, c.in-Ok.ensures.has.1);
      part_stands = (
        k.2,
        moved c.args.work.now.bank.now c.product_of.new.work.bank.now c.in-Ok.ensures.grows c.args.site.now c.args.store.now c.args.context.now c.args.scope.now ((record { part = Part.Function c.args.argument c.args.others; wanted = c.args.wanted }) ∷ c.args.frames.now) c.requires.state (λ S xs. StandsUnder S xs 1 (tree_of c.product_of.new.work.bank.now c.in-Ok.rest)) c.in-Ok.ensures.rest,
        moved c.args.work.now.bank.now c.product_of.new.work.bank.now c.in-Ok.ensures.grows c.args.site.now c.args.store.now c.args.context.now c.args.scope.now ((record { part = Part.Function c.args.argument c.args.others; wanted = c.args.wanted }) ∷ c.args.frames.now) c.requires.state (λ S xs. HoldsOnly xs (tree_of c.product_of.new.work.bank.now c.in-Ok.rest)) c.in-Ok.ensures.holds,
      );
      outside = tt;
      first = c.in-Ok.ensures.has.0;
      first_stands = moved c.args.work.now.bank.now c.product_of.new.work.bank.now c.in-Ok.ensures.grows c.args.site.now c.args.store.now c.args.context.now c.args.scope.now ((record { part = Part.Function c.args.argument c.args.others; wanted = c.args.wanted }) ∷ c.args.frames.now) c.requires.state (λ S xs. Stands S xs (tree_of c.product_of.new.work.bank.now c.in-Ok.domain)) c.in-Ok.ensures.domain;
    }

pub returns-in-Err-clause-goes : goal.returns-in-Err-clause-goes
returns-in-Err-clause-goes g c =
    function_refuses (site_of c.args.work.now.bank.now c.args.site.now) (waits c.args.work.now.bank.now c.args.context.now c.args.frames.now) (spot_of c.args.work.now.bank.now c.args.context.now c.args.frames.now) (option_map (tree_of c.args.work.now.bank.now) c.args.wanted) (turn_work c.args.work.now.bank.now c.args.site.now c.args.store.now c.args.context.now ((record { part = Part.Function c.args.argument c.args.others; wanted = c.args.wanted }) ∷ c.args.frames.now) (Turn.Found c.args.found)) c.args.work.now.ticks.now.left c.args.work.now.ticks.now.left c.product_of.new.work.ticks.now.left (found_of c.args.work.now.bank.now c.args.store.now c.args.found) c.product_of.new.work.bank.now (plain c.args.argument.now) (map plain c.args.others.now) c.in-Err.fault (leads_itself (turn_work c.args.work.now.bank.now c.args.site.now c.args.store.now c.args.context.now ((record { part = Part.Function c.args.argument c.args.others; wanted = c.args.wanted }) ∷ c.args.frames.now) (Turn.Found c.args.found)) c.args.work.now.ticks.now.left)
    (c.in-Err.ensures.answer (site_of c.args.work.now.bank.now c.args.site.now) refl)

pub returns-in-Ok-waited-clause-goes : goal.returns-in-Ok-waited-clause-goes
returns-in-Ok-waited-clause-goes g c = record {
  state = c.in-Ok-waited.ensures.state;
  stands = c.in-Ok-waited.ensures.stands;
  grown = store_stays c.args.work.now.bank.now c.product_of.new.work.bank.now c.in-Ok.ensures.grows c.args.site.now c.args.store.now c.args.context.now c.args.scope.now ((record { part = Part.Function c.args.argument c.args.others; wanted = c.args.wanted }) ∷ c.args.frames.now) c.requires.state c.args.found c.requires.found;
  falls = omega (arith, c.in-Ok-waited.ensures.falls, comes_fewer _ c.args.work.now.ticks.now.left c.product_of.new.work.ticks.now.left _ (c.in-Ok.ensures.answer (site_of c.args.work.now.bank.now c.args.site.now) refl));
  leads = c.in-Ok-waited.ensures.goes (turn_work c.args.work.now.bank.now c.args.site.now c.args.store.now c.args.context.now ((record { part = Part.Function c.args.argument c.args.others; wanted = c.args.wanted }) ∷ c.args.frames.now) (Turn.Found c.args.found)) c.args.work.now.ticks.now.left c.product_of.new.work.ticks.now.left
      (function_goes (site_of c.product_of.new.work.bank.now c.args.site.now) (waits c.product_of.new.work.bank.now c.args.context.now c.args.frames.now) (spot_of c.product_of.new.work.bank.now c.args.context.now c.args.frames.now) (option_map (tree_of c.product_of.new.work.bank.now) c.args.wanted) (turn_work c.args.work.now.bank.now c.args.site.now c.args.store.now c.args.context.now ((record { part = Part.Function c.args.argument c.args.others; wanted = c.args.wanted }) ∷ c.args.frames.now) (Turn.Found c.args.found)) c.args.work.now.ticks.now.left c.args.work.now.ticks.now.left c.product_of.new.work.ticks.now.left (found_of c.product_of.new.work.bank.now c.args.store.now c.args.found) (plain c.args.argument.now) (map plain c.args.others.now) (pair_of c.product_of.new.work.bank.now (c.in-Ok.domain, c.in-Ok.rest))
      (work_there c.args.work.now.bank.now c.product_of.new.work.bank.now c.in-Ok.ensures.grows c.args.site.now c.args.store.now c.args.context.now c.args.scope.now ((record { part = Part.Function c.args.argument c.args.others; wanted = c.args.wanted }) ∷ c.args.frames.now) c.requires.state c.args.found c.requires.found c.args.work.now.ticks.now.left)
      (product_there c.args.work.now.bank.now c.product_of.new.work.bank.now c.in-Ok.ensures.grows c.args.site.now c.args.store.now c.args.context.now c.args.scope.now ((record { part = Part.Function c.args.argument c.args.others; wanted = c.args.wanted }) ∷ c.args.frames.now) c.requires.state c.args.found c.requires.found (pair_of c.product_of.new.work.bank.now (c.in-Ok.domain, c.in-Ok.rest)) c.args.work.now.ticks.now.left c.product_of.new.work.ticks.now.left (c.in-Ok.ensures.answer (site_of c.args.work.now.bank.now c.args.site.now) refl)));
}
