use Rattle.std.proofs.Common.{◌∷◌, refl, arith}
use Rattle.std.specs.Prelude.{option_map}
use Rattle.lq_terms.specs.Terms.{text_of, tree_of}
use Rattle.lq_elab.specs.declared.frames.Part.{Part}
use Rattle.lq_elab.specs.declared.turns.Turn.{Turn}
use Rattle.lq_elab.specs.Answers.{found_of}
use Rattle.lq_elab.specs.Frames.{spot_of, waits}
use Rattle.lq_elab.specs.States.{site_of, turn_work}
use Rattle.lq_elab.specs.Views.{asked_tree}
use Rattle.lq_elab.proofs.AskLaws.{state_taken}
use Rattle.lq_elab.proofs.SettleLaws.{comes_fewer}
use Rattle.lq_elab.proofs.StateLaws.{state_grown, turn_grown}
use Rattle.lq_elab.proofs.PartLaws.{product_enters, product_refuses, leads_then, work_there, sort_there, store_stays_on}
use Rattle.lq_elab.proofs.resuming.product_domain.Goals as goal

pub sort_of-requires : goal.sort_of-requires
sort_of-requires g c = record {
  env = c.requires.state.site.env;
  plain = c.requires.state.site.plain;
  store = c.requires.state.store;
  kept = c.requires.state.kept;
  context = c.requires.state.context;
  hypotheses = c.requires.state.hypotheses;
  kind = c.requires.found.1;
  stands = c.requires.found.3;
}

pub descended-requires : goal.descended-requires
descended-requires g c =
    let h = state_grown c.args.work.now.bank.now c.sort_of.new.work.bank.now c.in-Ok.ensures.grows c.args.site.now c.args.store.now c.args.context.now c.args.scope.now ((record { part = Part.ProductDomain c.args.binder c.args.rest; wanted = c.args.wanted }) ∷ c.args.frames.now) c.requires.state in
    let k = turn_grown c.args.work.now.bank.now c.sort_of.new.work.bank.now c.in-Ok.ensures.grows c.args.site.now c.args.store.now c.args.context.now c.args.scope.now ((record { part = Part.ProductDomain c.args.binder c.args.rest; wanted = c.args.wanted }) ∷ c.args.frames.now) c.requires.state (Turn.Found c.args.found) c.requires.found in record {
      state = state_taken c.sort_of.new.work.bank.now c.args.site.now c.args.store.now c.args.context.now c.args.scope.now (record { part = Part.ProductDomain c.args.binder c.args.rest; wanted = c.args.wanted }) c.args.frames.now h tt;
      binder = h.frames.0;
      body = tt;
      body_stands = tt;
      kind = k.0;
      kind_stands = k.2;
      wanted = h.frames.1;
      wanted_stands = h.stand.0;
      wanted_rest = tt;
      rest_stands = tt;
    }

pub returns-in-Err-clause-goes : goal.returns-in-Err-clause-goes
returns-in-Err-clause-goes g c =
    product_refuses (site_of c.args.work.now.bank.now c.args.site.now) (waits c.args.work.now.bank.now c.args.context.now c.args.frames.now) (spot_of c.args.work.now.bank.now c.args.context.now c.args.frames.now) (option_map (tree_of c.args.work.now.bank.now) c.args.wanted) (found_of c.args.work.now.bank.now c.args.store.now c.args.found) c.args.work.now.ticks.now.left c.sort_of.new.work.ticks.now.left (text_of c.args.work.now.bank.now c.args.binder) (asked_tree c.args.rest) c.sort_of.new.work.bank.now c.in-Err.fault
    (c.in-Err.ensures.answer (site_of c.args.work.now.bank.now c.args.site.now) (tree_of c.args.work.now.bank.now c.args.found.term) refl)

pub returns-in-Ok-descended-clause-goes : goal.returns-in-Ok-descended-clause-goes
returns-in-Ok-descended-clause-goes g c = record {
  state = c.in-Ok-descended.ensures.state;
  stands = c.in-Ok-descended.ensures.stands;
  grown = store_stays_on c.args.work.now.bank.now c.sort_of.new.work.bank.now c.descended.new.bank c.in-Ok.ensures.grows c.in-Ok-descended.ensures.grows c.args.site.now c.args.store.now c.args.context.now c.args.scope.now ((record { part = Part.ProductDomain c.args.binder c.args.rest; wanted = c.args.wanted }) ∷ c.args.frames.now) c.requires.state;
  falls = omega (arith, c.in-Ok-descended.ensures.falls, comes_fewer _ c.args.work.now.ticks.now.left c.sort_of.new.work.ticks.now.left _ (c.in-Ok.ensures.answer (site_of c.args.work.now.bank.now c.args.site.now) (tree_of c.args.work.now.bank.now c.args.found.term) refl));
  leads = c.in-Ok-descended.ensures.goes (turn_work c.args.work.now.bank.now c.args.site.now c.args.store.now c.args.context.now ((record { part = Part.ProductDomain c.args.binder c.args.rest; wanted = c.args.wanted }) ∷ c.args.frames.now) (Turn.Found c.args.found)) c.args.work.now.ticks.now.left c.sort_of.new.work.ticks.now.left
      (leads_then (turn_work c.args.work.now.bank.now c.args.site.now c.args.store.now c.args.context.now ((record { part = Part.ProductDomain c.args.binder c.args.rest; wanted = c.args.wanted }) ∷ c.args.frames.now) (Turn.Found c.args.found)) (turn_work c.sort_of.new.work.bank.now c.args.site.now c.args.store.now c.args.context.now ((record { part = Part.ProductDomain c.args.binder c.args.rest; wanted = c.args.wanted }) ∷ c.args.frames.now) (Turn.Found c.args.found)) _ c.args.work.now.ticks.now.left c.args.work.now.ticks.now.left c.sort_of.new.work.ticks.now.left
      (work_there c.args.work.now.bank.now c.sort_of.new.work.bank.now c.in-Ok.ensures.grows c.args.site.now c.args.store.now c.args.context.now c.args.scope.now ((record { part = Part.ProductDomain c.args.binder c.args.rest; wanted = c.args.wanted }) ∷ c.args.frames.now) c.requires.state c.args.found c.requires.found c.args.work.now.ticks.now.left)
      (product_enters (site_of c.sort_of.new.work.bank.now c.args.site.now) (waits c.sort_of.new.work.bank.now c.args.context.now c.args.frames.now) (spot_of c.sort_of.new.work.bank.now c.args.context.now c.args.frames.now) (option_map (tree_of c.sort_of.new.work.bank.now) c.args.wanted) (found_of c.sort_of.new.work.bank.now c.args.store.now c.args.found) c.args.work.now.ticks.now.left c.sort_of.new.work.ticks.now.left (text_of c.sort_of.new.work.bank.now c.args.binder) (asked_tree c.args.rest) c.in-Ok.sort
      (sort_there c.args.work.now.bank.now c.sort_of.new.work.bank.now c.in-Ok.ensures.grows c.args.site.now c.args.store.now c.args.context.now c.args.scope.now ((record { part = Part.ProductDomain c.args.binder c.args.rest; wanted = c.args.wanted }) ∷ c.args.frames.now) c.requires.state c.args.found c.requires.found c.in-Ok.sort c.args.work.now.ticks.now.left c.sort_of.new.work.ticks.now.left (c.in-Ok.ensures.answer (site_of c.args.work.now.bank.now c.args.site.now) (tree_of c.args.work.now.bank.now c.args.found.term) refl))));
}
