use Rattle.std.proofs.Common.{◌∙◌, ◌∷◌, sym, ap, arith, None}
use Rattle.std.proofs.Common.{subst as along}
use Rattle.std.specs.Prelude.{option_map}
use Rattle.lq_trees.specs.Fresh.{fresh}
use Rattle.lq_ast.specs.Plain.{plain}
use Rattle.lq_terms.specs.Terms.{text_of, tree_of}
use Rattle.lq_terms.specs.Contexts.{context_of}
use Rattle.lq_evars.specs.Places.{store_of}
use Rattle.lq_elab.specs.declared.entering.Under.{Under}
use Rattle.lq_elab.specs.declared.frames.Part.{Part}
use Rattle.lq_elab.specs.declared.turns.Turn.{Turn}
use Rattle.lq_elab.specs.Answers.{found_of}
use Rattle.lq_elab.specs.Frames.{spot_of, waits}
use Rattle.lq_elab.specs.States.{site_of, turn_work}
use Rattle.lq_terms.specs.Terms.{HasTerm}
use Rattle.lq_solving.specs.Kept.{StandsIn}
use Rattle.lq_solving.specs.Stores.{names_in}
use Rattle.lq_elab.specs.Entering.{rest_part, spot_under}
use Rattle.lq_elab.specs.Waiting.{waiting, asked_work, Leads}
use Rattle.lq_elab.proofs.AskLaws.{state_taken}
use Rattle.lq_elab.proofs.PartLaws.{definition_enters, store_stays}
use Rattle.lq_elab.proofs.DomainLaws.{written_is, written_has, written_stands}
use Rattle.lq_elab.proofs.resuming.definition_value.Goals as goal

pub descended-requires : goal.descended-requires
descended-requires g c = record {
  state = state_taken c.args.work.now.bank.now c.args.site.now c.args.store.now c.args.context.now c.args.scope.now (record { part = Part.DefinitionValue c.args.binder c.args.kind c.args.rest; wanted = c.args.wanted }) c.args.frames.now c.requires.state tt;
  binder = c.requires.state.frames.0.0;
  body = c.requires.found.0;
  body_stands = c.requires.found.2;
  kind = along (HasTerm c.args.work.now.bank.now) (sym c.kind_or.ensures) (written_has c.args.work.now.bank.now c.args.kind c.args.found.kind c.requires.state.frames.0.1 c.requires.found.1);
  kind_stands = along (λ z. StandsIn (store_of c.args.work.now.bank.now c.args.store.now) (context_of c.args.work.now.bank.now c.args.context.now) (tree_of c.args.work.now.bank.now z)) (sym c.kind_or.ensures)
      (written_stands c.args.work.now.bank.now (store_of c.args.work.now.bank.now c.args.store.now) (names_in (context_of c.args.work.now.bank.now c.args.context.now)) c.args.kind c.args.found.kind c.requires.state.stand.1 c.requires.found.3);
  wanted = c.requires.state.frames.1;
  wanted_stands = c.requires.state.stand.0;
  wanted_rest = tt;
  rest_stands = tt;
}

pub returns-in-Ok-clause-goes : goal.returns-in-Ok-clause-goes
returns-in-Ok-clause-goes g c = record {
  state = c.in-Ok.ensures.state;
  stands = c.in-Ok.ensures.stands;
  grown = store_stays c.args.work.now.bank.now c.descended.new.bank c.in-Ok.ensures.grows c.args.site.now c.args.store.now c.args.context.now c.args.scope.now ((record { part = Part.DefinitionValue c.args.binder c.args.kind c.args.rest; wanted = c.args.wanted }) ∷ c.args.frames.now) c.requires.state c.args.found c.requires.found;
  falls = omega (arith, c.in-Ok.ensures.falls);
  leads = c.in-Ok.ensures.goes (turn_work c.args.work.now.bank.now c.args.site.now c.args.store.now c.args.context.now ((record { part = Part.DefinitionValue c.args.binder c.args.kind c.args.rest; wanted = c.args.wanted }) ∷ c.args.frames.now) (Turn.Found c.args.found)) c.args.work.now.ticks.now.left c.args.work.now.ticks.now.left
      (along (λ z. Leads (turn_work c.args.work.now.bank.now c.args.site.now c.args.store.now c.args.context.now ((record { part = Part.DefinitionValue c.args.binder c.args.kind c.args.rest; wanted = c.args.wanted }) ∷ c.args.frames.now) (Turn.Found c.args.found)) (asked_work (site_of c.args.work.now.bank.now c.args.site.now) (waiting (spot_of c.args.work.now.bank.now c.args.context.now c.args.frames.now) (option_map (tree_of c.args.work.now.bank.now) c.args.wanted)
      (rest_part c.args.work.now.bank.now (Under.Definition c.args.found.term) (text_of c.args.work.now.bank.now c.args.binder) (fresh (context_of c.args.work.now.bank.now c.args.context.now) (text_of c.args.work.now.bank.now c.args.binder)) z) ∷ waits c.args.work.now.bank.now c.args.context.now c.args.frames.now)
      (spot_under c.args.work.now.bank.now (spot_of c.args.work.now.bank.now c.args.context.now c.args.frames.now) (Under.Definition c.args.found.term) (text_of c.args.work.now.bank.now c.args.binder) (fresh (context_of c.args.work.now.bank.now c.args.context.now) (text_of c.args.work.now.bank.now c.args.binder)) z)
      (store_of c.args.work.now.bank.now c.args.store.now) (plain c.args.rest.now) None) c.args.work.now.ticks.now.left c.args.work.now.ticks.now.left) (sym (ap (tree_of c.args.work.now.bank.now) c.kind_or.ensures ∙ written_is c.args.work.now.bank.now c.args.store.now c.args.kind c.args.found))
      (definition_enters (site_of c.args.work.now.bank.now c.args.site.now) (waits c.args.work.now.bank.now c.args.context.now c.args.frames.now) (spot_of c.args.work.now.bank.now c.args.context.now c.args.frames.now) (option_map (tree_of c.args.work.now.bank.now) c.args.wanted) (found_of c.args.work.now.bank.now c.args.store.now c.args.found) c.args.work.now.ticks.now.left c.args.work.now.ticks.now.left (text_of c.args.work.now.bank.now c.args.binder) (option_map (tree_of c.args.work.now.bank.now) c.args.kind) (plain c.args.rest.now)));
}
