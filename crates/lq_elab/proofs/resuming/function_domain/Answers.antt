use Rattle.std.proofs.Common.{◌∷◌, refl, sym, arith}
use Rattle.std.proofs.Common.{subst as along}
use Rattle.std.specs.Prelude.{option_map}
use Rattle.lq_terms.specs.Terms.{text_of, tree_of}
use Rattle.lq_terms.specs.Contexts.{context_of}
use Rattle.lq_evars.specs.Places.{store_of}
use Rattle.lq_elab.specs.declared.frames.Part.{Part}
use Rattle.lq_elab.specs.declared.turns.Turn.{Turn}
use Rattle.lq_elab.specs.Answers.{found_of}
use Rattle.lq_elab.specs.Frames.{spot_of, waits}
use Rattle.lq_elab.specs.States.{site_of, turn_work}
use Rattle.lq_elab.specs.Views.{asked_tree}
use Rattle.lq_terms.specs.Contexts.{HasBody}
use Rattle.lq_solving.specs.Kept.{OptionStands}
use Rattle.lq_solving.specs.Stores.{names_in}
use Rattle.lq_evars.proofs.Growing.{store_of-grown}
use Rattle.lq_solving.proofs.ElabKept.{Grown}
use Rattle.lq_elab.specs.Frames.{pair_of}
use Rattle.lq_elab.specs.Entering.{RestStands}
use Rattle.lq_elab.proofs.AskLaws.{state_taken}
use Rattle.lq_elab.proofs.SettleLaws.{comes_fewer}
use Rattle.lq_elab.proofs.StateLaws.{state_grown, turn_grown}
use Rattle.lq_elab.proofs.AnswerLaws.{refuses_whole}
use Rattle.lq_elab.proofs.PartLaws.{function_sort_refuses, function_domain_refuses, work_there, sort_there}
use Rattle.lq_elab.proofs.DomainLaws.{left_has, left_stands, rest_has, rest_is_under, settled_then, kind_then, function_entered_as}
use Rattle.lq_elab.proofs.resuming.function_domain.Goals as goal

pub sort_of-requires : goal.sort_of-requires
sort_of-requires g c = record {
  env = c.requires.state.site.env;
  plain = c.requires.state.site.plain;
  store = c.requires.state.store;
  kept = c.requires.state.kept;
  context = c.requires.state.context;
  hypotheses = c.requires.state.hypotheses;
  kind = c.requires.found.1;
  stands = c.requires.found.3;
}

pub domain_agreed-requires : goal.domain_agreed-requires
domain_agreed-requires g c =
    let h = state_grown c.args.work.now.bank.now c.sort_of.new.work.bank.now c.in-Ok.ensures.grows c.args.site.now c.args.store.now c.args.context.now c.args.scope.now ((record { part = Part.FunctionDomain c.args.binder c.args.rest c.args.product; wanted = c.args.wanted }) ∷ c.args.frames.now) c.requires.state in
    let k = turn_grown c.args.work.now.bank.now c.sort_of.new.work.bank.now c.in-Ok.ensures.grows c.args.site.now c.args.store.now c.args.context.now c.args.scope.now ((record { part = Part.FunctionDomain c.args.binder c.args.rest c.args.product; wanted = c.args.wanted }) ∷ c.args.frames.now) c.requires.state (Turn.Found c.args.found) c.requires.found in record {
      site = h.site;
      store = h.store;
      kept = h.kept;
      context = h.context;
      hypotheses = h.hypotheses;
      domain = k.0;
      domain_stands = k.2;
      product = h.frames.0.1;
      product_stands = h.stand.1;
    }

pub descended-requires : goal.descended-requires
descended-requires g c =
    let h = settled_then c.args.work.now.bank.now c.sort_of.new.work.bank.now c.domain_agreed.new.work.bank.now c.in-Ok.ensures.grows c.in-Ok-domain_agreed.ensures.grows c.args.site.now c.args.store.now c.domain_agreed.new.store c.args.context.now c.args.scope.now c.args.frames.now c.args.binder c.args.rest c.args.product c.args.wanted c.requires.state c.args.found c.requires.found c.in-Ok-domain_agreed.ensures.has c.in-Ok-domain_agreed.ensures.grown in record {
      state = state_taken c.domain_agreed.new.work.bank.now c.args.site.now c.domain_agreed.new.store c.args.context.now c.args.scope.now (record { part = Part.FunctionDomain c.args.binder c.args.rest c.args.product; wanted = c.args.wanted }) c.args.frames.now h tt;
      binder = h.frames.0.0;
      body = tt;
      body_stands = tt;
      kind = omega (arith, c.requires.found.0, c.in-Ok.ensures.grows.nodes, c.in-Ok-domain_agreed.ensures.grows.nodes);
      kind_stands = kind_then c.args.work.now.bank.now c.sort_of.new.work.bank.now c.domain_agreed.new.work.bank.now c.in-Ok.ensures.grows c.in-Ok-domain_agreed.ensures.grows c.args.site.now c.args.store.now c.domain_agreed.new.store c.args.context.now c.args.scope.now c.args.frames.now c.args.binder c.args.rest c.args.product c.args.wanted c.requires.state c.args.found c.requires.found c.in-Ok-domain_agreed.ensures.has c.in-Ok-domain_agreed.ensures.grown;
      wanted = along (HasBody c.domain_agreed.new.work.bank.now) (sym c.left_wanted.ensures) (left_has c.domain_agreed.new.work.bank.now c.args.wanted c.args.product h.frames.1);
      wanted_stands = along (λ z. OptionStands (store_of c.domain_agreed.new.work.bank.now c.domain_agreed.new.store) (names_in (context_of c.domain_agreed.new.work.bank.now c.args.context.now)) (option_map (tree_of c.domain_agreed.new.work.bank.now) z)) (sym c.left_wanted.ensures)
          (left_stands c.domain_agreed.new.work.bank.now (store_of c.domain_agreed.new.work.bank.now c.domain_agreed.new.store) (names_in (context_of c.domain_agreed.new.work.bank.now c.args.context.now)) c.args.wanted c.args.product h.stand.0);
      wanted_rest = along (HasBody c.domain_agreed.new.work.bank.now) (sym c.rest_of.ensures) (rest_has c.domain_agreed.new.work.bank.now c.args.product h.frames.0.1);
      rest_stands = along (λ z. RestStands (store_of c.domain_agreed.new.work.bank.now c.domain_agreed.new.store) (names_in (context_of c.domain_agreed.new.work.bank.now c.args.context.now)) (option_map (tree_of c.domain_agreed.new.work.bank.now) z)) (sym c.rest_of.ensures)
          (rest_is_under c.domain_agreed.new.work.bank.now (store_of c.domain_agreed.new.work.bank.now c.domain_agreed.new.store) (names_in (context_of c.domain_agreed.new.work.bank.now c.args.context.now)) c.args.product h.stand.1);
    }

pub returns-in-Err-clause-goes : goal.returns-in-Err-clause-goes
returns-in-Err-clause-goes g c =
    function_sort_refuses (site_of c.args.work.now.bank.now c.args.site.now) (waits c.args.work.now.bank.now c.args.context.now c.args.frames.now) (spot_of c.args.work.now.bank.now c.args.context.now c.args.frames.now) (option_map (tree_of c.args.work.now.bank.now) c.args.wanted) (found_of c.args.work.now.bank.now c.args.store.now c.args.found) c.args.work.now.ticks.now.left c.sort_of.new.work.ticks.now.left (text_of c.args.work.now.bank.now c.args.binder) (asked_tree c.args.rest) (option_map (pair_of c.args.work.now.bank.now) c.args.product) c.sort_of.new.work.bank.now c.in-Err.fault
    (c.in-Err.ensures.answer (site_of c.args.work.now.bank.now c.args.site.now) (tree_of c.args.work.now.bank.now c.args.found.term) refl)

pub returns-in-Err-domain_agreed-clause-goes : goal.returns-in-Err-domain_agreed-clause-goes
returns-in-Err-domain_agreed-clause-goes g c =
    refuses_whole c.domain_agreed.new.work.bank.now (turn_work c.args.work.now.bank.now c.args.site.now c.args.store.now c.args.context.now ((record { part = Part.FunctionDomain c.args.binder c.args.rest c.args.product; wanted = c.args.wanted }) ∷ c.args.frames.now) (Turn.Found c.args.found)) (turn_work c.sort_of.new.work.bank.now c.args.site.now c.args.store.now c.args.context.now ((record { part = Part.FunctionDomain c.args.binder c.args.rest c.args.product; wanted = c.args.wanted }) ∷ c.args.frames.now) (Turn.Found c.args.found)) c.args.work.now.ticks.now.left c.args.work.now.ticks.now.left c.domain_agreed.new.work.ticks.now.left (work_there c.args.work.now.bank.now c.sort_of.new.work.bank.now c.in-Ok.ensures.grows c.args.site.now c.args.store.now c.args.context.now c.args.scope.now ((record { part = Part.FunctionDomain c.args.binder c.args.rest c.args.product; wanted = c.args.wanted }) ∷ c.args.frames.now) c.requires.state c.args.found c.requires.found c.args.work.now.ticks.now.left) c.in-Err-domain_agreed.fault
    (function_domain_refuses (site_of c.sort_of.new.work.bank.now c.args.site.now) (waits c.sort_of.new.work.bank.now c.args.context.now c.args.frames.now) (spot_of c.sort_of.new.work.bank.now c.args.context.now c.args.frames.now) (option_map (tree_of c.sort_of.new.work.bank.now) c.args.wanted) (found_of c.sort_of.new.work.bank.now c.args.store.now c.args.found) c.args.work.now.ticks.now.left c.domain_agreed.new.work.ticks.now.left (text_of c.sort_of.new.work.bank.now c.args.binder) (asked_tree c.args.rest) (option_map (pair_of c.sort_of.new.work.bank.now) c.args.product) c.in-Ok.field-0 c.sort_of.new.work.ticks.now.left c.domain_agreed.new.work.bank.now c.in-Err-domain_agreed.fault
    (sort_there c.args.work.now.bank.now c.sort_of.new.work.bank.now c.in-Ok.ensures.grows c.args.site.now c.args.store.now c.args.context.now c.args.scope.now ((record { part = Part.FunctionDomain c.args.binder c.args.rest c.args.product; wanted = c.args.wanted }) ∷ c.args.frames.now) c.requires.state c.args.found c.requires.found c.in-Ok.field-0 c.args.work.now.ticks.now.left c.sort_of.new.work.ticks.now.left (c.in-Ok.ensures.answer (site_of c.args.work.now.bank.now c.args.site.now) (tree_of c.args.work.now.bank.now c.args.found.term) refl)) (c.in-Err-domain_agreed.ensures.answer (tree_of c.sort_of.new.work.bank.now c.args.found.kind)))

pub returns-in-Ok-descended-clause-goes : goal.returns-in-Ok-descended-clause-goes
returns-in-Ok-descended-clause-goes g c = record {
  state = c.in-Ok-descended.ensures.state;
  stands = c.in-Ok-descended.ensures.stands;
  grown = along (λ z. Grown z (store_of c.descended.new.bank c.domain_agreed.new.store)) (store_of-grown c.args.work.now.bank.now c.sort_of.new.work.bank.now c.in-Ok.ensures.grows c.args.store.now c.requires.state.store)
      (along (Grown (store_of c.sort_of.new.work.bank.now c.args.store.now)) (sym (store_of-grown c.domain_agreed.new.work.bank.now c.descended.new.bank c.in-Ok-descended.ensures.grows c.domain_agreed.new.store c.in-Ok-domain_agreed.ensures.has)) c.in-Ok-domain_agreed.ensures.grown);
  falls = omega (arith, c.in-Ok-descended.ensures.falls, comes_fewer _ c.args.work.now.ticks.now.left c.sort_of.new.work.ticks.now.left _ (c.in-Ok.ensures.answer (site_of c.args.work.now.bank.now c.args.site.now) (tree_of c.args.work.now.bank.now c.args.found.term) refl), comes_fewer _ c.sort_of.new.work.ticks.now.left c.domain_agreed.new.work.ticks.now.left _ (c.in-Ok-domain_agreed.ensures.answer (tree_of c.sort_of.new.work.bank.now c.args.found.kind)));
  leads = c.in-Ok-descended.ensures.goes (turn_work c.args.work.now.bank.now c.args.site.now c.args.store.now c.args.context.now ((record { part = Part.FunctionDomain c.args.binder c.args.rest c.args.product; wanted = c.args.wanted }) ∷ c.args.frames.now) (Turn.Found c.args.found)) c.args.work.now.ticks.now.left c.domain_agreed.new.work.ticks.now.left
      (function_entered_as c.args.work.now.bank.now c.sort_of.new.work.bank.now c.domain_agreed.new.work.bank.now c.in-Ok.ensures.grows c.in-Ok-domain_agreed.ensures.grows c.args.site.now c.args.store.now c.domain_agreed.new.store c.args.context.now c.args.scope.now c.args.frames.now c.args.binder c.args.rest c.args.product c.args.wanted c.requires.state c.args.found c.requires.found c.in-Ok-domain_agreed.ensures.has c.in-Ok-domain_agreed.ensures.grown c.left_wanted.result c.rest_of.result c.left_wanted.ensures c.rest_of.ensures c.in-Ok.field-0 c.args.work.now.ticks.now.left c.sort_of.new.work.ticks.now.left c.domain_agreed.new.work.ticks.now.left (c.in-Ok.ensures.answer (site_of c.args.work.now.bank.now c.args.site.now) (tree_of c.args.work.now.bank.now c.args.found.term) refl) (λ K. c.in-Ok-domain_agreed.ensures.answer K));
}
