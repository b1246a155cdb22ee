use Rattle.std.proofs.Common.{◌∙◌, ◌∷◌, sym, ap}
use Rattle.std.proofs.Common.{subst as along}
use Rattle.std.specs.Prelude.{option_map}
use Rattle.lq_trees.specs.Fresh.{fresh}
use Rattle.lq_terms.specs.Terms.{text_of, tree_of}
use Rattle.lq_terms.specs.Contexts.{HasBody, context_of}
use Rattle.lq_terms.proofs.Tellings.{HasBody-grown}
use Rattle.lq_solving.specs.Stores.{names_in}
use Rattle.lq_solving.specs.Kept.{OptionStands}
use Rattle.lq_evars.specs.Places.{store_of}
use Rattle.lq_elab.proofs.EnterLaws.{state_descended, descended_goes, descended_stands, descended_falls}
use Rattle.lq_elab.proofs.entering.descended.Goals as goal

pub entered-requires-clause-body : goal.entered-requires-clause-body
entered-requires-clause-body c = along (HasBody c.args.bank.now) (sym c.body_of.ensures) c.requires.body

pub entered-requires-clause-body_stands : goal.entered-requires-clause-body_stands
entered-requires-clause-body_stands c =
    along (λ z. OptionStands (store_of c.args.bank.now c.args.store.now) (names_in (context_of c.args.bank.now c.args.context.now)) (option_map (tree_of c.args.bank.now) z)) (sym c.body_of.ensures) c.requires.body_stands

pub opened_if-requires-clause-rest : goal.opened_if-requires-clause-rest
opened_if-requires-clause-rest c = HasBody-grown c.args.bank.now c.entered.new.bank c.in_ok-bound.ensures.grows c.args.wanted_rest c.requires.wanted_rest

pub opened_if-requires-clause-name : goal.opened_if-requires-clause-name
opened_if-requires-clause-name c = c.in_ok-bound.ensures.has.hypothesis

pub returns-clause-state : goal.returns-clause-state
returns-clause-state c =
    state_descended c.args.bank.now c.entered.new.bank c.opened_if.new.bank c.in_ok-bound.ensures.grows c.in_ok-first.ensures.grows c.args.site.now c.args.store.now c.args.context.now c.args.scope.now c.args.frames.now c.requires.state c.args.under c.args.binder c.args.kind c.args.wanted c.args.wanted_rest
    c.body_of.result c.body_of.ensures c.requires.binder c.requires.body c.requires.body_stands c.requires.kind c.requires.kind_stands c.requires.wanted c.requires.wanted_stands c.requires.wanted_rest c.requires.rest_stands
    c.in_ok-bound.bound c.in_ok-bound.ensures.has c.in_ok-bound.ensures.binder c.in_ok-bound.ensures.kind (fresh (context_of c.args.bank.now c.args.context.now) (text_of c.args.bank.now c.args.binder)) c.in_ok-bound.ensures.is c.in_ok-bound.ensures.new c.in_ok-bound.ensures.hidden
    c.entered.new.scope c.in_ok-bound.ensures.scope c.entered.new.context c.in_ok-bound.ensures.context _ (c.in_ok-push.ensures.ok ∙ ap (λ p. record { part = p; wanted = c.args.wanted } ∷ c.args.frames.now) c.part_of.ensures)

pub returns-clause-stands : goal.returns-clause-stands
returns-clause-stands c =
    descended_stands c.args.bank.now c.entered.new.bank c.opened_if.new.bank c.in_ok-bound.ensures.grows c.in_ok-first.ensures.grows c.args.site.now c.args.store.now c.args.context.now c.args.scope.now c.args.frames.now c.requires.state c.args.under c.args.binder c.args.kind c.args.wanted c.args.wanted_rest
    c.body_of.result c.body_of.ensures c.requires.binder c.requires.body c.requires.body_stands c.requires.kind c.requires.kind_stands c.requires.wanted c.requires.wanted_stands c.requires.wanted_rest c.requires.rest_stands
    c.in_ok-bound.bound c.in_ok-bound.ensures.has c.in_ok-bound.ensures.binder c.in_ok-bound.ensures.kind (fresh (context_of c.args.bank.now c.args.context.now) (text_of c.args.bank.now c.args.binder)) c.in_ok-bound.ensures.is c.in_ok-bound.ensures.new c.in_ok-bound.ensures.hidden
    c.entered.new.scope c.in_ok-bound.ensures.scope c.entered.new.context c.in_ok-bound.ensures.context c.in_ok-first.first c.in_ok-first.ensures.opened c.in_ok-first.ensures.has c.args.rest

pub returns-clause-goes : goal.returns-clause-goes
returns-clause-goes c f b l h =
    descended_goes c.args.bank.now c.entered.new.bank c.opened_if.new.bank c.in_ok-bound.ensures.grows c.in_ok-first.ensures.grows c.args.site.now c.args.store.now c.args.context.now c.args.scope.now c.args.frames.now c.requires.state c.args.under c.args.binder c.args.kind c.args.wanted c.args.wanted_rest
    c.body_of.result c.body_of.ensures c.requires.binder c.requires.body c.requires.body_stands c.requires.kind c.requires.kind_stands c.requires.wanted c.requires.wanted_stands c.requires.wanted_rest c.requires.rest_stands
    c.in_ok-bound.bound c.in_ok-bound.ensures.has c.in_ok-bound.ensures.binder c.in_ok-bound.ensures.kind (fresh (context_of c.args.bank.now c.args.context.now) (text_of c.args.bank.now c.args.binder)) c.in_ok-bound.ensures.is c.in_ok-bound.ensures.new c.in_ok-bound.ensures.hidden
    c.entered.new.scope c.in_ok-bound.ensures.scope c.entered.new.context c.in_ok-bound.ensures.context c.in_ok-first.first c.in_ok-first.ensures.opened c.args.rest _ (c.in_ok-push.ensures.ok ∙ ap (λ p. record { part = p; wanted = c.args.wanted } ∷ c.args.frames.now) c.part_of.ensures) f b l h

pub returns-clause-falls : goal.returns-clause-falls
returns-clause-falls c = descended_falls c.args.under c.in_ok-bound.bound c.args.wanted c.args.frames.now _ (c.in_ok-push.ensures.ok ∙ ap (λ p. record { part = p; wanted = c.args.wanted } ∷ c.args.frames.now) c.part_of.ensures)
