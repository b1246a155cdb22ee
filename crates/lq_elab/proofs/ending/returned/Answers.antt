use Rattle.std.proofs.Common.{◌≡◌, ◌++◌, ◌∷◌, [], sym, arith}
use Rattle.std.proofs.Common.{subst as along}
use Rattle.std.specs.Prelude.{option_map}
use Rattle.lq_terms.specs.Terms.{text_of, tree_of}
use Rattle.lq_terms.specs.Contexts.{context_of, hypothesis_of}
use Rattle.lq_solving.specs.Stores.{names_in}
use Rattle.lq_solving.specs.Kept.{StandsIn, OptionStands}
use Rattle.lq_evars.specs.Places.{store_of}
use Rattle.lq_elab.specs.Answers.{found_of}
use Rattle.lq_elab.specs.Frames.{shorter, spot_of, waits}
use Rattle.lq_elab.specs.Naming.{meaning, under_binder}
use Rattle.lq_elab.specs.Scopes.{IsScope}
use Rattle.lq_elab.specs.States.{site_of}
use Rattle.lq_elab.specs.Waiting.{Leads, held_work}
use Rattle.lq_elab.proofs.LeaveLaws.{is_bound, has_bound, ends, outer_bound, outer_wanted, inner_scope, state_left, continues_settled}
use Rattle.lq_elab.proofs.ending.returned.Goals as goal

pub left-requires : goal.left-requires
left-requires g c = record {
  has = (has_bound c.args.work.now.bank.now c.args.site.now c.args.store.now c.args.context.now c.args.scope.now c.args.frames.now c.args.under c.args.bound c.args.wanted c.requires.state).0;
  last = along (λ z. c.args.context.now ≡ shorter c.args.context.now ++ record { name = c.args.bound.hypothesis; body = z; kind = c.args.bound.kind } ∷ []) (sym c.body_of.ensures)
      (is_bound c.args.work.now.bank.now c.args.site.now c.args.store.now c.args.context.now c.args.scope.now c.args.frames.now c.args.under c.args.bound c.args.wanted c.requires.state).last;
  new = (ends c.args.work.now.bank.now c.args.site.now c.args.store.now c.args.context.now c.args.scope.now c.args.frames.now c.args.under c.args.bound c.args.wanted c.requires.state).new;
  bound = outer_bound c.args.work.now.bank.now c.args.site.now c.args.store.now c.args.context.now c.args.scope.now c.args.frames.now c.args.under c.args.bound c.args.wanted c.requires.state;
  hidden = (is_bound c.args.work.now.bank.now c.args.site.now c.args.store.now c.args.context.now c.args.scope.now c.args.frames.now c.args.under c.args.bound c.args.wanted c.requires.state).hidden;
  scope = along (λ z. IsScope c.args.work.now.bank.now (meaning (site_of c.args.work.now.bank.now c.args.site.now) (under_binder (spot_of c.args.work.now.bank.now (shorter c.args.context.now) c.args.frames.now)
      (text_of c.args.work.now.bank.now c.args.bound.binder) (hypothesis_of c.args.work.now.bank.now (record { name = c.args.bound.hypothesis; body = z; kind = c.args.bound.kind })))) c.args.scope.now) (sym c.body_of.ensures)
      (inner_scope c.args.work.now.bank.now c.args.site.now c.args.store.now c.args.context.now c.args.scope.now c.args.frames.now c.args.under c.args.bound c.args.wanted c.requires.state);
}

pub settled-requires : goal.settled-requires
settled-requires g c = record {
  state = state_left c.args.work.now.bank.now c.args.site.now c.args.store.now c.args.context.now c.args.scope.now c.args.frames.now c.args.under c.args.bound c.args.wanted c.requires.state c.left.new.context c.left.new.scope c.left.ensures.context c.left.ensures.scope;
  term = c.requires.made.0;
  term_stands = along (λ z. StandsIn (store_of c.args.work.now.bank.now c.args.store.now) (context_of c.args.work.now.bank.now z) (tree_of c.args.work.now.bank.now c.args.made.term)) (sym c.left.ensures.context) c.requires.made.2;
  kind = c.requires.made.1;
  kind_stands = along (λ z. StandsIn (store_of c.args.work.now.bank.now c.args.store.now) (context_of c.args.work.now.bank.now z) (tree_of c.args.work.now.bank.now c.args.made.kind)) (sym c.left.ensures.context) c.requires.made.3;
  wanted = (outer_wanted c.args.work.now.bank.now c.args.site.now c.args.store.now c.args.context.now c.args.scope.now c.args.frames.now c.args.under c.args.bound c.args.wanted c.requires.state).0;
  wanted_stands = along (λ z. OptionStands (store_of c.args.work.now.bank.now c.args.store.now) (names_in (context_of c.args.work.now.bank.now z)) (option_map (tree_of c.args.work.now.bank.now) c.args.wanted)) (sym c.left.ensures.context)
      (outer_wanted c.args.work.now.bank.now c.args.site.now c.args.store.now c.args.context.now c.args.scope.now c.args.frames.now c.args.under c.args.bound c.args.wanted c.requires.state).1;
}

pub returns-clause-goes : goal.returns-clause-goes
returns-clause-goes g c f b h =
    continues_settled c.settled.new.work.bank.now c.args.site.now (store_of c.args.work.now.bank.now c.args.store.now) c.settled.new.store c.left.new.context c.left.new.scope c.args.frames.now c.args.made c.settled.result f b
    c.args.work.now.ticks.now.left c.settled.new.work.ticks.now.left _ c.settled.ensures.state c.settled.ensures.stands c.settled.ensures.is c.settled.ensures.grown c.settled.ensures.fewer (omega arith)
    (c.settled.ensures.goes f b
    (along (λ z. Leads f (held_work (site_of c.args.work.now.bank.now c.args.site.now) (waits c.args.work.now.bank.now z c.args.frames.now) (context_of c.args.work.now.bank.now z) (option_map (tree_of c.args.work.now.bank.now) c.args.wanted)
    (found_of c.args.work.now.bank.now c.args.store.now c.args.made)) b c.args.work.now.ticks.now.left) (sym c.left.ensures.context) h))
