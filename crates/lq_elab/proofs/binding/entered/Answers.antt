use Rattle.std.proofs.Common.{false, ◌≡◌, refl, sym, arith}
use Rattle.std.proofs.Common.{subst as along}
use Rattle.lq_trees.specs.Fresh.{is_listed}
use Rattle.lq_terms.specs.Terms.{text_of, tree_of}
use Rattle.lq_terms.specs.Contexts.{context_of}
use Rattle.lq_terms.proofs.Tellings.{context_of-grown}
use Rattle.lq_solving.specs.Stores.{names_in}
use Rattle.lq_elab.specs.Frames.{spot_of}
use Rattle.lq_elab.specs.Naming.{variable, meaning}
use Rattle.lq_elab.specs.States.{site_of}
use Rattle.lq_elab.proofs.BindSteps.{scope_entered}
use Rattle.lq_elab.proofs.FrameLaws.{frames_bound}
use Rattle.lq_elab.proofs.StateLaws.{state_grown}
use Rattle.lq_elab.proofs.binding.entered.Goals as goal

pub returns-clause-has : goal.returns-clause-has
returns-clause-has c = record {
  binder = omega (arith, c.requires.binder, c.in_ok-hypothesis.ensures.grows.names);
  hypothesis = c.in_ok-hypothesis.ensures.name;
  kind = omega (arith, c.requires.kind, c.in_ok-hypothesis.ensures.grows.nodes);
  hidden = c.in_ok-hidden.ensures.has (meaning (site_of c.named.new.bank c.args.site.now) (spot_of c.named.new.bank c.args.context.now c.args.frames.now))
      (state_grown c.args.bank.now c.named.new.bank c.in_ok-hypothesis.ensures.grows c.args.site.now c.args.store.now c.args.context.now c.args.scope.now c.args.frames.now c.requires.state).scope;
}

pub returns-clause-new : goal.returns-clause-new
returns-clause-new c =
    along (λ z. is_listed (names_in z) (text_of c.named.new.bank c.in_ok-hypothesis.hypothesis.name) ≡ false)
    (sym (context_of-grown c.args.bank.now c.named.new.bank c.in_ok-hypothesis.ensures.grows c.args.context.now c.requires.state.context))
    (along (λ z. is_listed (names_in (context_of c.args.bank.now z)) (text_of c.named.new.bank c.in_ok-hypothesis.hypothesis.name) ≡ false) c.hypotheses.ensures c.in_ok-hypothesis.ensures.new)

pub returns-clause-hidden : goal.returns-clause-hidden
returns-clause-hidden c =
    c.in_ok-hidden.ensures.hidden (meaning (site_of c.named.new.bank c.args.site.now) (spot_of c.named.new.bank c.args.context.now c.args.frames.now))
    (state_grown c.args.bank.now c.named.new.bank c.in_ok-hypothesis.ensures.grows c.args.site.now c.args.store.now c.args.context.now c.args.scope.now c.args.frames.now c.requires.state).scope

pub returns-clause-scope : goal.returns-clause-scope
returns-clause-scope c =
    let h = state_grown c.args.bank.now c.named.new.bank c.in_ok-hypothesis.ensures.grows c.args.site.now c.args.store.now c.args.context.now c.args.scope.now c.args.frames.now c.requires.state in
    scope_entered c.named.new.bank c.args.site.now c.args.context.now c.args.frames.now c.args.binder (record { name = c.in_ok-hypothesis.hypothesis.name; body = c.args.body; kind = c.args.kind })
    (frames_bound c.named.new.bank (site_of c.named.new.bank c.args.site.now) c.args.context.now c.args.frames.now h.frames)
    (along (λ z. is_listed (names_in z) (text_of c.named.new.bank c.in_ok-hypothesis.hypothesis.name) ≡ false)
    (sym (context_of-grown c.args.bank.now c.named.new.bank c.in_ok-hypothesis.ensures.grows c.args.context.now c.requires.state.context))
    (along (λ z. is_listed (names_in (context_of c.args.bank.now z)) (text_of c.named.new.bank c.in_ok-hypothesis.hypothesis.name) ≡ false) c.hypotheses.ensures c.in_ok-hypothesis.ensures.new))
    _
    (c.in_ok-hidden.ensures.set (meaning (site_of c.named.new.bank c.args.site.now) (spot_of c.named.new.bank c.args.context.now c.args.frames.now))
    (variable (text_of c.named.new.bank c.in_ok-hypothesis.hypothesis.name) (tree_of c.named.new.bank c.args.kind)) h.scope refl)
