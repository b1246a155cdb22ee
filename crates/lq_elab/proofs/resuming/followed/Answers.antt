use Rattle.std.proofs.Common.{◌+◌, ◌*◌, sym, arith, length, None}
use Rattle.std.proofs.Common.{subst as along}
use Rattle.lq_terms.specs.Contexts.{context_of}
use Rattle.lq_evars.specs.Places.{store_of}
use Rattle.lq_elab.specs.declared.frames.Part.{Part}
use Rattle.lq_elab.specs.Answers.{found_of}
use Rattle.lq_elab.specs.Frames.{waits, weights}
use Rattle.lq_elab.specs.States.{site_of}
use Rattle.lq_elab.specs.Waiting.{Leads, held_work}
use Rattle.lq_elab.proofs.AskLaws.{state_waited}
use Rattle.lq_elab.proofs.LeaveLaws.{continues_settled}
use Rattle.std.proofs.Common.{◌≤◌}
use Rattle.lq_elab.specs.States.{IsState}
use Rattle.lq_elab.proofs.resuming.followed.Goals as goal

pub settled-requires : goal.settled-requires
settled-requires g c = record {
  state = along (IsState c.args.work.now.bank.now c.args.site.now c.args.store.now c.args.context.now c.args.scope.now) (sym c.in-Ok.ensures.ok) (state_waited c.args.work.now.bank.now c.args.site.now c.args.store.now c.args.context.now c.args.scope.now c.args.frames.now c.requires.state (Part.Function c.args.argument c.args.others) c.args.wanted tt c.requires.wanted c.requires.wanted_stands tt tt);
  term = c.requires.made.0;
  term_stands = c.requires.made.2;
  kind = c.requires.made.1;
  kind_stands = c.requires.made.3;
  wanted = tt;
  wanted_stands = tt;
}

pub returns-in-Ok-clause-goes : goal.returns-in-Ok-clause-goes
returns-in-Ok-clause-goes g c f b h =
    continues_settled c.settled.new.work.bank.now c.args.site.now (store_of c.args.work.now.bank.now c.args.store.now) c.settled.new.store c.args.context.now c.args.scope.now c.push.new.self c.args.made c.settled.result f b c.args.work.now.ticks.now.left c.settled.new.work.ticks.now.left _
    c.settled.ensures.state c.settled.ensures.stands c.settled.ensures.is c.settled.ensures.grown c.settled.ensures.fewer
    (along (λ z. weights z + 1 + 4 * c.args.work.now.ticks.now.left ≤ 3 + 3 * length c.args.others.now + weights c.args.frames.now + 1 + 4 * c.args.work.now.ticks.now.left) (sym c.in-Ok.ensures.ok) (omega arith))
    (c.settled.ensures.goes f b (along (λ z. Leads f (held_work (site_of c.args.work.now.bank.now c.args.site.now) (waits c.args.work.now.bank.now c.args.context.now z) (context_of c.args.work.now.bank.now c.args.context.now) None (found_of c.args.work.now.bank.now c.args.store.now c.args.made)) b c.args.work.now.ticks.now.left) (sym c.in-Ok.ensures.ok) h))
