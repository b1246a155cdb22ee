use Rattle.std.proofs.Common.{sym, arith, length, map, ◌∷◌, None}
use Rattle.std.proofs.Common.{subst as along}
use Rattle.std.specs.Prelude.{option_map}
use Rattle.lq_ast.specs.Plain.{plain}
use Rattle.lq_terms.specs.Terms.{tree_of}
use Rattle.lq_evars.specs.Places.{store_of}
use Rattle.lq_typing.specs.Refusals.{Refuses}
use Rattle.lq_elab.specs.Waiting.{asked_work, waiting, applied_function}
use Rattle.lq_elab.specs.Frames.{spot_of, waits}
use Rattle.lq_elab.specs.States.{site_of}
use Rattle.lq_elab.proofs.GoingLaws.{leads_paid, leads_lacks}
use Rattle.lq_elab.proofs.heads.application_asked.Goals as goal

pub returns-in-Ok-clause-goes : goal.returns-in-Ok-clause-goes
returns-in-Ok-clause-goes g c f b h =
    c.begun.ensures.goes f b c.pay_each.new.ticks.left (leads_paid f (asked_work (site_of c.args.work.now.bank.now c.args.site.now) (waiting (spot_of c.args.work.now.bank.now c.args.context.now c.args.frames.now) (option_map (tree_of c.args.work.now.bank.now) c.args.wanted) (applied_function (plain c.args.argument.now) (map plain c.args.others.now)) ∷ (waits c.args.work.now.bank.now c.args.context.now c.args.frames.now)) (spot_of c.args.work.now.bank.now c.args.context.now c.args.frames.now) (store_of c.args.work.now.bank.now c.args.store.now) (plain c.args.function.now) None) b (length c.args.others.now) c.args.work.now.ticks.now.left c.pay_each.new.ticks.left (omega (arith, c.in-Ok.ensures.paid)) h)

pub returns-in-Err-clause-goes : goal.returns-in-Err-clause-goes
returns-in-Err-clause-goes g c f b h =
    along (λ y. Refuses c.args.work.now.bank.now y f b c.pay_each.new.ticks.left) (sym c.in-Err.ensures.out.0)
    (leads_lacks f (asked_work (site_of c.args.work.now.bank.now c.args.site.now) (waiting (spot_of c.args.work.now.bank.now c.args.context.now c.args.frames.now) (option_map (tree_of c.args.work.now.bank.now) c.args.wanted) (applied_function (plain c.args.argument.now) (map plain c.args.others.now)) ∷ (waits c.args.work.now.bank.now c.args.context.now c.args.frames.now)) (spot_of c.args.work.now.bank.now c.args.context.now c.args.frames.now) (store_of c.args.work.now.bank.now c.args.store.now) (plain c.args.function.now) None) b (length c.args.others.now) c.args.work.now.ticks.now.left (omega (arith, c.in-Err.ensures.out.1)) h, c.in-Err.ensures.out.2)
