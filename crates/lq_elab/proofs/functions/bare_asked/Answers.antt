use Rattle.std.proofs.Common.{subst as along}
use Rattle.std.specs.Prelude.{option_map}
use Rattle.lq_trees.specs.Fresh.{under}
use Rattle.lq_terms.specs.Terms.{text_of}
use Rattle.lq_evars.specs.Places.{store_of}
use Rattle.lq_elab.specs.Views.{row_tree}
use Rattle.lq_elab.specs.Waiting.{Leads}
use Rattle.lq_elab.specs.Nodes.{bare_work}
use Rattle.lq_elab.specs.Frames.{pair_of, spot_of, waits}
use Rattle.lq_elab.specs.States.{site_of}
use Rattle.lq_elab.proofs.FunctionLaws.{bare_fails}
use Rattle.lq_elab.proofs.functions.bare_asked.Goals as goal

pub returns-in_default-clause-goes : goal.returns-in_default-clause-goes
returns-in_default-clause-goes c w f b l h =
    bare_fails (site_of c.args.bank.now c.args.site.now) (waits c.args.bank.now c.args.context.now c.args.frames.now) (spot_of c.args.bank.now c.args.context.now c.args.frames.now) (store_of c.args.bank.now c.args.store.now) w (text_of c.args.bank.now c.args.binder) c.args.head.binder.now.place (row_tree c.args.head.rest) f b l
    (along (λ o. Leads f (bare_work (site_of c.args.bank.now c.args.site.now) (waits c.args.bank.now c.args.context.now c.args.frames.now) (spot_of c.args.bank.now c.args.context.now c.args.frames.now) (store_of c.args.bank.now c.args.store.now) w (text_of c.args.bank.now c.args.binder) c.args.head.binder.now.place (row_tree c.args.head.rest) (option_map (pair_of c.args.bank.now) o)) b l) c.in_default.is h)

pub returns-in-Ok-clause-goes : goal.returns-in-Ok-clause-goes
unfolding under
returns-in-Ok-clause-goes c w f b l h =
    c.in-Ok.ensures.goes f b l
    (along (λ o. Leads f (bare_work (site_of c.args.bank.now c.args.site.now) (waits c.args.bank.now c.args.context.now c.args.frames.now) (spot_of c.args.bank.now c.args.context.now c.args.frames.now) (store_of c.args.bank.now c.args.store.now) w (text_of c.args.bank.now c.args.binder) c.args.head.binder.now.place (row_tree c.args.head.rest) (option_map (pair_of c.args.bank.now) o)) b l) c.in-Some.is h)
