use Rattle.std.proofs.Common.{subst as along}
use Rattle.std.specs.Prelude.{option_map}
use Rattle.lq_terms.specs.Terms.{text_of, tree_of}
use Rattle.lq_evars.specs.Places.{store_of}
use Rattle.lq_elab.specs.Views.{head_domain, row_tree}
use Rattle.lq_elab.specs.Waiting.{Leads}
use Rattle.lq_elab.specs.Nodes.{head_work}
use Rattle.lq_elab.specs.Frames.{spot_of, waits}
use Rattle.lq_elab.specs.States.{site_of}
use Rattle.lq_elab.proofs.functions.binder_asked.Goals as goal

pub returns-then-head-clause-goes : goal.returns-then-head-clause-goes
returns-then-head-clause-goes g c f b h = c.product_asked.ensures.goes f b c.args.work.now.ticks.now.left (along (λ p. Leads f (head_work (site_of c.args.work.now.bank.now c.args.site.now) (waits c.args.work.now.bank.now c.args.context.now c.args.frames.now) (spot_of c.args.work.now.bank.now c.args.context.now c.args.frames.now) (store_of c.args.work.now.bank.now c.args.store.now) (option_map (tree_of c.args.work.now.bank.now) c.args.wanted) p (text_of c.args.work.now.bank.now c.args.binder) (head_domain c.args.head) (row_tree c.args.head.rest)) b c.args.work.now.ticks.now.left) c.if-head.true h)

pub returns-else-head-clause-goes : goal.returns-else-head-clause-goes
returns-else-head-clause-goes g c f b h = c.function_asked.ensures.goes f b (along (λ p. Leads f (head_work (site_of c.args.work.now.bank.now c.args.site.now) (waits c.args.work.now.bank.now c.args.context.now c.args.frames.now) (spot_of c.args.work.now.bank.now c.args.context.now c.args.frames.now) (store_of c.args.work.now.bank.now c.args.store.now) (option_map (tree_of c.args.work.now.bank.now) c.args.wanted) p (text_of c.args.work.now.bank.now c.args.binder) (head_domain c.args.head) (row_tree c.args.head.rest)) b c.args.work.now.ticks.now.left) c.if-head.false h)
