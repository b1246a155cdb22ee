use Rattle.std.proofs.Common.{refl, true, Some, None}
use Rattle.std.proofs.Common.{subst as along}
use Rattle.std.specs.Prelude.{option_map}
use Rattle.lq_ast.specs.Plain.{plain}
use Rattle.lq_ast.specs.Syntax.{Domain, Written, Missing}
use Rattle.lq_terms.specs.Terms.{text_of, tree_of}
use Rattle.lq_evars.specs.Places.{store_of}
use Rattle.lq_elab.specs.Waiting.{Leads}
use Rattle.lq_elab.specs.Frames.{spot_of, waits}
use Rattle.lq_elab.specs.States.{site_of}
use Rattle.lq_trees.specs.Ticks.{fails, failed}
use Rattle.lq_trees.proofs.Outcomes.{comes_fails}
use Rattle.lq_solving.specs.ElabFaults.{cannot_infer}
use Rattle.lq_elab.specs.Views.{row_tree}
use Rattle.lq_elab.specs.Nodes.{head_work}
use Rattle.lq_elab.proofs.heads.product_asked.Goals as goal

pub returns-in-Some-clause-goes : goal.returns-in-Some-clause-goes
returns-in-Some-clause-goes c f b l h =
    c.begun.ensures.goes f b l
    (along (λ o. Leads f (head_work (site_of c.args.bank.now c.args.site.now) (waits c.args.bank.now c.args.context.now c.args.frames.now) (spot_of c.args.bank.now c.args.context.now c.args.frames.now) (store_of c.args.bank.now c.args.store.now) (option_map (tree_of c.args.bank.now) c.args.wanted) true (text_of c.args.bank.now c.args.binder) (elim o as (λ _. Domain) [ Some A ↦ Written (plain A.now) | None ↦ Missing c.args.head.binder.now.place ]) (row_tree c.args.head.rest)) b l) c.in-Some.is h)

pub returns-in-None-clause-goes : goal.returns-in-None-clause-goes
returns-in-None-clause-goes c f b l h =
    along (λ o. Leads f (head_work (site_of c.args.bank.now c.args.site.now) (waits c.args.bank.now c.args.context.now c.args.frames.now) (spot_of c.args.bank.now c.args.context.now c.args.frames.now) (store_of c.args.bank.now c.args.store.now) (option_map (tree_of c.args.bank.now) c.args.wanted) true (text_of c.args.bank.now c.args.binder) (elim o as (λ _. Domain) [ Some A ↦ Written (plain A.now) | None ↦ Missing c.args.head.binder.now.place ]) (row_tree c.args.head.rest)) b l) c.in-None.is h
    (failed (cannot_infer c.args.head.binder.now.place) l) (comes_fails (λ n. fails (cannot_infer c.args.head.binder.now.place)) (cannot_infer c.args.head.binder.now.place) l (λ n. refl))
