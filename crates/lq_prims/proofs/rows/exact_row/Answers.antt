use Rattle.std.proofs.Common.{sym}
use Rattle.std.proofs.Common.{subst as along}
use Rattle.lq_trees.specs.Ticks.{done, ComesTo}
use Rattle.lq_ast.specs.Plain.{plain}
use Rattle.lq_ast.specs.Syntax.{exact}
use Rattle.lq_evars.specs.Places.{store_of}
use Rattle.lq_elab.specs.States.{givens_of}
use Rattle.lq_tactics.specs.Primitives.{prim_row}
use Rattle.lq_prims.specs.Leaving.{Leaves}
use Rattle.lq_prims.specs.Scenes.{scene_in, step_by}
use Rattle.lq_prims.proofs.rows.exact_row.Goals as goal

pub returns-in-Ok-clause-answer : goal.returns-in-Ok-clause-answer
unfolding prim_row
returns-in-Ok-clause-answer g c =
    let bank = c.args.work.now.bank.now in
    let new = c.exact.new.work.bank.now in
    along (λ ks. ComesTo (λ n. prim_row (scene_in bank c.args.env.now c.args.store.now c.args.goal c.args.kind (givens_of bank c.args.values.now) n) (exact (plain c.args.term.now))) c.args.work.now.ticks.now.left
    (done (step_by (store_of new c.exact.new.store) ks) c.exact.new.work.ticks.now.left)) (sym c.new.ensures.items) c.in-Ok.ensures.answer

pub returns-in-Ok-clause-leaves : goal.returns-in-Ok-clause-leaves
returns-in-Ok-clause-leaves g c =
    along (Leaves (store_of c.args.work.now.bank.now c.args.store.now) c.args.goal (store_of c.exact.new.work.bank.now c.exact.new.store)) (sym c.new.ensures.items) c.in-Ok.ensures.leaves

pub returns-in-Err-clause-answer : goal.returns-in-Err-clause-answer
unfolding prim_row
returns-in-Err-clause-answer g c = c.in-Err.ensures.answer
