use Rattle.std.proofs.Common.{sym, arith, [], Ok}
use Rattle.std.proofs.Common.{subst as along}
use Rattle.lq_ast.specs.Syntax.{intros}
use Rattle.lq_trees.specs.Ticks.{done, ComesTo}
use Rattle.lq_evars.specs.Places.{store_of}
use Rattle.lq_tactics.specs.Primitives.{prim_row}
use Rattle.lq_tactics.proofs.PrimsKept.{names_made}
use Rattle.lq_prims.specs.Scenes.{scene_in, step_by}
use Rattle.lq_prims.proofs.RowsLeave.{row_leaves}
use Rattle.lq_prims.proofs.bare_rows.intros_row.Goals as goal

pub returns-in-Ok-alone-clause-answer : goal.returns-in-Ok-alone-clause-answer
unfolding prim_row
returns-in-Ok-alone-clause-answer g c vs =
    let bank = c.args.work.now.bank.now in
    let new = c.intros.new.work.bank.now in
    along (λ ks. ComesTo (λ n. prim_row (scene_in bank c.args.env.now c.args.store.now c.args.goal c.args.kind vs n) (intros [])) c.args.work.now.ticks.now.left (done (step_by (store_of new c.intros.new.store) ks) c.intros.new.work.ticks.now.left)) (sym c.in-Ok-alone.ensures)
    (c.in-Ok.ensures.answer vs)

pub returns-in-Ok-alone-clause-leaves : goal.returns-in-Ok-alone-clause-leaves
unfolding prim_row names_made
returns-in-Ok-alone-clause-leaves g c =
    let bank = c.args.work.now.bank.now in
    let new = c.intros.new.work.bank.now in
    row_leaves bank c.args.env.now c.args.store.now c.args.goal c.args.kind c.requires.placed c.requires.valueless (c.has_room.ensures bank c.requires.placed.place) (intros []) (omega arith) c.args.work.now.ticks.now.left c.intros.new.work.ticks.now.left
    (omega (arith, c.args.work.now.ticks.now.bounded)) new c.intros.new.store (Ok c.in-Ok-alone.goals)
    (along (λ ks. ComesTo (λ n. prim_row (scene_in bank c.args.env.now c.args.store.now c.args.goal c.args.kind [] n) (intros [])) c.args.work.now.ticks.now.left (done (step_by (store_of new c.intros.new.store) ks) c.intros.new.work.ticks.now.left)) (sym c.in-Ok-alone.ensures)
    (c.in-Ok.ensures.answer []))

pub returns-in-Err-clause-answer : goal.returns-in-Err-clause-answer
unfolding prim_row
returns-in-Err-clause-answer g c vs = c.in-Err.ensures.answer vs
