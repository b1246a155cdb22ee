use Rattle.std.proofs.Common.{◌∙◌, sym, ap, arith, [], Ok}
use Rattle.std.proofs.Common.{subst as along}
use Rattle.lq_ast.specs.Syntax.{intros}
use Rattle.lq_trees.specs.Ticks.{done, within, ComesTo}
use Rattle.std.proofs.Common.{map}
use Rattle.lq_terms.specs.Terms.{text_of}
use Rattle.lq_evars.specs.Places.{store_of}
use Rattle.lq_tactics.specs.Primitives.{intro_each, prim_row}
use Rattle.lq_tactics.proofs.PrimsKept.{names_made}
use Rattle.lq_prims.specs.Scenes.{scene_in, step_by}
use Rattle.lq_prims.proofs.RowsLeave.{row_leaves, each_is, some_named}
use Rattle.lq_prims.proofs.WorkLaws.{refuses_same}
use Rattle.lq_prims.proofs.bare_rows.intros_named_row.Goals as goal

pub returns-in-Ok-alone-clause-answer : goal.returns-in-Ok-alone-clause-answer
unfolding prim_row
returns-in-Ok-alone-clause-answer g c vs =
    let bank = c.args.work.now.bank.now in
    let new = c.intros_named.new.work.bank.now in
    along (λ ks. ComesTo (λ n. prim_row (scene_in bank c.args.env.now c.args.store.now c.args.goal c.args.kind vs n) (intros (map (text_of bank) c.args.names.now))) c.args.work.now.ticks.now.left (done (step_by (store_of new c.intros_named.new.store) ks) c.intros_named.new.work.ticks.now.left)) (sym c.in-Ok-alone.ensures)
    (λ n l. ap (within c.args.work.now.ticks.now.left) (sym (each_is (scene_in bank c.args.env.now c.args.store.now c.args.goal c.args.kind vs n) (map (text_of bank) c.args.names.now) (some_named bank c.args.names.now c.requires.some))) ∙ c.in-Ok.ensures.answer vs n l)

pub returns-in-Ok-alone-clause-leaves : goal.returns-in-Ok-alone-clause-leaves
unfolding prim_row names_made
returns-in-Ok-alone-clause-leaves g c =
    let bank = c.args.work.now.bank.now in
    let new = c.intros_named.new.work.bank.now in
    row_leaves bank c.args.env.now c.args.store.now c.args.goal c.args.kind c.requires.placed c.requires.valueless (c.has_room.ensures bank c.requires.placed.place) (intros (map (text_of bank) c.args.names.now)) (omega arith) c.args.work.now.ticks.now.left c.intros_named.new.work.ticks.now.left
    (omega (arith, c.args.work.now.ticks.now.bounded)) new c.intros_named.new.store (Ok c.in-Ok-alone.goals)
    (along (λ ks. ComesTo (λ n. prim_row (scene_in bank c.args.env.now c.args.store.now c.args.goal c.args.kind [] n) (intros (map (text_of bank) c.args.names.now))) c.args.work.now.ticks.now.left (done (step_by (store_of new c.intros_named.new.store) ks) c.intros_named.new.work.ticks.now.left)) (sym c.in-Ok-alone.ensures)
    (λ n l. ap (within c.args.work.now.ticks.now.left) (sym (each_is (scene_in bank c.args.env.now c.args.store.now c.args.goal c.args.kind [] n) (map (text_of bank) c.args.names.now) (some_named bank c.args.names.now c.requires.some))) ∙ c.in-Ok.ensures.answer [] n l))

pub returns-in-Err-clause-answer : goal.returns-in-Err-clause-answer
unfolding prim_row
returns-in-Err-clause-answer g c vs =
    let bank = c.args.work.now.bank.now in
    refuses_same c.intros_named.new.work.bank.now c.in-Err.fault (λ n. intro_each (map (text_of bank) c.args.names.now) (scene_in bank c.args.env.now c.args.store.now c.args.goal c.args.kind vs n))
    (λ n. prim_row (scene_in bank c.args.env.now c.args.store.now c.args.goal c.args.kind vs n) (intros (map (text_of bank) c.args.names.now))) c.args.work.now.ticks.now.left c.intros_named.new.work.ticks.now.left
    (λ n. each_is (scene_in bank c.args.env.now c.args.store.now c.args.goal c.args.kind vs n) (map (text_of bank) c.args.names.now) (some_named bank c.args.names.now c.requires.some)) (c.in-Err.ensures.answer vs)
