use Rattle.std.proofs.Common.{ℕ, refl, sym, Some, None}
use Rattle.std.proofs.Common.{subst as along}
use Rattle.lq_trees.specs.Ticks.{fails}
use Rattle.lq_ast.specs.Syntax.{constructor}
use Rattle.lq_evars.specs.Places.{store_of}
use Rattle.lq_tactics.specs.Rows.{Scene, ended, no_constructor}
use Rattle.lq_tactics.specs.Primitives.{prim_row}
use Rattle.lq_prims.specs.declared.faults.PrimFault.{PrimFault}
use Rattle.lq_prims.specs.Constructing.{constructor_row}
use Rattle.lq_prims.specs.Scenes.{scene_in, step_by}
use Rattle.lq_prims.proofs.ConstructLaws.{is_constructor}
use Rattle.lq_prims.proofs.WorkLaws.{does_same, refuses_at_once}
use Rattle.lq_prims.specs.Working.{Does, Refuses}
use Rattle.lq_prims.proofs.rows.numbered_row.Goals as goal

pub returns-in-Some-clause-answer : goal.returns-in-Some-clause-answer
returns-in-Some-clause-answer g c vs =
    let bank = c.args.work.now.bank.now in
    let new = c.constructor.new.work.bank.now in
    let f : ℕ → Scene = λ n. scene_in bank c.args.env.now c.args.store.now c.args.goal c.args.kind vs n in
    along (λ o. Does new (λ v. step_by (store_of new c.constructor.new.store) v.items) c.constructor.result (λ n. prim_row (f n) (constructor o)) c.args.work.now.ticks.now.left c.constructor.new.work.ticks.now.left) (sym c.in-Some.is)
    (does_same new (λ v. step_by (store_of new c.constructor.new.store) v.items) c.constructor.result (λ n. ended (f n) (constructor_row (f n) None c.in-Some.number)) (λ n. prim_row (f n) (constructor (Some c.in-Some.number))) c.args.work.now.ticks.now.left c.constructor.new.work.ticks.now.left
    (λ n. sym (is_constructor (f n) c.in-Some.number)) (c.constructor.ensures.answer vs))

pub returns-in-None-clause-answer : goal.returns-in-None-clause-answer
unfolding prim_row
returns-in-None-clause-answer g c vs =
    let bank = c.args.work.now.bank.now in
    let b = c.args.work.now.ticks.now.left in
    let f : ℕ → Scene = λ n. scene_in bank c.args.env.now c.args.store.now c.args.goal c.args.kind vs n in
    along (λ o. Refuses bank (PrimFault.NoConstructor 0) (λ n. prim_row (f n) (constructor o)) b b) (sym c.in-None.is) (refuses_at_once bank (PrimFault.NoConstructor 0) (no_constructor 0) (fails (no_constructor 0)) refl refl b)
