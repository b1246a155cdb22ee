use Rattle.std.proofs.Common.{ℕ}
use Rattle.lq_tactics.specs.Rows.{Scene}
use Rattle.lq_prims.specs.Inductives.{inductive_by}
use Rattle.lq_prims.specs.Scenes.{scene_in}
use Rattle.lq_prims.proofs.InductiveRows.{count_refused, count_done}
use Rattle.lq_prims.proofs.ConstructorLaws.{count_is}
use Rattle.lq_prims.proofs.WorkLaws.{handed_on}
use Rattle.lq_prims.proofs.inductives.count.Goals as goal

pub returns-in_err-inductive-clause-answer : goal.returns-in_err-inductive-clause-answer
returns-in_err-inductive-clause-answer g c vs =
    let bank = c.args.work.now.bank.now in
    let new = c.goal_inductive.new.work.bank.now in
    let b = c.args.work.now.ticks.now.left in
    let left = c.goal_inductive.new.work.ticks.now.left in
    let f : ℕ → Scene = λ n. scene_in bank c.args.env.now c.args.store.now c.args.goal c.args.kind vs n in
    handed_on new _ c.from_residual.result c.in_err-inductive.field-0.0 _ b left c.from_residual.ensures.1
    (count_refused f new c.in_err-inductive.field-0.0 b left (c.in_err-inductive.ensures.answer vs))

pub returns-clause-answer : goal.returns-clause-answer
returns-clause-answer g c vs =
    let bank = c.args.work.now.bank.now in
    let new = c.goal_inductive.new.work.bank.now in
    let b = c.args.work.now.ticks.now.left in
    let left = c.goal_inductive.new.work.ticks.now.left in
    let f : ℕ → Scene = λ n. scene_in bank c.args.env.now c.args.store.now c.args.goal c.args.kind vs n in
    count_done f b left c.count_of.result (inductive_by new c.in_ok-inductive.inductive) (c.in_ok-inductive.ensures.answer vs) (count_is new c.in_ok-inductive.inductive c.count_of.result c.count_of.ensures)
