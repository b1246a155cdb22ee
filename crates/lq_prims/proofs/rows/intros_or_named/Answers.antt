use Rattle.std.proofs.Common.{◌∙◌, sym}
use Rattle.std.proofs.Common.{subst as along}
use Rattle.lq_ast.specs.Syntax.{intros}
use Rattle.lq_evars.specs.Places.{store_of}
use Rattle.lq_tactics.specs.Primitives.{prim_row}
use Rattle.lq_prims.specs.Scenes.{scene_in, step_by}
use Rattle.lq_prims.specs.Working.{Does}
use Rattle.lq_prims.proofs.FirstNames.{no_names}
use Rattle.lq_prims.proofs.rows.intros_or_named.Goals as goal

pub returns-then-is_empty-clause-answer : goal.returns-then-is_empty-clause-answer
returns-then-is_empty-clause-answer g c vs =
    let bank = c.args.work.now.bank.now in
    let new = c.intros_row.new.work.bank.now in
    along (λ xs. Does new (λ v. step_by (store_of new c.intros_row.new.store) v.items) c.intros_row.result (λ n. prim_row (scene_in bank c.args.env.now c.args.store.now c.args.goal c.args.kind vs n) (intros xs))
    c.args.work.now.ticks.now.left c.intros_row.new.work.ticks.now.left) (sym (no_names bank c.args.names.now (sym c.is_empty.ensures ∙ c.if-is_empty.true))) (c.intros_row.ensures.answer vs)
