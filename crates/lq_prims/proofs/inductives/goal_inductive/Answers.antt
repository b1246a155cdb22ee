use Rattle.std.proofs.Common.{◌≡◌, suc, refl, sym, Some, None, []}
use Rattle.std.proofs.Common.{subst as along}
use Rattle.lq_trees.specs.Ticks.{done, ComesTo}
use Rattle.lq_calculus.specs.Contraction.{spine}
use Rattle.lq_terms.specs.Terms.{tree_of}
use Rattle.lq_env.specs.Environments.{env_of}
use Rattle.lq_env.proofs.Grown.{env_of-grown, IsEnv-grown}
use Rattle.lq_solving.specs.Kept.{StandsIn}
use Rattle.lq_evars.specs.Places.{store_of}
use Rattle.lq_tactics.specs.Applying.{inductive_of}
use Rattle.lq_prims.specs.Inductives.{inductive_by, IsInductiveOr}
use Rattle.lq_prims.specs.Scenes.{context_at, form_work}
use Rattle.lq_prims.specs.Working.{Refuses}
use Rattle.lq_prims.proofs.SceneLaws.{goal_context, site_of, kind_stands, plain_scene}
use Rattle.lq_prims.proofs.InductiveRows.{form_refused, form_shallow, inductive_done, none_refused}
use Rattle.lq_prims.proofs.WorkLaws.{handed_on}
use Rattle.lq_prims.proofs.inductives.goal_inductive.Goals as goal

pub head-requires-clause-site : goal.head-requires-clause-site
head-requires-clause-site g c =
    site_of c.args.work.now.bank.now c.args.env.now c.args.store.now c.args.goal c.requires.placed.declared c.requires.placed.place c.context.result.now
    (goal_context c.args.work.now.bank.now c.args.store.now c.args.goal c.requires.placed.place c.context.result.now (λ v e. c.context.ensures.place v e))

pub head-requires-clause-term : goal.head-requires-clause-term
head-requires-clause-term g c =
    along (λ z. StandsIn (store_of c.args.work.now.bank.now c.args.store.now) z (tree_of c.args.work.now.bank.now c.args.kind))
    (sym (goal_context c.args.work.now.bank.now c.args.store.now c.args.goal c.requires.placed.place c.context.result.now (λ v e. c.context.ensures.place v e)).is)
    (kind_stands c.args.work.now.bank.now c.args.env.now c.args.store.now c.args.goal c.args.kind c.requires.placed)

pub returns-in_err-form-clause-answer : goal.returns-in_err-form-clause-answer
returns-in_err-form-clause-answer g c vs =
    let bank = c.args.work.now.bank.now in
    let s = store_of bank c.args.store.now in
    let E = env_of bank c.args.env.now in
    let T = tree_of bank c.args.kind in
    let new = c.head.new.work.bank.now in
    let b = c.args.work.now.ticks.now.left in
    let left = c.head.new.work.ticks.now.left in
    handed_on new _ c.from_residual.result c.in_err-form.field-0.0 _ b left c.from_residual.ensures.1
    (form_refused E s c.args.goal (context_at s c.args.goal) T vs new c.in_err-form.field-0.0 b left
    (along (λ z. Refuses new c.in_err-form.field-0.0 (form_work E s z T) b left)
    (goal_context bank c.args.store.now c.args.goal c.requires.placed.place c.context.result.now (λ v e. c.context.ensures.place v e)).is c.in_err-form.ensures.answer))

pub inductive_at-requires-clause-env : goal.inductive_at-requires-clause-env
inductive_at-requires-clause-env g c = IsEnv-grown c.args.work.now.bank.now c.head.new.work.bank.now c.in_ok-form.ensures.grows c.args.env.now c.requires.placed.declared.env

pub inductive_at-requires-clause-shallow : goal.inductive_at-requires-clause-shallow
inductive_at-requires-clause-shallow g c =
    let bank = c.args.work.now.bank.now in
    let mid = c.head.new.work.bank.now in
    let s = store_of bank c.args.store.now in
    let E = env_of bank c.args.env.now in
    let T = tree_of bank c.args.kind in
    let b = c.args.work.now.ticks.now.left in
    let l = c.head.new.work.ticks.now.left in
    let t = tree_of mid c.in_ok-form.form in
    form_shallow E s c.args.goal (context_at s c.args.goal) T [] b l t
    (along (λ z. ComesTo (form_work E s z T) b (done t l))
    (goal_context bank c.args.store.now c.args.goal c.requires.placed.place c.context.result.now (λ v e. c.context.ensures.place v e)).is c.in_ok-form.ensures.answer)
    (plain_scene bank c.args.env.now c.args.store.now c.args.goal c.args.kind c.requires.placed (suc b))

pub returns-in-Ok-Some-clause-answer : goal.returns-in-Ok-Some-clause-answer
returns-in-Ok-Some-clause-answer g c vs =
    let bank = c.args.work.now.bank.now in
    let mid = c.head.new.work.bank.now in
    let s = store_of bank c.args.store.now in
    let E = env_of bank c.args.env.now in
    let T = tree_of bank c.args.kind in
    let b = c.args.work.now.ticks.now.left in
    let l = c.head.new.work.ticks.now.left in
    let t = tree_of mid c.in_ok-form.form in
    inductive_done E s c.args.goal (context_at s c.args.goal) T vs b l t
    (along (λ z. ComesTo (form_work E s z T) b (done t l))
    (goal_context bank c.args.store.now c.args.goal c.requires.placed.place c.context.result.now (λ v e. c.context.ensures.place v e)).is c.in_ok-form.ensures.answer)
    (inductive_by mid c.in-Ok-Some.inductive)
    (along (λ F. inductive_of F (spine t []) ≡ Some (inductive_by mid c.in-Ok-Some.inductive)) (env_of-grown bank mid c.in_ok-form.ensures.grows c.args.env.now c.requires.placed.declared.env) (along (IsInductiveOr mid (inductive_of (env_of mid c.args.env.now) (spine t []))) c.in-Ok-Some.field-0-is c.in-Ok-Some.ensures).1)

pub returns-in-Ok-None-clause-answer : goal.returns-in-Ok-None-clause-answer
returns-in-Ok-None-clause-answer g c vs =
    let bank = c.args.work.now.bank.now in
    let mid = c.head.new.work.bank.now in
    let s = store_of bank c.args.store.now in
    let E = env_of bank c.args.env.now in
    let T = tree_of bank c.args.kind in
    let b = c.args.work.now.ticks.now.left in
    let l = c.head.new.work.ticks.now.left in
    let t = tree_of mid c.in_ok-form.form in
    none_refused E s c.args.goal (context_at s c.args.goal) T vs b l t
    (along (λ z. ComesTo (form_work E s z T) b (done t l))
    (goal_context bank c.args.store.now c.args.goal c.requires.placed.place c.context.result.now (λ v e. c.context.ensures.place v e)).is c.in_ok-form.ensures.answer)
    mid c.in_ok-form.form c.in_ok-form.ensures.has refl
    (along (λ F. inductive_of F (spine t []) ≡ None) (env_of-grown bank mid c.in_ok-form.ensures.grows c.args.env.now c.requires.placed.declared.env) (along (IsInductiveOr mid (inductive_of (env_of mid c.args.env.now) (spine t []))) c.in-Ok-None.field-0-is c.in-Ok-None.ensures))
