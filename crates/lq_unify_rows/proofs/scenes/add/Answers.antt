use Rattle.std.proofs.Common.{sym, subst, None}
use Rattle.lq_terms.specs.Contexts.{HasContext}
use Rattle.lq_terms.specs.Terms.{tree_of}
use Rattle.lq_evars.specs.declared.store.Variable.{Variable}
use Rattle.lq_evars.specs.Places.{HasStore}
use Rattle.lq_evars.proofs.Having.{more_has}
use Rattle.lq_unify_rows.specs.Scenes.{IsSeen}
use Rattle.lq_unify_rows.proofs.Keeping.{scene_more, scene_same}
use Rattle.lq_unify_rows.proofs.Looking.{seen_variable}
use Rattle.lq_unify_rows.proofs.scenes.add.Goals as goal

pub returns-in-Ok : goal.returns-in-Ok
returns-in-Ok c =
    let bank = c.args.bank.now in
    let v : Variable = record { context = c.in_ok-own.own; kind = c.args.kind; name = None } in
    scene_more bank c.args.store.now c.new_var.new.self v c.args.context.now c.args.declared.now c.requires.scene c.in-Ok.ensures.added
    (subst (HasStore bank) (sym c.in-Ok.ensures.added)
    (more_has bank c.args.store.now v c.requires.scene.store (record { context = subst (HasContext bank) (sym c.in_ok-own.ensures) c.requires.scene.hypotheses; kind = c.requires.kind; name = tt })))
    (c.in-Ok.ensures.stands bank c.requires.scene.store c.requires.scene.kept
    (seen_variable bank c.args.store.now c.args.context.now v c.requires.scene.kept c.requires.scene.context c.in_ok-own.ensures
    (subst (λ hs. IsSeen bank c.args.store.now hs 0 (tree_of bank c.args.kind)) c.hypotheses.ensures (c.stands.ensures c.if-not-stands.false)))
    tt)

pub returns-in-Err : goal.returns-in-Err
returns-in-Err c = scene_same c.args.bank.now c.args.store.now c.new_var.new.self c.args.context.now c.args.declared.now c.in-Err.ensures.kept c.requires.scene
