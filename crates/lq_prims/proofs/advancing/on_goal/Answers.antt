use Rattle.std.proofs.Common.{◌≡◌, ◌∙◌, ℕ, sym, ap, arith, false, [], length, Vec, Global, Ok, Err}
use Rattle.lq_trees.specs.Tree.Tree.{Rel}
use Rattle.lq_solving.proofs.ElabKept.{Grown}
use Rattle.lq_solving.proofs.InstanceLaws.{length_map}
use Rattle.lq_solving.specs.Kept.{IsStore}
use Rattle.std.proofs.Common.{subst as along}
use Rattle.lq_trees.specs.Ticks.{done, ComesTo}
use Rattle.lq_ast.specs.Plain.{plain_prim}
use Rattle.lq_env.specs.Environments.{env_of}
use Rattle.lq_solving.specs.Stores.{count, has_value}
use Rattle.lq_evars.specs.Places.{HasStore, store_of, variable_of}
use Rattle.lq_elab.specs.Calls.{ValuesStand}
use Rattle.lq_elab.specs.States.{givens_of}
use Rattle.lq_goals.specs.Held.{proof_of}
use Rattle.lq_tactics.specs.Primitives.{prim_row, run_prim}
use Rattle.lq_prims.specs.Finishing.{done_with}
use Rattle.lq_prims.specs.Leaving.{Leaves}
use Rattle.lq_prims.specs.Scenes.{scene_in, step_by}
use Rattle.lq_prims.specs.Working.{Refuses}
use Rattle.lq_prims.proofs.AdvanceLaws.{goal_valueless, row_finishes, row_listed, row_refused}
use Rattle.lq_prims.proofs.advancing.on_goal.Goals as goal

pub row-requires-clause-valueless : goal.row-requires-clause-valueless
row-requires-clause-valueless g c =
    along (λ z. has_value (store_of c.args.work.now.bank.now z) c.args.goal ≡ false) (sym c.store_mut.ensures.value) (goal_valueless c.args.work.now.bank.now c.args.env.now c.args.proof.now c.args.goal c.requires.may)

pub row-requires-clause-values_stand : goal.row-requires-clause-values_stand
row-requires-clause-values_stand g c =
    along (λ z. ValuesStand (store_of c.args.work.now.bank.now z) (givens_of c.args.work.now.bank.now c.args.values.now)) (sym c.store_mut.ensures.value) c.requires.values_stand

pub finish-requires : goal.finish-requires
finish-requires g c =
    let old = c.args.work.now.bank.now in
    let new = c.row.new.work.bank.now in
    let q = c.args.proof.now in
    let ds = c.args.env.now in
    let vs = givens_of old c.args.values.now in
    let leaves = along (λ ks. Leaves (store_of old q.store) c.args.goal (store_of new c.row.new.store) ks) (sym c.deref.ensures.value) (along (λ z. Leaves (store_of old z) c.args.goal (store_of new c.row.new.store) c.in-Ok.goals.items) c.store_mut.ensures.value c.in-Ok.ensures.leaves) in
    omega (arith, c.count-before.ensures.length, ap (λ z. length z.variables) c.store.ensures, (leaves [] [] (Rel 0) [] 0).grown.more, length_map (variable_of old) q.store.variables, length_map (variable_of new) c.row.new.store.variables)

pub returns-in-Ok-finish-clause-answer : goal.returns-in-Ok-finish-clause-answer
returns-in-Ok-finish-clause-answer g c placed =
    let old = c.args.work.now.bank.now in
    let new = c.row.new.work.bank.now in
    let q = c.args.proof.now in
    let ds = c.args.env.now in
    let vs = givens_of old c.args.values.now in
    let leaves = along (λ ks. Leaves (store_of old q.store) c.args.goal (store_of new c.row.new.store) ks) (sym c.deref.ensures.value) (along (λ z. Leaves (store_of old z) c.args.goal (store_of new c.row.new.store) c.in-Ok.goals.items) c.store_mut.ensures.value c.in-Ok.ensures.leaves) in
    let may = row_finishes old new ds q c.row.new.store c.args.goal c.count-before.result c.args.kind vs c.deref.result.now 0 c.requires.may c.requires.placed c.requires.values_stand leaves
    (sym (c.count-before.ensures.told old ∙ ap (λ z. count (store_of old z)) c.store.ensures)) in
    along (λ ks. ComesTo (λ n. run_prim (env_of old ds) n (proof_of old q) c.args.goal (plain_prim c.args.prim.now) vs) c.args.work.now.ticks.now.left (done (done_with new c.finish.new.proof ks c.in-Ok-finish.shelved.items) c.row.new.work.ticks.now.left)) c.deref.ensures.value
    (row_listed (env_of old ds) (proof_of old q) c.args.goal (plain_prim c.args.prim.now) vs (λ n. scene_in old ds q.store c.args.goal c.args.kind vs n) placed c.args.work.now.ticks.now.left c.row.new.work.ticks.now.left
    (step_by (store_of new c.row.new.store) c.deref.result.now) (along (λ ks. ComesTo (λ n. prim_row (scene_in old ds q.store c.args.goal c.args.kind vs n) (plain_prim c.args.prim.now)) c.args.work.now.ticks.now.left (done (step_by (store_of new c.row.new.store) ks) c.row.new.work.ticks.now.left)) (sym c.deref.ensures.value)
    (along (λ z. ComesTo (λ n. prim_row (scene_in old ds z c.args.goal c.args.kind vs n) (plain_prim c.args.prim.now)) c.args.work.now.ticks.now.left (done (step_by (store_of new c.row.new.store) c.in-Ok.goals.items) c.row.new.work.ticks.now.left)) c.store_mut.ensures.value c.in-Ok.ensures.answer))
    new (λ v. done_with new c.finish.new.proof c.deref.result.now v.items) (Ok c.in-Ok-finish.shelved)
    (c.in-Ok-finish.ensures.answer new (proof_of old q) (scene_in old ds q.store c.args.goal c.args.kind vs 0) (step_by (store_of new c.row.new.store) c.deref.result.now) may))

pub returns-in-Ok-finish-clause-held : goal.returns-in-Ok-finish-clause-held
returns-in-Ok-finish-clause-held g c =
    let old = c.args.work.now.bank.now in
    let new = c.row.new.work.bank.now in
    let q = c.args.proof.now in
    let ds = c.args.env.now in
    let vs = givens_of old c.args.values.now in
    let leaves = along (λ ks. Leaves (store_of old q.store) c.args.goal (store_of new c.row.new.store) ks) (sym c.deref.ensures.value) (along (λ z. Leaves (store_of old z) c.args.goal (store_of new c.row.new.store) c.in-Ok.goals.items) c.store_mut.ensures.value c.in-Ok.ensures.leaves) in
    let may = row_finishes old new ds q c.row.new.store c.args.goal c.count-before.result c.args.kind vs c.deref.result.now 0 c.requires.may c.requires.placed c.requires.values_stand leaves
    (sym (c.count-before.ensures.told old ∙ ap (λ z. count (store_of old z)) c.store.ensures)) in
    let stands = c.in-Ok-finish.ensures.stands new (proof_of old q) (scene_in old ds q.store c.args.goal c.args.kind vs 0) (step_by (store_of new c.row.new.store) c.deref.result.now) may in
    record {
      store = along (HasStore new) (sym c.in-Ok-finish.ensures.store) c.in-Ok.ensures.has;
      kept = along (λ z. IsStore (store_of new z)) (sym c.in-Ok-finish.ensures.store) c.in-Ok.ensures.kept;
      proof = stands.0;
      swept = stands.1;
    }

pub returns-in-Ok-finish-clause-grown : goal.returns-in-Ok-finish-clause-grown
returns-in-Ok-finish-clause-grown g c =
    let old = c.args.work.now.bank.now in
    let new = c.row.new.work.bank.now in
    let q = c.args.proof.now in
    let ds = c.args.env.now in
    let vs = givens_of old c.args.values.now in
    let leaves = along (λ ks. Leaves (store_of old q.store) c.args.goal (store_of new c.row.new.store) ks) (sym c.deref.ensures.value) (along (λ z. Leaves (store_of old z) c.args.goal (store_of new c.row.new.store) c.in-Ok.goals.items) c.store_mut.ensures.value c.in-Ok.ensures.leaves) in
    along (λ z. Grown (store_of old q.store) (store_of new z)) (sym c.in-Ok-finish.ensures.store) (leaves [] [] (Rel 0) [] 0).grown

pub returns-in-Err-finish-clause-answer : goal.returns-in-Err-finish-clause-answer
returns-in-Err-finish-clause-answer g c placed =
    let old = c.args.work.now.bank.now in
    let new = c.row.new.work.bank.now in
    let q = c.args.proof.now in
    let ds = c.args.env.now in
    let vs = givens_of old c.args.values.now in
    let leaves = along (λ ks. Leaves (store_of old q.store) c.args.goal (store_of new c.row.new.store) ks) (sym c.deref.ensures.value) (along (λ z. Leaves (store_of old z) c.args.goal (store_of new c.row.new.store) c.in-Ok.goals.items) c.store_mut.ensures.value c.in-Ok.ensures.leaves) in
    let may = row_finishes old new ds q c.row.new.store c.args.goal c.count-before.result c.args.kind vs c.deref.result.now 0 c.requires.may c.requires.placed c.requires.values_stand leaves
    (sym (c.count-before.ensures.told old ∙ ap (λ z. count (store_of old z)) c.store.ensures)) in
    row_listed (env_of old ds) (proof_of old q) c.args.goal (plain_prim c.args.prim.now) vs (λ n. scene_in old ds q.store c.args.goal c.args.kind vs n) placed c.args.work.now.ticks.now.left c.row.new.work.ticks.now.left
    (step_by (store_of new c.row.new.store) c.deref.result.now) (along (λ ks. ComesTo (λ n. prim_row (scene_in old ds q.store c.args.goal c.args.kind vs n) (plain_prim c.args.prim.now)) c.args.work.now.ticks.now.left (done (step_by (store_of new c.row.new.store) ks) c.row.new.work.ticks.now.left)) (sym c.deref.ensures.value)
    (along (λ z. ComesTo (λ n. prim_row (scene_in old ds z c.args.goal c.args.kind vs n) (plain_prim c.args.prim.now)) c.args.work.now.ticks.now.left (done (step_by (store_of new c.row.new.store) c.in-Ok.goals.items) c.row.new.work.ticks.now.left)) c.store_mut.ensures.value c.in-Ok.ensures.answer))
    new (λ (v : Vec ℕ Global). done_with new c.finish.new.proof c.deref.result.now v.items) (Err c.in-Err-finish.fault)
    (c.in-Err-finish.ensures.answer new (proof_of old q) (scene_in old ds q.store c.args.goal c.args.kind vs 0) (step_by (store_of new c.row.new.store) c.deref.result.now) may)

pub returns-in-Err-clause-answer : goal.returns-in-Err-clause-answer
returns-in-Err-clause-answer g c placed =
    let old = c.args.work.now.bank.now in
    let q = c.args.proof.now in
    let ds = c.args.env.now in
    let vs = givens_of old c.args.values.now in
    row_refused (env_of old ds) (proof_of old q) c.args.goal (plain_prim c.args.prim.now) vs (λ n. scene_in old ds q.store c.args.goal c.args.kind vs n) placed c.row.new.work.bank.now c.in-Err.fault c.args.work.now.ticks.now.left c.row.new.work.ticks.now.left
    (along (λ z. Refuses c.row.new.work.bank.now c.in-Err.fault (λ n. prim_row (scene_in old ds z c.args.goal c.args.kind vs n) (plain_prim c.args.prim.now)) c.args.work.now.ticks.now.left c.row.new.work.ticks.now.left) c.store_mut.ensures.value c.in-Err.ensures.answer)
