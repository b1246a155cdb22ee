use Rattle.lq_ast.specs.Plain.{plain_prim}
use Rattle.lq_evars.specs.Places.{store_of}
use Rattle.lq_elab.proofs.StateLaws.{givens_grown}
use Rattle.lq_prims.specs.Scenes.{step_by}
use Rattle.lq_prims.proofs.TableLaws.{valueless_later, row_before, leaves_before}
use Rattle.lq_prims.proofs.GrownLaws.{placed_later, values_later}
use Rattle.lq_prims.proofs.rows.row.Goals as goal

pub named_row-requires-clause-placed : goal.named_row-requires-clause-placed
named_row-requires-clause-placed g c = placed_later c.args.work.now.bank.now c.written_names.new.bank c.in-Ok.ensures.grows c.args.env.now c.args.store.now c.args.goal c.args.kind c.requires.placed

pub named_row-requires-clause-valueless : goal.named_row-requires-clause-valueless
named_row-requires-clause-valueless g c = valueless_later c.args.work.now.bank.now c.written_names.new.bank c.in-Ok.ensures.grows c.args.env.now c.args.store.now c.args.goal c.args.kind c.requires.placed c.requires.valueless

pub named_row-requires-clause-values : goal.named_row-requires-clause-values
named_row-requires-clause-values g c = (givens_grown c.args.work.now.bank.now c.written_names.new.bank c.in-Ok.ensures.grows c.args.values.now c.requires.values).1

pub named_row-requires-clause-values_stand : goal.named_row-requires-clause-values_stand
named_row-requires-clause-values_stand g c = values_later c.args.work.now.bank.now c.written_names.new.bank c.in-Ok.ensures.grows c.args.env.now c.args.store.now c.args.goal c.args.kind c.requires.placed c.args.values.now c.requires.values c.requires.values_stand

pub returns-in-Ok-clause-answer : goal.returns-in-Ok-clause-answer
returns-in-Ok-clause-answer g c =
    let new = c.named_row.new.work.bank.now in
    row_before c.args.work.now.bank.now c.written_names.new.bank c.in-Ok.ensures.grows c.args.env.now c.args.store.now c.args.goal c.args.kind c.requires.placed c.args.values.now c.requires.values (plain_prim c.args.prim.now)
    new (λ v. step_by (store_of new c.named_row.new.store) v.items) c.named_row.result c.args.work.now.ticks.now.left c.named_row.new.work.ticks.now.left c.named_row.ensures.answer

pub returns-in-Ok-clause-leaves : goal.returns-in-Ok-clause-leaves
returns-in-Ok-clause-leaves g c =
    leaves_before c.args.work.now.bank.now c.written_names.new.bank c.in-Ok.ensures.grows c.args.env.now c.args.store.now c.args.goal c.args.kind c.requires.placed
    (store_of c.named_row.new.work.bank.now c.named_row.new.store) c.named_row.result c.named_row.ensures.leaves
