use Rattle.std.proofs.Common.{◌≡◌, ◌<◌, ◌+◌, ◌++◌, ◌∙◌, sym, ap, arith}
use Rattle.std.proofs.Common.{subst as along}
use Rattle.lq_solving.specs.Stores.{count}
use Rattle.lq_solving.proofs.InstanceLaws.{length_map}
use Rattle.lq_evars.specs.Places.{store_of, variable_of}
use Rattle.lq_prims.proofs.ShelfLaws.{rest, shelf_start, shelf_more, shelf_same, shelf_end}
use Rattle.lq_prims.proofs.listing.shelved.Goals as goal
use Rattle.lq_prims.proofs.listing.shelved.Goals.{then-is_shelved+in_ok-add, else-is_shelved}

pub loop-variable-init : goal.loop-variable-init
loop-variable-init c bank i = ap (λ z. z ++ rest c.args.goals.now (store_of bank c.args.store.now) c.args.before) c.new-shelved.ensures.items

pub loop-variable-preserved : goal.loop-variable-preserved
loop-variable-preserved c bank i =
    let s = store_of bank c.args.store.now in
    let k = c.loop-variable.variable in
    let all = rest c.args.goals.now s c.args.before in
    let l : k < count s = omega (arith, c.loop-variable-test.true, c.count-variable-end.ensures.length, length_map (variable_of bank) c.args.store.now.variables) in
    elim c.if-is_shelved.branch [
      | then-is_shelved+in_ok-add w ↦
          shelf_more c.args.goals.now s k c.loop-variable.shelved.items c.if-is_shelved.shelved.items all l (sym w.if-is_shelved.true ∙ c.is_shelved.ensures bank i) (ap (λ z. z.items) w.shelved-is ∙ w.in_ok-add.ensures) (c.loop-variable.invariant bank i)
      | else-is_shelved w ↦
          along (λ z. z.items ++ rest c.args.goals.now s (k + 1) ≡ all) (sym w.shelved-is)
          (shelf_same c.args.goals.now s k c.loop-variable.shelved.items all l (sym w.if-is_shelved.false ∙ c.is_shelved.ensures bank i) (c.loop-variable.invariant bank i))
    ]

pub returns : goal.returns
returns c bank i before e =
    let s = store_of bank c.args.store.now in
    shelf_end c.args.goals.now s c.loop-variable.variable c.loop-variable.shelved.items (rest c.args.goals.now s c.args.before)
    (omega (arith, c.loop-variable-test.false, c.count-variable-end.ensures.length, length_map (variable_of bank) c.args.store.now.variables)) (c.loop-variable.invariant bank i)
    ∙ shelf_start c.args.goals.now s before c.args.before e
