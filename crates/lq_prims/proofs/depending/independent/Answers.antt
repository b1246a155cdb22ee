use Rattle.std.proofs.Common.{◌≡◌, ◌++◌, ◌+◌, ◌∙◌, sym, ap, drop}
use Rattle.std.proofs.Common.{subst as along}
use Rattle.lq_evars.specs.Places.{store_of}
use Rattle.lq_tactics.specs.Primitives.{independent}
use Rattle.lq_prims.proofs.DependLaws.{free_more, free_same, free_end}
use Rattle.lq_prims.proofs.depending.independent.Goals as goal
use Rattle.lq_prims.proofs.depending.independent.Goals.{then-not-branch+in_ok-add, else-not-branch}

pub loop-variable-preserved : goal.loop-variable-preserved
loop-variable-preserved c =
    let s = store_of c.args.bank.now c.args.store.now in
    let ks = c.args.variables.now in
    let i = c.loop-variable.variable-index in
    let all = independent s ks ks in
    elim c.if-not-branch.branch [
      | then-not-branch+in_ok-add w ↦
          free_more s ks ks i 0 c.loop-variable-test.true c.in_ok-any_depends.field-0 c.in_ok-any_depends.ensures w.if-not-branch.true c.loop-variable.found.items c.if-not-branch.found.items all
          (ap (λ z. z.items) w.found-is ∙ w.in_ok-add.ensures) c.loop-variable.invariant
      | else-not-branch w ↦
          along (λ z. z.items ++ independent s ks (drop (i + 1) ks) ≡ all) (sym w.found-is)
          (free_same s ks ks i 0 c.loop-variable-test.true c.in_ok-any_depends.field-0 c.in_ok-any_depends.ensures w.if-not-branch.false c.loop-variable.found.items all c.loop-variable.invariant)
    ]

pub returns : goal.returns
returns c =
    free_end (store_of c.args.bank.now c.args.store.now) c.args.variables.now c.args.variables.now c.loop-variable.variable-index 0 c.loop-variable-test.false c.loop-variable.found.items
    (independent (store_of c.args.bank.now c.args.store.now) c.args.variables.now c.args.variables.now) c.loop-variable.invariant
