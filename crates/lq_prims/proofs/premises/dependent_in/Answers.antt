use Rattle.std.proofs.Common.{◌≡◌, ◌++◌, ◌+◌, ◌∙◌, sym, ap, drop}
use Rattle.std.proofs.Common.{subst as along}
use Rattle.lq_evars.specs.Places.{store_of}
use Rattle.lq_tactics.specs.Applying.{dependent_in, is_needed}
use Rattle.lq_prims.specs.Opening.{opening_of}
use Rattle.lq_prims.proofs.PremiseLaws.{picked, passed, at_end, dependent_none, dependent_next}
use Rattle.lq_prims.proofs.premises.dependent_in.Goals as goal
use Rattle.lq_prims.proofs.premises.dependent_in.Goals.{then-branch+in_ok-add, else-branch}

pub loop-variable-init : goal.loop-variable-init
loop-variable-init c =
    ap (λ z. z ++ dependent_in (store_of c.args.bank.now c.args.opening.now.store) (opening_of c.args.bank.now c.args.opening.now) c.args.variables.now) c.new-found.ensures.items

pub loop-variable-preserved : goal.loop-variable-preserved
loop-variable-preserved c =
    let s = store_of c.args.bank.now c.args.opening.now.store in
    let o = opening_of c.args.bank.now c.args.opening.now in
    let js = c.args.variables.now in
    let i = c.loop-variable.variable-index in
    let all = dependent_in s o js in
    elim c.if-branch.branch [
      | then-branch+in_ok-add w ↦
          picked (dependent_in s o) (is_needed s o) (dependent_none s o) (dependent_next s o) js i 0 c.loop-variable-test.true c.in_ok-is_needed.field-0 c.in_ok-is_needed.ensures w.if-branch.true c.loop-variable.found.items
          c.if-branch.found.items all (ap (λ z. z.items) w.found-is ∙ w.in_ok-add.ensures) c.loop-variable.invariant
      | else-branch w ↦
          along (λ z. z.items ++ dependent_in s o (drop (i + 1) js) ≡ all) (sym w.found-is)
          (passed (dependent_in s o) (is_needed s o) (dependent_none s o) (dependent_next s o) js i 0 c.loop-variable-test.true c.in_ok-is_needed.field-0 c.in_ok-is_needed.ensures w.if-branch.false c.loop-variable.found.items all
          c.loop-variable.invariant)
    ]

pub returns : goal.returns
returns c =
    let s = store_of c.args.bank.now c.args.opening.now.store in
    let o = opening_of c.args.bank.now c.args.opening.now in
    at_end (dependent_in s o) (is_needed s o) (dependent_none s o) (dependent_next s o) c.args.variables.now c.loop-variable.variable-index 0 c.loop-variable-test.false c.loop-variable.found.items
    (dependent_in s o c.args.variables.now) c.loop-variable.invariant
