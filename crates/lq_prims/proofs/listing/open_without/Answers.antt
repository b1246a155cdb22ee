use Rattle.std.proofs.Common.{◌≡◌, ◌++◌, ◌+◌, ◌∙◌, sym, ap, drop}
use Rattle.std.proofs.Common.{subst as along}
use Rattle.lq_evars.specs.Places.{store_of}
use Rattle.lq_prims.specs.Listing.{is_left}
use Rattle.lq_prims.proofs.PremiseLaws.{open_but, picked, passed, at_end, open_none, open_next}
use Rattle.lq_prims.proofs.listing.open_without.Goals as goal
use Rattle.lq_prims.proofs.listing.open_without.Goals.{then-is_shelved+in_ok-add, else-is_shelved}

pub loop-variable-init : goal.loop-variable-init
loop-variable-init c bank i = ap (λ z. z ++ open_but (store_of bank c.args.store.now) c.args.but.now c.args.variables.now) c.new-found.ensures.items

pub loop-variable-preserved : goal.loop-variable-preserved
loop-variable-preserved c bank k =
    let s = store_of bank c.args.store.now in
    let but = c.args.but.now in
    let js = c.args.variables.now in
    let i = c.loop-variable.variable-index in
    let all = open_but s but js in
    elim c.if-is_shelved.branch [
      | then-is_shelved+in_ok-add w ↦
          picked (open_but s but) (is_left but s) (open_none s but) (open_next s but) js i 0 c.loop-variable-test.true c.is_shelved.result (c.is_shelved.ensures bank k) w.if-is_shelved.true c.loop-variable.found.items
          c.if-is_shelved.found.items all (ap (λ z. z.items) w.found-is ∙ w.in_ok-add.ensures) (c.loop-variable.invariant bank k)
      | else-is_shelved w ↦
          along (λ z. z.items ++ open_but s but (drop (i + 1) js) ≡ all) (sym w.found-is)
          (passed (open_but s but) (is_left but s) (open_none s but) (open_next s but) js i 0 c.loop-variable-test.true c.is_shelved.result (c.is_shelved.ensures bank k) w.if-is_shelved.false c.loop-variable.found.items all
          (c.loop-variable.invariant bank k))
    ]

pub returns : goal.returns
returns c bank k =
    let s = store_of bank c.args.store.now in
    let but = c.args.but.now in
    at_end (open_but s but) (is_left but s) (open_none s but) (open_next s but) c.args.variables.now c.loop-variable.variable-index 0 c.loop-variable-test.false c.loop-variable.found.items (open_but s but c.args.variables.now)
    (c.loop-variable.invariant bank k)
