use Rattle.std.proofs.Common.{ap, ◌∙◌}
use Rattle.lq_evars.specs.Places.{store_of}
use Rattle.lq_tactics.specs.Applying.{any_depends}
use Rattle.lq_prims.specs.Opening.{opening_of}
use Rattle.lq_prims.proofs.PremiseLaws.{needed_here, needed_by}
use Rattle.lq_prims.proofs.premises.is_needed.Goals as goal

pub returns-then-branch : goal.returns-then-branch
returns-then-branch c =
    let s = store_of c.args.bank.now c.args.opening.now.store in
    needed_here s (opening_of c.args.bank.now c.args.opening.now) c.args.variable c.in_ok-any_depends.field-0 (c.in_ok-any_depends.ensures ∙ ap (any_depends s c.args.variable) c.as_slice.ensures.value) c.if-branch.true

pub returns : goal.returns
returns c =
    let s = store_of c.args.bank.now c.args.opening.now.store in
    needed_by s (opening_of c.args.bank.now c.args.opening.now) c.args.variable c.in_ok-any_depends.field-0 (c.in_ok-any_depends.ensures ∙ ap (any_depends s c.args.variable) c.as_slice.ensures.value) c.if-branch.false
    c.reads_with.result c.reads_with.ensures
