use Rattle.std.proofs.Common.{sym}
use Rattle.lq_unify.specs.Applications.{application_of}
use Rattle.lq_unify.proofs.SplitLaws.{no_left, left_are, pairs_are}
use Rattle.lq_unify.proofs.splitting.variable_left.Goals as goal

pub returns-in_default-clause-form : goal.returns-in_default-clause-form
returns-in_default-clause-form c = λ g. sym (no_left g (application_of c.args.bank.now c.args.left.now) (application_of c.args.bank.now c.args.right.now) (rw c.in_default.is at c.in_ok-split.ensures.none))

pub returns-clause-form : goal.returns-clause-form
returns-clause-form c = λ g.
    c.alone.ensures.is c.taken_apart.new.bank g _
    (pairs_are c.taken_apart.new.bank g (λ ps. ps.items) c.in_ok-pairs.pairs _ _ c.in_ok-pairs.ensures.has (c.in_ok-pairs.ensures.are g)
    (left_are c.taken_apart.new.bank g (application_of c.args.bank.now c.args.left.now) (application_of c.args.bank.now c.args.right.now) c.in-Some.split c.as_slice.result.now c.as_slice-2.result.now c.as_slice.ensures.value c.as_slice-2.ensures.value (rw c.in-Some.is at c.in_ok-split.ensures.lists)))
