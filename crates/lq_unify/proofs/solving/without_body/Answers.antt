use Rattle.std.proofs.Common.{◌∙◌, sym}
use Rattle.lq_terms.specs.Terms.{tree_of}
use Rattle.lq_evars.specs.Places.{store_of}
use Rattle.lq_evars.specs.Reading.{as_read}
use Rattle.lq_unify.specs.Solving.{body_of}
use Rattle.lq_unify.proofs.GivingLaws.{absent_none, limit_body}
use Rattle.lq_unify.proofs.solving.without_body.Goals as goal

pub returns-then-barred-clause-body : goal.returns-then-barred-clause-body
returns-then-barred-clause-body c = absent_none (body_of c.args.bank.now c.args.store.now c.args.variable c.args.entries.now (as_read (store_of c.args.bank.now c.args.store.now) (tree_of c.args.bank.now c.args.term))) (sym c.in_ok-barred.ensures.is ∙ c.if-barred.true)

pub returns-else-barred-clause-body : goal.returns-else-barred-clause-body
returns-else-barred-clause-body c =
    limit_body c.is_without_body.new.bank c.args.fault _ (body_of c.args.bank.now c.args.store.now c.args.variable c.args.entries.now (as_read (store_of c.args.bank.now c.args.store.now) (tree_of c.args.bank.now c.args.term)))
    (sym c.in_ok-barred.ensures.is ∙ c.if-barred.false) c.requires.fault
