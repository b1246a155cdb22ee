use Rattle.lq_calculus.specs.Checking.{matching}
use Rattle.lq_kernel.specs.Answers.{Checks}
use Rattle.lq_kernel.proofs.Goes.{err_out}
use Rattle.lq_kernel.proofs.FormLaws.{matching_out, matching_yes, mismatched}
use Rattle.lq_kernel.proofs.forms.matching.Goals as goal

pub returns-in_err-same-clause-answer : goal.returns-in_err-same-clause-answer
returns-in_err-same-clause-answer g c E G T U e k t u =
    err_out (λ z. Checks c.compares.new.work.bank.now z (λ n. matching E n G T U) c.args.work.now.ticks.now.left c.compares.new.work.ticks.now.left) c.from_residual.result c.in_err-same.field-0.0 c.from_residual.ensures.1
    (matching_out E G T U c.compares.new.work.bank.now c.args.work.now.ticks.now.left c.compares.new.work.ticks.now.left c.in_err-same.field-0.0 (c.in_err-same.ensures.answer E G T U e k t u))

pub returns-then-same-clause-answer : goal.returns-then-same-clause-answer
returns-then-same-clause-answer g c E G T U e k t u =
    matching_yes E G T U c.compares.new.work.bank.now c.args.work.now.ticks.now.left c.compares.new.work.ticks.now.left c.in_ok-same.same c.if-same.true (c.in_ok-same.ensures.answer E G T U e k t u)

pub returns-else-same-clause-answer : goal.returns-else-same-clause-answer
returns-else-same-clause-answer g c E G T U e k t u =
    mismatched E G T U c.args.work.now.bank.now c.compares.new.work.bank.now c.args.work.now.ticks.now.left c.compares.new.work.ticks.now.left c.args.found c.args.wanted c.in_ok-same.same
    c.in_ok-same.ensures.grows c.requires.found.has c.requires.wanted.has t u c.if-same.false (c.in_ok-same.ensures.answer E G T U e k t u)
