use Rattle.std.proofs.Common.{◌∙◌}
use Rattle.lq_terms.specs.Terms.{tree_of}
use Rattle.lq_kernel.specs.Answers.{Checks}
use Rattle.lq_inference.specs.Inference.{matching_by}
use Rattle.lq_kernel.proofs.Goes.{err_out}
use Rattle.lq_kernel.proofs.FormLaws.{written_out, written_yes, written_no}
use Rattle.lq_kernel.proofs.forms.matching_written.Goals as goal

pub returns-in_err-same-clause-answer : goal.returns-in_err-same-clause-answer
returns-in_err-same-clause-answer g c o E G T U v e k t u =
    err_out (λ z. Checks c.compares.new.work.bank.now z (λ n. matching_by o E n G T U) c.args.work.now.ticks.now.left c.compares.new.work.ticks.now.left) c.from_residual.result c.in_err-same.field-0.0 c.from_residual.ensures.1
    (written_out o E G T U c.compares.new.work.bank.now c.args.work.now.ticks.now.left c.compares.new.work.ticks.now.left c.in_err-same.field-0.0 (c.in_err-same.ensures.answer E G T U e k t u))

pub returns-then-same-clause-answer : goal.returns-then-same-clause-answer
returns-then-same-clause-answer g c o E G T U v e k t u =
    written_yes o E G T U c.compares.new.work.bank.now c.args.work.now.ticks.now.left c.compares.new.work.ticks.now.left c.in_ok-same.same c.if-same.true (c.in_ok-same.ensures.answer E G T U e k t u)

pub differ-requires-clause-stand : goal.differ-requires-clause-stand
differ-requires-clause-stand g c = g.met.V.Variables.stay c.args.variables.now c.args.work.now.bank.now c.compares.new.work.bank.now c.in_ok-same.ensures.grows c.requires.variables

pub returns-else-same-clause-answer : goal.returns-else-same-clause-answer
returns-else-same-clause-answer g c o E G T U v e k t u =
    written_no o E G T U c.compares.new.work.bank.now c.args.work.now.ticks.now.left c.compares.new.work.ticks.now.left (g.V.Variables.given c.args.variables.now c.compares.new.work.bank.now) (tree_of c.compares.new.work.bank.now c.args.found)
    (tree_of c.compares.new.work.bank.now c.args.written) c.differ.result c.in_ok-same.same c.if-same.false (g.met.V.Variables.same c.args.variables.now c.args.work.now.bank.now c.compares.new.work.bank.now c.in_ok-same.ensures.grows c.requires.variables ∙ v)
    (c.in_ok-same.ensures.grows.tree c.args.found c.requires.found.has ∙ t) (c.in_ok-same.ensures.grows.tree c.args.written c.requires.written.has ∙ u) (c.in_ok-same.ensures.answer E G T U e k t u) (c.differ.ensures c.compares.new.work.ticks.now.left)
