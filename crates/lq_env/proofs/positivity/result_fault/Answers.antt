use Rattle.lq_terms.specs.Terms.{tree_of, text_of}
use Rattle.lq_env.specs.Families.{family_of}
use Rattle.lq_env.proofs.FaultLaws.{result_own, result_bad}
use Rattle.lq_env.proofs.positivity.result_fault.Goals as goal

pub returns-then-branch : goal.returns-then-branch
returns-then-branch c = result_own (family_of c.args.bank.now c.args.family.now) (text_of c.args.bank.now c.args.constructor) 0 (tree_of c.args.bank.now c.args.kind) c.in_ok-is_own.field-0 c.in_ok-is_own.ensures c.if-branch.true

pub returns : goal.returns
returns c = (c.requires.constructor, result_bad (family_of c.args.bank.now c.args.family.now) (text_of c.args.bank.now c.args.constructor) 0 (tree_of c.args.bank.now c.args.kind) c.in_ok-is_own.field-0 c.in_ok-is_own.ensures c.if-branch.false)
