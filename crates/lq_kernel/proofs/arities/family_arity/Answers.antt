use Rattle.lq_terms.specs.Terms.{text_of}
use Rattle.lq_calculus.specs.Declarations.{family_type}
use Rattle.lq_env.specs.Families.{family_of}
use Rattle.lq_kernel.proofs.Oversized.{type_closed, large_closed, deep_closed, large_counts, deep_counts}
use Rattle.lq_kernel.proofs.arities.family_arity.Goals as goal

pub returns-in-Ok-clause-closed : goal.returns-in-Ok-clause-closed
returns-in-Ok-clause-closed c = type_closed c.family_type.new.bank c.in-Ok.kind (family_of c.args.bank.now c.args.family.now) c.requires.written c.in-Ok.ensures.answer.0

pub returns-in-Err-TooLarge-clause-closed : goal.returns-in-Err-TooLarge-clause-closed
returns-in-Err-TooLarge-clause-closed c = large_closed c.large_type.new.bank (text_of c.family_type.new.bank c.args.family.now.name) c.large_type.result c.large_type.ensures.large

pub returns-in-Err-TooLarge-clause-alike : goal.returns-in-Err-TooLarge-clause-alike
returns-in-Err-TooLarge-clause-alike c =
    large_counts c.large_type.new.bank (text_of c.family_type.new.bank c.args.family.now.name) c.large_type.result (family_type (family_of c.args.bank.now c.args.family.now))
    (rw c.in-Err-TooLarge.field-0-is at c.in-Err-TooLarge.ensures.answer) c.large_type.ensures.large

pub returns-in-Err-TooDeep-clause-closed : goal.returns-in-Err-TooDeep-clause-closed
returns-in-Err-TooDeep-clause-closed c = deep_closed c.deep_type.new.bank (text_of c.family_type.new.bank c.args.family.now.name) c.deep_type.result c.deep_type.ensures.deep

pub returns-in-Err-TooDeep-clause-alike : goal.returns-in-Err-TooDeep-clause-alike
returns-in-Err-TooDeep-clause-alike c =
    deep_counts c.deep_type.new.bank (text_of c.family_type.new.bank c.args.family.now.name) c.deep_type.result (family_type (family_of c.args.bank.now c.args.family.now))
    (rw c.in-Err-TooDeep.field-0-is at c.in-Err-TooDeep.ensures.answer) c.deep_type.ensures.deep
