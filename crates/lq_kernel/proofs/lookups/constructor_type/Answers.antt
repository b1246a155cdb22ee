use Rattle.std.proofs.Common.{sym, []}
use Rattle.lq_terms.specs.Terms.{text_of}
use Rattle.lq_inference.specs.Inference.{closed}
use Rattle.lq_env.specs.Environments.{env_of}
use Rattle.lq_kernel.proofs.Leaves.{ctor_none, ctor_other, ctor_missing, ctor_found, ctor_has}
use Rattle.lq_kernel.proofs.Told.{own}
use Rattle.lq_kernel.proofs.lookups.constructor_type.Goals as goal

pub returns-in_default-clause-answer : goal.returns-in_default-clause-answer
returns-in_default-clause-answer c o G b = (c.requires.name, ctor_none o (env_of c.args.bank.now c.args.env.now) G (text_of c.args.bank.now c.args.name) b c.args.index (c.in_default.ensures.told c.args.bank.now c.requires.env (own c.args.bank.now c.args.name c.names_apart.ensures c.requires.name)))

pub returns-in_default-entry-clause-answer : goal.returns-in_default-entry-clause-answer
returns-in_default-entry-clause-answer c o G b = (c.requires.name, ctor_other o (env_of c.args.bank.now c.args.env.now) G (text_of c.args.bank.now c.args.name) b c.args.index c.args.bank.now c.in-Some.entry.now (c.in-Some.ensures.told c.args.bank.now c.requires.env (own c.args.bank.now c.args.name c.names_apart.ensures c.requires.name)) c.in_default-entry.not-Family)

pub returns-in-None-clause-answer : goal.returns-in-None-clause-answer
returns-in-None-clause-answer c o G b = (c.requires.name, ctor_missing o (env_of c.args.bank.now c.args.env.now) G (text_of c.args.bank.now c.args.name) b c.args.index c.args.bank.now c.in-Family.family c.in-Family.field-1 c.in-Some.entry.now c.in-Family.is (sym c.in-None.ensures) (c.in-Some.ensures.told c.args.bank.now c.requires.env (own c.args.bank.now c.args.name c.names_apart.ensures c.requires.name)))

pub whole_type-requires-clause-family : goal.whole_type-requires-clause-family
whole_type-requires-clause-family c = (ctor_has closed (env_of c.args.bank.now c.args.env.now) [] (text_of c.args.bank.now c.args.name) 0 c.args.index c.args.bank.now c.in-Family.family c.in-Family.field-1 c.in-Some.entry.now c.in-Some-member.field-0.now c.in-Family.is (sym c.in-Some-member.ensures) (c.in-Some.ensures.told c.args.bank.now c.requires.env (own c.args.bank.now c.args.name c.names_apart.ensures c.requires.name))).0

pub whole_type-requires-clause-kind : goal.whole_type-requires-clause-kind
whole_type-requires-clause-kind c = (ctor_has closed (env_of c.args.bank.now c.args.env.now) [] (text_of c.args.bank.now c.args.name) 0 c.args.index c.args.bank.now c.in-Family.family c.in-Family.field-1 c.in-Some.entry.now c.in-Some-member.field-0.now c.in-Family.is (sym c.in-Some-member.ensures) (c.in-Some.ensures.told c.args.bank.now c.requires.env (own c.args.bank.now c.args.name c.names_apart.ensures c.requires.name))).1

pub returns-in-Some-member-clause-answer : goal.returns-in-Some-member-clause-answer
returns-in-Some-member-clause-answer c o G b =
    ctor_found o (env_of c.args.bank.now c.args.env.now) G (text_of c.args.bank.now c.args.name) b c.args.index c.args.bank.now c.in-Family.family c.in-Family.field-1 c.whole_type.new.bank c.in-Some.entry.now c.in-Some-member.field-0.now c.whole_type.result c.in-Family.is (sym c.in-Some-member.ensures) (c.in-Some.ensures.told c.args.bank.now c.requires.env (own c.args.bank.now c.args.name c.names_apart.ensures c.requires.name)) c.whole_type.ensures.answer
