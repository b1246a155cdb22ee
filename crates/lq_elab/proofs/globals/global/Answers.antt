use Rattle.std.proofs.Common.{IfOk}
use Rattle.lq_terms.specs.Terms.{HasTerm, text_of}
use Rattle.lq_env.specs.Environments.{env_of}
use Rattle.lq_kernel.proofs.Told.{own}
use Rattle.lq_elab.proofs.GlobalLaws.{absent_refuses, constant_answer, constant_known, family_answer, family_known, ctor_answer, ctor_known, elim_answer, elim_known}
use Rattle.lq_elab.proofs.globals.global.Goals as goal

pub returns-in_default-clause-answer : goal.returns-in_default-clause-answer
returns-in_default-clause-answer c = λ e s left x.
    absent_refuses c.args.bank.now c.args.name c.requires.name (env_of c.args.bank.now c.args.env.now) e x s left (c.in_default.ensures.told c.args.bank.now c.requires.env (own c.args.bank.now c.args.name c.names_apart.ensures c.requires.name))

pub returns-in-Constant-clause-answer : goal.returns-in-Constant-clause-answer
returns-in-Constant-clause-answer c = λ e s left x.
    constant_answer c.args.bank.now (env_of c.args.bank.now c.args.env.now) (text_of c.args.bank.now c.args.name) e x s left c.leaf.new.bank c.leaf.result c.in-Some.entry.now c.in-Constant.kind c.in-Constant.body c.in-Constant.opaque c.in-Constant.is (c.in-Some.ensures.told c.args.bank.now c.requires.env (own c.args.bank.now c.args.name c.names_apart.ensures c.requires.name)) c.constant_type-kind.result c.constant_type-kind.ensures (c.leaf.ensures.answer)

pub returns-in-Constant-clause-kind : goal.returns-in-Constant-clause-kind
returns-in-Constant-clause-kind c = constant_known c.args.bank.now (env_of c.args.bank.now c.args.env.now) c.constant_type-kind.result (IfOk c.leaf.result (λ f. HasTerm c.leaf.new.bank f.kind)) c.leaf.ensures.kind (text_of c.args.bank.now c.args.name) c.constant_type-kind.ensures

pub returns-in-Family-clause-answer : goal.returns-in-Family-clause-answer
returns-in-Family-clause-answer c = λ e s left x.
    family_answer c.args.bank.now (env_of c.args.bank.now c.args.env.now) (text_of c.args.bank.now c.args.name) e x s left c.leaf-in-Family.new.bank c.leaf-in-Family.result c.in-Some.entry.now c.in-Family.is (c.in-Some.ensures.told c.args.bank.now c.requires.env (own c.args.bank.now c.args.name c.names_apart.ensures c.requires.name)) c.family_type-kind.result c.family_type-kind.ensures c.leaf-in-Family.ensures.answer

pub returns-in-Family-clause-kind : goal.returns-in-Family-clause-kind
returns-in-Family-clause-kind c = family_known c.args.bank.now (env_of c.args.bank.now c.args.env.now) c.family_type-kind.result (IfOk c.leaf-in-Family.result (λ f. HasTerm c.leaf-in-Family.new.bank f.kind)) c.leaf-in-Family.ensures.kind (text_of c.args.bank.now c.args.name) c.family_type-kind.ensures

pub returns-in-Constructor-clause-answer : goal.returns-in-Constructor-clause-answer
returns-in-Constructor-clause-answer c = λ e s left x.
    ctor_answer c.args.bank.now (env_of c.args.bank.now c.args.env.now) (text_of c.args.bank.now c.args.name) e x s left c.leaf-in-Constructor.new.bank c.leaf-in-Constructor.result c.in-Some.entry.now c.in-Constructor.family c.in-Constructor.index c.in-Constructor.is (c.in-Some.ensures.told c.args.bank.now c.requires.env (own c.args.bank.now c.args.name c.names_apart.ensures c.requires.name)) c.constructor_type-kind.new.bank c.constructor_type-kind.ensures.grows c.constructor_type-kind.result c.constructor_type-kind.ensures.answer c.leaf-in-Constructor.ensures.answer

pub returns-in-Constructor-clause-kind : goal.returns-in-Constructor-clause-kind
returns-in-Constructor-clause-kind c = ctor_known c.constructor_type-kind.new.bank (env_of c.args.bank.now c.args.env.now) c.constructor_type-kind.result (IfOk c.leaf-in-Constructor.result (λ f. HasTerm c.leaf-in-Constructor.new.bank f.kind)) c.leaf-in-Constructor.ensures.kind (text_of c.args.bank.now c.in-Constructor.family) c.in-Constructor.index c.constructor_type-kind.ensures.answer

pub returns-in-Eliminator-clause-answer : goal.returns-in-Eliminator-clause-answer
returns-in-Eliminator-clause-answer c = λ e s left x.
    elim_answer c.args.bank.now (env_of c.args.bank.now c.args.env.now) (text_of c.args.bank.now c.args.name) e x s left c.leaf-in-Eliminator.new.bank c.leaf-in-Eliminator.result c.in-Some.entry.now c.in-Eliminator.family c.in-Eliminator.sort c.in-Eliminator.is (c.in-Some.ensures.told c.args.bank.now c.requires.env (own c.args.bank.now c.args.name c.names_apart.ensures c.requires.name)) c.eliminator_type-kind.result c.eliminator_type-kind.ensures c.leaf-in-Eliminator.ensures.answer

pub returns-in-Eliminator-clause-kind : goal.returns-in-Eliminator-clause-kind
returns-in-Eliminator-clause-kind c = elim_known c.args.bank.now (env_of c.args.bank.now c.args.env.now) c.eliminator_type-kind.result (IfOk c.leaf-in-Eliminator.result (λ f. HasTerm c.leaf-in-Eliminator.new.bank f.kind)) c.leaf-in-Eliminator.ensures.kind (text_of c.args.bank.now c.in-Eliminator.family) c.in-Eliminator.sort c.eliminator_type-kind.ensures
