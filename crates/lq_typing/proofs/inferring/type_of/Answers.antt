use Rattle.lq_env.specs.Environments.{env_of}
use Rattle.lq_evars.specs.Places.{store_of}
use Rattle.lq_terms.specs.Contexts.{context_of}
use Rattle.lq_terms.specs.Terms.{tree_of}
use Rattle.lq_typing.proofs.RefusalLaws.{type_found, type_refused}
use Rattle.lq_typing.proofs.RunLaws.{call_stands}
use Rattle.lq_typing.proofs.inferring.type_of.Goals as goal

pub inferred-requires-clause-site : goal.inferred-requires-clause-site
inferred-requires-clause-site g c = record {
  lent = record { env = c.requires.env; plain = c.requires.plain; store = c.requires.store; kept = c.requires.kept };
  has = c.requires.hypotheses;
  context = c.requires.context;
}

pub returns-in-Ok-clause-answer : goal.returns-in-Ok-clause-answer
returns-in-Ok-clause-answer g c =
    type_found c.inferred.new.work.bank.now (env_of c.args.work.now.bank.now c.args.env.now) (store_of c.args.work.now.bank.now c.args.store.now) (context_of c.args.work.now.bank.now c.args.context.now) (tree_of c.args.work.now.bank.now c.args.term)
    c.args.work.now.ticks.now.left c.inferred.new.work.ticks.now.left c.in-Ok.kind c.in-Ok.ensures.answer

pub returns-in-Ok-clause-stands : goal.returns-in-Ok-clause-stands
returns-in-Ok-clause-stands g c =
    call_stands c.args.work.now.bank.now c.args.store.now (env_of c.args.work.now.bank.now c.args.env.now) c.args.context.now c.args.term c.requires.kept c.requires.plain c.requires.context c.requires.term c.inferred.new.work.bank.now c.in-Ok.kind
    c.args.work.now.ticks.now.left c.inferred.new.work.ticks.now.left c.in-Ok.ensures.answer

pub returns-in-Err-clause-answer : goal.returns-in-Err-clause-answer
returns-in-Err-clause-answer g c =
    type_refused c.inferred.new.work.bank.now (env_of c.args.work.now.bank.now c.args.env.now) (store_of c.args.work.now.bank.now c.args.store.now) (context_of c.args.work.now.bank.now c.args.context.now) (tree_of c.args.work.now.bank.now c.args.term)
    c.args.work.now.ticks.now.left c.inferred.new.work.ticks.now.left c.in-Err.fault c.from.result c.from.ensures c.in-Err.ensures.answer
