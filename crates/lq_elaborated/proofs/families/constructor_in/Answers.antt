use Rattle.std.proofs.Common.{subst}
use Rattle.lq_terms.specs.Terms.{IsName}
use Rattle.lq_terms.specs.Contexts.{context_of}
use Rattle.lq_env.specs.Environments.{env_of}
use Rattle.lq_ast.specs.Plain.{plain}
use Rattle.lq_evars.specs.Places.{store_of}
use Rattle.lq_sessions.specs.Declaring.{type_work}
use Rattle.lq_elaborated.proofs.MakingLaws.{constructor_is}
use Rattle.lq_elaborated.proofs.families.constructor_in.Goals as goal

pub returns-clause-answer : goal.returns-clause-answer
returns-clause-answer g c =
    constructor_is c.type_in.new.work.bank.now c.name.new.self c.in_ok-name.ensures.grows (store_of c.args.work.now.bank.now c.args.store.now) c.type_in.new.store (context_of c.args.work.now.bank.now c.args.context.now) c.in-Ok.found c.in-Ok.ensures.stands
    c.in_ok-name.name c.args.constructor.now.name (subst (IsName c.name.new.self c.in_ok-name.name) c.as_str.ensures c.in_ok-name.ensures.named) (λ n. type_work (env_of c.args.work.now.bank.now c.args.env.now) n (context_of c.args.work.now.bank.now c.args.context.now) (store_of c.args.work.now.bank.now c.args.store.now) (plain c.args.constructor.now.kind))
    c.args.work.now.ticks.now.left c.type_in.new.work.ticks.now.left c.in-Ok.ensures.answer
