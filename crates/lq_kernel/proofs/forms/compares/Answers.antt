use Rattle.lq_calculus.specs.Declarations.{rules_of}
use Rattle.lq_kernel.proofs.FormLaws.{compare_err}
use Rattle.lq_kernel.proofs.Told.{own, env_tells, reads_it, reads_context, reads_rules}
use Rattle.lq_kernel.proofs.forms.compares.Goals as goal

pub conv-requires-clause-told : goal.conv-requires-clause-told
conv-requires-clause-told g c = c.computes.ensures.has c.args.work.now.bank.now c.requires.env

pub returns-in-Ok-clause-answer : goal.returns-in-Ok-clause-answer
returns-in-Ok-clause-answer g c E G T U e k t u = c.in-Ok.ensures.answer (rules_of E) (rules_of E) G T U (env_tells c.args.work.now.bank.now c.args.env.now E (c.computes.ensures.told c.args.work.now.bank.now c.requires.env (λ x has. own c.args.work.now.bank.now x c.names_apart.ensures has)) e) (reads_rules c.args.work.now.bank.now (rules_of E)) (reads_context c.args.work.now.bank.now c.args.context.now G k) (reads_it c.args.work.now.bank.now c.args.found T t) (reads_it c.args.work.now.bank.now c.args.wanted U u)

pub returns-in-Err-clause-answer : goal.returns-in-Err-clause-answer
returns-in-Err-clause-answer g c E G T U e k t u =
    compare_err E G T U c.conv.new.work.bank.now c.args.work.now.ticks.now.left c.conv.new.work.ticks.now.left c.in-Err.fault c.from.result c.from.ensures
    (c.in-Err.ensures.answer (rules_of E) (rules_of E) G T U (env_tells c.args.work.now.bank.now c.args.env.now E (c.computes.ensures.told c.args.work.now.bank.now c.requires.env (λ x has. own c.args.work.now.bank.now x c.names_apart.ensures has)) e) (reads_rules c.args.work.now.bank.now (rules_of E)) (reads_context c.args.work.now.bank.now c.args.context.now G k) (reads_it c.args.work.now.bank.now c.args.found T t) (reads_it c.args.work.now.bank.now c.args.wanted U u))
