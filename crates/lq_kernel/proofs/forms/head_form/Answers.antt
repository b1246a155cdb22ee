use Rattle.lq_calculus.specs.Declarations.{rules_of}
use Rattle.lq_kernel.proofs.FormLaws.{form_ok, form_err}
use Rattle.lq_kernel.proofs.Told.{own, env_tells, reads_it, reads_context, reads_rules}
use Rattle.lq_kernel.proofs.forms.head_form.Goals as goal

pub whnf-requires-clause-told : goal.whnf-requires-clause-told
whnf-requires-clause-told g c = c.computes.ensures.has c.args.work.now.bank.now c.requires.env

pub returns-in-Ok-clause-answer : goal.returns-in-Ok-clause-answer
returns-in-Ok-clause-answer g c E G T e k t =
    form_ok E G T c.whnf.new.work.bank.now c.args.work.now.ticks.now.left c.whnf.new.work.ticks.now.left c.in-Ok.form
    (c.in-Ok.ensures.answer (rules_of E) (rules_of E) G T (env_tells c.args.work.now.bank.now c.args.env.now E (c.computes.ensures.told c.args.work.now.bank.now c.requires.env (λ x has. own c.args.work.now.bank.now x c.names_apart.ensures has)) e) (reads_rules c.args.work.now.bank.now (rules_of E)) (reads_context c.args.work.now.bank.now c.args.context.now G k) (reads_it c.args.work.now.bank.now c.args.term T t)) c.in-Ok.ensures.closed

pub returns-in-Err-clause-answer : goal.returns-in-Err-clause-answer
returns-in-Err-clause-answer g c E G T e k t =
    form_err E G T c.whnf.new.work.bank.now c.args.work.now.ticks.now.left c.whnf.new.work.ticks.now.left c.in-Err.fault c.from.result c.from.ensures
    (c.in-Err.ensures.answer (rules_of E) (rules_of E) G T (env_tells c.args.work.now.bank.now c.args.env.now E (c.computes.ensures.told c.args.work.now.bank.now c.requires.env (λ x has. own c.args.work.now.bank.now x c.names_apart.ensures has)) e) (reads_rules c.args.work.now.bank.now (rules_of E)) (reads_context c.args.work.now.bank.now c.args.context.now G k) (reads_it c.args.work.now.bank.now c.args.term T t))
