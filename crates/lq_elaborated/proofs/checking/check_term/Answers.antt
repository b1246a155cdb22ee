use Rattle.std.proofs.Common.{None}
use Rattle.lq_ast.specs.Plain.{plain}
use Rattle.lq_terms.specs.Contexts.{context_of}
use Rattle.lq_env.specs.Environments.{env_of}
use Rattle.lq_evars.specs.Places.{store_of}
use Rattle.lq_sessions.specs.Declaring.{term_work}
use Rattle.lq_elaborated.specs.Checking.{typed_work}
use Rattle.lq_elaborated.specs.Finding.{found_in}
use Rattle.lq_elaborated.proofs.CheckLaws.{checks_rest}
use Rattle.lq_elaborated.proofs.FindLaws.{stops_first}
use Rattle.lq_elaborated.proofs.checking.check_term.Goals as goal

pub returns-in-Ok-clause-answer : goal.returns-in-Ok-clause-answer
returns-in-Ok-clause-answer g c =
    checks_rest c.found_read.new.bank (λ n. term_work (env_of c.args.work.now.bank.now c.args.env.now) n (context_of c.args.work.now.bank.now c.args.context.now) (store_of c.args.work.now.bank.now c.args.store.now) (plain c.args.term.now) None) (store_of c.args.work.now.bank.now c.args.store.now) c.args.work.now.ticks.now.left c.term_in.new.work.ticks.now.left
    (found_in c.term_in.new.work.bank.now c.term_in.new.store c.in-Ok.found) c.found_read.result c.in-Ok.ensures.answer (c.found_read.ensures.answer (store_of c.args.work.now.bank.now c.args.store.now) (c.count-first.ensures.told c.args.work.now.bank.now))

pub returns-in-Err-clause-answer : goal.returns-in-Err-clause-answer
returns-in-Err-clause-answer g c =
    stops_first c.term_in.new.work.bank.now (λ n. term_work (env_of c.args.work.now.bank.now c.args.env.now) n (context_of c.args.work.now.bank.now c.args.context.now) (store_of c.args.work.now.bank.now c.args.store.now) (plain c.args.term.now) None) (λ f. typed_work (store_of c.args.work.now.bank.now c.args.store.now) f) c.args.work.now.ticks.now.left c.term_in.new.work.ticks.now.left c.in-Err.stop c.in-Err.ensures.answer
