use Rattle.std.proofs.Common.{subst, sym}
use Rattle.lq_trees.specs.Ticks.{done}
use Rattle.lq_calculus.specs.Checking.{declare_constant}
use Rattle.lq_terms.specs.Terms.{text_of, tree_of}
use Rattle.lq_env.specs.Environments.{env_of}
use Rattle.lq_sessions.specs.Told.{of_kernel}
use Rattle.lq_sessions.specs.Declaring.{kernel_work}
use Rattle.lq_causes.specs.Stopping.{Stops}
use Rattle.lq_causes.proofs.StopLaws.{comes_told, kernel_stops}
use Rattle.lq_declaring.proofs.constants.declared.Goals as goal

pub returns-in-Ok-clause-answer : goal.returns-in-Ok-clause-answer
returns-in-Ok-clause-answer g c =
    comes_told of_kernel (λ n. declare_constant (env_of c.args.work.now.bank.now c.args.env.now) n (text_of c.args.work.now.bank.now c.args.name) (tree_of c.args.work.now.bank.now c.args.kind) (tree_of c.args.work.now.bank.now c.args.body) c.args.opaque)
    c.args.work.now.ticks.now.left (done (env_of c.declare.new.work.bank.now c.declare.new.env) c.declare.new.work.ticks.now.left) c.in-Ok.ensures.answer

pub returns-in-Err-clause-answer : goal.returns-in-Err-clause-answer
returns-in-Err-clause-answer g c =
    subst (λ z. Stops c.declare.new.work.bank.now z
    (λ n. kernel_work (declare_constant (env_of c.args.work.now.bank.now c.args.env.now) n (text_of c.args.work.now.bank.now c.args.name) (tree_of c.args.work.now.bank.now c.args.kind) (tree_of c.args.work.now.bank.now c.args.body) c.args.opaque))
    c.args.work.now.ticks.now.left c.declare.new.work.ticks.now.left) (sym c.from.ensures)
    (kernel_stops c.declare.new.work.bank.now c.in-Err.fault
    (λ n. declare_constant (env_of c.args.work.now.bank.now c.args.env.now) n (text_of c.args.work.now.bank.now c.args.name) (tree_of c.args.work.now.bank.now c.args.kind) (tree_of c.args.work.now.bank.now c.args.body) c.args.opaque)
    c.args.work.now.ticks.now.left c.declare.new.work.ticks.now.left c.in-Err.ensures.answer)
