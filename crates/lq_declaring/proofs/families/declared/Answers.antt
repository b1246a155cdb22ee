use Rattle.std.proofs.Common.{subst, sym}
use Rattle.lq_trees.specs.Ticks.{done}
use Rattle.lq_calculus.specs.Checking.{declare_family}
use Rattle.lq_terms.specs.Terms.{text_of}
use Rattle.lq_env.specs.Environments.{env_of}
use Rattle.lq_env.specs.Families.{constructors_of}
use Rattle.lq_sessions.specs.Told.{of_kernel}
use Rattle.lq_sessions.specs.Declaring.{kernel_work, family_by}
use Rattle.lq_causes.specs.Stopping.{Stops}
use Rattle.lq_causes.proofs.StopLaws.{comes_told, kernel_stops}
use Rattle.lq_declaring.specs.Rows.{row_in}
use Rattle.lq_declaring.proofs.FamilyLaws.{offered}
use Rattle.lq_declaring.proofs.families.declared.Goals as goal

pub declare-requires-clause-declaration : goal.declare-requires-clause-declaration
declare-requires-clause-declaration g c =
    offered c.args.work.now.bank.now c.args.name c.args.row c.args.constructors c.requires.name c.requires.row c.requires.few c.requires.have c.requires.within c.requires.few_constructors

pub returns-in-Ok-clause-answer : goal.returns-in-Ok-clause-answer
returns-in-Ok-clause-answer g c =
    comes_told of_kernel (λ n. declare_family (env_of c.args.work.now.bank.now c.args.env.now) n (family_by (text_of c.args.work.now.bank.now c.args.name) (row_in c.args.work.now.bank.now c.args.row) (constructors_of c.args.work.now.bank.now c.args.constructors)))
    c.args.work.now.ticks.now.left (done (env_of c.declare.new.work.bank.now c.declare.new.env) c.declare.new.work.ticks.now.left) c.in-Ok.ensures.answer

pub returns-in-Err-clause-answer : goal.returns-in-Err-clause-answer
returns-in-Err-clause-answer g c =
    subst (λ z. Stops c.declare.new.work.bank.now z
    (λ n. kernel_work (declare_family (env_of c.args.work.now.bank.now c.args.env.now) n (family_by (text_of c.args.work.now.bank.now c.args.name) (row_in c.args.work.now.bank.now c.args.row) (constructors_of c.args.work.now.bank.now c.args.constructors))))
    c.args.work.now.ticks.now.left c.declare.new.work.ticks.now.left) (sym c.from.ensures)
    (kernel_stops c.declare.new.work.bank.now c.in-Err.fault
    (λ n. declare_family (env_of c.args.work.now.bank.now c.args.env.now) n (family_by (text_of c.args.work.now.bank.now c.args.name) (row_in c.args.work.now.bank.now c.args.row) (constructors_of c.args.work.now.bank.now c.args.constructors)))
    c.args.work.now.ticks.now.left c.declare.new.work.ticks.now.left c.in-Err.ensures.answer)
