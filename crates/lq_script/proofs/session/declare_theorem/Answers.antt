use Rattle.std.proofs.Common.{true, subst}
use Rattle.lq_trees.specs.Ticks.{done, ComesTo}
use Rattle.lq_kernel.specs.Answers.{Refuses}
use Rattle.lq_terms.specs.Terms.{text_of, tree_of}
use Rattle.lq_calculus.specs.Checking.{declare_constant}
use Rattle.lq_env.specs.Environments.{env_of}
use Rattle.lq_script.proofs.Statements.{statement_scoped}
use Rattle.lq_script.proofs.Moving.{declared_ok, declared_err}
use Rattle.lq_script.proofs.session.declare_theorem.Goals as goal

pub declare-requires-clause-declaration : goal.declare-requires-clause-declaration
declare-requires-clause-declaration g c = (c.requires.name, statement_scoped c.args.work.now.bank.now c.args.statement c.requires.statement, c.requires.term)

pub returns-in-Ok-clause-answer : goal.returns-in-Ok-clause-answer
returns-in-Ok-clause-answer g c =
    declared_ok (text_of c.args.work.now.bank.now c.args.name)
    (λ n. declare_constant (env_of c.args.work.now.bank.now c.args.env.now) n (text_of c.args.work.now.bank.now c.args.name) (tree_of c.args.work.now.bank.now c.args.statement) (tree_of c.args.work.now.bank.now c.args.term) true)
    c.declare.new.work.ticks.now.left c.declare.new.work.bank.now c.declare.new.env _ c.in_ok-text.ensures
    (subst (λ b. ComesTo (λ n. declare_constant (env_of c.args.work.now.bank.now c.args.env.now) n (text_of c.args.work.now.bank.now c.args.name) (tree_of c.args.work.now.bank.now c.args.statement) (tree_of c.args.work.now.bank.now c.args.term) true) b (done (env_of c.declare.new.work.bank.now c.declare.new.env) c.declare.new.work.ticks.now.left)) c.requires.budget c.in-Ok.ensures.answer)

pub returns-in-Err-clause-answer : goal.returns-in-Err-clause-answer
returns-in-Err-clause-answer g c =
    declared_err (text_of c.args.work.now.bank.now c.args.name)
    (λ n. declare_constant (env_of c.args.work.now.bank.now c.args.env.now) n (text_of c.args.work.now.bank.now c.args.name) (tree_of c.args.work.now.bank.now c.args.statement) (tree_of c.args.work.now.bank.now c.args.term) true)
    c.declare.new.work.ticks.now.left c.declare.new.work.bank.now c.in-Err.fault c.told.result c.told.ensures
    (subst (λ b. Refuses c.declare.new.work.bank.now c.in-Err.fault (λ n. declare_constant (env_of c.args.work.now.bank.now c.args.env.now) n (text_of c.args.work.now.bank.now c.args.name) (tree_of c.args.work.now.bank.now c.args.statement) (tree_of c.args.work.now.bank.now c.args.term) true) b c.declare.new.work.ticks.now.left) c.requires.budget c.in-Err.ensures.answer)
