use Rattle.std.proofs.Common.{refl, arith}
use Rattle.lq_env.specs.Environments.{env_of}
use Rattle.lq_evars.specs.Places.{store_of}
use Rattle.lq_solving.specs.Inference.{by_store_types}
use Rattle.lq_solving.specs.Stores.{read, read_context}
use Rattle.lq_terms.specs.Contexts.{context_of}
use Rattle.lq_terms.specs.Terms.{text_of, tree_of}
use Rattle.lq_terms.specs.declared.nodes.Node.{Node}
use Rattle.lq_trees.specs.Tree.{Tree}
use Rattle.lq_unify.proofs.PartLaws.{tree_is}
use Rattle.lq_typing.proofs.SingleLaws.{infer_unpaid, single_by}
use Rattle.lq_typing.proofs.singles.single_kind.Goals as goal

pub returns-then-not-take-clause-answer : goal.returns-then-not-take-clause-answer
returns-then-not-take-clause-answer g c =
    (infer_unpaid (by_store_types (store_of c.args.work.now.bank.now c.args.store.now)) (env_of c.args.work.now.bank.now c.args.env.now) (read_context (store_of c.args.work.now.bank.now c.args.store.now) (context_of c.args.work.now.bank.now c.args.context.now)) (read (store_of c.args.work.now.bank.now c.args.store.now) (tree_of c.args.work.now.bank.now c.args.term)) c.args.work.now.ticks.now.left (omega (arith, c.if-not-take.ensures)), omega (arith, c.if-not-take.ensures))

pub returns-then-not-take-2-clause-answer : goal.returns-then-not-take-2-clause-answer
returns-then-not-take-2-clause-answer g c =
    (infer_unpaid (by_store_types (store_of c.args.work.now.bank.now c.args.store.now)) (env_of c.args.work.now.bank.now c.args.env.now) (read_context (store_of c.args.work.now.bank.now c.args.store.now) (context_of c.args.work.now.bank.now c.args.context.now)) (read (store_of c.args.work.now.bank.now c.args.store.now) (tree_of c.args.work.now.bank.now c.args.term)) c.args.work.now.ticks.now.left (omega (arith, c.if-not-take-2.ensures)), omega (arith, c.if-not-take-2.ensures))

pub returns-else-not-take-clause-answer : goal.returns-else-not-take-clause-answer
returns-else-not-take-clause-answer g c =
    single_by c.args.work.now.bank.now c.hypothesis_kind.new.bank c.args.store.now (env_of c.args.work.now.bank.now c.args.env.now) c.args.context.now c.hypotheses.result.now c.hypotheses.ensures (tree_of c.args.work.now.bank.now c.args.term) (Tree.Var (text_of c.args.work.now.bank.now c.in-Var.name)) (tree_is c.args.work.now.bank.now c.node.result.now (Node.Var c.in-Var.name) c.args.term c.node.ensures.tree c.in-Var.is)
    c.args.work.now.ticks.now.left c.take.new.self.left (omega (arith, c.if-not-take.ensures)) c.hypothesis_kind.result (c.hypothesis_kind.ensures.answer (env_of c.args.work.now.bank.now c.args.env.now) c.take.new.self.left)

pub returns-else-not-take-2-clause-answer : goal.returns-else-not-take-2-clause-answer
returns-else-not-take-2-clause-answer g c =
    single_by c.args.work.now.bank.now c.variable_kind.new.bank c.args.store.now (env_of c.args.work.now.bank.now c.args.env.now) c.args.context.now c.args.context.now refl (tree_of c.args.work.now.bank.now c.args.term) (tree_of c.args.work.now.bank.now c.args.term) refl
    c.args.work.now.ticks.now.left c.take-in-Evar.new.self.left (omega (arith, c.if-not-take-2.ensures)) c.variable_kind.result (c.variable_kind.ensures.answer (env_of c.args.work.now.bank.now c.args.env.now) (context_of c.args.work.now.bank.now c.args.context.now) c.take-in-Evar.new.self.left)
