use Rattle.std.proofs.Common.{◌∙◌, sym, ap}
use Rattle.std.proofs.Common.{subst as along}
use Rattle.lq_trees.specs.Tree.Tree.{Evar}
use Rattle.lq_terms.specs.declared.nodes.Node.{Node}
use Rattle.lq_terms.specs.Terms.{tree_of, trees_by}
use Rattle.lq_solving.specs.Stores.{read}
use Rattle.lq_evars.specs.Places.{store_of}
use Rattle.lq_unify.specs.Solving.{Solves, solved, IsOpenAt}
use Rattle.lq_unify.proofs.PartLaws.{tree_is, parts_have}
use Rattle.lq_unify.proofs.GivingLaws.{not_variable, open_at}
use Rattle.lq_unify.proofs.solving.solve.Goals as goal

pub unreachable-requires : goal.unreachable-requires
unreachable-requires c = not_variable c.args.bank.now c.node.result.now c.args.variable c.node.ensures.tree (λ n ts e. c.in_default.not-Evar n ts e) c.requires.is

pub solve_at-requires-clause-at : goal.solve_at-requires-clause-at
solve_at-requires-clause-at c =
    along (λ ts. IsOpenAt c.args.bank.now (store_of c.args.bank.now c.args.store.now) c.in-Evar.number ts) (sym (c.as_slice.ensures.value ∙ c.in_ok-entries.ensures ∙ c.terms.ensures))
    (open_at c.args.bank.now (store_of c.args.bank.now c.args.store.now) c.args.variable c.in-Evar.number c.in-Evar.entries c.requires.variable c.requires.open
    (tree_is c.args.bank.now c.node.result.now (Node.Evar c.in-Evar.number c.in-Evar.entries) c.args.variable c.node.ensures.tree c.in-Evar.is)
    (parts_have c.args.bank.now c.args.variable c.in-Evar.entries (rw c.in-Evar.is at c.node.ensures.parts)))

pub returns-clause-answer : goal.returns-clause-answer
returns-clause-answer c =
    along (λ z. Solves c.solve_at.new.bank c.solve_at.result c.solve_at.new.store (solved (store_of c.args.bank.now c.args.store.now) (read (store_of c.args.bank.now c.args.store.now) z) (read (store_of c.args.bank.now c.args.store.now) (tree_of c.args.bank.now c.args.term))))
    (ap (λ ts. Evar c.in-Evar.number (trees_by (tree_of c.args.bank.now) ts)) (c.as_slice.ensures.value ∙ c.in_ok-entries.ensures ∙ c.terms.ensures)
    ∙ sym (tree_is c.args.bank.now c.node.result.now (Node.Evar c.in-Evar.number c.in-Evar.entries) c.args.variable c.node.ensures.tree c.in-Evar.is))
    c.solve_at.ensures.answer
