use Rattle.std.proofs.Common.{◌≡◌, sym}
use Rattle.std.proofs.Common.{subst as along}
use Rattle.std.specs.List.{AllByRecursion}
use Rattle.lq_trees.specs.Tree.Tree.{Evar}
use Rattle.lq_terms.specs.declared.nodes.Node.{Node}
use Rattle.lq_terms.specs.Terms.{HasTerm, tree_of, trees_by}
use Rattle.lq_evars.specs.Places.{store_of}
use Rattle.lq_unify.proofs.PartLaws.{tree_is, parts_have}
use Rattle.lq_unify.proofs.HoldLaws.{by_form, parts_known, name_if, form_if}
use Rattle.lq_unify.proofs.holding.of_term.Goals as goal

pub of_name-requires : goal.of_name-requires
of_name-requires c = rw c.in-Var.is at c.node.ensures.parts

pub returns-in-Var : goal.returns-in-Var
returns-in-Var c = name_if c.args.bank.now (store_of c.args.bank.now c.args.store.now) c.args.barred c.requires.kept.values c.args.known.now.entries c.args.term c.requires.known c.of_name.result c.of_name.ensures.names c.in-Var.name (tree_is c.args.bank.now c.node.result.now (Node.Var c.in-Var.name) c.args.term c.node.ensures.tree c.in-Var.is) c.of_name.ensures.told

pub of_variable-requires-clause-is : goal.of_variable-requires-clause-is
of_variable-requires-clause-is c =
    along (λ ts. tree_of c.args.bank.now c.args.term ≡ Evar c.in-Evar.variable (trees_by (tree_of c.args.bank.now) ts)) (sym c.terms.ensures)
    (tree_is c.args.bank.now c.node.result.now (Node.Evar c.in-Evar.variable c.in-Evar.entries) c.args.term c.node.ensures.tree c.in-Evar.is)

pub of_variable-requires-clause-entries : goal.of_variable-requires-clause-entries
of_variable-requires-clause-entries c =
    along (AllByRecursion (HasTerm c.args.bank.now)) (sym c.terms.ensures) (parts_have c.args.bank.now c.args.term c.in-Evar.entries (rw c.in-Evar.is at c.node.ensures.parts))

pub parts_of-requires : goal.parts_of-requires
parts_of-requires c = c.requires.known.term.has

pub of_parts-requires-clause-held : goal.of_parts-requires-clause-held
of_parts-requires-clause-held c = c.requires.known.held

pub of_parts-requires-clause-known : goal.of_parts-requires-clause-known
of_parts-requires-clause-known c =
    rw c.as_slice.ensures.value
    (parts_known c.args.bank.now (store_of c.args.bank.now c.args.store.now) c.args.barred c.requires.kept.values c.args.known.now.entries c.args.term c.requires.known (by_form c.args.bank.now c.node.result.now c.args.term c.node.ensures.tree (λ x e. c.in_default.not-Var x e) (λ n ts e. c.in_default.not-Evar n ts e)) c.in_ok-parts-in_default.parts.items c.in_ok-parts-in_default.ensures.are)

pub returns-in_ok-parts-in_default : goal.returns-in_ok-parts-in_default
returns-in_ok-parts-in_default c =
    form_if c.args.bank.now (store_of c.args.bank.now c.args.store.now) c.args.barred c.requires.kept.values c.args.known.now.entries c.args.term c.requires.known c.of_parts.result c.of_parts.ensures.names
    (by_form c.args.bank.now c.node.result.now c.args.term c.node.ensures.tree (λ x e. c.in_default.not-Var x e) (λ n ts e. c.in_default.not-Evar n ts e)) c.in_ok-parts-in_default.parts.items c.in_ok-parts-in_default.ensures.are
    (rw c.as_slice.ensures.value at c.of_parts.ensures.told)
