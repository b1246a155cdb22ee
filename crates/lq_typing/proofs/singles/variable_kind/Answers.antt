use Rattle.std.proofs.Common.{◌∙◌}
use Rattle.lq_terms.specs.declared.nodes.Node.{Node}
use Rattle.lq_unify.proofs.PartLaws.{tree_is}
use Rattle.lq_typing.proofs.SingleLaws.{variable_found, many_found}
use Rattle.lq_typing.proofs.singles.variable_kind.Goals as goal

pub kind_at-requires-clause-as_many : goal.kind_at-requires-clause-as_many
kind_at-requires-clause-as_many c = many_found c.args.bank.now c.args.bank.now c.args.store.now c.args.term c.in-Evar.variable c.in-Evar.entries c.as_slice.result.now (c.as_slice.ensures.value ∙ c.in_ok-entries.ensures.items ∙ c.terms.ensures) (tree_is c.args.bank.now c.node.result.now (Node.Evar c.in-Evar.variable c.in-Evar.entries) c.args.term c.node.ensures.tree c.in-Evar.is) c.requires.term.over

pub returns-clause-answer : goal.returns-clause-answer
returns-clause-answer c E g b =
    variable_found c.args.bank.now c.kind_at.new.bank c.args.store.now c.requires.store c.requires.kept E g b c.args.term c.in-Evar.variable c.in-Evar.entries c.as_slice.result.now (c.as_slice.ensures.value ∙ c.in_ok-entries.ensures.items ∙ c.terms.ensures) (tree_is c.args.bank.now c.node.result.now (Node.Evar c.in-Evar.variable c.in-Evar.entries) c.args.term c.node.ensures.tree c.in-Evar.is) c.kind_at.result c.requires.open c.requires.term.over c.kind_at.ensures.answer
