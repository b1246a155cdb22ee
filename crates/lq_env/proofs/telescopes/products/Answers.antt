use Rattle.std.proofs.Common.{◌≤◌, arith, ap, sym, ◌∙◌, length}
use Rattle.std.proofs.Common.{subst as along}
use Rattle.std.specs.List.{AllByRecursion}
use Rattle.lq_trees.specs.declared.Measure.{Measure}
use Rattle.lq_trees.specs.Size.{size}
use Rattle.lq_terms.specs.Terms.{HasTerm, tree_of}
use Rattle.lq_terms.specs.Contexts.{context_of}
use Rattle.lq_terms.proofs.Growth.{has-grown}
use Rattle.lq_env.specs.Telescopes.{weight_of, AreApart}
use Rattle.lq_env.specs.Building.{HasBinder}
use Rattle.lq_env.proofs.Families.{context_of-grown, HasContext-grown}
use Rattle.lq_env.proofs.Loops.{context_names, length-places, HasBinders-grown}
use Rattle.lq_env.proofs.ProductLaws.{large_whole, small_sum, short_context, end_fits, products_built}
use Rattle.lq_env.proofs.telescopes.products.Goals as goal

pub returns-then-context_nodes-measure-gt-MOST_NODES-clause-answer :
    goal.returns-then-context_nodes-measure-gt-MOST_NODES-clause-answer
returns-then-context_nodes-measure-gt-MOST_NODES-clause-answer c =
    large_whole c.args.bank.now c.args.context.now c.args.end c.context_nodes.result c.measure.result.size c.context_nodes.ensures (ap (λ (m : Measure). m.size) c.measure.ensures) c.if-context_nodes-measure-gt-MOST_NODES.true

pub count_down-requires : goal.count_down-requires
count_down-requires c =
    short_context c.args.bank.now c.args.context.now (omega (arith, c.context_nodes.ensures, c.if-context_nodes-measure-gt-MOST_NODES.false))

pub close_kinds-requires-clause-context : goal.close_kinds-requires-clause-context
close_kinds-requires-clause-context c = HasContext-grown c.args.bank.now c.count_down.new.bank c.count_down.ensures.grows c.args.context.now c.requires.context

pub close_kinds-requires-clause-apart : goal.close_kinds-requires-clause-apart
close_kinds-requires-clause-apart c =
    along AreApart (sym (context_of-grown c.args.bank.now c.count_down.new.bank c.count_down.ensures.grows c.args.context.now c.requires.context)) c.requires.apart

pub close_kinds-requires-clause-small : goal.close_kinds-requires-clause-small
close_kinds-requires-clause-small c =
    along (λ g. weight_of g ≤ 1000000) (sym (context_of-grown c.args.bank.now c.count_down.new.bank c.count_down.ensures.grows c.args.context.now c.requires.context))
    (omega (arith, c.context_nodes.ensures, c.if-context_nodes-measure-gt-MOST_NODES.false))

pub put-requires-clause-context : goal.put-requires-clause-context
put-requires-clause-context c =
    context_names c.close_kinds.new.bank c.args.context.now
    (HasContext-grown c.count_down.new.bank c.close_kinds.new.bank c.close_kinds.ensures.grows c.args.context.now
    (HasContext-grown c.args.bank.now c.count_down.new.bank c.count_down.ensures.grows c.args.context.now c.requires.context))

pub put-requires-clause-terms : goal.put-requires-clause-terms
put-requires-clause-terms c =
    along (λ z. AllByRecursion (HasTerm c.close_kinds.new.bank) z) (sym c.deref-2.ensures.value)
    (has-grown c.count_down.new.bank c.close_kinds.new.bank c.in_ok-variables.variables.items c.close_kinds.ensures.grows c.in_ok-variables.ensures.has)

pub put-requires-clause-as_many : goal.put-requires-clause-as_many
put-requires-clause-as_many c =
    sym (ap length c.deref-2.ensures.value ∙ length-places c.count_down.new.bank c.in_ok-variables.variables.items (length c.args.context.now) c.in_ok-variables.ensures.trees)

pub put-requires-clause-index : goal.put-requires-clause-index
put-requires-clause-index c =
    end_fits c.args.bank.now c.count_down.new.bank c.close_kinds.new.bank c.count_down.ensures.grows c.close_kinds.ensures.grows c.args.context.now c.in_ok-variables.variables.items c.requires.context c.in_ok-variables.ensures.has
    c.in_ok-variables.ensures.trees c.deref-2.result.now c.args.end c.deref-2.ensures.value c.requires.end c.requires.within
    (small_sum (weight_of (context_of c.args.bank.now c.args.context.now)) (size (tree_of c.args.bank.now c.args.end)) c.context_nodes.result c.measure.result.size c.context_nodes.ensures (ap (λ (m : Measure). m.size) c.measure.ensures)
    c.if-context_nodes-measure-gt-MOST_NODES.false)

pub telescope-requires-clause-binders : goal.telescope-requires-clause-binders
telescope-requires-clause-binders c =
    along (λ z. AllByRecursion (HasBinder c.put.new.bank) z) (sym c.deref-3.ensures.value)
    (HasBinders-grown c.close_kinds.new.bank c.put.new.bank c.put.ensures.grows c.in_ok-binders.binders.items c.in_ok-binders.ensures.has)

pub returns-clause-answer : goal.returns-clause-answer
returns-clause-answer c =
    products_built c.args.bank.now c.count_down.new.bank c.close_kinds.new.bank c.put.new.bank c.telescope.new.bank c.args.context.now c.in_ok-variables.variables.items c.deref-2.result.now c.in_ok-binders.binders.items c.deref-3.result.now
    c.args.end c.in_ok-end.end c.in_ok-whole.whole c.deref-2.ensures.value c.deref-3.ensures.value c.count_down.ensures.grows c.close_kinds.ensures.grows c.put.ensures.grows c.requires.context c.requires.apart
    c.in_ok-variables.ensures.has c.in_ok-variables.ensures.trees c.requires.end c.in_ok-binders.ensures.has c.in_ok-binders.ensures.closed c.in_ok-end.ensures.put c.in_ok-whole.ensures.made
    (small_sum (weight_of (context_of c.args.bank.now c.args.context.now)) (size (tree_of c.args.bank.now c.args.end)) c.context_nodes.result c.measure.result.size c.context_nodes.ensures (ap (λ (m : Measure). m.size) c.measure.ensures)
    c.if-context_nodes-measure-gt-MOST_NODES.false)
