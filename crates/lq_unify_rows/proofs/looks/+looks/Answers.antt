use Rattle.std.proofs.Common.{rules, ◌≤◌, ◌∙◌, refl, ap, length}
use Rattle.lq_trees.specs.Tree.{Tree}
use Rattle.lq_terms.specs.Terms.{tree_of, trees_by}
use Rattle.lq_unify_rows.proofs.Looking.{plain_seen, variable_seen}
use Rattle.lq_unify_rows.proofs.looks.+looks.Goals as goal

pub stands-returns-then-is_plain : goal.stands-returns-then-is_plain
stands-returns-then-is_plain t c = λ p.
    let few : c.loose.result ≤ c.args.depth = search (rules, p) in
    plain_seen c.args.bank.now c.args.store.now c.args.hypotheses.now c.loose.result c.args.depth (tree_of c.args.bank.now c.args.term) (c.is_plain.ensures.hypothesis c.if-is_plain.true) (c.is_plain.ensures.unknown c.if-is_plain.true)
    c.loose.ensures few

pub stands-returns-then-takes : goal.stands-returns-then-takes
stands-returns-then-takes t c = λ p.
    variable_seen c.args.bank.now c.args.store.now c.args.hypotheses.now c.args.depth c.in-Evar.variable (length c.terms-parts.result.now) c.terms-parts.result.now (tree_of c.args.bank.now c.args.term)
    (ap (λ us. Tree.Evar c.in-Evar.variable (trees_by (tree_of c.args.bank.now) us)) c.terms-parts.ensures ∙ (rw c.in-Evar.is at c.node.ensures.tree)) refl (c.takes.ensures c.if-takes.true) (c.each_stands.ensures p)
