use Rattle.std.proofs.Common.{◌∙◌, ap, take, drop}
use Rattle.lq_terms.specs.Terms.{tree_of}
use Rattle.lq_trees.specs.Size.{depth}
use Rattle.lq_declaring.proofs.WayLaws.{row_found, row_short}
use Rattle.lq_declaring.proofs.rows.row_of.Goals as goal

pub returns-clause-row : goal.returns-clause-row
returns-clause-row c =
    row_found c.gone_through.new.bank c.gone_through.new.binders (tree_of c.args.bank.now c.args.term) c.in_ok-last.last c.args.count c.in-Some.sort c.in_ok-row.row c.in_ok-last.ensures.behind
    c.in-Some.ensures (c.in_ok-row.ensures.parameters ∙ ap (take c.args.count) c.hypotheses.ensures) (c.in_ok-row.ensures.indices ∙ ap (drop c.args.count) c.hypotheses.ensures)
    c.in_ok-row.ensures.sort

pub returns-clause-few : goal.returns-clause-few
returns-clause-few c =
    row_short c.gone_through.new.binders c.args.count (depth (tree_of c.args.bank.now c.args.term)) c.in_ok-row.row c.in_ok-last.ensures.behind.few
    (c.in_ok-row.ensures.parameters ∙ ap (take c.args.count) c.hypotheses.ensures) (c.in_ok-row.ensures.indices ∙ ap (drop c.args.count) c.hypotheses.ensures)
