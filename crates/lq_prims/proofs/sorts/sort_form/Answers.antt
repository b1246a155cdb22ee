use Rattle.std.proofs.Common.{sym}
use Rattle.lq_terms.specs.Terms.{tree_of}
use Rattle.lq_prims.proofs.SortLaws.{sort_given, sort_refused}
use Rattle.lq_prims.proofs.sorts.sort_form.Goals as goal

pub returns-in-Sort : goal.returns-in-Sort
returns-in-Sort c = sort_given c.args.bank.now c.node.result.now (tree_of c.args.bank.now c.args.form) c.in-Sort.sort (sym c.node.ensures.tree) c.in-Sort.is

pub returns-in_default : goal.returns-in_default
returns-in_default c b = sort_refused c.args.bank.now c.node.result.now c.args.form c.requires (sym c.node.ensures.tree) c.in_default.not-Sort b
