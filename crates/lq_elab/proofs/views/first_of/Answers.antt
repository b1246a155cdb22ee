use Rattle.std.proofs.Common.{map}
use Rattle.lq_ast.specs.Plain.{plain, plain_binders, joined}
use Rattle.lq_elab.proofs.ViewLaws.{first_tree}
use Rattle.lq_elab.proofs.views.first_of.Goals as goal

pub returns-in-Some : goal.returns-in-Some
returns-in-Some c = first_tree c.args.row.is_product (joined (map plain_binders c.args.row.groups.now)) (plain c.args.row.body.now) c.in-Some.binder.now c.in-Some.names.now c.args.row.kind c.args.row.names.now c.in-Some.ensures.cases.0
