use Rattle.lq_ast.specs.Plain.{plain}
use Rattle.lq_elab.proofs.ViewLaws.{far_none}
use Rattle.lq_elab.proofs.views.next_of.Goals as goal

pub returns-in-None-clause-tree : goal.returns-in-None-clause-tree
returns-in-None-clause-tree c = far_none c.args.row.is_product c.args.row.groups.now (plain c.args.row.body.now) c.in-None.ensures.cases
