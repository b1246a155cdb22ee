use Rattle.std.proofs.Common.{length}
use Rattle.lq_rest.proofs.InsideLaws.{inside_as}
use Rattle.lq_rest.proofs.inside.number_inside.Goals as goal

pub returns : goal.returns
returns c =
    inside_as c.args.view.now (length c.args.view.now.text.now) c.args.at c.digits-value.result.1 c.digits-value.result.0 c.is_none.result c.goes_on_behind.result c.digits-value.ensures.value c.digits-value.ensures.behind
    c.is_none.ensures c.goes_on_behind.ensures
