use Rattle.lq_elab.proofs.StartLaws.{outermost_is}
use Rattle.lq_elab.proofs.starting.outermost.Goals as goal

pub returns : goal.returns
returns c = outermost_is c.args.bank.now c.args.site.now c.hypotheses-context.result.now c.values_set.new.scope c.hypotheses-context.ensures c.in_ok-values_set.ensures
