use Rattle.std.proofs.Common.{rules, refl}
use Rattle.lq_print.proofs.VisitLaws.{closes}
use Rattle.lq_print.proofs.visiting.close.Goals as goal

pub returns-clause-binder : goal.returns-clause-binder
returns-clause-binder c bank has = closes bank c.args.scope c.args.spelling.now _ _ has refl refl refl c.leave-is_used.ensures.used refl (search rules)
