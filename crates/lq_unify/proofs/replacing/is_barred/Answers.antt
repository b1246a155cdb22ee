use Rattle.lq_unify.proofs.PlaceLaws.{barred_some, barred_none}
use Rattle.lq_unify.proofs.replacing.is_barred.Goals as goal

pub returns-in-Some : goal.returns-in-Some
returns-in-Some c = barred_some c.args.how.barred c.in-Some.barred c.args.variable c.in-Some.is

pub returns-in-None : goal.returns-in-None
returns-in-None c = barred_none c.args.how.barred c.args.variable c.in-None.is
