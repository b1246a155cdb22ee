use Rattle.lq_output.proofs.Joining.{shares_none, accepted_joined}
use Rattle.lq_script.proofs.laws.accepted_scripts_join.Goals as goal

pub returns-clause-shares_none : goal.returns-clause-shares_none
returns-clause-shares_none c n a b s t ha hb apart fits = accepted_joined n a b s t ha hb (shares_none a b apart) fits

pub returns-clause-names_no_theorem : goal.returns-clause-names_no_theorem
returns-clause-names_no_theorem c = accepted_joined
