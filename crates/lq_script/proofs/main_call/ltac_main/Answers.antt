use Rattle.lq_output.proofs.Reports.{has_derivations}
use Rattle.lq_script.proofs.main_call.ltac_main.Goals as goal

pub returns-clause-derived : goal.returns-clause-derived
returns-clause-derived g c = λ bytes e n. has_derivations n bytes
