use Rattle.std.proofs.Common.{rules}
use Rattle.lq_script_edits.proofs.whole_script.Goals as goal

pub returns-clause-gives : goal.returns-clause-gives
returns-clause-gives g c = search rules

pub returns-clause-reads : goal.returns-clause-reads
returns-clause-reads g c = search rules

pub returns-clause-read_fault : goal.returns-clause-read_fault
returns-clause-read_fault g c = search rules

pub returns-clause-write_fault : goal.returns-clause-write_fault
returns-clause-write_fault g c = search rules
