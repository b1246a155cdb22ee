-- The faults of sentences that code tells.
use Rattle.std.specs.Prelude.{Option, Some, None}
use Rattle.lq_terms.specs.Terms.{Terms, HasTerm, tree_of}
use Rattle.lq_output.specs.Faults.{Fault, not_built, differs, open_goals}
use Rattle.lq_script.specs.declared.fault.SentenceFault.{SentenceFault}

-- the fault of the sentence, which want of memory is not
abbrev pub fault_of : Terms → SentenceFault → Option Fault
fault_of bank SentenceFault.NotBuilt = Some not_built
fault_of bank (SentenceFault.Differs found wanted) = Some (differs (tree_of bank found) (tree_of bank wanted))
fault_of bank (SentenceFault.OpenGoals count) = Some (open_goals count)
fault_of bank SentenceFault.NoMemory = None

-- the bank has the terms that the fault names
abbrev pub HasFault : Terms → SentenceFault → Type 0
HasFault bank (SentenceFault.Differs found wanted) = HasTerm bank found × HasTerm bank wanted
HasFault bank _ = Unit {0}
