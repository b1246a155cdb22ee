-- What the fault of a port is to a script.
use Rattle.lq_ports.specs.declared.ports.PortFault.{PortFault}
use Rattle.lq_ports.specs.declared.ports.PortFault.TheVariants.{Failed, NoMemory}
use Rattle.lq_script.specs.declared.transfer.ReadFailure.{ReadFailure}
use Rattle.lq_script.specs.declared.transfer.WriteFailure.{WriteFailure}

-- a fault of the source
abbrev pub read_failure : PortFault → ReadFailure
read_failure Failed = ReadFailure.Fault
read_failure NoMemory = ReadFailure.NoMemory

-- a fault of the sink
abbrev pub write_failure : PortFault → WriteFailure
write_failure Failed = WriteFailure.Fault
write_failure NoMemory = WriteFailure.NoMemory
