-- What a fault of the hub, and of a line, ends a replay with.
use Rattle.hub_events.specs.declared.fault.Fault.{Fault}
use Rattle.hub_events.specs.declared.fault.Fault.TheVariants as fault
use Rattle.replay.specs.declared.fault.LineFault.{LineFault}
use Rattle.replay.specs.declared.fault.LineFault.TheVariants as line_fault
use Rattle.replay.specs.declared.fault.ReplayFault.{ReplayFault}
use Rattle.replay.specs.declared.fault.ReplayFault.TheVariants as replay_fault

-- an event that was read from a line is of a hosted operator, so the last never occurs
abbrev pub line_fault_of : Fault → LineFault
line_fault_of fault.NoMemory = line_fault.NoMemory
line_fault_of fault.Store = line_fault.Store
line_fault_of fault.TooLong = line_fault.LongListing
line_fault_of fault.NoSuchOperator = line_fault.Store

abbrev pub replay_fault_of : LineFault → ReplayFault
replay_fault_of line_fault.NoMemory = replay_fault.NoMemory
replay_fault_of line_fault.Store = replay_fault.Store
replay_fault_of line_fault.LongListing = replay_fault.LongListing
replay_fault_of line_fault.Write = replay_fault.Write
