-- Faults of the hub that come from its store.
use Rattle.hub_rows.specs.declared.store.StoreFault.{StoreFault}
use Rattle.hub_rows.specs.declared.store.StoreFault.TheVariants as store_fault
use Rattle.hub_events.specs.declared.fault.Fault.{Fault}
use Rattle.hub_events.specs.declared.fault.Fault.TheVariants as fault

-- Failed of a store is the fault Store, and the others have the same names
abbrev pub fault_of : StoreFault → Fault
fault_of store_fault.NoMemory = fault.NoMemory
fault_of store_fault.Failed = fault.Store
fault_of store_fault.TooLong = fault.TooLong
