pub mod Slot
pub mod Shown
pub mod SlotList
pub mod Slots
pub mod Tick
pub mod OwnSlots
