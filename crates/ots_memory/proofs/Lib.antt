pub mod Dialed
pub mod EntryNames
pub mod EntryRoom
pub mod InputReads
pub mod ShelfCalls
pub mod SlotStates
