pub mod Slots
pub mod SlotsLemmas
pub mod Stored
pub mod Edited
