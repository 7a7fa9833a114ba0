pub mod Probing
pub mod Slots
pub mod SimpleHash
pub mod Interning
pub mod Overlap
pub mod NameSlots
