pub mod Changed
pub mod Ways
pub mod Slots
