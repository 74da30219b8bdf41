pub mod Documents
pub mod Marking
