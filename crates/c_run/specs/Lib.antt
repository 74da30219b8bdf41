pub mod Machine
pub mod Work
pub mod Ends
